use Rattle.std.proofs.Common.{◌≡◌, ◌++◌, drop, string_bytes}
use Rattle.events.specs.Held.{names_in}
use Rattle.report.specs.Texts.{exit_lines}
use Rattle.report.proofs.states.write_exits.Given as goal

-- what stands there and the lines that are left make the whole
abbrev pub invariant-loop-exit : goal.invariant-loop-exit
invariant-loop-exit l = string_bytes l.text ++ exit_lines (names_in l.events) (drop l.exit-index l.exits) ≡ string_bytes l.initial.text ++ exit_lines (names_in l.events) l.exits
