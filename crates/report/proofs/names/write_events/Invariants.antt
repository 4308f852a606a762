use Rattle.std.proofs.Common.{◌≡◌, ◌++◌, drop, string_bytes}
use Rattle.events.specs.Held.{names_in}
use Rattle.report.specs.Texts.{event_lines}
use Rattle.report.proofs.names.write_events.Given as goal

-- what stands there and the lines that are left make the whole
abbrev pub invariant-loop-i : goal.invariant-loop-i
invariant-loop-i l = string_bytes l.text ++ event_lines l.i (drop l.i (names_in l.events)) ≡ string_bytes l.initial.text ++ event_lines 0 (names_in l.events)
