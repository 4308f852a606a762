-- The exits that a buffer holds. Assumes nothing.
use Rattle.std.specs.Prelude.{List, take}
use Rattle.graph.specs.declared.Exit.{Exit}
use Rattle.graph.specs.declared.held.Exits.{Exits}

-- the first `count` of the entries
abbrev pub exits_in : Exits → List Exit
exits_in held = take held.count held.entries
