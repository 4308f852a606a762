-- How many exits a buffer holds. Assumes nothing.
use Rattle.std.proofs.Common.{◌≡◌, length, arith}
use Rattle.std.proofs.lemmas.List.{length-take-le}
use Rattle.graph.specs.Buffers.{exits_in}
use Rattle.graph.specs.declared.held.Exits.{Exits}

pub held_length : (x : Exits) → length (exits_in x) ≡ x.count
held_length x = length-take-le x.count x.entries (omega (arith, x.few, x.whole))
