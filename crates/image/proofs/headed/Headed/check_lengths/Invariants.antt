use Rattle.std.proofs.Common.{ℕ, ◌<◌}
use Rattle.image.specs.Bytes.{size_of}
use Rattle.image.specs.Kinds.{LengthAllowed}
use Rattle.image.proofs.headed.Headed.check_lengths.Given as goal

abbrev pub invariant-loop-i : goal.invariant-loop-i
invariant-loop-i l = (k : ℕ) → k < l.i → LengthAllowed l.self.kind (size_of l.self.bytes.now k)
