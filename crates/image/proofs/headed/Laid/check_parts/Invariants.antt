use Rattle.std.proofs.Common.{ℕ, ◌<◌}
use Rattle.image.specs.Images.{PartFormed}
use Rattle.image.proofs.headed.Laid.check_parts.Given as goal

abbrev pub invariant-loop-i : goal.invariant-loop-i
invariant-loop-i l = (k : ℕ) → k < l.i → PartFormed l.self.headed.kind l.self.headed.bytes.now k
