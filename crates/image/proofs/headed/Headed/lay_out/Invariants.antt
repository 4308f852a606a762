use Rattle.std.proofs.Common.{◌≡◌, ℕ, ◌<◌}
use Rattle.image.specs.Bytes.{end_before}
use Rattle.image.specs.Images.{Placed}
use Rattle.image.proofs.headed.Headed.lay_out.Given as goal

abbrev pub invariant-loop-i : goal.invariant-loop-i
invariant-loop-i l = (l.end ≡ end_before l.self.bytes.now l.i) × ((k : ℕ) → k < l.i → Placed l.self.bytes.now k)
