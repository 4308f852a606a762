use Rattle.image.proofs.Reading.{held_known, held_placed}
use Rattle.image.proofs.held.Image.laid.Goals as goal

pub invariant_of-headed-clause-known : goal.invariant_of-headed-clause-known
invariant_of-headed-clause-known c = rw c.as_slice-bytes.ensures.value (held_known c.args.self.now)

pub invariant_of-result : goal.invariant_of-result
invariant_of-result c = record { placed = rw (c.pairs_of.ensures.many, c.as_slice-bytes.ensures.value) (held_placed c.args.self.now) }
