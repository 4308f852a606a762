use Rattle.image.proofs.Pairs.{first_spelled}
use Rattle.image.proofs.headed.pairs_of.Goals as goal

pub returns-clause-spelled : goal.returns-clause-spelled
returns-clause-spelled c =
    let cut = c.as_chunks.ensures in
    rw c.from.ensures (first_spelled c.args.bytes.now c.as_chunks.result.0.now c.as_chunks-2.result.0.now cut.front cut.front_len c.as_chunks-2.ensures.front c.args.count c.requires)
