use Rattle.std.proofs.Common.{arith}
use Rattle.image_graph.proofs.Pieces.{line_read, exits_read_from}
use Rattle.image_graph.proofs.parts.OpenPart.read.Goals as goal

pub returns : goal.returns
returns c =
    let part = c.args.part.now in
    let cut = c.in_ok-line.ensures.cases in
    record { long = omega arith; line = line_read part c.in_ok-line.line.now cut.0; exits = exits_read_from part c.in_ok-line.rest.now c.as_chunks.result.0.now cut.1 c.as_chunks.ensures.front }
