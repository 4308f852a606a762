use Rattle.std.proofs.Common.{vec_items}
use Rattle.image_graph.proofs.States.{accepted}
use Rattle.image_graph.proofs.held.ImageGraph.load.Goals as goal

pub returns : goal.returns
returns c = let o = c.in_ok-image.ensures in accepted (vec_items c.args.bytes) o.valid _ o.held
