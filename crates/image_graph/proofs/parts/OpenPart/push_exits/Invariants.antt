use Rattle.std.proofs.Common.{◌≡◌, map, take}
use Rattle.graph.specs.Buffers.{exits_in}
use Rattle.image_graph.specs.Inner.{piece_exit}
use Rattle.image_graph.proofs.parts.OpenPart.push_exits.Given as goal

abbrev pub invariant-loop-piece : goal.invariant-loop-piece
invariant-loop-piece l = exits_in l.out ≡ map piece_exit (take l.piece-index l.self.exits.now)
