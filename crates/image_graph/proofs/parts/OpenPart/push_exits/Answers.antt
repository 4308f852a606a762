use Rattle.std.proofs.Common.{◌+◌, [], ◌∷◌, ◌++◌, map, take, get_or, sym, ap, ◌∙◌, arith}
use Rattle.std.proofs.lemmas.Grind.{take_at_read}
use Rattle.std.proofs.lemmas.List.{map-append, length-map, length-take-le, take_all}
use Rattle.image_graph.specs.Inner.{piece_exit}
use Rattle.image_graph.proofs.parts.OpenPart.push_exits.Goals as goal

pub loop-piece-preserved : goal.loop-piece-preserved
loop-piece-preserved c =
    let pieces = c.args.self.now.exits.now in
    let i = c.loop-piece.piece-index in
    let more = ap (map piece_exit) (take_at_read pieces i [] c.loop-piece-test.true).1 ∙ map-append piece_exit (take i pieces) (get_or pieces i [] ∷ []) in
    let many = length-map (take (i + 1) pieces) piece_exit in
    let long = length-take-le (i + 1) pieces (omega (arith, c.loop-piece-test.true)) in
    let all = length-map pieces piece_exit in
    c.push.ensures
    ∙ (λ k. take 1024 (c.loop-piece.invariant k ++ (c.read_exit.ensures k ∷ [])))
    ∙ ap (take 1024) (sym more)
    ∙ take_all 1024 (map piece_exit (take (i + 1) pieces)) (omega (arith, c.requires.few))
