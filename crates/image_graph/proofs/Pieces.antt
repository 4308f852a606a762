-- A part of at least four bytes, as a line and exits of four bytes each. Assumes nothing.
use Rattle.std.proofs.Common.{◌≡◌, ℕ, ◌+◌, ◌*◌, ◌/◌, ◌<◌, List, [], map, length, take, drop, get_or, sym, ap, ◌∙◌, arith}
use Rattle.std.specs.Simd.{first_chunks}
use Rattle.std.proofs.lemmas.List.{ext_get_or, get_or-map, length-map, length-drop, drop-drop, get_or-take}
use Rattle.name.specs.Names.{Bytes}
use Rattle.image.specs.Bytes.{byte_at, number32}
use Rattle.image.proofs.Chunks.{length-first_chunks, get_or-first_chunks, get_or_in_piece}
use Rattle.image_graph.specs.Parts.{exit_at, exits_from}
use Rattle.image_graph.specs.Inner.{piece_exit}
use Rattle.image_graph.specs.Spelling.{no_exit, exits_length, exit_there}

-- the first four bytes spell the line
pub line_read : (part line : Bytes) → line ≡ take 4 part → number32 line 0 ≡ number32 part 0
line_read part line e =
    let at : (k : ℕ) → k < 4 → byte_at line k ≡ byte_at part k = λ k h. ap (λ bs. byte_at bs k) e ∙ get_or-take 4 part k 0 h in
    omega (arith, at 0 (omega arith), at (0 + 1) (omega arith), at (0 + 2) (omega arith), at (0 + 3) (omega arith))

-- four bytes that stand somewhere spell the exit there
piece_there : (bs : Bytes) (k : ℕ) → piece_exit (take 4 (drop k bs)) ≡ exit_at bs k
piece_there bs k =
    let event = get_or_in_piece 4 k bs 0 k 0 (omega arith) (omega arith) in
    let low = get_or_in_piece 4 k bs 2 (k + 2) 0 (omega arith) (omega arith) in
    let high = get_or_in_piece 4 k bs 3 (k + 2 + 1) 0 (omega arith) (omega arith) in
    λ i. record { event = event i; target = low i + high i * 256 }

-- the pieces behind the line spell the exits
pub exits_read_from : (part rest : Bytes) (pieces : List Bytes) → rest ≡ drop 4 part → pieces ≡ first_chunks 4 (length rest / 4) rest → map piece_exit pieces ≡ exits_from part
exits_read_from part rest pieces behind cut =
    let n = ap length cut ∙ length-first_chunks 4 (length rest / 4) rest in
    let l = ap length behind ∙ length-drop 4 part in
    let m = exits_length part in
    let many = length-map pieces piece_exit in
    ext_get_or no_exit (map piece_exit pieces) (exits_from part) (omega arith)
    (λ j h. let k : j < length rest / 4 = omega arith in
    get_or-map piece_exit pieces j [] no_exit (omega arith)
    ∙ ap piece_exit (ap (λ ps. get_or ps j []) cut ∙ get_or-first_chunks 4 (length rest / 4) rest j [] k ∙ ap (λ bs. take 4 (drop (4 * j) bs)) behind ∙ ap (take 4) (drop-drop (4 * j) 4 part))
    ∙ piece_there part (4 + 4 * j)
    ∙ sym (exit_there part j no_exit (omega arith)))
