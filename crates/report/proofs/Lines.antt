-- Lines that are written one behind another. Assumes nothing.
use Rattle.std.proofs.Common.{◌≡◌, ℕ, ◌+◌, ◌<◌, List, [], ◌++◌, length, get_or, drop, sym, ap, ◌∙◌, append_assoc}
use Rattle.std.proofs.lemmas.List.{at_drop_more}
use Rattle.name.specs.Names.{Bytes}
use Rattle.report.specs.Texts.{event_line, event_lines}

-- the line of event i is written: what stands there and the lines that are left still make the whole
pub event_more : (names : List Bytes) (i : ℕ) (name done next whole : Bytes) → i < length names → get_or names i [] ≡ name → next ≡ done ++ event_line i name → done ++ event_lines i (drop i names) ≡ whole → next ++ event_lines (i + 1) (drop (i + 1) names) ≡ whole
event_more names i name done next whole h named n w =
    let left = event_lines (i + 1) (drop (i + 1) names) in
    let split = at_drop_more (event_lines i) names i [] h ∙ ap (λ bs. event_line i bs ++ left) named in
    ap (λ bs. bs ++ left) n ∙ append_assoc done (event_line i name) left ∙ ap (λ bs. done ++ bs) (sym split) ∙ w
