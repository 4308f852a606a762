-- The texts of the states that are left. Assumes nothing.
use Rattle.std.proofs.Common.{◌≡◌, ℕ, suc, ◌+◌, ◌-◌, ◌<◌, ◌∷◌, List, map, length, sym, ap, ◌∙◌, arith, refl, subst}
use Rattle.std.specs.Prelude.{Some, Result, IfOk, String, string_bytes}
use Rattle.std.specs.declared.alloc.AllocError.{AllocError}
use Rattle.std.specs.declared.alloc.Global.{Global}
use Rattle.std.specs.List.{range_with_len}
use Rattle.name.specs.Names.{Bytes}
use Rattle.graph.specs.Meanings.{Meaning}
use Rattle.report.specs.Texts.{NextText, state_text, texts_from}

module _ (s : ℕ) (names : List Bytes) (G : Meaning) (lines : ℕ → ℕ) (there : s < G.size) (left : List Bytes) (is : texts_from s names G lines ≡ left) where
  -- the text of a state that is there comes first
  pub first_left : state_text names G lines s ∷ texts_from (s + 1) names G lines ≡ left
  first_left = let e : G.size - s ≡ suc (G.size - (s + 1)) = omega arith in sym (ap (λ n. map (state_text names G lines) (range_with_len s n)) e) ∙ is

  -- one text fewer is left behind it
  pub fewer_left : length (texts_from (s + 1) names G lines) < length left
  fewer_left = let shorter = ap length first_left in omega arith

  -- so that text, of whichever number equals the state's, is the next
  pub next_left : (k : ℕ) → k ≡ s → (text : Result (String Global) AllocError) → IfOk text (λ t. string_bytes t ≡ state_text names G lines k) → NextText left (Some text) (texts_from (s + 1) names G lines)
  next_left k same text is_text = subst (λ all. NextText all (Some text) (texts_from (s + 1) names G lines)) first_left (refl, subst (λ n. IfOk text (λ t. string_bytes t ≡ state_text names G lines n)) same is_text)
