-- The names of an image, gathered one by one. Assumes nothing.
use Rattle.std.proofs.Common.{◌≡◌, ℕ, ◌+◌, ◌<◌, List, [], ◌∷◌, ◌++◌, length, false, get_or, is_some, Some, None, Option, sym, ap, ◌∙◌, ⊎_elim, arith, length-append}
use Rattle.std.proofs.lemmas.List.{get_or_append_left}
use Rattle.std.proofs.Math.Seq.{get_or-append_seam}
use Rattle.std.proofs.lemmas.Bool.{cases_lt}
use Rattle.name.specs.Names.{Bytes}
use Rattle.image.specs.Bytes.{part_of}
use Rattle.events.specs.Lists.{Distinct, EventOf}
use Rattle.events.specs.Inner.{Sofar}

-- a list with one more at its end
module _ (names : List Bytes) (w : Bytes) where
  longer : length (names ++ w ∷ []) ≡ length names + 1
  longer = length-append names (w ∷ [])

  at_left : (k : ℕ) → k < length names → get_or (names ++ w ∷ []) k [] ≡ get_or names k []
  at_left k h = get_or_append_left names (w ∷ []) [] k h

  at_last : (k : ℕ) → k ≡ length names → get_or (names ++ w ∷ []) k [] ≡ w
  at_last k e = ap (λ m. get_or (names ++ w ∷ []) m []) e ∙ get_or-append_seam names w [] []

  -- a name that is not listed makes no name stand twice
  still_distinct : Distinct names → EventOf names w None → Distinct (names ++ w ∷ [])
  still_distinct d other i j h k e =
      ⊎_elim
      (λ l. ⊎_elim (λ m. d i j l m (sym (at_left i l) ∙ e ∙ at_left j m)) (λ m. absurd (other i l (sym (at_left i l) ∙ e ∙ at_last j (omega (arith, longer))))) (cases_lt j (length names)))
      (λ l. ⊎_elim (λ m. absurd (other j m (sym (at_left j m) ∙ sym e ∙ at_last i (omega (arith, longer))))) (λ m. omega (arith, longer)) (cases_lt j (length names)))
      (cases_lt i (length names))

-- a name that was not found is not listed
pub not_listed : (names : List Bytes) (w : Bytes) (r : Option ℕ) → EventOf names w r → false ≡ is_some r → EventOf names w None
not_listed names w None f e = f
not_listed names w (Some k) f e = let z : ◌≡◌ {A = ℕ} 0 1 = cc in absurd (omega arith)

module _ (bs : Bytes) (names : List Bytes) (n : ℕ) (s : Sofar bs names n) where
  -- one more that differs
  pub further : (w : Bytes) → w ≡ part_of bs n → EventOf names w None → Sofar bs (names ++ w ∷ []) (n + 1)
  further w is other = record {
    counted = omega (arith, longer names w, s.counted);
    spelled = λ k h.
        ⊎_elim
        (λ l. at_left names w k (omega (arith, s.counted)) ∙ s.spelled k l)
        (λ l. let e : k ≡ n = omega arith in at_last names w k (omega (arith, s.counted)) ∙ is ∙ ap (part_of bs) (sym e))
        (cases_lt k n);
    distinct = still_distinct names w s.distinct other;
  }
