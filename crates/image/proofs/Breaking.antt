-- The first place where a rule of an image is broken. Assumes nothing.
use Rattle.std.proofs.Common.{◌≡◌, ℕ, zero, suc, ◌+◌, ◌*◌, ◌/◌, ◌<◌, ◌≤◌, length, sym, refl, ap, subst, inl, ⊎_elim, arith}
use Rattle.std.proofs.lemmas.List.{length-take-le, length-drop}
use Rattle.std.proofs.lemmas.Bool.{cases_lt}
use Rattle.refusal.specs.Reasons.{refused_at}
use Rattle.refusal.specs.Rules.{FirstBroken}
use Rattle.refusal.specs.declared.Reason.TheVariants.{PartIllFormed}
use Rattle.name.specs.Names.{Bytes}
use Rattle.image.specs.Bytes.{count_of, offset_of, size_of, part_of}
use Rattle.image.specs.Kinds.{ItemAt, WellFormed}
use Rattle.image.specs.Images.{Placed, PartFormed, part_rule}
use Rattle.image.specs.declared.Kind.{Kind}
use Rattle.image.specs.declared.Kind.TheVariants.{Events, Graph}

module _ (bs : Bytes) (placed : (i : ℕ) → i < count_of bs → Placed bs i) where
  -- parts do not overlap
  pub apart : (i j : ℕ) → i < j → j < count_of bs → offset_of bs i + size_of bs i ≤ offset_of bs j
  apart i zero l h = absurd (omega arith)
  apart i (suc j) l h =
      let next : offset_of bs j + size_of bs j ≤ offset_of bs (suc j) = (placed (suc j) h).after in
      ⊎_elim (λ m. omega (arith, apart i j m (omega arith), next)) (λ m. let e : j ≡ i = omega arith in subst (λ k. offset_of bs k + size_of bs k ≤ offset_of bs (suc j)) e next) (cases_lt i j)

  -- a part is as long as its pair says
  pub part_length : (i : ℕ) → i < count_of bs → length (part_of bs i) ≡ size_of bs i
  part_length i h = let d = length-drop (offset_of bs i) bs in length-take-le (size_of bs i) _ (omega (arith, (placed i h).inside, d))

  -- what stands in a part stands inside it
  item_inside : (kind : Kind) (i k : ℕ) → i < count_of bs → ItemAt kind (part_of bs i) k → k < size_of bs i
  item_inside Events i k h item = omega (arith, part_length i h)
  item_inside Graph i k h item = omega (arith, part_length i h, item.1)

  -- the first ill-formed item of the first part that has one
  pub broken_part : (kind : Kind) (i k : ℕ) → i < count_of bs → ((j : ℕ) → j < i → PartFormed kind bs j) → ItemAt kind (part_of bs i) k → (WellFormed kind (count_of bs) (part_of bs i) k → ⊥)
      → ((j : ℕ) → j < k → ItemAt kind (part_of bs i) j → WellFormed kind (count_of bs) (part_of bs i) j) → FirstBroken (part_rule kind bs) (refused_at PartIllFormed (offset_of bs i + k))
  broken_part kind i k h before item wrong sooner =
      inl (record {
        broken = (i, k, h, refl, item, wrong);
        first = λ p b.
            ⊎_elim
            (λ earlier. absurd (b.5 (before b.0 earlier b.1 b.4)))
            (λ at_or_after.
            ⊎_elim
            (λ after. omega (arith, b.3, apart i b.0 after b.2, item_inside kind i k h item))
            (λ here. let e : b.0 ≡ i = omega arith in
            ⊎_elim
            (λ sooner_here. absurd (b.5 (subst (λ m. WellFormed kind (count_of bs) (part_of bs m) b.1) (sym e) (sooner b.1 sooner_here (subst (λ m. ItemAt kind (part_of bs m) b.1) e b.4)))))
            (λ later_here. let o = ap (offset_of bs) e in omega (arith, b.3, o))
            (cases_lt b.1 k))
            (cases_lt i b.0))
            (cases_lt b.0 i);
        named = refl;
      })

-- an exit stands at four times its number, which is from 1 on
pub exit_number : (part : Bytes) (k : ℕ) → ItemAt Graph part k → (j : ℕ) × (k ≡ 4 * j) × (1 ≤ j) × (j < length part / 4)
exit_number part k item = (k / 4, omega (arith, item.2), omega (arith, item.0), omega (arith, item.1))
