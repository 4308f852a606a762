-- Valid bytes keep every rule of an image. Assumes nothing.
use Rattle.std.proofs.Common.{◌≡◌, ℕ, ◌<◌, ◌≤◌, length, subst, arith}
use mathlib.Core.Logic.{∥∥₁_elim}
use denote.Struct.Props.{props}
use Rattle.refusal.specs.Rules.{Rules, ◌and_then◌, Kept, FirstBroken}
use Rattle.refusal.specs.declared.Reason.{Reason}
use Rattle.refusal.specs.declared.Reason.TheVariants.{PairMisplaced, LengthWrong}
use Rattle.refusal.specs.declared.Refusal.{Refusal}
use Rattle.refusal.proofs.Order.{kept_both, kept_unbroken, broken_early, broken_late}
use Rattle.name.specs.Names.{Bytes}
use Rattle.image.specs.Bytes.{kind_of, count_of, pair_at, size_of}
use Rattle.image.specs.Kinds.{kind_number, CountAllowed, LengthAllowed}
use Rattle.image.specs.Images.{Placed, PartFormed, Valid, pair_rule, header_rules, place_rule, length_rule, part_rule, image_rules}
use Rattle.image.specs.declared.Kind.{Kind}
use Rattle.image.specs.declared.Kind.TheVariants.{Events, Graph}
use Rattle.image.specs.declared.headed.Headed.{Headed}
use Rattle.image.specs.declared.headed.Laid.{Laid}

module _ (kind : Kind) (bs : Bytes) where
  header_kept : kind_of bs ≡ kind_number kind → CountAllowed kind (count_of bs) → pair_at (count_of bs) ≤ length bs → Kept (header_rules kind bs)
  header_kept known allowed paired =
      (λ p b. omega (arith, paired, b.1), (λ p b. b.1 known, (λ p b. b.1 allowed, (λ p b. omega (arith, paired, b.1), tt))))

  pairs_kept : (why : Reason) (Right : ℕ → Type 0) → ((i : ℕ) → i < count_of bs → Right i) → Kept (pair_rule why bs Right)
  pairs_kept why Right h = (λ p b. b.3 (h b.0 b.1), tt)

  parts_kept : ((i : ℕ) → i < count_of bs → PartFormed kind bs i) → Kept (part_rule kind bs)
  parts_kept h = (λ p b. b.5 (h b.0 b.2 b.1 b.4), tt)

  lengths_kept : ((i : ℕ) → i < count_of bs → LengthAllowed kind (size_of bs i)) → Kept (length_rule kind bs)
  lengths_kept = pairs_kept LengthWrong (λ i. LengthAllowed kind (size_of bs i))

  -- the rules of lengths and of what stands in parts
  abbrev from_lengths : Rules
  from_lengths = length_rule kind bs and_then part_rule kind bs

  pub valid_kept : Valid kind bs → Kept (image_rules kind bs)
  valid_kept v =
      kept_both (header_rules kind bs) (place_rule bs and_then from_lengths) (header_kept v.known v.counted v.paired)
      (kept_both (place_rule bs) from_lengths (pairs_kept PairMisplaced (Placed bs) v.placed)
      (kept_both (length_rule kind bs) (part_rule kind bs) (lengths_kept v.sized) (parts_kept v.formed)))

  pub invalid : (r : Refusal) → FirstBroken (image_rules kind bs) r → Valid kind bs → ⊥
  invalid r b v = kept_unbroken (image_rules kind bs) r (valid_kept v) b

-- a kind allows its count
count_allowed : (kind : Kind) (n : ℕ) → ∥ CountAllowed kind n ∥₁ → CountAllowed kind n
count_allowed Events n h = ∥∥₁_elim h (hlevel props) (λ a. a)
count_allowed Graph n h = ∥∥₁_elim h (hlevel props) (λ a. a)

-- bytes with a header and pairs
module _ (headed : Headed) where
  abbrev kind : Kind
  kind = headed.kind

  abbrev bs : Bytes
  bs = headed.bytes.now

  allowed : CountAllowed kind (count_of bs)
  allowed = subst (CountAllowed kind) headed.counted (count_allowed kind (length headed.pairs.now) headed.allowed)

  headed_kept : Kept (header_rules kind bs)
  headed_kept = header_kept kind bs headed.known allowed (omega (arith, headed.paired, headed.counted))

  -- what holds of each pair
  counted : (Right : ℕ → Type 0) → ((i : ℕ) → i < length headed.pairs.now → Right i) → (i : ℕ) → i < count_of bs → Right i
  counted Right = subst (λ n. (i : ℕ) → i < n → Right i) headed.counted

  pub broken_places : (r : Refusal) → FirstBroken (place_rule headed.bytes.now) r → FirstBroken (image_rules headed.kind headed.bytes.now) r
  broken_places r b = broken_late (header_rules kind bs) (place_rule bs and_then from_lengths kind bs) r headed_kept (broken_early (place_rule bs) (from_lengths kind bs) r b)

  -- the same, with the parts laid out
  module _ (laid : Laid) (same : laid.headed ≡ headed) where
    placed : (i : ℕ) → i < count_of bs → Placed bs i
    placed = counted (Placed bs) (subst (λ h. (i : ℕ) → i < length h.pairs.now → Placed h.bytes.now i) same laid.placed)

    -- lengths and what stands in parts come last
    broken_last : (r : Refusal) → FirstBroken (from_lengths kind bs) r → FirstBroken (image_rules kind bs) r
    broken_last r b =
        broken_late (header_rules kind bs) (place_rule bs and_then from_lengths kind bs) r headed_kept
        (broken_late (place_rule bs) (from_lengths kind bs) r (pairs_kept kind bs PairMisplaced (Placed bs) placed) b)

    pub broken_lengths : (r : Refusal) → FirstBroken (length_rule headed.kind headed.bytes.now) r → FirstBroken (image_rules headed.kind headed.bytes.now) r
    broken_lengths r b = broken_last r (broken_early (length_rule kind bs) (part_rule kind bs) r b)

    -- where each part has an allowed length
    module _ (sized : (i : ℕ) → i < length headed.pairs.now → LengthAllowed headed.kind (size_of headed.bytes.now i)) where
      sized_all : (i : ℕ) → i < count_of bs → LengthAllowed kind (size_of bs i)
      sized_all = counted (λ i. LengthAllowed kind (size_of bs i)) sized

      pub broken_parts : (r : Refusal) → FirstBroken (part_rule headed.kind headed.bytes.now) r → FirstBroken (image_rules headed.kind headed.bytes.now) r
      broken_parts r b = broken_last r (broken_late (length_rule kind bs) (part_rule kind bs) r (lengths_kept kind bs sized_all) b)

      pub laid_valid : ((i : ℕ) → i < length headed.pairs.now → PartFormed headed.kind headed.bytes.now i) → Valid headed.kind headed.bytes.now
      laid_valid formed =
          record {
            long = omega (arith, headed.paired);
            known = headed.known;
            counted = allowed;
            paired = omega (arith, headed.paired, headed.counted);
            placed = placed;
            sized = sized_all;
            formed = counted (PartFormed kind bs) formed;
          }
