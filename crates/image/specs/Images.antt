-- Which bytes are an image, and by which rules others are refused. Assumes nothing.
use Rattle.std.specs.Prelude.{◌≡◌, ℕ, ◌+◌, ◌<◌, ◌≤◌, length, ◌≢◌}
use Rattle.refusal.specs.Rules.{Rules, no_more, rule, ◌and_then◌}
use Rattle.refusal.specs.declared.Reason.{Reason}
use Rattle.refusal.specs.declared.Reason.TheVariants.{ImageShort, KindOther, CountOutside, PairsCut, PairMisplaced, LengthWrong, PartIllFormed}
use Rattle.name.specs.Names.{Bytes}
use Rattle.image.specs.Bytes.{kind_of, count_of, pair_at, offset_of, size_of, part_of, end_before}
use Rattle.image.specs.Kinds.{kind_number, CountAllowed, LengthAllowed, ItemAt, WellFormed}
use Rattle.image.specs.declared.Kind.{Kind}

-- part i begins at or after the end of the one before, and ends inside the image
pub record Placed (bs : Bytes) (i : ℕ) : Type 0 where
  pub after : end_before bs i ≤ offset_of bs i
  pub inside : offset_of bs i + size_of bs i ≤ length bs

-- all that stands in part i is well formed
abbrev pub PartFormed : Kind → Bytes → ℕ → Type 0
PartFormed kind bs i = (k : ℕ) → ItemAt kind (part_of bs i) k → WellFormed kind (count_of bs) (part_of bs i) k

-- bytes whose header, pairs and parts keep the rules of this kind
pub record Valid (kind : Kind) (bs : Bytes) : Type 0 where
  pub long : 4 ≤ length bs
  pub known : kind_of bs ≡ kind_number kind
  pub counted : CountAllowed kind (count_of bs)
  pub paired : pair_at (count_of bs) ≤ length bs
  pub placed : (i : ℕ) → i < count_of bs → Placed bs i
  pub sized : (i : ℕ) → i < count_of bs → LengthAllowed kind (size_of bs i)
  pub formed : (i : ℕ) → i < count_of bs → PartFormed kind bs i

-- the places of the pairs of which something is wrong
abbrev pub AtPair : Bytes → (ℕ → Type 0) → ℕ → Type 0
AtPair bs Wrong p = (i : ℕ) × (i < count_of bs) × (p ≡ pair_at i) × Wrong i

-- a rule about the pairs, which is broken at each pair that is wrong
abbrev pub pair_rule : Reason → Bytes → (ℕ → Type 0) → Rules
pair_rule why bs Right = rule why (AtPair bs (λ i. Right i → ⊥)) no_more

-- the places of what is ill-formed in a part
abbrev pub IllFormedAt : Kind → Bytes → ℕ → Type 0
IllFormedAt kind bs p = (i : ℕ) × (k : ℕ) × (i < count_of bs) × (p ≡ offset_of bs i + k) × ItemAt kind (part_of bs i) k × (WellFormed kind (count_of bs) (part_of bs i) k → ⊥)

-- the rules of the first bytes and the number of pairs
abbrev pub header_rules : Kind → Bytes → Rules
header_rules kind bs =
    rule ImageShort (λ p. (p ≡ 0) × (length bs < 4))
    (rule KindOther (λ p. (p ≡ 0) × (kind_of bs ≢ kind_number kind))
    (rule CountOutside (λ p. (p ≡ 2) × (CountAllowed kind (count_of bs) → ⊥))
    (rule PairsCut (λ p. (p ≡ length bs) × (length bs < pair_at (count_of bs)))
    no_more)))

-- the rule of where parts lie
abbrev pub place_rule : Bytes → Rules
place_rule bs = pair_rule PairMisplaced bs (Placed bs)

-- the rule of how long parts are
abbrev pub length_rule : Kind → Bytes → Rules
length_rule kind bs = pair_rule LengthWrong bs (λ i. LengthAllowed kind (size_of bs i))

-- the rule of what stands in parts
abbrev pub part_rule : Kind → Bytes → Rules
part_rule kind bs = rule PartIllFormed (IllFormedAt kind bs) no_more

-- all rules of an image, in the order of checking
abbrev pub image_rules : Kind → Bytes → Rules
image_rules kind bs = header_rules kind bs and_then (place_rule bs and_then (length_rule kind bs and_then part_rule kind bs))
