-- What an image that is held has. Assumes nothing.
use Rattle.std.proofs.Common.{◌≡◌, ℕ, ◌+◌, ◌<◌, ◌≤◌, Bool, true, false, cond, ltb, length, drop, Some, None, sym, refl, ◌∙◌, subst, ⊎_elim, arith}
use mathlib.Core.Logic.{∥∥₁_elim}
use denote.Struct.Props.{props}
use Rattle.std.proofs.lemmas.List.{get_or-take, get_or-drop, get_or_past, length-take}
use Rattle.std.proofs.lemmas.Bool.{cases_lt}
use Rattle.name.specs.Names.{Bytes, NameLength, Formed}
use Rattle.image.specs.Bytes.{byte_at, kind_of, count_of, pair_at, offset_of, size_of, part_of}
use Rattle.image.specs.Kinds.{kind_number, CountAllowed, ItemAt, WellFormed}
use Rattle.image.specs.Images.{Placed, Valid}
use Rattle.image.specs.Opened.{image_bytes}
use Rattle.image.specs.declared.Kind.{Kind}
use Rattle.image.specs.declared.Kind.TheVariants.{Events, Graph}
use Rattle.image.specs.declared.held.Image.{Image}
use Rattle.image.proofs.Breaking.{part_length}

-- its kind stands in its header
pub held_known : (image : Image) → kind_of (image_bytes image) ≡ kind_number image.kind
held_known image = ∥∥₁_elim image.valid (hlevel props) (λ v. v.known)

-- all its pairs are there
pub held_paired : (image : Image) → pair_at (count_of (image_bytes image)) ≤ length (image_bytes image)
held_paired image = ∥∥₁_elim image.valid (hlevel props) (λ v. v.paired)

-- each part is placed
pub held_placed : (image : Image) (i : ℕ) → i < image.count → Placed (image_bytes image) i
held_placed image i h = ∥∥₁_elim image.valid (hlevel props) (λ v. v.placed i (omega (arith, image.counted)))

-- each part of an event list is formed as a name
pub name_formed : (bs : Bytes) → Valid Events bs → (i : ℕ) → i < count_of bs → Formed (part_of bs i)
name_formed bs v i h =
    let l = part_length bs v.placed i h in
    record { sized = subst NameLength (sym l) (v.sized i h); spelled = λ k m. v.formed i h k m }

-- an image of kind 2 is one of a graph
pub is_graph : (kind : Kind) → kind_number kind ≡ 2 → kind ≡ Graph
is_graph Events e = absurd (omega arith)
is_graph Graph e = refl

-- an event list has 1 to 64 parts
pub held_events : (image : Image) → image.kind ≡ Events → CountAllowed Events (count_of (image_bytes image))
held_events image e = ∥∥₁_elim image.valid (hlevel props) (λ v. subst (λ k. CountAllowed k (count_of (image_bytes image))) e v.counted)

-- of the image of a graph
module _ (image : Image) (graph : image.kind ≡ Graph) where
  valid : ∥ Valid Graph (image_bytes image) ∥₁
  valid = subst (λ kind. ∥ Valid kind (image_bytes image) ∥₁) graph image.valid

  -- a graph has at most 4,096 states
  pub held_count : count_of (image_bytes image) ≤ 4096
  held_count = ∥∥₁_elim valid (hlevel props) (λ v. v.counted)

  module _ (i : ℕ) (there : i < count_of (image_bytes image)) where
    -- the part of an open state has a line, and room for 1,024 exits
    pub held_state : 0 < length (part_of (image_bytes image) i) → (4 ≤ length (part_of (image_bytes image) i)) × (length (part_of (image_bytes image) i) ≤ 4100)
    held_state some =
        ∥∥₁_elim valid (hlevel props)
        (λ v. let l = part_length (image_bytes image) v.placed i there in
        ⊎_elim
        (λ none. absurd (omega arith))
        (λ lined. (omega (arith, lined.0), omega (arith, lined.1)))
        (v.sized i there))

    -- each exit in the part of a state is well formed
    pub held_exit : (k : ℕ) → ItemAt Graph (part_of (image_bytes image) i) k → WellFormed Graph (count_of (image_bytes image)) (part_of (image_bytes image) i) k
    held_exit k item = ∥∥₁_elim valid (hlevel props) (λ v. v.formed i there k item)

-- part i is there, and is this
pub part_there : (n i : ℕ) (p q : Bytes) → Some p ≡ cond (ltb i n) (Some q) None → (ltb i n ≡ true) × (p ≡ q)
part_there n i p q e = by (ltb i n) e
  where
    by : (b : Bool) → Some p ≡ cond b (Some q) None → (b ≡ true) × (p ≡ q)
    by true f = (refl, cc)
    by false f = absurd (cc)

-- there is no part i
pub part_missing : (n i : ℕ) (q : Bytes) → None ≡ cond (ltb i n) (Some q) None → ltb i n ≡ false
part_missing n i q e = by (ltb i n) e
  where
    by : (b : Bool) → None ≡ cond b (Some q) None → b ≡ false
    by true f = absurd (cc)
    by false f = refl

-- a byte of a part is a byte
pub part_octets : (bs : Bytes) → ((i : ℕ) → byte_at bs i < 256) → (i k : ℕ) → byte_at (part_of bs i) k < 256
part_octets bs octets i k =
    ⊎_elim
    (λ l. let e = get_or-take (size_of bs i) (drop (offset_of bs i) bs) k 0 l ∙ get_or-drop (offset_of bs i) bs k 0 in omega (arith, e, octets (offset_of bs i + k)))
    (λ l. let long = length-take (size_of bs i) (drop (offset_of bs i) bs) in
    let e = get_or_past (part_of bs i) k 0 (omega arith) in omega (arith, e))
    (cases_lt k (size_of bs i))
