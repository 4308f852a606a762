-- The contracts of inner functions: nothing here is part of a public contract. Assumes nothing.
use Rattle.std.specs.Prelude.{◌≡◌, ℕ, ◌<◌, List, [], length, slice_index_or, Some, None, Ok, Err, Option, Result}
use Rattle.refusal.specs.Rules.{Rules, FirstBroken}
use Rattle.refusal.specs.declared.Refusal.{Refusal}
use Rattle.name.specs.Names.{Bytes}
use Rattle.image.specs.Bytes.{number32, offset_of, size_of}
use Rattle.image.specs.Kinds.{ItemAt, WellFormed}
use Rattle.image.specs.declared.Kind.{Kind}

-- a check is passed where P holds, and else refuses by the first broken rule
abbrev pub Judged : {X : Type 0} → (X → Type 0) → Rules → Result X Refusal → Type 0
Judged P rules (Ok x) = P x
Judged P rules (Err why) = FirstBroken rules why

-- the first ill-formed item of a part, or none
abbrev pub FirstIllFormed : Kind → ℕ → Bytes → Option ℕ → Type 0
FirstIllFormed kind n part (Some k) = ItemAt kind part k × (WellFormed kind n part k → ⊥) × ((j : ℕ) → j < k → ItemAt kind part j → WellFormed kind n part j)
FirstIllFormed kind n part None = (k : ℕ) → ItemAt kind part k → WellFormed kind n part k

-- the first number of a pair: where a part begins
abbrev pub offset_in : List Bytes → ℕ
offset_in pair = number32 (slice_index_or pair 0 []) 0

-- the second number of a pair: how long a part is
abbrev pub size_in : List Bytes → ℕ
size_in pair = number32 (slice_index_or pair 1 []) 0

-- each pair says the offset and the size of its part
abbrev pub Spelled : Bytes → List (List Bytes) → Type 0
Spelled bs pairs = (i : ℕ) → i < length pairs → (offset_in (slice_index_or pairs i []) ≡ offset_of bs i) × (size_in (slice_index_or pairs i []) ≡ size_of bs i)
