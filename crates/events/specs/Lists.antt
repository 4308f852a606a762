-- Lists of names, and the event of a name. Assumes nothing.
use Rattle.std.specs.Prelude.{◌≡◌, ℕ, ◌<◌, ◌≤◌, List, [], map, length, take, Some, None, Option, ◌≢◌, slice_index_or}
use Rattle.name.specs.Names.{Bytes, Formed}
use Rattle.name.specs.Held.{name_bytes}
use Rattle.name.specs.declared.held.Name.{Name}

-- the bytes of the first n names of a list
abbrev pub first_names : ℕ → List Name → List Bytes
first_names n entries = map name_bytes (take n entries)

-- no name is listed twice
abbrev pub Distinct : List Bytes → Type 0
Distinct names = (i j : ℕ) → i < length names → j < length names → slice_index_or names i [] ≡ slice_index_or names j [] → i ≡ j

-- 1 to 64 names, each formed as one, none twice
pub record Listed (names : List Bytes) : Type 0 where
  pub sized : (1 ≤ length names) × (length names ≤ 64)
  pub formed : (i : ℕ) → i < length names → Formed (slice_index_or names i [])
  pub distinct : Distinct names

-- the event of a name is its place in the list
abbrev pub EventOf : List Bytes → Bytes → Option ℕ → Type 0
EventOf names w (Some k) = (k < length names) × (slice_index_or names k [] ≡ w)
EventOf names w None = (k : ℕ) → k < length names → slice_index_or names k [] ≢ w
