-- How a name is formed. Assumes nothing.
use Rattle.std.specs.Prelude.{◌≡◌, ℕ, ◌<◌, ◌≤◌, Bool, true, false, cond, ◌&&◌, ◌||◌, List, length, Some, None, Option, ◌==◌, nat_le, slice_index}

-- the bytes of a text, by their numbers
abbrev pub Bytes : Type 0
Bytes = List ℕ

-- a small letter, a to z
abbrev pub small_letter : ℕ → Bool
small_letter b = nat_le 97 b && nat_le b 122

-- a digit, 0 to 9
abbrev pub digit : ℕ → Bool
digit b = nat_le 48 b && nat_le b 57

-- what a name goes on with: a small letter, a digit or an underscore
abbrev pub goes_on : ℕ → Bool
goes_on b = small_letter b || digit b || b == 95

-- byte b may stand at place k of a name
abbrev pub in_name : ℕ → ℕ → Bool
in_name k b = cond (k == 0) (small_letter b) (goes_on b)

-- how many bytes a name may have
abbrev pub NameLength : ℕ → Type 0
NameLength n = (1 ≤ n) × (n ≤ 16)

-- a small letter followed by small letters, digits or underscores, 1 to 16 bytes
pub record Formed (w : Bytes) : Type 0 where
  pub sized : NameLength (length w)
  pub spelled : (k : ℕ) → k < length w → in_name k (slice_index w k) ≡ true

-- the first byte that may not stand where it does, or none
abbrev pub FirstWrong : Bytes → Option ℕ → Type 0
FirstWrong w (Some k) = (k < length w) × (in_name k (slice_index w k) ≡ false) × ((j : ℕ) → j < k → in_name j (slice_index w j) ≡ true)
FirstWrong w None = (k : ℕ) → k < length w → in_name k (slice_index w k) ≡ true
