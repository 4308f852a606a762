-- What each kind of image asks of its count and of its parts. Assumes nothing.
use Rattle.std.specs.Prelude.{◌≡◌, ℕ, ◌+◌, ◌%◌, ◌<◌, ◌≤◌, true, ◌⊎◌, length, codes}
use Rattle.name.specs.Names.{Bytes, in_name, NameLength}
use Rattle.image.specs.Bytes.{byte_at, number16}
use Rattle.image.specs.declared.Kind.{Kind}
use Rattle.image.specs.declared.Kind.TheVariants.{Events, Graph}

-- an event list is of kind 1, a graph of kind 2
abbrev pub kind_number : Kind → ℕ
kind_number Events = 1
kind_number Graph = 2

-- an event list or a graph, in a word
abbrev pub kind_word : Kind → Bytes
kind_word Events = codes "events"
kind_word Graph = codes "graph"

-- 1 to 64 events; at most 4,096 states
abbrev pub CountAllowed : Kind → ℕ → Type 0
CountAllowed Events n = (1 ≤ n) × (n ≤ 64)
CountAllowed Graph n = n ≤ 4096

-- a name has 1 to 16 bytes; a state has none, or a line and at most 1,024 exits, of 4 bytes each
abbrev pub LengthAllowed : Kind → ℕ → Type 0
LengthAllowed Events n = NameLength n
LengthAllowed Graph n = (n ≡ 0) ⊎ ((4 ≤ n) × (n ≤ 4100) × (n % 4 ≡ 0))

-- where something stands in a part that must be well formed: each byte of a name; each exit, behind the line
abbrev pub ItemAt : Kind → Bytes → ℕ → Type 0
ItemAt Events part k = k < length part
ItemAt Graph part k = (4 ≤ k) × (k + 4 ≤ length part) × (k % 4 ≡ 0)

-- what stands there is well formed: a byte that a name may have there; an event from 0 to 63, a zero byte and a target below n
abbrev pub WellFormed : Kind → ℕ → Bytes → ℕ → Type 0
WellFormed Events n part k = in_name k (byte_at part k) ≡ true
WellFormed Graph n part k = (byte_at part k < 64) × (byte_at part (k + 1) ≡ 0) × (number16 part (k + 2) < n)
