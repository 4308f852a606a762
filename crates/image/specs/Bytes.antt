-- The bytes of an image: numbers, header, pairs and parts. Assumes nothing.
use Rattle.std.specs.Prelude.{ℕ, zero, suc, ◌+◌, ◌*◌, take, drop, slice_index}
use Rattle.name.specs.Names.{Bytes}

-- the byte at a place
abbrev pub byte_at : Bytes → ℕ → ℕ
byte_at bs i = slice_index bs i

-- the number of 16 bits at a place, the low byte first
abbrev pub number16 : Bytes → ℕ → ℕ
number16 bs i = byte_at bs i + byte_at bs (i + 1) * 256

-- the number of 32 bits at a place, the low byte first
abbrev pub number32 : Bytes → ℕ → ℕ
number32 bs i = byte_at bs i + byte_at bs (i + 1) * 256 + byte_at bs (i + 2) * 65536 + byte_at bs (i + 3) * 16777216

-- an image begins with its kind and the number of its parts
abbrev pub kind_of : Bytes → ℕ
kind_of bs = number16 bs 0

abbrev pub count_of : Bytes → ℕ
count_of bs = number16 bs 2

-- from offset 4 stand the pairs, of 8 bytes each
abbrev pub pair_at : ℕ → ℕ
pair_at i = 4 + 8 * i

-- pair i says where part i begins and how long it is
abbrev pub offset_of : Bytes → ℕ → ℕ
offset_of bs i = number32 bs (pair_at i)

abbrev pub size_of : Bytes → ℕ → ℕ
size_of bs i = number32 bs (pair_at i + 4)

-- the bytes of part i
abbrev pub part_of : Bytes → ℕ → Bytes
part_of bs i = take (size_of bs i) (drop (offset_of bs i) bs)

-- where the part before part i ends; before the first one stand the pairs
abbrev pub end_before : Bytes → ℕ → ℕ
end_before bs zero = pair_at (count_of bs)
end_before bs (suc i) = offset_of bs i + size_of bs i
