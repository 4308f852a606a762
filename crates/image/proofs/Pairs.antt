-- The pairs of an image, as pieces of two numbers of four bytes. Assumes nothing.
use Rattle.std.proofs.Common.{◌≡◌, ℕ, ◌+◌, ◌-◌, ◌*◌, ◌/◌, ◌<◌, ◌≤◌, List, [], length, take, drop, get_or, ap, ◌∙◌, arith}
use Rattle.std.proofs.lemmas.List.{length-drop, length-take, drop-drop, get_or-take, take_rest}
use Rattle.std.specs.Simd.{first_chunks}
use Rattle.name.specs.Names.{Bytes}
use Rattle.image.specs.Bytes.{byte_at, number32, pair_at}
use Rattle.image.specs.Inner.{Spelled}
use Rattle.image.proofs.Chunks.{get_or-first_chunks, get_or_in_piece}

module _ (bs : Bytes) (numbers : List Bytes) (pairs : List (List Bytes))
    (cut : numbers ≡ first_chunks 4 (length (take (length bs - 4) (drop 4 bs)) / 4) (take (length bs - 4) (drop 4 bs)))
    (numbers_many : length numbers ≡ length (take (length bs - 4) (drop 4 bs)) / 4)
    (paired : pairs ≡ first_chunks 2 (length numbers / 2) numbers) where
  behind : numbers ≡ first_chunks 4 (length (drop 4 bs) / 4) (drop 4 bs)
  behind = cut ∙ ap (λ ys. first_chunks 4 (length ys / 4) ys) (take_rest bs 4)

  many : length numbers ≡ (length bs - 4) / 4
  many = numbers_many ∙ ap (λ ys. length ys / 4) (take_rest bs 4) ∙ ap (λ n. n / 4) (length-drop 4 bs)

  -- number k stands four times as far behind the header
  number : (k : ℕ) → 4 + 4 * k + 4 ≤ length bs → get_or numbers k [] ≡ take 4 (drop (4 + 4 * k) bs)
  number k h =
      let d = length-drop 4 bs in
      ap (λ ns. get_or ns k []) behind ∙ get_or-first_chunks 4 (length (drop 4 bs) / 4) (drop 4 bs) k [] (omega arith) ∙ ap (take 4) (drop-drop (4 * k) 4 bs)

  module _ (i : ℕ) (room : pair_at i + 8 ≤ length bs) where
    -- byte j of number k of pair i
    pair_byte : (k j m : ℕ) → k < 2 → j < 4 → pair_at i + 4 * k + j ≡ m → byte_at (get_or (get_or pairs i []) k []) j ≡ byte_at bs m
    pair_byte k j m two four e =
        let n = many in
        ap (λ ps. byte_at (get_or (get_or ps i []) k []) j) paired
        ∙ ap (λ p. byte_at (get_or p k []) j) (get_or-first_chunks 2 (length numbers / 2) numbers i [] (omega arith))
        ∙ ap (λ q. byte_at q j) (get_or_in_piece 2 (2 * i) numbers k (2 * i + k) [] two (omega arith) ∙ number (2 * i + k) (omega arith))
        ∙ get_or_in_piece 4 (4 + 4 * (2 * i + k)) bs j m 0 four (omega arith)

    -- number k of pair i stands four times as far in the pair
    pair_number : (k at : ℕ) → k < 2 → pair_at i + 4 * k ≡ at → number32 (get_or (get_or pairs i []) k []) 0 ≡ number32 bs at
    pair_number k at two e =
        let b0 = pair_byte k 0 at two (omega arith) (omega arith) in
        let b1 = pair_byte k 1 (at + 1) two (omega arith) (omega arith) in
        let b2 = pair_byte k 2 (at + 2) two (omega arith) (omega arith) in
        let b3 = pair_byte k 3 (at + 3) two (omega arith) (omega arith) in
        omega (arith, b0, b1, b2, b3)

  -- the first pairs say the offsets and the sizes of their parts
  pub first_spelled : (n : ℕ) → pair_at n ≤ length bs → Spelled bs (take n pairs)
  first_spelled n room i h =
      let many = length-take n pairs in
      let l : i < n = omega arith in
      let inside : pair_at i + 8 ≤ length bs = omega arith in
      rw (get_or-take n pairs i [] l) (pair_number i inside 0 (pair_at i) (omega arith) (omega arith), pair_number i inside 1 (pair_at i + 4) (omega arith) (omega arith))
