-- The part of a state in pieces of four bytes: its line, and its exits. Assumes nothing.
use Rattle.std.proofs.Common.{◌≡◌, ℕ, ◌+◌, ◌-◌, ◌*◌, ◌/◌, ◌<◌, List, [], length, take, drop, get_or, Some, None, Option, sym, ap, ◌∙◌, subst, arith}
use Rattle.std.proofs.lemmas.List.{get_or-drop, length-drop, take_rest}
use Rattle.std.specs.List.{AllWithin, HoldsAt}
use Rattle.std.specs.Option.{MatchOption}
use Rattle.std.specs.Simd.{first_chunks}
use Rattle.name.specs.Names.{Bytes}
use Rattle.image.specs.Bytes.{byte_at}
use Rattle.image.specs.Kinds.{ItemAt, WellFormed}
use Rattle.image.specs.Inner.{FirstIllFormed}
use Rattle.image.specs.declared.Kind.TheVariants.{Graph}
use Rattle.image.proofs.Breaking.{exit_number}
use Rattle.image.proofs.Chunks.{get_or-first_chunks, get_or_in_piece}

-- an exit stands behind the line, a number of exits on
exit_behind : (part : Bytes) (k : ℕ) → ItemAt Graph part k → (j : ℕ) × (k ≡ 4 + 4 * j) × (j < length part / 4 - 1)
exit_behind part k item = let e = exit_number part k item in (e.0 - 1, omega (arith, e.1, e.2), omega (arith, e.2, e.3))

module _ (part : Bytes) (pieces : List Bytes) (cut : pieces ≡ first_chunks 4 (length part / 4) part) (many : length pieces ≡ length part / 4) where
  -- byte i of piece k, of which the first is the line
  piece_byte : (k i m : ℕ) → k < length part / 4 → i < 4 → 4 * k + i ≡ m → byte_at (get_or pieces k []) i ≡ byte_at part m
  piece_byte k i m h four e =
      ap (λ ps. byte_at (get_or ps k []) i) cut ∙ ap (λ p. byte_at p i) (get_or-first_chunks 4 (length part / 4) part k [] h) ∙ get_or_in_piece 4 (4 * k) part i m 0 four e

  -- the pieces behind the line
  abbrev pub exits : List Bytes
  exits = take (length pieces - 1) (drop 1 pieces)

  exits_many : length exits ≡ length part / 4 - 1
  exits_many = ap length (take_rest pieces 1) ∙ length-drop 1 pieces ∙ ap (λ n. n - 1) many

  -- byte i of exit j
  exit_byte : (j i m : ℕ) → j < length part / 4 - 1 → i < 4 → 4 + 4 * j + i ≡ m → byte_at (get_or exits j []) i ≡ byte_at part m
  exit_byte j i m h four e =
      ap (λ ps. byte_at (get_or ps j []) i) (take_rest pieces 1) ∙ ap (λ p. byte_at p i) (get_or-drop 1 pieces j []) ∙ piece_byte (1 + j) i m (omega arith) four (omega arith)

  module _ (n j : ℕ) (h : j < length part / 4 - 1) where
    b0 : byte_at (get_or exits j []) 0 ≡ byte_at part (4 + 4 * j)
    b0 = exit_byte j 0 (4 + 4 * j) h (omega arith) (omega arith)

    b1 : byte_at (get_or exits j []) 1 ≡ byte_at part (4 + 4 * j + 1)
    b1 = exit_byte j 1 (4 + 4 * j + 1) h (omega arith) (omega arith)

    b2 : byte_at (get_or exits j []) 2 ≡ byte_at part (4 + 4 * j + 2)
    b2 = exit_byte j 2 (4 + 4 * j + 2) h (omega arith) (omega arith)

    b3 : byte_at (get_or exits j []) 3 ≡ byte_at part (4 + 4 * j + 2 + 1)
    b3 = exit_byte j 3 (4 + 4 * j + 2 + 1) h (omega arith) (omega arith)

    exit_formed : WellFormed Graph n (get_or exits j []) 0 → WellFormed Graph n part (4 + 4 * j)
    exit_formed w = (omega (arith, w.0, b0), omega (arith, w.1, b1), omega (arith, w.2, b2, b3))

    -- an ill-formed piece is an ill-formed exit
    exit_wrong : (WellFormed Graph n (get_or exits j []) 0 → ⊥) → WellFormed Graph n part (4 + 4 * j) → ⊥
    exit_wrong wrong w = wrong (omega (arith, w.0, b0), omega (arith, w.1, b1), omega (arith, w.2, b2, b3))

  -- where the first pieces are formed, so are the exits up to there
  exits_formed : (n j : ℕ) → ((i : ℕ) → i < j → WellFormed Graph n (get_or exits i []) 0) → (k : ℕ) → k < 4 + 4 * j → ItemAt Graph part k → WellFormed Graph n part k
  exits_formed n j formed k h item =
      let e = exit_behind part k item in
      subst (WellFormed Graph n part) (sym e.1) (exit_formed n e.0 e.2 (formed e.0 (omega (arith, e.1))))

  -- the first ill-formed piece is the first ill-formed exit
  pub first_exit : (n : ℕ) (p r : Option ℕ)
      → MatchOption p (AllWithin (λ x. WellFormed Graph n x 0) exits 0 (length exits)) (λ j. (j < length exits) × HoldsAt (λ x. WellFormed Graph n x 0 → ⊥) exits j × AllWithin (λ x. WellFormed Graph n x 0) exits 0 j)
      → MatchOption p (r ≡ None) (λ j. r ≡ Some (4 + 4 * j))
      → FirstIllFormed Graph n part r
  first_exit n (Some j) r f e =
      let many = exits_many in
      subst (FirstIllFormed Graph n part) (sym e) (
        (omega arith, omega (arith, f.0), omega arith),
        exit_wrong n j (omega (arith, f.0)) (f.1 []),
        exits_formed n j (λ i h. f.2 i [] (omega arith) h),
      )
  first_exit n None r f e =
      subst (FirstIllFormed Graph n part) (sym e) (λ k item.
      let many = exits_many in
      exits_formed n (length exits) (λ i h. f i [] (omega arith) h) k (omega (arith, item.1, item.2)) item)
