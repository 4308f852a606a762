-- Lists cut into pieces of one length. Assumes nothing.
use Rattle.std.proofs.Common.{◌≡◌, ℕ, zero, suc, ◌+◌, ◌*◌, ◌<◌, List, length, take, drop, get_or, refl, ap, ◌∙◌, arith}
use Rattle.std.proofs.lemmas.List.{drop-drop}
use Rattle.std.proofs.lemmas.Simd.{get_or-chunk}
use Rattle.std.specs.Simd.{first_chunks}

-- there are as many pieces as were asked for
pub length-first_chunks : {X : Type 0} (n m : ℕ) (xs : List X) → length (first_chunks n m xs) ≡ m
length-first_chunks n zero xs = refl
length-first_chunks n (suc m) xs = ap (λ (k : ℕ). suc k) (length-first_chunks n m (drop n xs))

-- piece k stands at n * k
pub get_or-first_chunks : {X : Type 0} (n m : ℕ) (xs : List X) (k : ℕ) (d : List X) → k < m → get_or (first_chunks n m xs) k d ≡ take n (drop (n * k) xs)
get_or-first_chunks n zero xs k d h = absurd (omega arith)
get_or-first_chunks n (suc m) xs zero d h = let e : n * 0 ≡ 0 = omega arith in rw e
get_or-first_chunks n (suc m) xs (suc k) d h =
    let e : n + n * k ≡ n * suc k = omega arith in
    get_or-first_chunks n m (drop n xs) k d (omega arith) ∙ ap (take n) (drop-drop (n * k) n xs ∙ ap (λ i. drop i xs) e)

-- element i of a piece
pub get_or_in_piece : {X : Type 0} (n at : ℕ) (xs : List X) (i k : ℕ) (d : X) → i < n → at + i ≡ k → get_or (take n (drop at xs)) i d ≡ get_or xs k d
get_or_in_piece n at xs i k d h e = get_or-chunk at n xs i d h ∙ ap (λ j. get_or xs j d) e
