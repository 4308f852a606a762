use Rattle.std.proofs.Common.{◌≡◌, ℕ, ◌+◌, ◌<◌, List, [], ◌∷◌, ◌++◌, length, take, slice_set, sym, refl, ◌∙◌, subst, arith}
use Rattle.std.proofs.lemmas.List.{length-take-le, length_push, take_all, take_at, take_more_set}
use Rattle.graph.specs.declared.Exit.{Exit}
use Rattle.graph.proofs.Lengths.{held_length}
use Rattle.graph.proofs.held.Exits.push.Goals as goal

-- the first k entries, where one more is held than before
taken : (entries : List Exit) (count k : ℕ) (x : Exit) (old : List Exit) → k ≡ count + 1 → count < length entries → count < 1024 → take count entries ≡ old → take k (slice_set entries count x) ≡ take 1024 (old ++ x ∷ [])
taken entries count k x old one_more inside few is =
    let l = length-take-le count entries (omega arith) in
    let more = length_push (take count entries) x in
    subst (λ n. take n (slice_set entries count x) ≡ take 1024 (old ++ x ∷ [])) (sym one_more)
    (subst (λ xs. take (count + 1) (slice_set entries count x) ≡ take 1024 (xs ++ x ∷ [])) is
    (take_more_set entries count x inside ∙ sym (take_all 1024 (take count entries ++ x ∷ []) (omega arith))))

pub returns-then-count-ge-MOST : goal.returns-then-count-ge-MOST
returns-then-count-ge-MOST c =
    let x = c.args.self.now in
    let l = held_length x in
    sym (take_at (take x.count x.entries) (c.args.exit ∷ []) 1024 (omega (arith, x.few)))

pub returns : goal.returns
returns c =
    let x = c.args.self.now in
    taken x.entries x.count _ c.args.exit (take x.count x.entries) (omega arith) (omega (arith, x.whole)) (omega arith) refl
