-- The names of a list, one by one. Assumes nothing.
use Rattle.std.proofs.Common.{◌≡◌, ◌≢◌, ℕ, ◌-◌, ◌<◌, ◌≤◌, List, [], ◌∷◌, map, length, get_or, take, Some, None, Option, sym, ap, ◌∙◌, subst, arith}
use Rattle.std.proofs.lemmas.List.{get_or-map, length-map, get_or-take, length-take-le}
use Rattle.std.specs.List.{AllWithin, HoldsAt}
use Rattle.std.specs.Option.{MatchOption}
use Rattle.name.specs.Names.{Bytes, Formed}
use Rattle.name.proofs.Spelling.{held_formed}
use Rattle.name.specs.Held.{name_bytes}
use Rattle.name.specs.declared.held.Name.{Name}
use Rattle.events.specs.Lists.{EventOf, first_names}
use Rattle.events.specs.Held.{names_in}
use Rattle.events.specs.declared.held.EventList.{EventList}

-- the bytes of name k, whatever stands for a name that is not there
named_at : (names : List Name) (k : ℕ) (d : Name) → k < length names → get_or (map name_bytes names) k [] ≡ name_bytes (get_or names k d)
named_at names k d h = get_or-map name_bytes names k d [] h

-- where there is a name, some name stands for one that is not there
some_at : (names : List Name) (k : ℕ) → k < length names → (d : Name) × (get_or (map name_bytes names) k [] ≡ name_bytes (get_or names k d))
some_at [] k h = absurd (omega arith)
some_at (n ∷ ns) k h = (n, named_at (n ∷ ns) k n h)

-- the first n entries are n names
pub names_length : (entries : List Name) (n : ℕ) → n ≤ length entries → length (first_names n entries) ≡ n
names_length entries n h = length-map (take n entries) name_bytes ∙ length-take-le n entries h

-- name k of the first n entries is that of entry k
pub name_at : (entries : List Name) (n k : ℕ) (d : Name) → n ≤ length entries → k < n → get_or (first_names n entries) k [] ≡ name_bytes (get_or entries k d)
name_at entries n k d h l =
    named_at (take n entries) k d (subst (λ m. k < m) (sym (length-take-le n entries h)) l)
    ∙ ap name_bytes (get_or-take n entries k d l)

-- an event list has as many names as its count says
pub held_length : (list : EventList) → length (names_in list) ≡ list.count
held_length list = names_length list.entries list.count (omega (arith, list.whole, list.sized))

-- name k of an event list
pub held_name : (list : EventList) (k : ℕ) (d : Name) → k < list.count → get_or (names_in list) k [] ≡ name_bytes (get_or list.entries k d)
held_name list k d h = name_at list.entries list.count k d (omega (arith, list.whole, list.sized)) h

-- the names in the first n places of an array
pub names_front : (entries : List Name) (n : ℕ) → map name_bytes (take (n - 0) entries) ≡ first_names n entries
names_front entries n = let e : n - 0 ≡ n = omega arith in ap (λ m. map name_bytes (take m entries)) e

-- every name of a list is formed as one
pub all_formed : (names : List Name) (k : ℕ) → k < length (map name_bytes names) → Formed (get_or (map name_bytes names) k [])
all_formed names k h =
    let n = length-map names name_bytes in
    let at = some_at names k (omega arith) in
    subst Formed (sym at.1) (held_formed (get_or names k at.0))

-- the first name of these bytes is their event
pub event_from_first : (names : List Name) (w : Bytes) (r : Option ℕ)
    → MatchOption r (AllWithin (λ n. name_bytes n ≢ w) names 0 (length names)) (λ i. (i < length names) × HoldsAt (λ n. name_bytes n ≡ w) names i × AllWithin (λ n. name_bytes n ≢ w) names 0 i)
    → EventOf (map name_bytes names) w r
event_from_first names w (Some k) f =
    let n = length-map names name_bytes in
    let at = some_at names k f.0 in
    (omega (arith, f.0), at.1 ∙ f.1 at.0)
event_from_first names w None f =
    let n = length-map names name_bytes in
    λ k h e. let at = some_at names k (omega arith) in f k at.0 (omega arith) (omega arith) (sym at.1 ∙ e)
