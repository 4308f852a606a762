-- The part of a state. Assumes nothing.
use Rattle.std.proofs.Common.{◌≡◌, ◌<◌, ℕ, Bool, true, false, cond, ltb, length, Some, None, Option, Bor, sym, refl, ap, subst, inl, inr, ⊎_elim, arith}
use Rattle.std.proofs.lemmas.Bool.{ltb-true, ltb-false, cases_lt}
use Rattle.std.specs.Option.{option_map, ok_or}
use Rattle.refusal.specs.Reasons.{empty_part, refused_at, closed_at}
use Rattle.refusal.specs.declared.Reason.TheVariants.{StateOutside}
use Rattle.refusal.specs.declared.Refusal.{Refusal}
use Rattle.name.specs.Names.{Bytes}
use Rattle.image.specs.Bytes.{count_of, part_of}
use Rattle.image.proofs.Reading.{held_state, part_there}
use Rattle.image_graph.specs.Held.{graph_bytes}
use Rattle.image_graph.specs.Inner.{PartLength, ReadAs, ReadFrom, PartAt, PartOf, OpenOf}
use Rattle.image_graph.specs.Spelling.{exits_length}
use Rattle.image_graph.specs.declared.held.ImageGraph.{ImageGraph}
use Rattle.image_graph.specs.declared.parts.OpenPart.{OpenPart}

-- the part of a state is empty, or has a line and at most 1,024 exits
held_part : (g : ImageGraph) (s : ℕ) → s < count_of (graph_bytes g) → PartLength (length (part_of (graph_bytes g) s))
held_part g s there = ⊎_elim (λ some. inr (held_state g.image g.isgraph s there some)) (λ none. inl (omega arith)) (cases_lt 0 (length (part_of (graph_bytes g) s)))

-- what the image answers for part s is the part of state s
pub part_answer : (g : ImageGraph) (s : ℕ) (r : Option (Bor Bytes)) (why : Refusal) → why ≡ refused_at StateOutside s
    → option_map (λ x. x.now) r ≡ cond (ltb s (count_of (graph_bytes g))) (Some (part_of (graph_bytes g) s)) None → PartOf (graph_bytes g) s (ok_or r why)
part_answer g s (Some part) why e found =
    let p = part_there (count_of (graph_bytes g)) s part.now (part_of (graph_bytes g) s) found in
    let there = ltb-true s (count_of (graph_bytes g)) p.0 in
    record { there = there; held = p.1; sized = subst (λ x. PartLength (length x)) (sym p.1) (held_part g s there) }
part_answer g s None why e missing = (ltb-false s (count_of (graph_bytes g)) (by (ltb s (count_of (graph_bytes g))) missing), e)
  where
    by : (b : Bool) → None ≡ cond b (Some (part_of (graph_bytes g) s)) None → b ≡ false
    by true f = absurd (cc)
    by false f = refl

-- what is read of the part of a state is an open state's, or the part is empty
pub open_answer : (bs : Bytes) (s : ℕ) (part : Bytes) (r : Option OpenPart) (why : Refusal) → PartAt bs s part → ReadFrom part r → why ≡ closed_at empty_part s 0 → OpenOf bs s (ok_or r why)
open_answer bs s part (Some held) why at read e =
    let many = ap length read.exits in
    let all = exits_length part in
    record { there = at.there; read = subst (λ p. ReadAs p held) at.held read; few = ⊎_elim (λ none. omega (arith, read.long)) (λ lined. omega (arith, lined.1)) at.sized }
open_answer bs s part None why at short e =
    let same = ap length at.held in
    inr (at.there, ⊎_elim (λ none. omega arith) (λ lined. omega (arith, short, lined.0)) at.sized, e)
