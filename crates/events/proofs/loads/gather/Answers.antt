use Rattle.std.proofs.Common.{◌≡◌, ◌+◌, ◌<◌, [], ◌∷◌, length, map, take, slice_set, sym, ap, ◌∙◌, subst, arith}
use Rattle.std.proofs.lemmas.List.{map-append, take_more_set, length-set}
use Rattle.name.specs.Held.{name_bytes}
use Rattle.image.specs.Opened.{image_bytes}
use Rattle.image.proofs.Reading.{held_events}
use Rattle.events.specs.Lists.{Listed, EventOf, first_names}
use Rattle.events.proofs.Names.{all_formed}
use Rattle.events.proofs.Gathering.{further, not_listed}
use Rattle.events.specs.Inner.{Sofar}
use Rattle.events.proofs.loads.gather.Goals as goal

pub loop-i-preserved : goal.loop-i-preserved
loop-i-preserved c =
    let bs = image_bytes c.args.image.now in
    let entries = c.loop-i.entries in
    let i = c.loop-i.i in
    let x = c.name_of-name.result in
    let names = first_names i entries in
    let allowed = held_events c.args.image.now c.requires in
    let low : i < length entries = omega (arith, c.loop-i.invariant.whole) in
    let found : EventOf names (name_bytes x) c.position.result =
    subst (λ n. EventOf (map name_bytes (take n entries)) (name_bytes x) c.position.result) c.from.ensures
    (subst (λ w. EventOf (map name_bytes (take c.from.result entries)) w c.position.result) c.as_bytes.ensures c.position.ensures) in
    let other = not_listed names (name_bytes x) c.position.result found c.if-is_some.ensures in
    let same = ap (map name_bytes) (take_more_set entries i x low) ∙ map-append name_bytes (take i entries) (x ∷ []) in
    let next = subst (λ l. Sofar bs l (i + 1)) (sym same) (further bs names i c.loop-i.invariant.gathered (name_bytes x) c.name_of-name.ensures other) in
    record {
      whole = length-set entries c.from-in-loop-i.result x ∙ c.loop-i.invariant.whole;
      gathered = subst (λ k. Sofar bs (first_names (i + 1) (slice_set entries k x)) (i + 1)) (sym c.from-in-loop-i.ensures) next;
    }

pub invariant_of-result-clause-listed : goal.invariant_of-result-clause-listed
invariant_of-result-clause-listed c =
    let allowed = held_events c.args.image.now c.requires in
    let entries = c.loop-i.entries in
    let s = c.loop-i.invariant.gathered in
    let all : c.loop-i.i ≡ c.from-count.result = omega arith in
    let listed : Listed (first_names c.loop-i.i entries) = record { sized = (omega arith, omega arith); formed = all_formed (take c.loop-i.i entries); distinct = s.distinct } in
    subst (λ n. Listed (first_names n entries)) all listed
