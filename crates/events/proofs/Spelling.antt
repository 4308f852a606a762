-- What an image of names settles. Assumes nothing.
use Rattle.std.proofs.Common.{◌≡◌, List, [], length, Ok, sym, ◌∙◌, arith}
use Rattle.std.proofs.lemmas.List.{ext_get_or}
use Rattle.refusal.specs.Rules.{no_more, rule, Kept, FirstBroken}
use Rattle.refusal.specs.declared.Reason.TheVariants.{NameRepeated}
use Rattle.refusal.specs.declared.Refusal.{Refusal}
use Rattle.refusal.proofs.Order.{kept_both, kept_unbroken}
use Rattle.name.specs.Names.{Bytes}
use Rattle.image.specs.Images.{Valid, AtPair, image_rules}
use Rattle.image.specs.declared.Kind.TheVariants.{Events}
use Rattle.image.proofs.Keeping.{valid_kept}
use Rattle.events.specs.Held.{names_in}
use Rattle.events.specs.Images.{EventImage, Repeated, event_rules, AcceptedList}
use Rattle.events.specs.Inner.{Gathered}
use Rattle.events.specs.declared.held.EventList.{EventList}

-- an image has one list of names
pub one_list : (bs : Bytes) (names others : List Bytes) → EventImage bs names → EventImage bs others → names ≡ others
one_list bs names others e f =
    let n = e.counted in
    let m = f.counted in
    let same : length names ≡ length others = omega arith in
    ext_get_or [] names others same (λ i h. e.spelled i (omega arith) ∙ sym (f.spelled i (omega arith)))

-- an image of names breaks no rule
pub image_kept : (bs : Bytes) (names : List Bytes) → EventImage bs names → Kept (event_rules bs)
image_kept bs names e =
    let n = e.counted in
    kept_both (image_rules Events bs) (rule NameRepeated (AtPair bs (Repeated bs)) no_more) (valid_kept Events bs e.valid) (
      λ p b. let i = b.0 in
          let j = b.3.0 in
          let same = e.spelled j (omega (arith, b.1, b.3.1)) ∙ b.3.2 ∙ sym (e.spelled i b.1) in
          let q = e.distinct j i (omega (arith, b.1, b.3.1)) (omega (arith, b.1)) same in
          omega (arith, b.3.1),
      tt,
    )

-- the list that was gathered from a valid image
pub loaded_list : (bs : Bytes) (list : EventList) → Valid Events bs → Gathered bs (Ok list) → AcceptedList bs list
loaded_list bs list v g =
    let spelled : EventImage bs (names_in list) = record { valid = v; counted = g.counted; spelled = g.spelled; distinct = g.distinct } in
    record { spelled = spelled; only = λ others e. one_list bs others (names_in list) e spelled; kept = image_kept bs (names_in list) spelled }

-- bytes that break a rule spell no names
pub spells_none : (bs : Bytes) (r : Refusal) → FirstBroken (event_rules bs) r → (names : List Bytes) → EventImage bs names → ⊥
spells_none bs r b names e = kept_unbroken (event_rules bs) r (image_kept bs names e) b
