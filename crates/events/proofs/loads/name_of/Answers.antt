use Rattle.std.proofs.Common.{sym, ap, ◌∙◌, subst}
use Rattle.std.specs.Option.{option_map}
use mathlib.Core.Logic.{∥∥₁_elim}
use denote.Struct.Props.{props}
use Rattle.name.specs.Names.{Formed}
use Rattle.name.proofs.Spelling.{made}
use Rattle.image.specs.Bytes.{count_of, part_of}
use Rattle.image.specs.Images.{Valid}
use Rattle.image.specs.Opened.{image_bytes}
use Rattle.image.proofs.Reading.{part_there, name_formed}
use Rattle.events.proofs.loads.name_of.Goals as goal

pub unwrap-requires-2 : goal.unwrap-requires-2
unwrap-requires-2 c =
    let image = c.args.image.now in
    let bs = image_bytes image in
    let found = (part_there (count_of bs) c.args.i c.unwrap.result.now (part_of bs c.args.i) (sym (ap (option_map (λ x. x.now)) c.unwrap.ensures) ∙ c.part.ensures)).1 in
    made c.unwrap.result.now c.try_from.result c.try_from.ensures
    (∥∥₁_elim image.valid (hlevel props) (λ v. subst Formed (sym found) (name_formed bs (subst (λ k. Valid k bs) c.requires.events v) c.args.i c.requires.within)))
