use Rattle.std.proofs.Common.{Ok, vec_items, subst}
use Rattle.events.specs.Inner.{Gathered}
use Rattle.events.proofs.Spelling.{loaded_list}
use Rattle.events.proofs.held.EventList.load.Goals as goal

pub returns-in-Ok : goal.returns-in-Ok
returns-in-Ok c =
    let opened = c.in_ok-image.ensures in
    loaded_list (vec_items c.args.bytes) c.in-Ok.list opened.valid (subst (λ bs. Gathered bs (Ok c.in-Ok.list)) opened.held c.in-Ok.ensures)
