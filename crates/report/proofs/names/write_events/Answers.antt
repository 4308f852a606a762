use Rattle.std.proofs.Common.{◌≡◌, [], length, get_or, sym, ap, ◌∙◌, arith}
use Rattle.std.proofs.lemmas.List.{get_or-map, length-map}
use Rattle.name.specs.Held.{name_bytes}
use Rattle.events.specs.Held.{names_in}
use Rattle.report.proofs.Lines.{event_more}
use Rattle.report.proofs.names.write_events.Goals as goal

pub loop-i-preserved : goal.loop-i-preserved
loop-i-preserved c =
    let names = names_in c.args.events.now in
    let items = c.names-name-items.result.now in
    let i = c.loop-i.i in
    let listed = c.names-name-items.ensures.names in
    let many = ap length (sym listed) ∙ length-map items name_bytes in
    let named : get_or names i [] ≡ name_bytes c.name-item.result = ap (λ l. get_or l i []) (sym listed) ∙ get_or-map name_bytes items i c.name-item.result [] c.loop-i-test.true ∙ ap name_bytes (sym c.name-item.is) in
    event_more names i (name_bytes c.name-item.result) _ _ _ (omega (arith, c.loop-i-test.true)) named c.in_ok-write_event.ensures c.loop-i.invariant
