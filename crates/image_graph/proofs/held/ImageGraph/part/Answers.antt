use Rattle.std.proofs.Common.{sym, ap, ◌∙◌, subst}
use Rattle.refusal.specs.Reasons.{refused_at}
use Rattle.refusal.specs.declared.Reason.TheVariants.{StateOutside}
use Rattle.image_graph.specs.Held.{graph_bytes}
use Rattle.image_graph.specs.Inner.{PartOf}
use Rattle.image_graph.proofs.Opening.{part_answer}
use Rattle.image_graph.proofs.held.ImageGraph.part.Goals as goal

pub returns : goal.returns
returns c =
    let g = c.args.self.now in
    let why = c.at-outside.ensures ∙ ap (refused_at StateOutside) c.from.ensures in
    subst (PartOf (graph_bytes g) c.args.s) (sym c.ok_or.ensures.value) (part_answer g c.args.s c.part.result c.at-outside.result why c.part.ensures)
