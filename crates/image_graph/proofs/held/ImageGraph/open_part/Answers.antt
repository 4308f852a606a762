use Rattle.std.proofs.Common.{◌∙◌, sym, subst}
use Rattle.refusal.specs.Reasons.{closed_at}
use Rattle.image_graph.specs.Held.{graph_bytes}
use Rattle.image_graph.specs.Inner.{OpenOf}
use Rattle.image_graph.proofs.Opening.{open_answer}
use Rattle.image_graph.proofs.held.ImageGraph.open_part.Goals as goal

pub returns : goal.returns
returns c =
    let bs = graph_bytes c.args.self.now in
    let why = c.closed-closed.ensures ∙ (λ i. closed_at (c.empty_part.ensures i) (c.from.ensures i) 0) in
    subst (OpenOf bs c.args.s) (sym c.ok_or.ensures.value) (open_answer bs c.args.s c.in_ok-part.field-0.now c.read.result c.closed-closed.result c.in_ok-part.ensures c.read.ensures why)
