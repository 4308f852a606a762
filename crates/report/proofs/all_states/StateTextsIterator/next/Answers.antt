use Rattle.std.proofs.Common.{arith}
use Rattle.events.specs.Held.{names_in}
use Rattle.report.proofs.Left.{next_left, fewer_left}
use Rattle.report.proofs.all_states.StateTextsIterator.next.Goals as goal

pub returns-clause-steps : goal.returns-clause-steps
returns-clause-steps g c =
    let texts = c.self.inside in
    next_left texts.next (names_in texts.events.now) (g.G.Graph.meaning texts.graph.now) (g.G.Graph.lines texts.graph.now) (omega (arith, c.if-self-states.false, c.states.ensures)) c.args.self.now c.self.view_is _ (omega arith) _ c.state_text.ensures.text

pub returns-clause-goes : goal.returns-clause-goes
returns-clause-goes g c =
    let texts = c.self.inside in
    let fewer = fewer_left texts.next (names_in texts.events.now) (g.G.Graph.meaning texts.graph.now) (g.G.Graph.lines texts.graph.now) (omega (arith, c.if-self-states.false, c.states.ensures)) c.args.self.now c.self.view_is in
    record { on = λ _. (tt, tt, fewer); keeps = tt; rests = λ _. tt }
