use Rattle.std.proofs.Common.{◌≡◌, ◌≢◌, rules}
use borrow.Author.Tests.{tests}
use Rattle.std.proofs.lemmas.Iterator.{IsFirst-from_position, YieldsList-from_slice}
use Rattle.name.specs.Held.{name_bytes}
use Rattle.events.proofs.Names.{event_from_first}
use Rattle.events.proofs.reads.position.Goals as goal

pub returns : goal.returns
returns c =
    let w = c.args.word.now in
    event_from_first c.args.names.now w c.position.result
    (IsFirst-from_position _ _ _ (λ n. name_bytes n ≡ w) (λ n. name_bytes n ≢ w) c.position.ensures.ran (YieldsList-from_slice c.args.names.now cc) (λ x q k. search (rules, tests)) (λ x q k. search (rules, tests)))
