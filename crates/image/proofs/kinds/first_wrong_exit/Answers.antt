use Rattle.std.proofs.Common.{rules, ◌≡◌, ◌+◌, ◌*◌, Some, None}
use borrow.Author.Tests.{tests}
use Rattle.std.specs.Option.{MatchOption}
use Rattle.std.proofs.lemmas.Iterator.{IsFirst-from_position, YieldsList-from_slice}
use Rattle.image.specs.Kinds.{WellFormed}
use Rattle.image.specs.declared.Kind.TheVariants.{Graph}
use Rattle.image.proofs.Exits.{exits, first_exit}
use Rattle.image.proofs.kinds.first_wrong_exit.Goals as goal

pub returns : goal.returns
returns c =
    let n = c.args.states in
    let part = c.args.part.now in
    let pieces = c.as_chunks.result.0.now in
    let cut = c.as_chunks.ensures.front in
    let many = c.as_chunks.ensures.front_len in
    let behind = exits part pieces cut many in
    let mapped : MatchOption c.position.result (c.map.result ≡ None) (λ j. c.map.result ≡ Some (4 + 4 * j)) = search (rules, tests) in
    first_exit part pieces cut many n c.position.result c.map.result
    (IsFirst-from_position _ _ _ (λ x. WellFormed Graph n x 0 → ⊥) (λ x. WellFormed Graph n x 0) c.position.ensures.ran (YieldsList-from_slice behind cc) (λ x q k. search (rules, tests)) (λ x q k. search (rules, tests)))
    mapped
