use Rattle.std.proofs.Common.{ap, ◌∙◌}
use Rattle.std.proofs.lemmas.Result.{err_from_is_err_and}
use Rattle.image.specs.Bytes.{count_of}
use Rattle.image.proofs.Keeping.{broken_places, broken_lengths, broken_parts, laid_valid}
use Rattle.image.proofs.checks.check.Goals as goal

pub returns-in_err-laid-clause-judged : goal.returns-in_err-laid-clause-judged
returns-in_err-laid-clause-judged c =
    let p = err_from_is_err_and c.from_residual-in_err-laid.result c.from_residual-in_err-laid.ensures.1 in
    let same = c.in_ok-headed.ensures in
    rw (p.1, p.2) (rw (same.0, same.1) at (broken_places c.in_ok-headed.headed _ c.in_err-laid.ensures))

pub returns-in_err-check_lengths-clause-judged : goal.returns-in_err-check_lengths-clause-judged
returns-in_err-check_lengths-clause-judged c =
    let p = err_from_is_err_and c.from_residual-in_err-check_lengths.result c.from_residual-in_err-check_lengths.ensures.1 in
    let same = c.in_ok-headed.ensures in
    rw (p.1, p.2) (rw (same.0, same.1) at (broken_lengths c.in_ok-headed.headed c.in_ok-laid.laid c.in_ok-laid.ensures _ c.in_err-check_lengths.ensures))

pub returns-in_err-check_parts-clause-judged : goal.returns-in_err-check_parts-clause-judged
returns-in_err-check_parts-clause-judged c =
    let p = err_from_is_err_and c.from_residual-in_err-check_parts.result c.from_residual-in_err-check_parts.ensures.1 in
    let same = c.in_ok-headed.ensures in
    let laid = c.in_ok-laid.ensures in
    rw (p.1, p.2) (rw (same.0, same.1) at (broken_parts c.in_ok-headed.headed c.in_ok-laid.laid laid c.in_ok-check_lengths.ensures _ (rw laid at c.in_err-check_parts.ensures)))

pub returns-clause-judged : goal.returns-clause-judged
returns-clause-judged c =
    let headed = c.in_ok-headed.headed in
    let same = c.in_ok-headed.ensures in
    let laid = c.in_ok-laid.ensures in (
      c.count.ensures ∙ headed.counted ∙ ap count_of same.0,
      rw (same.0, same.1) at (laid_valid headed c.in_ok-laid.laid laid c.in_ok-check_lengths.ensures (rw laid at c.in_ok-check_parts.ensures)),
    )
