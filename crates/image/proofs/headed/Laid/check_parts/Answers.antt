use Rattle.std.proofs.Common.{◌≡◌, ℕ, ◌+◌, ◌<◌, sym, ap, ◌∙◌, subst, arith}
use Rattle.refusal.specs.Reasons.{refused_at}
use Rattle.refusal.specs.Rules.{FirstBroken}
use Rattle.refusal.specs.declared.Reason.TheVariants.{PartIllFormed}
use Rattle.image.specs.Bytes.{count_of, offset_of}
use Rattle.image.specs.Images.{Placed, part_rule}
use Rattle.image.proofs.Breaking.{broken_part}
use Rattle.image.proofs.headed.Laid.check_parts.Goals as goal

pub returns-in-Some : goal.returns-in-Some
returns-in-Some c =
    let laid = c.args.self.now in
    let headed = laid.headed in
    let bs = headed.bytes.now in
    let i = c.loop-i.i in
    let k = c.in-Some.k in
    let offset : c.read.result.offset ≡ offset_of bs i = c.read.ensures.offset ∙ (headed.spelled i (omega arith)).0 in
    let f = rw (c.part.ensures, c.count.ensures, headed.counted) at c.in-Some.ensures in
    let count = headed.counted in
    let placed : (j : ℕ) → j < count_of bs → Placed bs j = λ j l. laid.placed j (omega arith) in
    let at = c.at.ensures ∙ ap (λ p. refused_at PartIllFormed (p + k)) offset in
    subst (FirstBroken (part_rule headed.kind bs)) (sym at) (broken_part bs placed headed.kind i k (omega arith) c.loop-i.invariant f.0 f.1 f.2)
