use Rattle.std.proofs.Common.{refl}
use Rattle.image.proofs.Keeping.{invalid}
use Rattle.image.proofs.held.Image.open.Goals as goal

pub returns-in-Err : goal.returns-in-Err
returns-in-Err c =
    let b = rw c.as_slice.ensures.value at c.in-Err.ensures.judged in
    (record { why = b; returned = refl }, invalid c.args.kind _ _ b)
