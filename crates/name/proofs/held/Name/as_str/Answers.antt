use Rattle.std.proofs.Common.{IsUtf8, sym, subst}
use Rattle.name.proofs.Spelling.{held_formed, formed_text}
use Rattle.name.proofs.held.Name.as_str.Goals as goal

pub returns-in-Err : goal.returns-in-Err
returns-in-Err c = absurd (c.in-Err.ensures.cases.0 (subst IsUtf8 (sym c.as_bytes.ensures) (formed_text _ (held_formed c.args.self.now))))
