-- What the bytes of a name are. Assumes nothing.
use Rattle.std.proofs.Common.{◌≡◌, ℕ, ◌<◌, true, length, get_or, take, Ok, Err, Result, IsOk, IsUtf8, refl, sym, ap, ◌∙◌, subst, arith}
use Rattle.std.proofs.lemmas.List.{get_or-take, length-take-le}
use Rattle.std.proofs.lemmas.Str.Ascii.{IsAscii-from_reads}
use Rattle.std.proofs.lemmas.Str.{IsUtf8-from_ascii}
use Rattle.std.proofs.lemmas.Bool.Decides.{nat_tests}
use Rattle.name.specs.Names.{Bytes, in_name, NameLength, Formed}
use Rattle.name.specs.Held.{name_bytes, NameOf}
use Rattle.name.specs.declared.held.Name.{Name}
use Rattle.name.specs.declared.NoName.{NoName}

-- a byte of a name is below 128
low : (k b : ℕ) → in_name k b ≡ true → b < 128
low k b e = grind (arith, nat_tests)

-- a name is as long as its size says
pub name_size : (n : Name) → length (name_bytes n) ≡ n.size
name_size n = length-take-le n.size n.bytes (omega (arith, n.whole, n.sized))

-- every name that is held is formed as one
pub held_formed : (n : Name) → Formed (name_bytes n)
held_formed n =
    let l = name_size n in
    record {
      sized = subst NameLength (sym l) n.sized;
      spelled = λ k h. let m : k < n.size = omega arith in ap (in_name k) (get_or-take n.size n.bytes k 0 m) ∙ n.spelled k m;
    }

pub formed_text : (w : Bytes) → Formed w → IsUtf8 w
formed_text w f = IsUtf8-from_ascii w (IsAscii-from_reads w (length w) (omega arith) (λ k h. low k (get_or w k 0) (f.spelled k h)))

-- what stands in the bytes stands in the word that begins them
pub spelled_by : (bytes w : Bytes) (n : ℕ) → n ≡ length w → take (length w) bytes ≡ w → ((k : ℕ) → k < length w → in_name k (get_or w k 0) ≡ true) → (k : ℕ) → k < n → in_name k (get_or bytes k 0) ≡ true
spelled_by bytes w n e front right k h =
    let m : k < length w = omega arith in
    ap (in_name k) (sym (get_or-take (length w) bytes k 0 m) ∙ ap (λ l. get_or l k 0) front) ∙ right k m

-- bytes that are formed as a name are made one
pub made : (w : Bytes) (r : Result Name NoName) → NameOf w r → Formed w → IsOk r
made w (Ok n) is f = refl
made w (Err e) is f = absurd (is f)
