-- The name that is held. Assumes nothing.
use Rattle.std.specs.Prelude.{◌≡◌, take, Ok, Err, Result}
use Rattle.name.specs.Names.{Bytes, Formed}
use Rattle.name.specs.declared.held.Name.{Name}
use Rattle.name.specs.declared.NoName.{NoName}

-- the bytes of a name
abbrev pub name_bytes : Name → Bytes
name_bytes n = take n.size n.bytes

-- a name is made exactly of bytes that are formed as one
abbrev pub NameOf : Bytes → Result Name NoName → Type 0
NameOf w (Ok n) = (name_bytes n ≡ w) × Formed w
NameOf w (Err no_name) = Formed w → ⊥
