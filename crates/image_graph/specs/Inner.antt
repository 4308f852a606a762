-- The contracts of inner functions: nothing here is part of a public contract. Assumes nothing.
use Rattle.std.specs.Prelude.{◌≡◌, ℕ, ◌<◌, ◌≤◌, List, map, length, ◌⊎◌, Some, None, Ok, Err, Option, Result}
use denote.Bor.{Bor}
use Rattle.refusal.specs.Reasons.{empty_part, refused_at, closed_at}
use Rattle.refusal.specs.declared.Reason.TheVariants.{StateOutside}
use Rattle.refusal.specs.declared.Refusal.{Refusal}
use Rattle.graph.specs.declared.Exit.{Exit}
use Rattle.name.specs.Names.{Bytes}
use Rattle.image.specs.Bytes.{number32, count_of, part_of}
use Rattle.image_graph.specs.Parts.{exit_at, exits_from}
use Rattle.image_graph.specs.declared.parts.OpenPart.{OpenPart}

-- the exit that a piece of four bytes spells
abbrev pub piece_exit : Bytes → Exit
piece_exit piece = exit_at piece 0

-- the exits of an open part
abbrev pub exits_read : OpenPart → List Exit
exits_read held = map piece_exit held.exits.now

-- the line and the exits are those of the part, which has four bytes or more
pub record ReadAs (part : Bytes) (held : OpenPart) : Type 0 where
  pub long : 4 ≤ length part
  pub line : number32 held.line.now 0 ≡ number32 part 0
  pub exits : exits_read held ≡ exits_from part

-- a part is read so, or has fewer bytes
abbrev pub ReadFrom : Bytes → Option OpenPart → Type 0
ReadFrom part (Some held) = ReadAs part held
ReadFrom part None = length part < 4

-- how long the part of a state is: empty, or a line and at most 1,024 exits
abbrev pub PartLength : ℕ → Type 0
PartLength n = (n ≡ 0) ⊎ ((4 ≤ n) × (n ≤ 4100))

-- the part of state s
pub record PartAt (bs : Bytes) (s : ℕ) (part : Bytes) : Type 0 where
  pub there : s < count_of bs
  pub held : part ≡ part_of bs s
  pub sized : PartLength (length part)

-- the part of state s, or the refusal of a state that is not there
abbrev pub PartOf : Bytes → ℕ → Result (Bor Bytes) Refusal → Type 0
PartOf bs s (Ok part) = PartAt bs s part.now
PartOf bs s (Err why) = (count_of bs ≤ s) × (why ≡ refused_at StateOutside s)

-- state s is there and open, and this is its part
pub record OpenAt (bs : Bytes) (s : ℕ) (held : OpenPart) : Type 0 where
  pub there : s < count_of bs
  pub read : ReadAs (part_of bs s) held
  pub few : length (exits_read held) ≤ 1024

-- the part of state s, or the refusal of a state that is not there or is closed
abbrev pub OpenOf : Bytes → ℕ → Result OpenPart Refusal → Type 0
OpenOf bs s (Ok held) = OpenAt bs s held
OpenOf bs s (Err why) = ((count_of bs ≤ s) × (why ≡ refused_at StateOutside s)) ⊎ ((s < count_of bs) × (length (part_of bs s) ≡ 0) × (why ≡ closed_at empty_part s 0))
