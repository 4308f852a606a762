-- The contracts of inner functions: nothing here is part of a public contract. Assumes nothing.
use Rattle.std.specs.Prelude.{◌≡◌, ℕ, ◌<◌, List, [], length, Ok, Err, Result, slice_index_or}
use Rattle.refusal.specs.Rules.{no_more, rule, FirstBroken}
use Rattle.refusal.specs.declared.Reason.TheVariants.{NameRepeated}
use Rattle.refusal.specs.declared.Refusal.{Refusal}
use Rattle.name.specs.Names.{Bytes}
use Rattle.image.specs.Bytes.{count_of, part_of}
use Rattle.image.specs.Images.{AtPair}
use Rattle.events.specs.Lists.{Distinct}
use Rattle.events.specs.Held.{names_in}
use Rattle.events.specs.Images.{Repeated}
use Rattle.events.specs.declared.held.EventList.{EventList}

-- the names are those of the first n parts, none twice
pub record Sofar (bs : Bytes) (names : List Bytes) (n : ℕ) : Type 0 where
  pub counted : length names ≡ n
  pub spelled : (i : ℕ) → i < n → slice_index_or names i [] ≡ part_of bs i
  pub distinct : Distinct names

-- the list has the names of all parts, or a name is repeated
abbrev pub Gathered : Bytes → Result EventList Refusal → Type 0
Gathered bs (Ok list) = Sofar bs (names_in list) (count_of bs)
Gathered bs (Err why) = FirstBroken (rule NameRepeated (AtPair bs (Repeated bs)) no_more) why
