-- Which bytes are an image of which names, and what loading an event list answers. Assumes nothing.
use Rattle.std.specs.Prelude.{◌≡◌, ℕ, ◌<◌, List, [], length, Ok, Err, Result, slice_index_or}
use Rattle.refusal.specs.Rules.{Rules, no_more, rule, ◌and_then◌, Kept}
use Rattle.refusal.specs.declared.Reason.TheVariants.{NameRepeated}
use Rattle.name.specs.Names.{Bytes}
use Rattle.image.specs.Bytes.{count_of, part_of}
use Rattle.image.specs.Images.{Valid, AtPair, image_rules}
use Rattle.image.specs.Opened.{Refused}
use Rattle.image.specs.declared.Kind.TheVariants.{Events}
use Rattle.image.specs.declared.Rejected.{Rejected}
use Rattle.events.specs.Lists.{Distinct}
use Rattle.events.specs.Held.{names_in}
use Rattle.events.specs.declared.held.EventList.{EventList}

-- the bytes are an image of these names: part i is name i, and none stands twice
pub record EventImage (bs : Bytes) (names : List Bytes) : Type 0 where
  pub valid : Valid Events bs
  pub counted : length names ≡ count_of bs
  pub spelled : (i : ℕ) → i < count_of bs → slice_index_or names i [] ≡ part_of bs i
  pub distinct : Distinct names

-- name i stood before
abbrev pub Repeated : Bytes → ℕ → Type 0
Repeated bs i = (j : ℕ) × (j < i) × (part_of bs j ≡ part_of bs i)

-- the rules of an event list, in the order of checking: those of every image, and that no name is repeated
abbrev pub event_rules : Bytes → Rules
event_rules bs = image_rules Events bs and_then rule NameRepeated (AtPair bs (Repeated bs)) no_more

-- the list holds the names that the bytes spell, and they spell no others; no rule is broken
pub record AcceptedList (bs : Bytes) (list : EventList) : Type 0 where
  pub spelled : EventImage bs (names_in list)
  pub only : (names : List Bytes) → EventImage bs names → names ≡ names_in list
  pub kept : Kept (event_rules bs)

-- the bytes come back, refused by the first rule that they break; they spell no names
pub record RefusedList (bs : Bytes) (back : Rejected) : Type 0 where
  pub refused : Refused (event_rules bs) bs back
  pub none : (names : List Bytes) → EventImage bs names → ⊥

-- what loading answers
abbrev pub Loaded : Bytes → Result EventList Rejected → Type 0
Loaded bs (Ok list) = AcceptedList bs list
Loaded bs (Err back) = RefusedList bs back
