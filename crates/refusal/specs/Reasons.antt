-- The reasons by their numbers, and refusals made from them. Assumes nothing.
use Rattle.std.specs.Prelude.{◌≡◌, ℕ, ◌≤◌, Ok, Err, Result}
use Rattle.std.proofs.Common.{lit≤}
use Rattle.refusal.specs.declared.held.Cause.{Cause}
use Rattle.refusal.specs.declared.Reason.{Reason}
use Rattle.refusal.specs.declared.Reason.TheVariants.{ImageShort, KindOther, CountOutside, PairsCut, PairMisplaced, LengthWrong, PartIllFormed, NameRepeated, TextLong, ByteUnknown, NameLong, MarkIllFormed, NameUnlisted, SignMisplaced, BracketsDeep, StepsMany, StartOutside, RowsFew, OpeningOther, TableFull, EntryOutside, ExitsFull, EventHigh, BlocksOutside, EntryMissing, WordWrong, StateOutside, Closed}
use Rattle.refusal.specs.declared.NoCause.{NoCause}
use Rattle.refusal.specs.declared.Refusal.{Refusal}

-- the number of each reason; a closed state's is its cause, 31 to 39
abbrev pub number_of : Reason → ℕ
-- of an image
number_of ImageShort = 1
number_of KindOther = 2
number_of CountOutside = 3
number_of PairsCut = 4
number_of PairMisplaced = 5
number_of LengthWrong = 6
number_of PartIllFormed = 7
number_of NameRepeated = 8
-- of a pattern
number_of TextLong = 10
number_of ByteUnknown = 11
number_of NameLong = 12
number_of MarkIllFormed = 13
number_of NameUnlisted = 14
number_of SignMisplaced = 15
number_of BracketsDeep = 16
number_of StepsMany = 17
-- of a listing
number_of StartOutside = 20
number_of RowsFew = 21
number_of OpeningOther = 22
-- of added exits
number_of TableFull = 23
number_of EntryOutside = 24
number_of ExitsFull = 25
number_of EventHigh = 26
-- of a carousel
number_of BlocksOutside = 27
-- of an entry that is changed
number_of EntryMissing = 28
-- of a program's line
number_of WordWrong = 29
-- of a graph that is read
number_of StateOutside = 30
number_of (Closed cause) = cause.number

-- a refusal that no closed state causes has depth 0
abbrev pub refused_at : Reason → ℕ → Refusal
refused_at why where_it_is = record { reason = why; place = where_it_is; depth = 0 }

-- state s is closed by this cause, that many layers below
abbrev pub closed_at : Cause → ℕ → ℕ → Refusal
closed_at cause s layers = record { reason = Closed cause; place = s; depth = layers }

-- the cause of this number, which is there exactly for 31 to 39; of any other the error holds the number
abbrev pub CauseOf : ℕ → Result Cause NoCause → Type 0
CauseOf n (Ok cause) = cause.number ≡ n
CauseOf n (Err no_cause) = (no_cause.0 ≡ n) × (31 ≤ n → n ≤ 39 → ⊥)

-- a state whose part of an image is empty is closed by 31
abbrev pub empty_part : Cause
empty_part = record { number = 31; closing = (lit≤ tt, lit≤ tt) }
