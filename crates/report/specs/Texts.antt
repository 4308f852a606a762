-- The texts that are printed of events, states and refusals. Assumes nothing.
use Rattle.std.specs.Prelude.{ℕ, ◌+◌, cond, List, [], ◌∷◌, ◌++◌, length, codes, decimal, nat_lt, ◌≡◌, ◌-◌, map, Some, None, Option, Result, IfOk, String, string_bytes}
use Rattle.std.specs.declared.alloc.AllocError.{AllocError}
use Rattle.std.specs.declared.alloc.Global.{Global}
use Rattle.std.specs.List.{slice_get, range_with_len}
use Rattle.std.specs.Option.{unwrap_or}
use Rattle.name.specs.Names.{Bytes}
use Rattle.refusal.specs.Reasons.{number_of}
use Rattle.refusal.specs.declared.Refusal.{Refusal}
use Rattle.graph.specs.Meanings.{Meaning, State, opened, closed}
use Rattle.graph.specs.declared.Exit.{Exit}
use Rattle.image.specs.Kinds.{kind_word}
use Rattle.image.specs.declared.Kind.{Kind}

-- the words behind the first of a line, a blank before each, and byte 10
abbrev pub printed_rest : List Bytes → Bytes
printed_rest [] = 10 ∷ []
printed_rest (word ∷ words) = 32 ∷ (word ++ printed_rest words)

-- a line: its words, one blank between each two, and byte 10
abbrev pub printed : List Bytes → Bytes
printed [] = 10 ∷ []
printed (word ∷ words) = word ++ printed_rest words

-- how many events there are
abbrev pub events_line : ℕ → Bytes
events_line n = printed (codes "events" ∷ decimal n ∷ [])

-- event i and its name
abbrev pub event_line : ℕ → Bytes → Bytes
event_line i name = printed (codes "event" ∷ decimal i ∷ name ∷ [])

-- the events of these names, numbered from i on
abbrev pub event_lines : ℕ → List Bytes → Bytes
event_lines i [] = []
event_lines i (name ∷ names) = event_line i name ++ event_lines (i + 1) names

-- how many events there are, and each of them from 0 on
abbrev pub events_text : List Bytes → Bytes
events_text names = events_line (length names) ++ event_lines 0 names

-- how many states a graph has
abbrev pub states_text : Meaning → Bytes
states_text G = printed (codes "states" ∷ decimal G.size ∷ [])

-- the name of an event, or a dash where the list has none
abbrev pub label : List Bytes → ℕ → Bytes
label names event = unwrap_or (slice_get names event) (codes "-")

-- an exit: its event, the event's name and the state that it leads to
abbrev pub exit_line : List Bytes → Exit → Bytes
exit_line names x = printed (codes "exit" ∷ decimal x.event ∷ label names x.event ∷ decimal x.target ∷ [])

-- the exits in order
abbrev pub exit_lines : List Bytes → List Exit → Bytes
exit_lines names [] = []
exit_lines names (x ∷ xs) = exit_line names x ++ exit_lines names xs

-- an open state: its source line, and how many exits it has
abbrev pub open_line : ℕ → ℕ → ℕ → Bytes
open_line s source_line count = printed (codes "state" ∷ decimal s ∷ codes "line" ∷ decimal source_line ∷ codes "exits" ∷ decimal count ∷ [])

-- a closed state: the number of its cause, and its depth
abbrev pub closed_line : ℕ → ℕ → ℕ → Bytes
closed_line s cause depth = printed (codes "state" ∷ decimal s ∷ codes "closed" ∷ decimal cause ∷ decimal depth ∷ [])

-- an open state and each of its exits
abbrev pub open_text : List Bytes → ℕ → ℕ → List Exit → Bytes
open_text names s source_line xs = open_line s source_line (length xs) ++ exit_lines names xs

-- state s, which has this source line, open or closed
abbrev pub state_lines : List Bytes → ℕ → ℕ → State → Bytes
state_lines names s source_line (opened xs) = open_text names s source_line xs
state_lines names s source_line (closed cause depth) = closed_line s cause.number depth

-- state s of a graph whose states have these source lines; one that is not below the number of states has the empty text
abbrev pub state_text : List Bytes → Meaning → (ℕ → ℕ) → ℕ → Bytes
state_text names G lines s = cond (nat_lt s G.size) (state_lines names s (lines s) (G.state s)) []

-- the texts of the states from s on
abbrev pub texts_from : ℕ → List Bytes → Meaning → (ℕ → ℕ) → List Bytes
texts_from s names G lines = map (state_text names G lines) (range_with_len s (G.size - s))

-- what comes next of these texts, and which are left then: the first of them, or nothing where there is none
abbrev pub NextText : List Bytes → Option (Result (String Global) AllocError) → List Bytes → Type 0
NextText (first ∷ rest) (Some text) left = (left ≡ rest) × IfOk text (λ t. string_bytes t ≡ first)
NextText (first ∷ rest) None left = ⊥
NextText [] (Some text) left = ⊥
NextText [] None left = left ≡ []

-- what is refused, the number of the reason, and the place
abbrev pub refused_text : Kind → Refusal → Bytes
refused_text kind why = printed (codes "refused" ∷ kind_word kind ∷ decimal (number_of why.reason) ∷ decimal why.place ∷ [])
