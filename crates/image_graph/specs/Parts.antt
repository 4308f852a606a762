-- The state that a part of a graph image spells. Assumes nothing.
use Rattle.std.specs.Prelude.{◌≡◌, ℕ, ◌+◌, ◌-◌, ◌*◌, ◌/◌, ◌<◌, cond, List, map, length, Some, ◌==◌}
use Rattle.std.specs.List.{slice_get, range_with_len}
use Rattle.refusal.specs.Reasons.{empty_part}
use Rattle.graph.specs.Meanings.{State, opened, closed}
use Rattle.graph.specs.declared.Exit.{Exit}
use Rattle.name.specs.Names.{Bytes}
use Rattle.image.specs.Bytes.{byte_at, number16, number32}

-- the exit at a place: its event, a zero byte, and its target in 16 bits
abbrev pub exit_at : Bytes → ℕ → Exit
exit_at part k = record { event = byte_at part k; target = number16 part (k + 2) }

-- An empty part spells a closed state of cause 31, depth 0 and line 0. Any other spells a line of 32 bits and then exits of four bytes each.
pub data StatePart (part : Bytes) : State → ℕ → Type 0 where
  empty : length part ≡ 0 → StatePart part (closed empty_part 0) 0
  lined : (xs : List Exit) → length part ≡ 4 + 4 * length xs → ((j : ℕ) → j < length xs → slice_get xs j ≡ Some (exit_at part (4 + 4 * j))) → StatePart part (opened xs) (number32 part 0)

-- the exits behind the line
abbrev pub exits_from : Bytes → List Exit
exits_from part = map (λ j. exit_at part (4 + 4 * j)) (range_with_len 0 ((length part - 4) / 4))

-- the state and the line of a part, worked out
abbrev pub state_of : Bytes → State
state_of part = cond (length part == 0) (closed empty_part 0) (opened (exits_from part))

abbrev pub source_line : Bytes → ℕ
source_line part = cond (length part == 0) 0 (number32 part 0)
