-- What a graph of a meaning answers, for any argument. Assumes nothing.
use Rattle.std.specs.Prelude.{ℕ, cond, List, [], Ok, Err, Option, Result, nat_lt}
use Rattle.std.specs.List.{slice_get}
use Rattle.refusal.specs.Reasons.{refused_at, closed_at}
use Rattle.refusal.specs.declared.Reason.TheVariants.{StateOutside}
use Rattle.refusal.specs.declared.Refusal.{Refusal}
use Rattle.graph.specs.Meanings.{Meaning, State, opened, closed, outgoing}
use Rattle.graph.specs.declared.Exit.{Exit}

-- a state that is not below the number of states is refused by 30; else the answer is the state's
abbrev pub of_state : {X : Type 0} → Meaning → ℕ → Result X Refusal → Result X Refusal
of_state G s answer = cond (nat_lt s G.size) answer (Err (refused_at StateOutside s))

-- a closed state is refused by its cause, with place s and its depth
abbrev pub of_exits : {X : Type 0} → State → ℕ → (List Exit → X) → Result X Refusal
of_exits (opened xs) s answer = Ok (answer xs)
of_exits (closed cause depth) s answer = Err (closed_at cause s depth)

-- whether state s is there and open
abbrev pub state_answer : Meaning → ℕ → Result (Unit {0}) Refusal
state_answer G s = of_state G s (of_exits (G.state s) s (λ _. tt))

-- the exits of state s; none where it is refused
abbrev pub exits_of : Meaning → ℕ → List Exit
exits_of G s = cond (nat_lt s G.size) (outgoing (G.state s)) []

-- exit k of state s, or none where s has k exits or fewer
abbrev pub exit_answer : Meaning → ℕ → ℕ → Result (Option Exit) Refusal
exit_answer G s k = of_state G s (of_exits (G.state s) s (λ xs. slice_get xs k))

-- the line of state s, closed or not
abbrev pub line_answer : Meaning → (ℕ → ℕ) → ℕ → Result ℕ Refusal
line_answer G lines s = of_state G s (Ok (lines s))
