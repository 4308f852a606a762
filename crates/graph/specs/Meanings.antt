-- The meaning of a graph and its bounds. Assumes nothing.
use Rattle.std.specs.Prelude.{◌≡◌, ℕ, ◌^◌, ◌<◌, ◌≤◌, List, [], length}
use Rattle.std.specs.List.{AllByRecursion}
use Rattle.refusal.specs.declared.held.Cause.{Cause}
use Rattle.graph.specs.declared.Exit.{Exit}

-- A state is open, with its exits in order, or closed, with a cause and a depth: the number of layers above the graph that closed it.
pub data State : Type 0 where
  opened : (exits : List Exit) → State
  closed : (cause : Cause) (depth : ℕ) → State

-- the exits of a state; a closed one has none
abbrev pub outgoing : State → List Exit
outgoing (opened xs) = xs
outgoing (closed cause depth) = []

-- The meaning of a graph, apart from its lines. `state s` means something for s below `size` only.
pub record Meaning : Type 0 where
  pub size : ℕ
  pub state : ℕ → State

-- an exit of a graph of n states: an event from 0 to 63, and a target below n
pub record ExitBounds (n : ℕ) (x : Exit) : Type 0 where
  pub event : x.event < 64
  pub target : x.target < n

-- a state of a graph of n states: at most 1,024 exits, or a depth from 0 to 255
abbrev pub StateBounds : ℕ → State → Type 0
StateBounds n (opened xs) = (length xs ≤ 1024) × AllByRecursion (ExitBounds n) xs
StateBounds n (closed cause depth) = depth ≤ 255

-- the bounds that every graph keeps
pub record Bounds (G : Meaning) : Type 0 where
  pub size : G.size ≤ 4096
  pub states : (s : ℕ) → s < G.size → StateBounds G.size (G.state s)

-- each of n states has a source line, a number of 32 bits
abbrev pub LineBounds : ℕ → (ℕ → ℕ) → Type 0
LineBounds n lines = (s : ℕ) → s < n → lines s < 2 ^ 32

-- two graphs that agree: as many states, each with the same exits or closed alike. Lines play no part.
pub record Same (G H : Meaning) : Type 0 where
  pub size : H.size ≡ G.size
  pub states : (s : ℕ) → s < G.size → H.state s ≡ G.state s
