-- Which bytes are an image of which graph, and what loading one answers. Assumes nothing.
use Rattle.std.specs.Prelude.{◌≡◌, ℕ, ◌<◌, Ok, Err, Result}
use Rattle.refusal.specs.Rules.{Kept}
use Rattle.graph.specs.Meanings.{Meaning, Same}
use Rattle.name.specs.Names.{Bytes}
use Rattle.image.specs.Bytes.{count_of, part_of}
use Rattle.image.specs.Images.{Valid, image_rules}
use Rattle.image.specs.Opened.{Refused}
use Rattle.image.specs.declared.Kind.TheVariants.{Graph}
use Rattle.image.specs.declared.Rejected.{Rejected}
use Rattle.image_graph.specs.Parts.{StatePart}
use Rattle.image_graph.specs.Held.{meaning_of, lines_of, graph_bytes}
use Rattle.image_graph.specs.declared.held.ImageGraph.{ImageGraph}

-- the bytes are an image of a graph of this meaning and these lines: part i spells state i
pub record GraphImage (bs : Bytes) (G : Meaning) (lines : ℕ → ℕ) : Type 0 where
  pub valid : Valid Graph bs
  pub counted : G.size ≡ count_of bs
  pub spelled : (i : ℕ) → i < count_of bs → StatePart (part_of bs i) (G.state i) (lines i)

-- the same states with the same lines
pub record Alike (G : Meaning) (lines : ℕ → ℕ) (H : Meaning) (others : ℕ → ℕ) : Type 0 where
  pub states : Same G H
  pub lines_too : (i : ℕ) → i < G.size → others i ≡ lines i

-- the graph holds the bytes; its meaning and its lines are those that they spell, and they spell no others; no rule is broken
pub record AcceptedGraph (bs : Bytes) (g : ImageGraph) : Type 0 where
  pub held : graph_bytes g ≡ bs
  pub spelled : GraphImage bs (meaning_of (graph_bytes g)) (lines_of (graph_bytes g))
  pub only : (H : Meaning) (others : ℕ → ℕ) → GraphImage bs H others → Alike (meaning_of (graph_bytes g)) (lines_of (graph_bytes g)) H others
  pub kept : Kept (image_rules Graph bs)

-- the bytes come back, refused by the first rule that they break; they spell no graph
pub record RefusedGraph (bs : Bytes) (back : Rejected) : Type 0 where
  pub refused : Refused (image_rules Graph bs) bs back
  pub none : (H : Meaning) (others : ℕ → ℕ) → GraphImage bs H others → ⊥

-- what loading answers
abbrev pub Loaded : Bytes → Result ImageGraph Rejected → Type 0
Loaded bs (Ok g) = AcceptedGraph bs g
Loaded bs (Err back) = RefusedGraph bs back
