-- The meaning of an image graph. Assumes nothing.
use Rattle.std.specs.Prelude.{ℕ}
use Rattle.graph.specs.Meanings.{Meaning}
use Rattle.name.specs.Names.{Bytes}
use Rattle.image.specs.Bytes.{count_of, part_of}
use Rattle.image.specs.Opened.{image_bytes}
use Rattle.image_graph.specs.Parts.{state_of, source_line}
use Rattle.image_graph.specs.declared.held.ImageGraph.{ImageGraph}

-- state i is what part i spells
abbrev pub meaning_of : Bytes → Meaning
meaning_of bs = record { size = count_of bs; state = λ i. state_of (part_of bs i) }

-- the line of state i is what part i spells
abbrev pub lines_of : Bytes → ℕ → ℕ
lines_of bs i = source_line (part_of bs i)

-- the bytes that the graph reads from
abbrev pub graph_bytes : ImageGraph → Bytes
graph_bytes g = image_bytes g.image
