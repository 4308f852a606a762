-- What is read from an image keeps the bounds of a graph. Assumes nothing.
use Rattle.std.proofs.Common.{sym, subst, arith, false-eqb}
use Rattle.std.specs.Prelude.{ℕ, ◌+◌, ◌-◌, ◌*◌, ◌/◌, ◌^◌, ◌<◌, ◌≤◌, length, ◌==◌}
use Rattle.std.proofs.ByRecursion.{All-from_get_or}
use Rattle.std.proofs.lemmas.Bool.{cond_both}
use Rattle.refusal.specs.Reasons.{empty_part}
use Rattle.graph.specs.Meanings.{opened, closed, ExitBounds, StateBounds, Bounds, LineBounds}
use Rattle.image.specs.Bytes.{number32, count_of, part_of}
use Rattle.image.proofs.Reading.{held_state, held_exit, held_count, part_octets}
use Rattle.image_graph.specs.Parts.{exits_from}
use Rattle.image_graph.specs.Held.{meaning_of, lines_of, graph_bytes}
use Rattle.image_graph.specs.declared.held.ImageGraph.{ImageGraph}
use Rattle.image_graph.specs.Spelling.{no_exit, exits_length, exit_there}

module _ (g : ImageGraph) where
  exits_bounded : (s : ℕ) → s < count_of (graph_bytes g) → 0 < length (part_of (graph_bytes g) s) → StateBounds (count_of (graph_bytes g)) (opened (exits_from (part_of (graph_bytes g) s)))
  exits_bounded s h some =
      let part = part_of (graph_bytes g) s in
      let n = count_of (graph_bytes g) in
      let size = held_state g.image g.isgraph s h some in
      let long = exits_length part in
      let few : length (exits_from part) ≤ 1024 = omega (arith, size.0, size.1) in (
        few,
        All-from_get_or (ExitBounds n) (exits_from part) no_exit
            (λ j l. let m : j < (length part - 4) / 4 = omega arith in
            let x = held_exit g.image g.isgraph s h (4 + 4 * j) (omega arith, omega (arith, size.0), omega arith) in
            subst (ExitBounds n) (sym (exit_there part j no_exit m)) (record { event = x.0; target = x.2 })),
      )

  pub bounded : Bounds (meaning_of (graph_bytes g))
  bounded = record {
    size = held_count g.image g.isgraph;
    states = λ s h.
        let part = part_of (graph_bytes g) s in
        cond_both (length part == 0) (closed empty_part 0) (opened (exits_from part)) (StateBounds (count_of (graph_bytes g)))
        (λ e. omega arith)
        (λ e. let some = false-eqb (length part) 0 (sym e) in exits_bounded s h (omega arith));
  }

  pub lines_bounded : LineBounds (count_of (graph_bytes g)) (lines_of (graph_bytes g))
  lines_bounded s h =
      let bs = graph_bytes g in
      let low = part_octets bs g.image.octets s in
      cond_both (length (part_of bs s) == 0) 0 (number32 (part_of bs s) 0) (λ n. n < 2 ^ 32)
      (λ e. omega arith)
      (λ e. omega (arith, low 0, low (0 + 1), low (0 + 2), low (0 + 3)))
