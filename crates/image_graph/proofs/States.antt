-- A part spells one state, and valid bytes one graph. Assumes nothing.
use Rattle.std.proofs.Common.{◌≡◌, ℕ, ◌+◌, ◌*◌, ◌<◌, eqb, List, length, Some, sym, refl, ap, subst, ⊎_elim, arith}
use Rattle.std.specs.List.{slice_get}
use Rattle.std.proofs.lemmas.List.{ext_get_or}
use Rattle.std.proofs.lemmas.Option.{slice_get-get_or}
use Rattle.std.proofs.lemmas.Bool.{cond-true, cond-false, eq-eqb, ne_eqb}
use Rattle.refusal.specs.Reasons.{empty_part}
use Rattle.graph.specs.Meanings.{Meaning, State, opened, closed}
use Rattle.graph.specs.declared.Exit.{Exit}
use Rattle.name.specs.Names.{Bytes}
use Rattle.image.specs.Bytes.{number32, part_of}
use Rattle.image.specs.Kinds.{LengthAllowed}
use Rattle.image.specs.Images.{Valid}
use Rattle.image.specs.declared.Kind.TheVariants.{Graph}
use Rattle.image.proofs.Breaking.{part_length}
use Rattle.image.proofs.Keeping.{valid_kept}
use Rattle.image_graph.specs.Parts.{StatePart, empty, lined, exit_at, exits_from, state_of, source_line}
use Rattle.image_graph.specs.Held.{meaning_of, lines_of, graph_bytes}
use Rattle.image_graph.specs.Images.{GraphImage, Alike, AcceptedGraph}
use Rattle.image_graph.specs.declared.held.ImageGraph.{ImageGraph}
use Rattle.image_graph.specs.Spelling.{no_exit, exits_length, nth_there}

module _ (part : Bytes) where
  -- a part of a length that is allowed spells the state that is worked out
  pub spells : LengthAllowed Graph (length part) → StatePart part (state_of part) (source_line part)
  spells allowed =
      ⊎_elim
      (λ none. let t = eq-eqb (length part) 0 none in
      let st : state_of part ≡ closed empty_part 0 = cond-true (eqb (length part) 0) (closed empty_part 0) (opened (exits_from part)) t in
      let ln : source_line part ≡ 0 = cond-true (eqb (length part) 0) 0 (number32 part 0) t in
      subst (λ s. StatePart part s (source_line part)) (sym st) (subst (StatePart part (closed empty_part 0)) (sym ln) (empty none)))
      (λ some. let t = ne_eqb (length part) 0 (λ e. omega (arith, some.0)) in
      let st : state_of part ≡ opened (exits_from part) = cond-false (eqb (length part) 0) (closed empty_part 0) (opened (exits_from part)) t in
      let ln : source_line part ≡ number32 part 0 = cond-false (eqb (length part) 0) 0 (number32 part 0) t in
      let n = exits_length part in
      let long : length part ≡ 4 + 4 * length (exits_from part) = omega (arith, some.0, some.2) in
      subst (λ s. StatePart part s (source_line part)) (sym st)
      (subst (StatePart part (opened (exits_from part))) (sym ln) (lined (exits_from part) long (λ j h. nth_there part j (omega arith)))))
      allowed

  same_exits : (xs ys : List Exit) → length part ≡ 4 + 4 * length xs → length part ≡ 4 + 4 * length ys
      → ((j : ℕ) → j < length xs → slice_get xs j ≡ Some (exit_at part (4 + 4 * j))) → ((j : ℕ) → j < length ys → slice_get ys j ≡ Some (exit_at part (4 + 4 * j))) → ys ≡ xs
  same_exits xs ys n m f g =
      ext_get_or no_exit ys xs (omega arith)
      (λ j h. let a = f j (omega arith) in
      let b = g j h in
      let x = slice_get-get_or xs j no_exit (omega arith) in
      let y = slice_get-get_or ys j no_exit h in
      cc)

  -- a part spells one state and one line
  pub one_state : {s t : State} {l m : ℕ} → StatePart part s l → StatePart part t m → (t ≡ s) × (m ≡ l)
  one_state (empty h) (empty k) = (refl, refl)
  one_state (empty h) (lined ys m g) = absurd (omega arith)
  one_state (lined xs n f) (empty k) = absurd (omega arith)
  one_state (lined xs n f) (lined ys m g) = (ap opened (same_exits xs ys n m f g), refl)

module _ (bs : Bytes) (v : Valid Graph bs) where
  pub spells_graph : GraphImage bs (meaning_of bs) (lines_of bs)
  spells_graph = record {
    valid = v;
    counted = refl;
    spelled = λ i h. spells (part_of bs i) (subst (LengthAllowed Graph) (sym (part_length bs v.placed i h)) (v.sized i h));
  }

  -- an image has one graph
  pub one_graph : (H : Meaning) (others : ℕ → ℕ) → GraphImage bs H others → Alike (meaning_of bs) (lines_of bs) H others
  one_graph H others g =
      record {
        states = record { size = g.counted; states = λ i h. (one_state (part_of bs i) (spells_graph.spelled i h) (g.spelled i h)).0 };
        lines_too = λ i h. (one_state (part_of bs i) (spells_graph.spelled i h) (g.spelled i h)).1;
      }

pub accepted : (bs : Bytes) → Valid Graph bs → (g : ImageGraph) → graph_bytes g ≡ bs → AcceptedGraph bs g
accepted bs v g same = record {
  held = same;
  spelled = subst (λ x. GraphImage bs (meaning_of x) (lines_of x)) (sym same) (spells_graph bs v);
  only = λ H others i. subst (λ x. Alike (meaning_of x) (lines_of x) H others) (sym same) (one_graph bs v H others i);
  kept = valid_kept Graph bs v;
}
