-- The exits of a part, one by one. Assumes nothing.
use Rattle.std.specs.Prelude.{◌≡◌, ℕ, ◌+◌, ◌-◌, ◌*◌, ◌/◌, ◌<◌, ◌≤◌, length, Some, slice_index_or}
use Rattle.std.proofs.Common.{ap, ◌∙◌, arith}
use Rattle.std.specs.List.{slice_get}
use Rattle.std.proofs.lemmas.List.FromFn.{length-map-range_with_len, get_or-map-range_with_len}
use Rattle.std.proofs.lemmas.Option.{slice_get-get_or}
use Rattle.graph.specs.declared.Exit.{Exit}
use Rattle.name.specs.Names.{Bytes}
use Rattle.image_graph.specs.Parts.{exit_at, exits_from}

pub no_exit : Exit
no_exit = record { event = 0; target = 0 }

module _ (part : Bytes) where
  pub exits_length : length (exits_from part) ≡ (length part - 4) / 4
  exits_length = length-map-range_with_len (λ j. exit_at part (4 + 4 * j)) 0 ((length part - 4) / 4)

  pub exit_there : (k : ℕ) (d : Exit) → k < (length part - 4) / 4 → slice_index_or (exits_from part) k d ≡ exit_at part (4 + 4 * k)
  exit_there k d h = get_or-map-range_with_len (λ j. exit_at part (4 + 4 * j)) 0 ((length part - 4) / 4) k k d h (omega arith)

  pub nth_there : (k : ℕ) → k < (length part - 4) / 4 → slice_get (exits_from part) k ≡ Some (exit_at part (4 + 4 * k))
  nth_there k h =
      let n = exits_length in
      slice_get-get_or (exits_from part) k no_exit (omega arith) ∙ ap (λ x. Some x) (exit_there k no_exit h)

  -- an exit ends inside the part
  pub exit_inside : (n j : ℕ) → 4 ≤ length part → n ≡ length (exits_from part) → j < n → 4 + 4 * j + 4 ≤ length part
  exit_inside n j lined e h = omega (arith, exits_length)
