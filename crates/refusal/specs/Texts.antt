-- The text of a refusal. Assumes nothing.
use Rattle.std.specs.Prelude.{ℕ, List, ◌∷◌, ◌++◌, decimal}
use Rattle.refusal.specs.Reasons.{number_of}
use Rattle.refusal.specs.declared.Refusal.{Refusal}

-- the number of its reason, its place and its depth, parted by blanks
abbrev pub refusal_text : Refusal → List ℕ
refusal_text why = decimal (number_of why.reason) ++ 32 ∷ decimal why.place ++ 32 ∷ decimal why.depth
