-- Rules that are checked in an order, and the refusal that follows from them. Assumes nothing.
use Rattle.std.specs.Prelude.{◌≡◌, ℕ, ◌≤◌, ◌⊎◌}
use Rattle.refusal.specs.Reasons.{refused_at}
use Rattle.refusal.specs.declared.Reason.{Reason}
use Rattle.refusal.specs.declared.Refusal.{Refusal}

-- Rules in the order of checking, each with its reason and with the places where it is broken.
pub data Rules : Type 1 where
  no_more : Rules
  rule : (why : Reason) (Broken : ℕ → Type 0) (later : Rules) → Rules

-- some rules, and others after them
abbrev pub ◌and_then◌ : Rules → Rules → Rules
◌and_then◌ no_more others = others
◌and_then◌ (rule why Broken later) others = rule why Broken (later and_then others)

infixr 20 ◌and_then◌
-- a rule that is broken nowhere
abbrev pub Nowhere : (ℕ → Type 0) → Type 0
Nowhere Broken = (p : ℕ) → Broken p → ⊥

-- no rule is broken
abbrev pub Kept : Rules → Type 0
Kept no_more = Unit {0}
Kept (rule why Broken later) = Nowhere Broken × Kept later

-- the rule is broken, and this refusal names it with the first place where it is
pub record Breaks (why : Reason) (Broken : ℕ → Type 0) (r : Refusal) : Type 0 where
  pub broken : Broken r.place
  pub first : (p : ℕ) → Broken p → r.place ≤ p
  pub named : r ≡ refused_at why r.place

-- the refusal is that of the first rule that is broken
abbrev pub FirstBroken : Rules → Refusal → Type 0
FirstBroken no_more r = ⊥
FirstBroken (rule why Broken later) r = Breaks why Broken r ⊎ (Nowhere Broken × FirstBroken later r)
