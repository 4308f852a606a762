-- Rules after rules. Assumes nothing.
use Rattle.std.proofs.Common.{inl, inr}
use Rattle.refusal.specs.Rules.{Rules, no_more, rule, ◌and_then◌, Kept, FirstBroken}
use Rattle.refusal.specs.declared.Refusal.{Refusal}

-- rules that are kept break in no place
pub kept_unbroken : (R : Rules) (r : Refusal) → Kept R → FirstBroken R r → ⊥
kept_unbroken no_more r k b = b
kept_unbroken (rule why Broken later) r k (inl b) = k.0 r.place b.broken
kept_unbroken (rule why Broken later) r k (inr b) = kept_unbroken later r k.1 b.1

-- a rule of the earlier ones is broken first
pub broken_early : (R S : Rules) (r : Refusal) → FirstBroken R r → FirstBroken (R and_then S) r
broken_early no_more S r b = absurd b
broken_early (rule why Broken later) S r (inl b) = inl b
broken_early (rule why Broken later) S r (inr b) = inr (b.0, broken_early later S r b.1)

-- the earlier rules are kept
pub broken_late : (R S : Rules) (r : Refusal) → Kept R → FirstBroken S r → FirstBroken (R and_then S) r
broken_late no_more S r k b = b
broken_late (rule why Broken later) S r k b = inr (k.0, broken_late later S r k.1 b)

pub kept_both : (R S : Rules) → Kept R → Kept S → Kept (R and_then S)
kept_both no_more S k l = l
kept_both (rule why Broken later) S k l = (k.0, kept_both later S k.1 l)
