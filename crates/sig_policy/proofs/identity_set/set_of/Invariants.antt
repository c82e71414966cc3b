use Rattle.std.proofs.Common.{◌≡◌, ℕ, List, take}
use Rattle.sig_policy.specs.IdentitySet.{has_text}
use Rattle.sig_policy.proofs.identity_set.set_of.Given as goal

-- the set has the texts so far
abbrev pub invariant-loop-text : goal.invariant-loop-text
invariant-loop-text l = (q : List ℕ) → has_text l.set.keys q ≡ has_text (take l.text-index l.texts) q
