-- The refusals of policies, as contracts see them.
use Rattle.std.specs.Prelude.{◌≡◌, ℕ, List}
use Rattle.sig_policy.specs.declared.failure.PolicyError.{PolicyError, out-PolicyError}
use Rattle.sig_policy.specs.declared.failure.PolicyErrors.{PolicyErrors}
use Rattle.sig_policy.specs.declared.failure.PolicyError.TheOpen as opened
use Rattle.sig_policy.specs.declared.failure.PolicyError.TheOpen.{PolicyError-F}

-- the list of them
abbrev pub failures : PolicyErrors → List PolicyError
failures es = es.items.items

abbrev pub opens_as_all_of : ℕ → List PolicyError → PolicyError-F PolicyError PolicyErrors → Type 0
opens_as_all_of total errors (opened.AllOf n es) = (n ≡ total) × (es.items.items ≡ errors)
opens_as_all_of total errors e = ⊥

-- the refusal of a list of policies of which each has to hold: their number, and the refusals of those that do not
-- hold
abbrev pub IsAllOf : ℕ → List PolicyError → PolicyError → Type 0
IsAllOf total errors e = opens_as_all_of total errors (out-PolicyError e)
