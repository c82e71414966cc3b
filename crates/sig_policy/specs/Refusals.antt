-- The refusals of policies, as contracts see them, and which error says which.
use Rattle.std.specs.Prelude.{◌≡◌, ℕ, List, [], ◌∷◌, Option, Some, None}
use Rattle.sig_policy.specs.Failures.{IsAllOf}
use Rattle.sig_policy.specs.declared.failure.PolicyError.{PolicyError}
use Rattle.sig_policy.specs.declared.failure.PolicyError.TheVariants.{ExtensionNotFound, ExtensionCheckFailed, AnyOf}

-- *Refusal*: why a policy does not hold of a certificate. Out of memory is not a refusal.
mutual
  pub data Refusal : Type 0 where
    not_found : Refusal
    -- the policy's name, the text that it asks for, and the text that the certificate has
    check_failed : List ℕ → List ℕ → List ℕ → Refusal
    -- the number of policies, and the refusals of those that do not hold
    all_of : ℕ → Refusals → Refusal
    any_of : ℕ → Refusal

  pub data Refusals : Type 0 where
    no_refusals : Refusals
    more_refusals : Refusal → Refusals → Refusals

-- The error says this refusal.
abbrev mutual
  pub IsRefusal : Refusal → PolicyError → Type 0
  IsRefusal not_found e = e ≡ ExtensionNotFound
  IsRefusal (check_failed name asked actual) e = e ≡ ExtensionCheckFailed name asked actual
  IsRefusal (all_of total rs) e = (es : List PolicyError) × (IsAllOf total es e × AreRefusals rs es)
  IsRefusal (any_of total) e = e ≡ AnyOf total

  pub AreRefusals : Refusals → List PolicyError → Type 0
  AreRefusals no_refusals es = es ≡ []
  AreRefusals (more_refusals r rs) es = (e : PolicyError) × ((rest : List PolicyError) × ((es ≡ e ∷ rest)
      × (IsRefusal r e × AreRefusals rs rest)))

abbrev pub refusals_of : List Refusal → Refusals
refusals_of [] = no_refusals
refusals_of (r ∷ rs) = more_refusals r (refusals_of rs)

-- The error, if there is one, says the refusal, if there is one.
abbrev pub IsRefusalOf : Option Refusal → Option PolicyError → Type 0
IsRefusalOf None None = Unit {0}
IsRefusalOf None (Some e) = ⊥
IsRefusalOf (Some r) None = ⊥
IsRefusalOf (Some r) (Some e) = IsRefusal r e
