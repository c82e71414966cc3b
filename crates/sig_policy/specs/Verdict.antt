-- The result of a policy.
use Rattle.std.specs.Prelude.{◌≡◌, Bool, true, false, Result, Ok, Err}
use Rattle.sig_base.specs.Answers.{OrMemory}
use Rattle.sig_policy.specs.Refusals.{Refusal, IsRefusal}
use Rattle.sig_policy.specs.declared.failure.PolicyError.{PolicyError}
use Rattle.sig_policy.specs.declared.failure.PolicyError.TheVariants.{OutOfMemory}

-- Ok only if the policy holds; else memory ran out, or the policy does not hold and the error says its refusal
abbrev pub IsPolicyResult : {A : Type 0} → Bool → Refusal → Result A PolicyError → Type 0
IsPolicyResult holds refusal (Ok _) = holds ≡ true
IsPolicyResult holds refusal (Err e) = OrMemory OutOfMemory e ((holds ≡ false) × IsRefusal refusal e)
