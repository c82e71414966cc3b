-- The clauses of a bundle's own checks, in the words of the bundle.
use Rattle.std.proofs.Common.{◌≡◌, ◌≢◌, ◌⊎◌, ◌↔◌, inl, inr, Result, Ok, Err, sym, subst, ◌∙◌}
use Rattle.sig_base.proofs.ResultSteps.{err_is}
use Rattle.sig_base.specs.Answers.{ComesWhere, UnlessMemory}
use Rattle.sig_bundle.specs.AnswersOnly.{AnswersOnly}
use Rattle.sig_bundle.specs.declared.bundle.Bundle.{Bundle}
use Rattle.sig_checked_bundle.specs.Checked.{Checked, IsChecked}
use Rattle.sig_checked_bundle.specs.Passed.{IsPassed}
use Rattle.sig_checked_bundle.specs.Refusals.{IsCause}
use Rattle.sig_checked_bundle.specs.declared.bundle_error.BundleErrorKind.{BundleErrorKind}
use Rattle.sig_checked_bundle.specs.declared.bundle_error.BundleErrorKind.TheVariants.{OutOfMemory}
use Rattle.sig_checked_bundle.proofs.PassedLaws.{passed-iff}
use Rattle.sig_checked_bundle.proofs.RefusalCauses.{refusals_have_their_cause}

only_where : {X E : Type 0} → (memory : E) (Means : Result X E → Type 0) (r answer : Result X E) (P : Type 0)
    → AnswersOnly memory Means r → answer ≢ Err memory → Means answer ↔ P → ComesWhere memory r answer P
only_where {X} {E} memory Means r answer P is other law = (to, λ p. is.1 answer (law.1 p)) where
  by : UnlessMemory memory r (Means r) → r ≡ answer → P
  by (inl out) e = absurd (other (sym e ∙ out))
  by (inr meant) e = law.0 (subst Means e meant)

  to : r ≡ answer → P
  to e = by is.0 e

module _ (b : Bundle) (result : Result Checked BundleErrorKind)
    (is : AnswersOnly OutOfMemory (IsChecked b) result) where
  pub bundle-passed : (c : Checked) → ComesWhere OutOfMemory result (Ok c) (IsPassed b c)
  bundle-passed c =
      only_where OutOfMemory (IsChecked b) result (Ok c) (IsPassed b c) is (λ same. cc) (passed-iff b c)

  pub bundle-refused : (kind : BundleErrorKind) → kind ≢ OutOfMemory → ComesWhere OutOfMemory result (Err kind)
      (IsCause kind b)
  bundle-refused kind other =
      only_where OutOfMemory (IsChecked b) result (Err kind) (IsCause kind b) is
      (λ same. other (err_is kind OutOfMemory same)) (refusals_have_their_cause b kind)
