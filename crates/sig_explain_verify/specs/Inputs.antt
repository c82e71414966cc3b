-- What an explanation is made of: what a bundle was verified with.
use Rattle.std.specs.Prelude.{ℕ, ℤ, List}
use Rattle.sig_base.specs.declared.checker.AcceptedRow.{AcceptedRow}
use Rattle.sig_dsse.specs.declared.artifact_digest.ArtifactDigest.{ArtifactDigest}
use Rattle.sig_policy.specs.declared.request.RequestPolicy.{RequestPolicy}
use Rattle.sig_explain_verify.specs.declared.inputs.VerifyInputs.{VerifyInputs}

pub record Inputs : Type 0 where
  -- the texts of the trusted root and of the bundle
  pub root : List ℕ
  pub bundle : List ℕ
  -- in whole seconds since 1970
  pub now : ℤ
  pub digest : ArtifactDigest
  pub policy : RequestPolicy
  pub accepted : List AcceptedRow

-- what was borrowed
abbrev pub inputs_of : VerifyInputs → Inputs
inputs_of v = record {
  root = v.trusted_root.now;
  bundle = v.bundle.now;
  now = v.now;
  digest = v.digest.now;
  policy = v.policy.now;
  accepted = v.accepted.now;
}
