use Rattle.std.proofs.Common.{inr}
use Rattle.sig_verify.proofs.OfflineBytes.{bundle_bytes, bundle_read}
use Rattle.sig_verify.specs.HeldRoot.{IsOfflineUnder}
use Rattle.sig_verify.specs.Verdict.{checker_of, policy_of}
use Rattle.sig_verify.proofs.held_root.HeldRoot.judge.Goals as goal

pub returns-in-Ok-clause-bytes : goal.returns-in-Ok-clause-bytes
returns-in-Ok-clause-bytes g c =
    inr (bundle_bytes c.args.bundle.now c.in-Ok.bundle c.in-Ok.ensures c.is_certificate_bytes.ensures
    c.is_entry_bytes.ensures)

pub returns-in-Ok-clause-steps : goal.returns-in-Ok-clause-steps
returns-in-Ok-clause-steps g c =
    bundle_read c.args.bundle.now c.in-Ok.bundle
    (IsOfflineUnder (checker_of g.C.SignatureChecker c.args.inputs.now.checker.now)
    (policy_of g.P.VerificationPolicy c.args.inputs.now.policy.now) c.args.self.now c.args.inputs.now.digest.now)
    c.check_bundle.result c.in-Ok.ensures c.check_bundle.ensures
