use Rattle.std.proofs.Common.{◌++◌, inr}
use Rattle.sig_dsse.specs.declared.artifact_digest.ArtifactDigest.TheVariants.{Sha256}
use Rattle.sig_verify.proofs.Artifacts.{never_unread, of_digest}
use Rattle.sig_verify.specs.BundleLinks.{bundle_links}
use Rattle.sig_verify.specs.CertificateLinks.{certificate_links}
use Rattle.sig_verify.specs.Judged.{Judged}
use Rattle.sig_verify.specs.LinkLaws.{HoldsOfVerified, renamed, trust_of}
use Rattle.sig_verify.specs.Verdict.{checker_of, policy_of}
use Rattle.sig_verify.specs.declared.artifact.InputFault.TheVariants.{Fault, TooLong}
use Rattle.sig_verify.proofs.verifier.Verifier.verify.Goals as goal

pub returns-in-Ok-clause-links : goal.returns-in-Ok-clause-links
returns-in-Ok-clause-links g c =
    inr (of_digest _ _ c.in-Ok.digest c.verify_digest.result
    (λ bytes. Judged (HoldsOfVerified (checker_of g.C.SignatureChecker c.args.checker.now)
    (policy_of g.P.VerificationPolicy c.args.policy.now) (trust_of c.args.self.now) (Sha256 bytes) c.args.offline
    c.args.bundle.now) (bundle_links ++ certificate_links) (renamed c.verify_digest.result))
    c.in-Ok.ensures.ok c.verify_digest.ensures.links)

pub returns-in-Ok-clause-long : goal.returns-in-Ok-clause-long
returns-in-Ok-clause-long g c = λ is.
    absurd (never_unread (HoldsOfVerified (checker_of g.C.SignatureChecker c.args.checker.now)
    (policy_of g.P.VerificationPolicy c.args.policy.now) (trust_of c.args.self.now) (Sha256 c.in-Ok.digest)
    c.args.offline c.args.bundle.now) (bundle_links ++ certificate_links) c.verify_digest.result
    c.verify_digest.ensures.links (TooLong, is))

pub returns-in-Ok-clause-fault : goal.returns-in-Ok-clause-fault
returns-in-Ok-clause-fault g c = λ is.
    absurd (never_unread (HoldsOfVerified (checker_of g.C.SignatureChecker c.args.checker.now)
    (policy_of g.P.VerificationPolicy c.args.policy.now) (trust_of c.args.self.now) (Sha256 c.in-Ok.digest)
    c.args.offline c.args.bundle.now) (bundle_links ++ certificate_links) c.verify_digest.result
    c.verify_digest.ensures.links (Fault, is))
