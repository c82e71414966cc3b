use Rattle.sig_payload.proofs.Promises.{clause-err, clause-found, clause-only, clause-refused}
use Rattle.sig_payload.specs.Bundles.{artifact_bundle_answer, artifact_bundle_of}
use Rattle.sig_payload.proofs.bundle.SignedArtifactBundle.new_verified.Goals as goal

pub returns-clause-found : goal.returns-clause-found
unfolding artifact_bundle_answer
returns-clause-found g c =
    clause-found (g.C.SignatureChecker.spki_accepts c.args.checker.now) c.args.rekor_pub_keys.now (λ artifact. artifact.rekor_bundle) (artifact_bundle_of c.args.raw.now) c.verified_artifact.result c.verified_artifact.ensures

pub returns-clause-only : goal.returns-clause-only
unfolding artifact_bundle_answer
returns-clause-only g c =
    λ x. clause-only (g.C.SignatureChecker.spki_accepts c.args.checker.now) c.args.rekor_pub_keys.now (λ artifact. artifact.rekor_bundle) (artifact_bundle_of c.args.raw.now) c.verified_artifact.result x c.verified_artifact.ensures

pub returns-clause-err : goal.returns-clause-err
unfolding artifact_bundle_answer
returns-clause-err g c =
    clause-err (g.C.SignatureChecker.spki_accepts c.args.checker.now) c.args.rekor_pub_keys.now (λ artifact. artifact.rekor_bundle) (artifact_bundle_of c.args.raw.now) c.verified_artifact.result c.verified_artifact.ensures

pub returns-clause-refused : goal.returns-clause-refused
unfolding artifact_bundle_answer
returns-clause-refused g c =
    λ e. clause-refused (g.C.SignatureChecker.spki_accepts c.args.checker.now) c.args.rekor_pub_keys.now (λ artifact. artifact.rekor_bundle) (artifact_bundle_of c.args.raw.now) c.verified_artifact.result e c.verified_artifact.ensures
