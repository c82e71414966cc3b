use Rattle.sig_payload.proofs.Promises.{clause-err, clause-found, clause-only, clause-refused}
use Rattle.sig_payload.specs.Bundles.{bundle_answer, bundle_of}
use Rattle.sig_payload.proofs.bundle.Bundle.new_verified.Goals as goal

pub returns-clause-found : goal.returns-clause-found
unfolding bundle_answer
returns-clause-found g c =
    clause-found (g.C.SignatureChecker.spki_accepts c.args.checker.now) c.args.rekor_pub_keys.now (λ bundle. bundle) (bundle_of c.args.raw.now) c.verified_bundle.result c.verified_bundle.ensures

pub returns-clause-only : goal.returns-clause-only
unfolding bundle_answer
returns-clause-only g c =
    λ x. clause-only (g.C.SignatureChecker.spki_accepts c.args.checker.now) c.args.rekor_pub_keys.now (λ bundle. bundle) (bundle_of c.args.raw.now) c.verified_bundle.result x c.verified_bundle.ensures

pub returns-clause-err : goal.returns-clause-err
unfolding bundle_answer
returns-clause-err g c =
    clause-err (g.C.SignatureChecker.spki_accepts c.args.checker.now) c.args.rekor_pub_keys.now (λ bundle. bundle) (bundle_of c.args.raw.now) c.verified_bundle.result c.verified_bundle.ensures

pub returns-clause-refused : goal.returns-clause-refused
unfolding bundle_answer
returns-clause-refused g c =
    λ e. clause-refused (g.C.SignatureChecker.spki_accepts c.args.checker.now) c.args.rekor_pub_keys.now (λ bundle. bundle) (bundle_of c.args.raw.now) c.verified_bundle.result e c.verified_bundle.ensures
