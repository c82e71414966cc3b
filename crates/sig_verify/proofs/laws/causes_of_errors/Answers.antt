use Rattle.sig_verify.proofs.OfflineCauses.{offline_errors_have_their_cause}
use Rattle.sig_verify.proofs.laws.causes_of_errors.Goals as goal

pub returns : goal.returns
returns c =
    offline_errors_have_their_cause (record {
      one = c.certificates.ensures;
      passed = c.passed_bundles.ensures;
      bundles = c.bundles.ensures;
      roots = c.roots.ensures;
      proofs = record { proofs = c.proofs.ensures; faults = c.proof_faults.ensures };
    }) c.causes_of_refusals.ensures
