use Rattle.sig_verify.proofs.OfflineLaws.{outcome_told}
use Rattle.sig_verify.proofs.laws.outcomes.Goals as goal

pub returns : goal.returns
returns c o i read result is =
    outcome_told (record {
      one = c.certificates.ensures;
      passed = c.passed_bundles.ensures;
      bundles = c.bundles.ensures;
      roots = c.roots.ensures;
      proofs = record { proofs = c.proofs.ensures; faults = c.proof_faults.ensures };
    }) o i read result is
