use Rattle.std.proofs.Common.{ℤ, subst}
use Rattle.std.proofs.Math.Facts.{to_z-of_z}
use Rattle.sig_x509.specs.PathSearch.{path_issuer}
use Rattle.sig_x509.specs.PathText.{Meant}
use Rattle.sig_x509.proofs.uncounted.time_on.Goals as goal

pub returns : goal.returns
returns g c = record {
  exact =
      subst (λ (s : ℤ). Meant c.verify_cert_with_time.result
      (path_issuer (g.C.SignatureChecker.cert_accepts c.args.checker.now) c.args.pool.now c.args.leaf.now s))
      (to_z-of_z c.ranges.verification_time) c.verify_cert_with_time.ensures.exact;
}
