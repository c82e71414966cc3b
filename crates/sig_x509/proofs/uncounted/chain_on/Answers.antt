use Rattle.std.proofs.Common.{ℤ, subst}
use Rattle.std.proofs.Math.Facts.{to_z-of_z}
use Rattle.sig_x509.specs.PathSearch.{path_issuer}
use Rattle.sig_x509.specs.PathText.{Meant}
use Rattle.sig_x509.specs.Pool.{with_further}
use Rattle.sig_x509.proofs.uncounted.chain_on.Goals as goal

pub returns : goal.returns
returns g c = record {
  exact =
      subst (λ (s : ℤ). Meant c.find_issuer.result (path_issuer (g.C.SignatureChecker.cert_accepts c.args.checker.now)
      (with_further c.args.pool.now c.args.further.now) c.args.leaf.now s))
      (to_z-of_z c.ranges.verification_time) c.find_issuer.ensures.exact;
}
