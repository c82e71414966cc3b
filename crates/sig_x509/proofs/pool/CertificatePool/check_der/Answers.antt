-- The certificate of the text is the only one, and its answer is that of its record.
use Rattle.std.proofs.Common.{ℤ, [], inl, inr, refl, subst}
use Rattle.std.proofs.Math.Facts.{to_z-of_z}
use Rattle.sig_certificate.proofs.Readings.{read_same, der_only}
use Rattle.sig_x509.specs.PathSearch.{path_issuer}
use Rattle.sig_x509.specs.PathText.{Meant}
use Rattle.sig_x509.specs.Pool.{Pool, with_further}
use Rattle.sig_x509.proofs.PathClauses.{none_further}
use Rattle.sig_x509.proofs.pool.CertificatePool.check_der.Goals as goal

pub returns-in-Ok-clause-judged : goal.returns-in-Ok-clause-judged
returns-in-Ok-clause-judged g c =
    let accepts = g.C.SignatureChecker.cert_accepts c.args.checker.now in
    inl (
      c.in-Ok.leaf,
      record { is = c.in-Ok.ensures.found; only = λ d is. read_same c.in-Ok.leaf d (c.in-Ok.ensures.only d is) },
      subst (λ (p : Pool). Meant c.find_issuer.result (path_issuer accepts p c.in-Ok.leaf c.args.time))
          (none_further c.args.self.now)
          (subst (λ (s : ℤ). Meant c.find_issuer.result
          (path_issuer accepts (with_further c.args.self.now []) c.in-Ok.leaf s))
          (to_z-of_z c.ranges.time) c.find_issuer.ensures.exact),
    )

pub returns-in-Err-Der-clause-judged : goal.returns-in-Err-Der-clause-judged
returns-in-Err-Der-clause-judged g c =
    inr (inl (der_only c.args.der.now c.in-Err-Der.field-0 c.in-Err-Der.field-0-is c.in-Err-Der.ensures.refused, refl))
