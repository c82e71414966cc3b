use Rattle.std.proofs.Common.{ℤ, subst}
use Rattle.std.proofs.Math.Facts.{to_z-of_z}
use Rattle.sig_x509.specs.PathText.{IsJudgedText}
use Rattle.sig_x509.proofs.uncounted.der_on.Goals as goal

pub returns : goal.returns
returns g c = record {
  judged =
      subst (λ (s : ℤ). IsJudgedText (g.C.SignatureChecker.cert_accepts c.args.checker.now) c.args.pool.now
      c.args.der.now s c.check_der.result)
      (to_z-of_z c.ranges.verification_time) c.check_der.ensures.judged;
}
