-- The clauses follow from the judgement of the bytes.
use Rattle.std.proofs.Common.{ℤ, subst}
use Rattle.std.proofs.Math.Facts.{to_z-of_z}
use Rattle.sig_x509.specs.PathText.{IsJudgedText}
use Rattle.sig_x509.proofs.PathClauses.{text_asked, text_certificate, text_issued, text_malformed, text_unissued}
use Rattle.sig_x509.proofs.pool.CertificatePool.verify_der_cert.Goals as goal

pub returns-clause-issued : goal.returns-clause-issued
returns-clause-issued g c =
    let accepts = g.C.SignatureChecker.cert_accepts c.args.checker.now in
    text_issued accepts c.args.self.now c.args.der.now c.args.verification_time c.check_der.result
    (subst (λ (s : ℤ). IsJudgedText accepts c.args.self.now c.args.der.now s c.check_der.result)
    (to_z-of_z c.ranges.verification_time) c.check_der.ensures.judged)

pub returns-clause-malformed : goal.returns-clause-malformed
returns-clause-malformed g c =
    let accepts = g.C.SignatureChecker.cert_accepts c.args.checker.now in
    text_malformed accepts c.args.self.now c.args.der.now c.args.verification_time c.check_der.result
    (subst (λ (s : ℤ). IsJudgedText accepts c.args.self.now c.args.der.now s c.check_der.result)
    (to_z-of_z c.ranges.verification_time) c.check_der.ensures.judged)

pub returns-clause-none : goal.returns-clause-none
returns-clause-none g c =
    let accepts = g.C.SignatureChecker.cert_accepts c.args.checker.now in
    text_unissued accepts c.args.self.now c.args.der.now c.args.verification_time c.check_der.result
    (subst (λ (s : ℤ). IsJudgedText accepts c.args.self.now c.args.der.now s c.check_der.result)
    (to_z-of_z c.ranges.verification_time) c.check_der.ensures.judged)

pub returns-clause-asked : goal.returns-clause-asked
returns-clause-asked g c =
    let accepts = g.C.SignatureChecker.cert_accepts c.args.checker.now in
    text_asked accepts c.args.self.now c.args.der.now c.args.verification_time c.check_der.result
    (subst (λ (s : ℤ). IsJudgedText accepts c.args.self.now c.args.der.now s c.check_der.result)
    (to_z-of_z c.ranges.verification_time) c.check_der.ensures.judged)

pub returns-clause-certificate : goal.returns-clause-certificate
returns-clause-certificate g c =
    let accepts = g.C.SignatureChecker.cert_accepts c.args.checker.now in
    text_certificate accepts c.args.self.now c.args.der.now c.args.verification_time c.check_der.result
    (subst (λ (s : ℤ). IsJudgedText accepts c.args.self.now c.args.der.now s c.check_der.result)
    (to_z-of_z c.ranges.verification_time) c.check_der.ensures.judged)
