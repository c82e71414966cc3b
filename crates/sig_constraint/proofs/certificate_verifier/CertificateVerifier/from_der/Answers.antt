-- The call returns the result for the certificate.
use Rattle.std.proofs.Common.{◌≡◌, Ok, Err, w64, FitsSigned, arith, rules, sym, subst, ap, refl, inl, inr}
use Rattle.std.specs.Option.{option_copied}
use Rattle.std.proofs.lemmas.Int.{ints, to_z-of_z}
use Rattle.sig_constraint.proofs.KeyLaws.{certified_at, comes_law, made_is, never_refused, refused_law}
use Rattle.sig_constraint.proofs.certificate_verifier.CertificateVerifier.from_der.Goals as goal

pub returns-clause-made : goal.returns-clause-made
returns-clause-made g c =
    let fits : FitsSigned w64 c.args.now = first_of (omega (arith, ints, c.ranges.now.sfits), search rules) in
    made_is (g.C.SignatureChecker.cert_accepts c.args.checker) c.args.cert_bytes.now (option_copied c.args.cert_chain)
    c.args.now (g.C.SignatureChecker.spki_accepts c.args.checker) c.args.require_rekor_bundle
    c.in_ok-certificate.certificate c.in_ok-certificate.key
    (certified_at (g.C.SignatureChecker.cert_accepts c.args.checker) c.args.cert_bytes.now
    (option_copied c.args.cert_chain) _ c.args.now (to_z-of_z w64 c.args.now fits)
    (Ok (c.in_ok-certificate.certificate, c.in_ok-certificate.key)) c.in_ok-certificate.ensures)

pub returns-clause-refused : goal.returns-clause-refused
returns-clause-refused g c e said =
    let fits : FitsSigned w64 c.args.now = first_of (omega (arith, ints, c.ranges.now.sfits), search rules) in
    absurd (never_refused (g.C.SignatureChecker.cert_accepts c.args.checker) c.args.cert_bytes.now
    (option_copied c.args.cert_chain) c.args.now (c.in_ok-certificate.certificate, c.in_ok-certificate.key)
    (certified_at (g.C.SignatureChecker.cert_accepts c.args.checker) c.args.cert_bytes.now
    (option_copied c.args.cert_chain) _ c.args.now (to_z-of_z w64 c.args.now fits)
    (Ok (c.in_ok-certificate.certificate, c.in_ok-certificate.key)) c.in_ok-certificate.ensures) e said)

pub returns-in_err-certificate-clause-comes : goal.returns-in_err-certificate-clause-comes
returns-in_err-certificate-clause-comes g c key said =
    let is : c.from_residual.result ≡ Err c.in_err-certificate.field-0.0 = search rules in
    let fits : FitsSigned w64 c.args.now = first_of (omega (arith, ints, c.ranges.now.sfits), search rules) in
    let memory = comes_law (g.C.SignatureChecker.cert_accepts c.args.checker) c.args.cert_bytes.now
    (option_copied c.args.cert_chain) c.args.now c.in_err-certificate.field-0.0
    (certified_at (g.C.SignatureChecker.cert_accepts c.args.checker) c.args.cert_bytes.now
    (option_copied c.args.cert_chain) _ c.args.now (to_z-of_z w64 c.args.now fits)
    (Err c.in_err-certificate.field-0.0) c.in_err-certificate.ensures) key said in
    inl (rw (is, memory) refl)

pub returns-in_err-certificate-clause-err : goal.returns-in_err-certificate-clause-err
returns-in_err-certificate-clause-err g c =
    let is : c.from_residual.result ≡ Err c.in_err-certificate.field-0.0 = search rules in
    let fits : FitsSigned w64 c.args.now = first_of (omega (arith, ints, c.ranges.now.sfits), search rules) in
    let judged = certified_at (g.C.SignatureChecker.cert_accepts c.args.checker) c.args.cert_bytes.now
    (option_copied c.args.cert_chain) _ c.args.now (to_z-of_z w64 c.args.now fits)
    (Err c.in_err-certificate.field-0.0) c.in_err-certificate.ensures in
    rw is judged.err

pub returns-in_err-certificate-clause-refused : goal.returns-in_err-certificate-clause-refused
returns-in_err-certificate-clause-refused g c e said =
    let is : c.from_residual.result ≡ Err c.in_err-certificate.field-0.0 = search rules in
    let fits : FitsSigned w64 c.args.now = first_of (omega (arith, ints, c.ranges.now.sfits), search rules) in
    let judged = certified_at (g.C.SignatureChecker.cert_accepts c.args.checker) c.args.cert_bytes.now
    (option_copied c.args.cert_chain) _ c.args.now (to_z-of_z w64 c.args.now fits)
    (Err c.in_err-certificate.field-0.0) c.in_err-certificate.ensures in
    elim (refused_law (g.C.SignatureChecker.cert_accepts c.args.checker) c.args.cert_bytes.now
    (option_copied c.args.cert_chain) c.args.now (Err c.in_err-certificate.field-0.0) c.in_err-certificate.field-0.0 refl
    judged e said) [
      | inl memory ↦ inl (rw (is, memory) refl)
      | inr same ↦ inr (rw (is, same) refl)
    ]
