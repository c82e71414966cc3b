use Rattle.std.proofs.Common.{inr, w64, FitsSigned, arith, rules}
use Rattle.std.proofs.lemmas.Int.{ints, to_z-of_z}
use Rattle.sig_signer.proofs.Signers.{at_times, found_one, read_err, read_found, read_only, unread_only, unread_meant}
use Rattle.sig_signer.proofs.certificate_signature.CertificateSignature.from_der_certificate.Goals as goal

pub returns-in-Ok-clause-found : goal.returns-in-Ok-clause-found
returns-in-Ok-clause-found g c =
    let at_fits : FitsSigned w64 c.args.integrated_time = first_of
    (omega (arith, ints, c.ranges.integrated_time.sfits), search rules) in
    let now_fits : FitsSigned w64 c.args.now = first_of (omega (arith, ints, c.ranges.now.sfits), search rules) in
    read_found (g.C.SignatureChecker.cert_accepts c.args.checker.now) c.args.fulcio_cert_pool.now c.args.cert_der.now
    c.args.integrated_time c.args.now c.in-Ok.certificate c.in-Ok.ensures.found
    (found_one c.args.cert_der.now c.in-Ok.certificate c.in-Ok.ensures.only) c.signer_of.result
    (at_times (g.C.SignatureChecker.cert_accepts c.args.checker.now) c.args.fulcio_cert_pool.now c.in-Ok.certificate
    c.signer_of.result c.args.integrated_time c.args.now _ _
    (to_z-of_z w64 c.args.integrated_time at_fits) (to_z-of_z w64 c.args.now now_fits)
    c.signer_of.ensures)

pub returns-in-Ok-clause-err : goal.returns-in-Ok-clause-err
returns-in-Ok-clause-err g c =
    let at_fits : FitsSigned w64 c.args.integrated_time = first_of
    (omega (arith, ints, c.ranges.integrated_time.sfits), search rules) in
    let now_fits : FitsSigned w64 c.args.now = first_of (omega (arith, ints, c.ranges.now.sfits), search rules) in
    read_err (g.C.SignatureChecker.cert_accepts c.args.checker.now) c.args.fulcio_cert_pool.now c.args.cert_der.now
    c.args.integrated_time c.args.now c.in-Ok.certificate c.in-Ok.ensures.found
    (found_one c.args.cert_der.now c.in-Ok.certificate c.in-Ok.ensures.only) c.signer_of.result
    (at_times (g.C.SignatureChecker.cert_accepts c.args.checker.now) c.args.fulcio_cert_pool.now c.in-Ok.certificate
    c.signer_of.result c.args.integrated_time c.args.now _ _
    (to_z-of_z w64 c.args.integrated_time at_fits) (to_z-of_z w64 c.args.now now_fits)
    c.signer_of.ensures)

pub returns-in-Ok-clause-only : goal.returns-in-Ok-clause-only
returns-in-Ok-clause-only g c =
    let at_fits : FitsSigned w64 c.args.integrated_time = first_of
    (omega (arith, ints, c.ranges.integrated_time.sfits), search rules) in
    let now_fits : FitsSigned w64 c.args.now = first_of (omega (arith, ints, c.ranges.now.sfits), search rules) in
    read_only (g.C.SignatureChecker.cert_accepts c.args.checker.now) c.args.fulcio_cert_pool.now c.args.cert_der.now
    c.args.integrated_time c.args.now c.in-Ok.certificate c.in-Ok.ensures.found
    (found_one c.args.cert_der.now c.in-Ok.certificate c.in-Ok.ensures.only) c.signer_of.result
    (at_times (g.C.SignatureChecker.cert_accepts c.args.checker.now) c.args.fulcio_cert_pool.now c.in-Ok.certificate
    c.signer_of.result c.args.integrated_time c.args.now _ _
    (to_z-of_z w64 c.args.integrated_time at_fits) (to_z-of_z w64 c.args.now now_fits)
    c.signer_of.ensures)

pub returns-in-Err-Der-clause-err : goal.returns-in-Err-Der-clause-err
returns-in-Err-Der-clause-err g c =
    inr (unread_meant (g.C.SignatureChecker.cert_accepts c.args.checker.now) c.args.fulcio_cert_pool.now
    c.args.cert_der.now c.args.integrated_time c.args.now c.in-Err-Der.field-0 c.in-Err-Der.field-0-is
    c.in-Err-Der.ensures.refused)

pub returns-in-Err-Der-clause-only : goal.returns-in-Err-Der-clause-only
returns-in-Err-Der-clause-only g c =
    unread_only (g.C.SignatureChecker.cert_accepts c.args.checker.now) c.args.fulcio_cert_pool.now
    c.args.cert_der.now c.args.integrated_time c.args.now c.in-Err-Der.field-0 c.in-Err-Der.field-0-is
    c.in-Err-Der.ensures.refused
