-- The certificate and its key, or their error.
use Rattle.std.proofs.Common.{◌≡◌, Ok, Err, w64, FitsSigned, arith, rules, sym, subst}
use Rattle.std.specs.Option.{option_copied}
use Rattle.std.proofs.lemmas.Int.{ints, to_z-of_z}
use Rattle.sig_constraint.proofs.KeyLaws.{key_at, keyed_as, unkeyed_as, unread_as}
use Rattle.sig_constraint.proofs.certificate_verifier.certified.Goals as goal

pub returns-in_err-certificate : goal.returns-in_err-certificate
returns-in_err-certificate g c =
    let is : c.from_residual.result ≡ Err c.in_err-certificate.field-0.0 = search rules in
    unread_as (g.C.SignatureChecker.cert_accepts c.args.checker.now) c.args.der.now (option_copied c.args.chain)
    c.args.now c.in_err-certificate.field-0.0 c.from_residual.result is c.in_err-certificate.ensures

pub returns-in_err-key : goal.returns-in_err-key
returns-in_err-key g c =
    let is : c.from_residual-in_err-key.result ≡ Err c.in_err-key.field-0.0 = search rules in
    let fits : FitsSigned w64 c.args.now = first_of (omega (arith, ints, c.ranges.now.sfits), search rules) in
    unkeyed_as (g.C.SignatureChecker.cert_accepts c.args.checker.now) c.args.der.now (option_copied c.args.chain)
    c.args.now c.certificates.ensures c.in_ok-certificate.certificate c.in_ok-certificate.ensures.found
    c.in_err-key.field-0.0
    c.from_residual-in_err-key.result is
    (key_at (g.C.SignatureChecker.cert_accepts c.args.checker.now) (option_copied c.args.chain)
    c.in_ok-certificate.certificate _ c.args.now (to_z-of_z w64 c.args.now fits) (Err c.in_err-key.field-0.0)
    c.in_err-key.ensures)

pub returns : goal.returns
returns g c =
    let fits : FitsSigned w64 c.args.now = first_of (omega (arith, ints, c.ranges.now.sfits), search rules) in
    keyed_as (g.C.SignatureChecker.cert_accepts c.args.checker.now) c.args.der.now (option_copied c.args.chain)
    c.args.now c.certificates.ensures c.in_ok-certificate.certificate c.in_ok-certificate.ensures.found c.in_ok-key.key
    (key_at (g.C.SignatureChecker.cert_accepts c.args.checker.now) (option_copied c.args.chain)
    c.in_ok-certificate.certificate _ c.args.now (to_z-of_z w64 c.args.now fits) (Ok c.in_ok-key.key)
    c.in_ok-key.ensures)
