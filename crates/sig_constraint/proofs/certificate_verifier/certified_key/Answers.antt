-- The certificate passes every check.
use Rattle.std.proofs.Common.{w64, FitsSigned, arith, rules}
use Rattle.std.specs.Option.{option_copied}
use Rattle.std.proofs.lemmas.Int.{ints, to_z-of_z}
use Rattle.sig_constraint.proofs.KeyLaws.{trusted_now}
use Rattle.sig_constraint.proofs.certificate_verifier.certified_key.Goals as goal

pub returns : goal.returns
returns g c =
    let fits : FitsSigned w64 c.args.now = first_of (omega (arith, ints, c.ranges.now.sfits), search rules) in
    trusted_now (g.C.SignatureChecker.cert_accepts c.args.checker.now) (option_copied c.args.chain)
    c.args.certificate.now _ _ c.args.now (to_z-of_z w64 c.args.now fits) (to_z-of_z w64 c.args.now fits)
    c.spki.result.now c.spki.ensures c.try_from_spki.result c.in_ok-check_signer.ensures c.in_ok-check_chain.ensures
    c.try_from_spki.ensures.answer
