-- The refusals are those of the key.
use Rattle.std.proofs.Common.{◌≡◌, Err, rules}
use Rattle.sig_constraint.proofs.KeyedLaws.{carried, made_not, not_meant}
use Rattle.sig_constraint.proofs.public_key_verifier.PublicKeyVerifier.try_from_der.Goals as goal

pub returns-in_err-key-clause-malformed : goal.returns-in_err-key-clause-malformed
returns-in_err-key-clause-malformed g c =
    let is : c.from_residual.result ≡ Err c.in_err-key.field-0.0 = search rules in
    carried _ _ c.in_err-key.field-0.0 _ _ c.from_residual.result is c.in_err-key.ensures.malformed

pub returns-in_err-key-clause-unsupported : goal.returns-in_err-key-clause-unsupported
returns-in_err-key-clause-unsupported g c =
    let is : c.from_residual.result ≡ Err c.in_err-key.field-0.0 = search rules in
    carried _ _ c.in_err-key.field-0.0 _ _ c.from_residual.result is c.in_err-key.ensures.unsupported

pub returns-in_err-key-clause-supported : goal.returns-in_err-key-clause-supported
returns-in_err-key-clause-supported g c =
    let is : c.from_residual.result ≡ Err c.in_err-key.field-0.0 = search rules in
    λ scheme of.
    not_meant _ _ c.in_err-key.field-0.0 _ c.from_residual.result is (c.in_err-key.ensures.supported scheme of)

pub returns-clause-malformed : goal.returns-clause-malformed
returns-clause-malformed g c = made_not _ _ _ _ _ _ c.in_ok-key.ensures.malformed

pub returns-clause-unsupported : goal.returns-clause-unsupported
returns-clause-unsupported g c = made_not _ _ _ _ _ _ c.in_ok-key.ensures.unsupported
