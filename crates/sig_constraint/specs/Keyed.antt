-- *Asked key*: which key a layer has to be signed by.
use Rattle.std.specs.Prelude.{◌≡◌, ℕ, List, Bool}
use Rattle.sig_base.specs.declared.scheme.VerifyScheme.{VerifyScheme}
use Rattle.sig_key.specs.Key.{key_info, key_scheme}
use Rattle.sig_key.specs.Spki.{IsKeyOf}
use Rattle.sig_key.specs.declared.verification_key.CosignVerificationKey.{CosignVerificationKey}
use Rattle.sig_payload.specs.Bundles.{AcceptsSpki}
use Rattle.sig_cosign.specs.Layer.{Layer}
use Rattle.sig_cosign.specs.Signed.{is_signed_by}

-- the verifier of the key of this scheme with this DER holds of these layers
pub record IsKeyVerifier (spki : AcceptsSpki) (scheme : VerifyScheme) (der : List ℕ) (holds : Layer → Bool) : Type 0 where
  pub key : CosignVerificationKey
  pub of_scheme : key_scheme key ≡ scheme
  pub of_der : key_info key ≡ der
  pub holds_of : (l : Layer) → holds l ≡ is_signed_by spki key l

-- the same, of the scheme that the SPKI says
pub record IsSpkiVerifier (spki : AcceptsSpki) (der : List ℕ) (holds : Layer → Bool) : Type 0 where
  pub scheme : VerifyScheme
  pub of_spki : IsKeyOf der scheme
  pub verifier : IsKeyVerifier spki scheme der holds
