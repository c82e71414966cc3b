-- *Signed layer*: that a key signed a layer.
use Rattle.std.specs.Prelude.{◌≡◌, ℕ, List, Bool, true, false, Option, Some, None, is_ok}
use Rattle.sig_key.specs.Key.{check_answer, key_accepts}
use Rattle.sig_key.specs.Signature.{text_bytes}
use Rattle.sig_key.specs.declared.verification_key.CosignVerificationKey.{CosignVerificationKey}
use Rattle.sig_payload.specs.Bundles.{AcceptsSpki}
use Rattle.sig_cosign.specs.Layer.{Layer}

-- there is a signature, it is the base64 of bytes, and the checker accepts them over the raw data
pub record IsSignedBy (spki : AcceptsSpki) (key : CosignVerificationKey) (l : Layer) : Type 0 where
  pub text : List ℕ
  pub bytes : List ℕ
  pub there : l.signature ≡ Some text
  pub coded : text_bytes text ≡ Some bytes
  pub accepted : key_accepts spki key l.raw_data bytes ≡ true

-- ---- by computation

abbrev pub is_text_signed : AcceptsSpki → CosignVerificationKey → List ℕ → Option (List ℕ) → Bool
is_text_signed spki key raw None = false
is_text_signed spki key raw (Some text) = is_ok (check_answer (key_accepts spki key raw) (text_bytes text))

abbrev pub is_signed_by : AcceptsSpki → CosignVerificationKey → Layer → Bool
is_signed_by spki key l = is_text_signed spki key l.raw_data l.signature
