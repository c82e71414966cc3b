-- That a key signed a layer: what is computed, and its words.
use Rattle.std.proofs.Common.{◌≡◌, ℕ, List, Bool, true, false, Option, Some, None, Result, Ok, Err, IfOk, refl, sym, ◌∙◌}
use Rattle.std.proofs.Common.{if◌then◌else◌}
use Rattle.std.specs.Prelude.{◌↔◌, IsTrue, is_ok}
use Rattle.sig_base.specs.declared.error.SigstoreError.{SigstoreError}
use Rattle.sig_base.specs.declared.error.SigstoreError.TheVariants.{PublicKeyVerificationError}
use Rattle.sig_key.specs.Key.{check_answer, key_accepts}
use Rattle.sig_key.specs.Signature.{text_bytes}
use Rattle.sig_key.specs.declared.verification_key.CosignVerificationKey.{CosignVerificationKey}
use Rattle.sig_payload.specs.Bundles.{AcceptsSpki}
use Rattle.sig_cosign.specs.Layer.{Layer}
use Rattle.sig_cosign.specs.Signed.{IsSignedBy, is_signed_by, is_text_signed}

abbrev ok_if : Bool → Result (Unit {0}) SigstoreError
ok_if b = if b then Ok tt else Err PublicKeyVerificationError

module _ (spki : AcceptsSpki) (key : CosignVerificationKey) (l : Layer) where
  by_word : (text bytes : List ℕ) (b : Bool) → l.signature ≡ Some text → text_bytes text ≡ Some bytes
      → key_accepts spki key l.raw_data bytes ≡ b → is_ok (ok_if b) ≡ true → IsSignedBy spki key l
  by_word text bytes true there coded said is =
      record { text = text; bytes = bytes; there = there; coded = coded; accepted = said }
  by_word text bytes false there coded said is = absurd cc

  by_bytes : (text : List ℕ) (o : Option (List ℕ)) → l.signature ≡ Some text → text_bytes text ≡ o
      → is_ok (check_answer (key_accepts spki key l.raw_data) o) ≡ true → IsSignedBy spki key l
  by_bytes text None there coded is = absurd cc
  by_bytes text (Some bytes) there coded is =
      by_word text bytes (key_accepts spki key l.raw_data bytes) there coded refl is

  by_text : (o : Option (List ℕ)) → l.signature ≡ o → is_text_signed spki key l.raw_data o ≡ true
      → IsSignedBy spki key l
  by_text None there is = absurd cc
  by_text (Some text) there is = by_bytes text (text_bytes text) there refl is

  signed_from : is_signed_by spki key l ≡ true → IsSignedBy spki key l
  signed_from is = by_text l.signature refl is

  signed_is : IsSignedBy spki key l → is_signed_by spki key l ≡ true
  signed_is is = rw (is.there, is.coded, is.accepted) refl

  by_truth : (b : Bool) → b ≡ is_signed_by spki key l → IsTrue b ↔ IsSignedBy spki key l
  by_truth true is = ((λ t. signed_from (sym is)), (λ s. refl))
  by_truth false is = ((λ t. absurd cc), (λ s. let wrong = is ∙ signed_is s in absurd cc))

  pub signed_words : (r : Result Bool SigstoreError) → IfOk r (λ b. b ≡ is_signed_by spki key l)
      → IfOk r (λ b. IsTrue b ↔ IsSignedBy spki key l)
  signed_words (Ok b) is = by_truth b is
  signed_words (Err e) is = tt
