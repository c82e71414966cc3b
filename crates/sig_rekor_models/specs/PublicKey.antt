-- The text of a public key in Rekor: padded standard base64 (RFC 4648 section 4) of UTF-8.
use Rattle.std.specs.Prelude.{ℕ, List, Option, Some, None, Result, Ok, Err, if◌then◌else◌}
use Rattle.std.specs.Str.{is_utf8}
use Rattle.sig_base.specs.Base64.{base64_bytes}
use Rattle.sig_base.specs.declared.error.SigstoreError.{SigstoreError}
use Rattle.sig_base.specs.declared.error.SigstoreError.TheVariants.{Base64DecodeError, Utf8Error}
use Rattle.sig_rekor_models.specs.declared.public_key.PublicKey.{PublicKey}

-- the text that a key holds
abbrev pub key_text : PublicKey → List ℕ
key_text key = key.content

abbrev pub text_of_bytes : Option (List ℕ) → Result (List ℕ) SigstoreError
text_of_bytes None = Err Base64DecodeError
text_of_bytes (Some bytes) = if is_utf8 bytes then Ok bytes else Err Utf8Error

unfoldable pub decoded_text : List ℕ → Result (List ℕ) SigstoreError
decoded_text coded = text_of_bytes (base64_bytes coded)
