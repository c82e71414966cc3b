-- The policies of one extension: Fulcio's extensions whose values are texts themselves, and no DER.
use Rattle.std.specs.Prelude.{ℕ, List, [], ◌∷◌, Bool, false, Option, Some, None}
use Rattle.std.specs.Str.{bytes_eq}
use Rattle.sig_certificate.specs.Certificate.{Extension, Cert}
use Rattle.sig_certificate.specs.Lookups.{with_oid}
use Rattle.sig_policy.specs.Texts.{utf8_text}
use Rattle.sig_policy.specs.Refusals.{Refusal, not_found, check_failed}

-- the value of the only extension, if it is UTF-8
abbrev pub only_text : List Extension → Option (List ℕ)
only_text [] = None
only_text (e ∷ []) = utf8_text e.value
only_text (e ∷ f ∷ es) = None

abbrev pub extension_text : List ℕ → Cert → Option (List ℕ)
extension_text oid c = only_text (with_oid oid c.extensions)

-- the text is there, and it is this one
abbrev pub is_asked_text : List ℕ → Option (List ℕ) → Bool
is_asked_text asked None = false
is_asked_text asked (Some actual) = bytes_eq actual asked

-- why the text is not the one asked for: it is absent, or another
abbrev pub single_refusal : List ℕ → List ℕ → Option (List ℕ) → Refusal
single_refusal name asked None = not_found
single_refusal name asked (Some actual) = check_failed name asked actual
