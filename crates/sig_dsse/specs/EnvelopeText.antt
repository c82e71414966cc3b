-- *Envelope text*: an envelope as JSON (the DSSE envelope format), members in the order of the format, empty ones
-- omitted, no white space.
use Rattle.std.specs.Prelude.{ℕ, List, [], ◌∷◌, ◌++◌, map, codes}
use Rattle.sig_base.specs.Base64.{base64_text}
use Rattle.sig_json_text.specs.Canonical.{canon_string, in_braces, in_brackets}
use Rattle.sig_dsse.specs.declared.envelope.DsseEnvelope.{DsseEnvelope}
use Rattle.sig_dsse.specs.declared.envelope.DsseSignature.{DsseSignature}

-- a member: its name in quotation marks, a colon, the text of its value
abbrev pub envelope_member : List ℕ → List ℕ → List ℕ
envelope_member name value = canon_string name ++ (codes ":" ++ value)

-- the member of a text, nothing if the text is empty; quoted and escaped as in canonical JSON (RFC 8785 section
-- 3.2.2.2)
abbrev pub text_member : List ℕ → List ℕ → List (List ℕ)
text_member name [] = []
text_member name (c ∷ cs) = envelope_member name (canon_string (c ∷ cs)) ∷ []

-- the member of bytes, in base64 (RFC 4648 section 4)
abbrev pub bytes_member : List ℕ → List ℕ → List (List ℕ)
bytes_member name bytes = text_member name (base64_text bytes)

-- the member of a list of texts of JSON, nothing if the list is empty
abbrev pub list_member : List ℕ → List (List ℕ) → List (List ℕ)
list_member name [] = []
list_member name (text ∷ texts) = envelope_member name (in_brackets (text ∷ texts)) ∷ []

unfoldable pub envelope_signature_text : DsseSignature → List ℕ
envelope_signature_text signature =
    in_braces (bytes_member (codes "sig") signature.sig ++ text_member (codes "keyid") signature.keyid)

unfoldable pub envelope_text : DsseEnvelope → List ℕ
envelope_text envelope =
    in_braces (bytes_member (codes "payload") envelope.payload ++
    (text_member (codes "payloadType") envelope.payload_type ++ list_member (codes "signatures")
    (map envelope_signature_text envelope.signatures)))
