-- Members of an envelope's text, as the code collects them.
use Rattle.std.proofs.Common.{◌≡◌, ℕ, ◌+◌, ◌<◌, List, [], ◌∷◌, ◌++◌, length, map, take, get_or, String, Global}
use Rattle.std.proofs.Common.{string_bytes, refl, sym, ap, ◌∙◌, append_assoc, append-nil}
use Rattle.std.proofs.lemmas.List.{take_more}
use Rattle.sig_json_text.specs.Spells.{texts_of}
use Rattle.std.specs.Prelude.{codes}
use Rattle.sig_dsse.specs.EnvelopeText.{text_member, bytes_member, list_member, envelope_signature_text}
use Rattle.sig_dsse.specs.declared.envelope.DsseSignature.{DsseSignature}

pub texts_of-append : (texts : List (String Global)) (text : String Global)
    → texts_of (texts ++ text ∷ []) ≡ texts_of texts ++ string_bytes text ∷ []
texts_of-append [] text = refl
texts_of-append (t ∷ ts) text = ap (λ rest. string_bytes t ∷ rest) (texts_of-append ts text)

signed-append : (signatures : List DsseSignature) (signature : DsseSignature)
    → map envelope_signature_text (signatures ++ signature ∷ [])
    ≡ map envelope_signature_text signatures ++ envelope_signature_text
    signature ∷ []
signed-append [] signature = refl
signed-append (s ∷ ss) signature = ap (λ rest. envelope_signature_text s ∷ rest) (signed-append ss signature)

-- the text of one more signature
pub signed-more : (signatures : List DsseSignature) (i : ℕ) (signature : DsseSignature)
    (texts after : List (String Global)) (text : String Global) → i < length signatures
    → signature ≡ get_or signatures i signature → string_bytes text ≡ envelope_signature_text signature
    → after ≡ texts ++ text ∷ [] → texts_of texts ≡ map envelope_signature_text (take i signatures) → texts_of after
    ≡ map envelope_signature_text (take (i + 1) signatures)
signed-more signatures i signature texts after text h is written pushed so_far =
    let front : take (i + 1) signatures ≡ take i signatures ++ signature ∷ [] =
    take_more signatures i signature h ∙ ap (λ s. take i signatures ++ s ∷ []) (sym is) in
    rw (pushed, front, texts_of-append texts text, signed-append (take i signatures) signature, so_far, written) refl

-- the members of an envelope, put one after the other
pub envelope_members : (none one two three : List (String Global)) (lent payload lent_type payload_type : List ℕ)
    (signatures : List (List ℕ)) → none ≡ [] → lent ≡ payload → lent_type ≡ payload_type
    → texts_of one ≡ texts_of none ++ bytes_member (codes "payload") lent → texts_of two ≡ texts_of one ++ text_member
    (codes "payloadType") lent_type → texts_of three ≡ texts_of two ++ list_member (codes "signatures") signatures
    → texts_of three ≡ bytes_member (codes "payload") payload ++
    (text_member (codes "payloadType") payload_type ++ list_member (codes "signatures") signatures)
envelope_members none one two three lent payload lent_type payload_type signatures empty same same_type first
    second third =
    rw (third, second, first, empty, same, same_type)
    (append_assoc (bytes_member (codes "payload") payload) (text_member (codes "payloadType") payload_type)
    (list_member (codes "signatures") signatures))

-- the members of a signature
pub signature_members : (none one two : List (String Global)) (lent sig lent_id keyid : List ℕ) → none ≡ []
    → lent ≡ sig → lent_id ≡ keyid → texts_of one ≡ texts_of none ++ bytes_member (codes "sig") lent
    → texts_of two ≡ texts_of one ++ text_member (codes "keyid") lent_id
    → texts_of two ≡ bytes_member (codes "sig") sig ++ text_member (codes "keyid") keyid
signature_members none one two lent sig lent_id keyid empty same same_id first second =
    rw (second, first, empty, same, same_id) refl

pub ruleset parts = (texts_of-append, append-nil, append_assoc)

pub ruleset signed = (signed-more)
