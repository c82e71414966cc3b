-- The body of an entry about an envelope of one signature: what is computed, and the members that it has.
use Rattle.std.proofs.Common.{◌≡◌, ◌≢◌, ℕ, List, codes, Some, Result, Ok, Err, refl}
use Rattle.std.proofs.Common.{ap, ◌∙◌}
use Rattle.std.proofs.lemmas.Bool.Decides.{Decides-and}
use Rattle.std.proofs.lemmas.Slice.Eq.{bytes_eq-Decides}
use Rattle.std.specs.Bool.{Decides}
use Rattle.std.specs.Prelude.{⊤}
use Rattle.hex.specs.Hex.{encode_lower}
use Rattle.sig_base.proofs.Decisions.{decides_same}
use Rattle.sig_base.proofs.OptionSteps.{bind_is, some_is}
use Rattle.sig_base.proofs.ResultSteps.{ok_is}
use Rattle.sig_base.specs.Sha256.{sha256}
use Rattle.sig_certificate.specs.Pem.{pem_of}
use Rattle.sig_checked_bundle.proofs.LoggedEnvelopes.{envelopes_are_logged}
use Rattle.sig_checked_bundle.specs.DsseBody.{dsse_body_of}
use Rattle.sig_dsse.proofs.SaidMembers.{held_text, is_required, required_is, text_held}
use Rattle.sig_json.proofs.Records.{record_in-read, record_in-tree}
use Rattle.sig_json.specs.Data.{Data, null, boolean, number, string, array, object, no_items, item}
use Rattle.sig_json.specs.Find.{get}
use Rattle.sig_json.specs.Member.{required}
use Rattle.sig_json.specs.Record.{record_in}
use Rattle.sig_json.specs.declared.error.JsonError.{JsonError}
use Rattle.sig_attestation.proofs.Bodies.{about_decides}
use Rattle.sig_attestation.specs.Body.{are_lower, hash_text_of, is_about, is_logged_once, is_lower_hash, is_spelled}
use Rattle.sig_attestation.specs.Body.{one_of, spelled_in, spelled_of}
use Rattle.sig_attestation.specs.Logged.{HasDigits, IsLoggedOnce, IsSpelled}
use Rattle.sig_attestation.specs.declared.body.Spelled.{Spelled}

-- a value with a member is not null
some_member : (name : List ℕ) (d value : Data) → get name d ≡ Some value → d ≢ null
some_member name null value e none = absurd cc
some_member name (boolean b) value e none = absurd cc
some_member name (number n) value e none = absurd cc
some_member name (string s) value e none = absurd cc
some_member name (array ds) value e none = absurd cc
some_member name (object ms) value e none = absurd cc

digits_held : (name : List ℕ) (d : Data) (text : List ℕ) → required hash_text_of name d ≡ Some text
    → HasDigits name d text
digits_held name d text e =
    let held = required_is hash_text_of name d text e in
    record { part = held.0; held = held.1.found; value = text_held (codes "value") held.0 text held.2 }

held_digits : (name : List ℕ) (d : Data) (text : List ℕ) → HasDigits name d text
    → required hash_text_of name d ≡ Some text
held_digits name d text has =
    is_required hash_text_of name d has.part text
    (record { found = has.held; some = some_member (codes "value") has.part (string text) has.value })
    (held_text (codes "value") has.part text has.value)

-- ---- one signature

one_held : (d : Data) (x : ⊤) → one_of d ≡ Some x → (only : Data) × (d ≡ array (item only no_items))
unfolding one_of
one_held null x e = absurd cc
one_held (boolean b) x e = absurd cc
one_held (number n) x e = absurd cc
one_held (string s) x e = absurd cc
one_held (array no_items) x e = absurd cc
one_held (array (item d no_items)) x e = (d, refl)
one_held (array (item d (item f fs))) x e = absurd cc
one_held (object ms) x e = absurd cc

held_one : (d only : Data) → d ≡ array (item only no_items) → one_of d ≡ Some tt
unfolding one_of
held_one d only is = rw is refl

-- ---- the hashes

record Says (d : Data) (s : Spelled) : Type 0 where
  envelope : HasDigits (codes "envelopeHash") d s.envelope
  payload : HasDigits (codes "payloadHash") d s.payload
  only : Data
  signatures : get (codes "signatures") d ≡ Some (array (item only no_items))

spelled_says : (d : Data) (s : Spelled) → spelled_in d ≡ Some s → Says d s
unfolding spelled_in
spelled_says d s e =
    let envelope = bind_is (required hash_text_of (codes "envelopeHash") d) _ s e in
    let payload = bind_is (required hash_text_of (codes "payloadHash") d) _ s envelope.2 in
    let signatures = bind_is (required one_of (codes "signatures") d) _ s payload.2 in
    let list = required_is one_of (codes "signatures") d signatures.0 signatures.1 in
    let one = one_held list.0 signatures.0 list.2 in
    let is : record { envelope = envelope.0; payload = payload.0 } ≡ s = some_is _ _ signatures.2 in
    rw (← is) (record {
      envelope = digits_held (codes "envelopeHash") d envelope.0 envelope.1;
      payload = digits_held (codes "payloadHash") d payload.0 payload.1;
      only = one.0;
      signatures = list.1.found ∙ ap (λ (v : Data). Some v) one.1;
    })

said_spelled : (d : Data) (s : Spelled) → Says d s → spelled_in d ≡ Some s
unfolding spelled_in
said_spelled d s says =
    rw (
      held_digits (codes "envelopeHash") d s.envelope says.envelope,
      held_digits (codes "payloadHash") d s.payload says.payload,
      is_required one_of (codes "signatures") d (array (item says.only no_items)) tt (record {
        found = says.signatures;
        some = λ none. absurd cc;
      }) (held_one (array (item says.only no_items)) says.only refl),
    ) refl

abbrev lower : List ℕ → List ℕ → Spelled
lower envelope payload = record {
  envelope = encode_lower (sha256 envelope);
  payload = encode_lower (sha256 payload);
}

abbrev pair : List ℕ → List ℕ → Spelled
pair a b = record { envelope = a; payload = b }

module _ (envelope payload body : List ℕ) where
  is_read : record_in spelled_of body ≡ Ok (lower envelope payload) → IsSpelled envelope payload body
  is_read e =
      let read = record_in-tree spelled_of body (lower envelope payload) e in
      let spec = required_is spelled_in (codes "spec") read.0 (lower envelope payload) read.2 in
      let says = spelled_says spec.0 (lower envelope payload) spec.2 in
      record {
        tree = read.0;
        document = read.1;
        spec = spec.0;
        said = spec.1.found;
        envelope_hash = says.envelope;
        payload_hash = says.payload;
        only = says.only;
        signatures = says.signatures;
      }

  read_is : IsSpelled envelope payload body → record_in spelled_of body ≡ Ok (lower envelope payload)
  read_is is =
      record_in-read spelled_of body is.tree (lower envelope payload) is.document
      (is_required spelled_in (codes "spec") is.tree is.spec (lower envelope payload) (record {
        found = is.said;
        some = some_member (codes "signatures") is.spec (array (item is.only no_items)) is.signatures;
      }) (said_spelled is.spec (lower envelope payload) (record {
        envelope = is.envelope_hash;
        payload = is.payload_hash;
        only = is.only;
        signatures = is.signatures;
      })))

  lower_decides : (s : Spelled) → Decides (are_lower envelope payload s) (s ≡ lower envelope payload)
  lower_decides s =
      decides_same (are_lower envelope payload s)
      (λ both. same s.envelope (encode_lower (sha256 envelope)) s.payload (encode_lower (sha256 payload)) both.0 both.1)
      (λ is. (ap (λ (q : Spelled). q.envelope) is, ap (λ (q : Spelled). q.payload) is))
      (Decides-and (is_lower_hash s.envelope envelope) (is_lower_hash s.payload payload)
      (bytes_eq-Decides s.envelope (encode_lower (sha256 envelope)))
      (bytes_eq-Decides s.payload (encode_lower (sha256 payload))))
    where
      same : (a b v w : List ℕ) → a ≡ b → v ≡ w → pair a v ≡ pair b w
      same a b v w p q = rw (p, q) refl

  spelled_decides : (r : Result Spelled JsonError)
      → Decides (is_spelled envelope payload r) (r ≡ Ok (lower envelope payload))
  spelled_decides (Ok s) =
      decides_same (are_lower envelope payload s)
      (λ is. ap (λ (x : Spelled). Ok x) is)
      (λ is. ok_is s (lower envelope payload) is)
      (lower_decides s)
  spelled_decides (Err e) = ((λ t. absurd cc), (λ is. absurd cc))

pub logged_decides : (envelope payload signature certificate body : List ℕ)
    → Decides (is_logged_once envelope payload signature certificate body)
    (IsLoggedOnce envelope payload signature certificate body)
unfolding is_logged_once
logged_decides envelope payload signature certificate body =
    decides_same
    (is_logged_once envelope payload signature certificate body)
    (λ both. (
      (envelopes_are_logged envelope payload signature (pem_of certificate) body).0 both.0,
      is_read envelope payload body both.1,
    ))
    (λ is. (
      (envelopes_are_logged envelope payload signature (pem_of certificate) body).1 is.0,
      read_is envelope payload body is.1,
    ))
    (Decides-and (is_about envelope payload signature certificate (record_in dsse_body_of body))
    (is_spelled envelope payload (record_in spelled_of body))
    (about_decides envelope payload signature certificate (record_in dsse_body_of body))
    (spelled_decides envelope payload body (record_in spelled_of body)))
