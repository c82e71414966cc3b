-- The body of an entry about an envelope: what is read of it, and the members that it has.
use Rattle.std.proofs.Common.{◌≡◌, ◌≢◌, ℕ, List, codes, Option, Some, Ok, refl, sym, ap, ◌∙◌}
use Rattle.std.specs.Prelude.{◌↔◌}
use Rattle.sig_base.proofs.OptionSteps.{bind_is, some_is}
use Rattle.sig_dsse.proofs.SaidMembers.{bytes_held, hash_held, held_bytes, held_hash, held_text, is_required}
use Rattle.sig_dsse.proofs.SaidMembers.{required_is, text_held}
use Rattle.sig_dsse.specs.SaidMembers.{HasBytes, HasMember}
use Rattle.sig_json.proofs.Records.{record_in-read, record_in-tree}
use Rattle.sig_json.specs.Data.{Data, Items, null, boolean, number, string, array, object, no_items, item}
use Rattle.sig_json.specs.Document.{document_of}
use Rattle.sig_json.specs.Find.{get}
use Rattle.sig_json.specs.Member.{required, required_bytes, required_hash, required_text}
use Rattle.sig_json.specs.Record.{record_in}
use Rattle.sig_checked_bundle.specs.DsseBody.{body_about, body_signature_of, dsse_body_of, dsse_spec_of}
use Rattle.sig_checked_bundle.specs.DsseBody.{first_signature_of, hashed_part_of}
use Rattle.sig_checked_bundle.specs.LoggedEnvelope.{HasDigest, IsLoggedEnvelope}
use Rattle.sig_checked_bundle.specs.declared.dsse_body.BodySignature.{BodySignature}
use Rattle.sig_checked_bundle.specs.declared.dsse_body.DsseBody.{DsseBody}
use Rattle.sig_checked_bundle.specs.declared.dsse_body.DsseSpec.{DsseSpec}
use Rattle.sig_checked_bundle.specs.declared.dsse_body.HashedPart.{HashedPart}

-- a value with a member is not null
some_member : (name : List ℕ) (d value : Data) → get name d ≡ Some value → d ≢ null
some_member name null value e none = absurd cc
some_member name (boolean b) value e none = absurd cc
some_member name (number n) value e none = absurd cc
some_member name (string s) value e none = absurd cc
some_member name (array ds) value e none = absurd cc
some_member name (object ms) value e none = absurd cc

-- ---- a hash

digest_held : (name : List ℕ) (d : Data) (p : HashedPart) → required hashed_part_of name d ≡ Some p
    → HasDigest name d p.algorithm p.value
unfolding hashed_part_of
digest_held name d p e =
    let held = required_is hashed_part_of name d p e in
    let by = bind_is (required_text (codes "algorithm") held.0) _ p held.2 in
    let value = bind_is (required_hash (codes "value") held.0) _ p by.2 in
    let is : record { algorithm = by.0; value = value.0 } ≡ p = some_is _ _ value.2 in
    rw (← is) (record {
      part = held.0;
      held = held.1.found;
      by = text_held (codes "algorithm") held.0 by.0 by.1;
      value = hash_held (codes "value") held.0 value.0 value.1;
    })

held_digest : (name : List ℕ) (d : Data) (p : HashedPart) → HasDigest name d p.algorithm p.value
    → required hashed_part_of name d ≡ Some p
unfolding hashed_part_of
held_digest name d p has =
    is_required hashed_part_of name d has.part p
    (record { found = has.held; some = some_member (codes "algorithm") has.part (string p.algorithm) has.by })
    (rw (
      held_text (codes "algorithm") has.part p.algorithm has.by,
      held_hash (codes "value") has.part p.value has.value,
    ) refl)

-- ---- the first signature

record Signed (d : Data) (s : BodySignature) : Type 0 where
  first : Data
  others : Items
  whole : d ≡ array (item first others)
  signed : HasBytes (codes "signature") first s.signature
  verifier : HasBytes (codes "verifier") first s.verifier

signature_held : (d : Data) (s : BodySignature) → body_signature_of d ≡ Some s
    → HasBytes (codes "signature") d s.signature × HasBytes (codes "verifier") d s.verifier
unfolding body_signature_of
signature_held d s e =
    let signed = bind_is (required_bytes (codes "signature") d) _ s e in
    let verifier = bind_is (required_bytes (codes "verifier") d) _ s signed.2 in
    let is : record { signature = signed.0; verifier = verifier.0 } ≡ s = some_is _ _ verifier.2 in
    rw (← is) (
      bytes_held (codes "signature") d signed.0 signed.1,
      bytes_held (codes "verifier") d verifier.0 verifier.1,
    )

held_signature : (d : Data) (s : BodySignature) → HasBytes (codes "signature") d s.signature
    → HasBytes (codes "verifier") d s.verifier → body_signature_of d ≡ Some s
unfolding body_signature_of
held_signature d s signed verifier =
    rw (
      held_bytes (codes "signature") d s.signature signed,
      held_bytes (codes "verifier") d s.verifier verifier,
    ) refl

first_held : (d : Data) (s : BodySignature) → first_signature_of d ≡ Some s → Signed d s
unfolding first_signature_of
first_held null s e = absurd cc
first_held (boolean b) s e = absurd cc
first_held (number n) s e = absurd cc
first_held (string t) s e = absurd cc
first_held (array no_items) s e = absurd cc
first_held (array (item d ds)) s e =
    let has = signature_held d s e in
    record { first = d; others = ds; whole = refl; signed = has.0; verifier = has.1 }
first_held (object ms) s e = absurd cc

held_first : (d : Data) (s : BodySignature) → Signed d s → first_signature_of d ≡ Some s
unfolding first_signature_of
held_first d s has = rw has.whole (held_signature has.first s has.signed has.verifier)

-- ---- what is said of the envelope

record SaysSpec (d : Data) (s : DsseSpec) : Type 0 where
  envelope : HasDigest (codes "envelopeHash") d s.envelope_hash.algorithm s.envelope_hash.value
  payload : HasDigest (codes "payloadHash") d s.payload_hash.algorithm s.payload_hash.value
  list : Data
  held : get (codes "signatures") d ≡ Some list
  signed : Signed list s.signature

spec_says : (d : Data) (s : DsseSpec) → dsse_spec_of d ≡ Some s → SaysSpec d s
unfolding dsse_spec_of
spec_says d s e =
    let envelope = bind_is (required hashed_part_of (codes "envelopeHash") d) _ s e in
    let payload = bind_is (required hashed_part_of (codes "payloadHash") d) _ s envelope.2 in
    let signature = bind_is (required first_signature_of (codes "signatures") d) _ s payload.2 in
    let list = required_is first_signature_of (codes "signatures") d signature.0 signature.1 in
    let is : record { envelope_hash = envelope.0; payload_hash = payload.0; signature = signature.0 } ≡ s =
    some_is _ _ signature.2 in
    rw (← is) (record {
      envelope = digest_held (codes "envelopeHash") d envelope.0 envelope.1;
      payload = digest_held (codes "payloadHash") d payload.0 payload.1;
      list = list.0;
      held = list.1.found;
      signed = first_held list.0 signature.0 list.2;
    })

said_spec : (d : Data) (s : DsseSpec) → SaysSpec d s → dsse_spec_of d ≡ Some s
unfolding dsse_spec_of
said_spec d s says =
    rw (
      held_digest (codes "envelopeHash") d s.envelope_hash says.envelope,
      held_digest (codes "payloadHash") d s.payload_hash says.payload,
      is_required first_signature_of (codes "signatures") d says.list s.signature (record {
        found = says.held;
        some = λ none. let two = sym none ∙ says.signed.whole in absurd cc;
      }) (held_first says.list s.signature says.signed),
    ) refl

-- ---- the body

record SaysBody (d : Data) (b : DsseBody) : Type 0 where
  kind : required_text (codes "kind") d ≡ Some b.kind
  version : required_text (codes "apiVersion") d ≡ Some b.api_version
  spec : Data
  held : get (codes "spec") d ≡ Some spec
  says : SaysSpec spec b.spec

body_says : (d : Data) (b : DsseBody) → dsse_body_of d ≡ Some b → SaysBody d b
unfolding dsse_body_of
body_says d b e =
    let kind = bind_is (required_text (codes "kind") d) _ b e in
    let version = bind_is (required_text (codes "apiVersion") d) _ b kind.2 in
    let spec = bind_is (required dsse_spec_of (codes "spec") d) _ b version.2 in
    let held = required_is dsse_spec_of (codes "spec") d spec.0 spec.1 in
    let is : record { kind = kind.0; api_version = version.0; spec = spec.0 } ≡ b = some_is _ _ spec.2 in
    rw (← is) (record {
      kind = kind.1;
      version = version.1;
      spec = held.0;
      held = held.1.found;
      says = spec_says held.0 spec.0 held.2;
    })

said_body : (d : Data) (b : DsseBody) → SaysBody d b → dsse_body_of d ≡ Some b
unfolding dsse_body_of
said_body d b says =
    rw (
      says.kind,
      says.version,
      is_required dsse_spec_of (codes "spec") d says.spec b.spec (record {
        found = says.held;
        some = some_member (codes "signatures") says.spec says.says.list says.says.held;
      }) (said_spec says.spec b.spec says.says),
    ) refl

logged : (envelope payload signature pem body : List ℕ) (tree : Data) → document_of body ≡ Ok tree
    → SaysBody tree (body_about envelope payload signature pem)
    → IsLoggedEnvelope envelope payload signature pem body
logged envelope payload signature pem body tree document says = record {
  tree = tree;
  document = document;
  kind = text_held (codes "kind") tree (codes "dsse") says.kind;
  version = text_held (codes "apiVersion") tree (codes "0.0.1") says.version;
  spec = says.spec;
  said = says.held;
  envelope_hash = says.says.envelope;
  payload_hash = says.says.payload;
  first = says.says.signed.first;
  others = says.says.signed.others;
  signatures = says.says.held ∙ ap (λ (v : Data). Some v) says.says.signed.whole;
  signed = says.says.signed.signed;
  verifier = says.says.signed.verifier;
}

logged_says : (envelope payload signature pem body : List ℕ)
    → (is : IsLoggedEnvelope envelope payload signature pem body)
    → SaysBody is.tree (body_about envelope payload signature pem)
logged_says envelope payload signature pem body is = record {
  kind = held_text (codes "kind") is.tree (codes "dsse") is.kind;
  version = held_text (codes "apiVersion") is.tree (codes "0.0.1") is.version;
  spec = is.spec;
  held = is.said;
  says = record {
    envelope = is.envelope_hash;
    payload = is.payload_hash;
    list = array (item is.first is.others);
    held = is.signatures;
    signed = record {
      first = is.first;
      others = is.others;
      whole = refl;
      signed = is.signed;
      verifier = is.verifier;
    };
  };
}

-- a body is read as the one about an envelope if and only if it has these members
pub envelopes_are_logged : (envelope payload signature pem body : List ℕ)
    → (record_in dsse_body_of body ≡ Ok (body_about envelope payload signature pem)) ↔
    IsLoggedEnvelope envelope payload signature pem body
envelopes_are_logged envelope payload signature pem body = (
  (λ e. let read = record_in-tree dsse_body_of body (body_about envelope payload signature pem) e in
      logged envelope payload signature pem body read.0 read.1
      (body_says read.0 (body_about envelope payload signature pem) read.2)),
  (λ is. record_in-read dsse_body_of body is.tree (body_about envelope payload signature pem) is.document
      (said_body is.tree (body_about envelope payload signature pem)
      (logged_says envelope payload signature pem body is))),
)
