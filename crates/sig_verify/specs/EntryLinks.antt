-- The links `log-key` to `inclusion`, each in its own words: what a log's entry needs to be vouched for (Rekor's
-- signed entry timestamp; the checkpoint format of transparency-dev; RFC 6962 section 2.1.1).
use Rattle.std.specs.Prelude.{◌≡◌, ℕ, ◌<◌, pos, true, List, [], ◌∷◌, Some, IsSome, unwrap_or}
use Rattle.hex.specs.Hex.{encode_lower}
use Rattle.sig_base.specs.ByText.{text_lookup}
use Rattle.sig_base.specs.declared.scheme.VerifyScheme.{VerifyScheme}
use Rattle.sig_base.specs.ByteLists.{AreBytes}
use Rattle.sig_bundle.specs.Promise.{IsExactEntry, promise_of_entry}
use Rattle.sig_bundle.specs.Proof.{HasRoot, HasHashes, HasSize, OfText}
use Rattle.sig_bundle.specs.declared.material.ProofFields.{ProofFields}
use Rattle.sig_bundle.specs.declared.material.TransparencyLogEntry.{TransparencyLogEntry}
use Rattle.sig_key.specs.Kind.{IsKind}
use Rattle.sig_key.specs.declared.kind.KeyKind.TheVariants.{Scheme}
use Rattle.sig_merkle.specs.Path.{path_root}
use Rattle.sig_merkle.specs.Root.{leaf_of}
use Rattle.sig_rekor.specs.CheckpointText.{IsCheckpoint}
use Rattle.sig_rekor.specs.Verify.{has_accepted_signature}
use Rattle.sig_rekor.specs.declared.checkpoint.SignedCheckpoint.{SignedCheckpoint}
use Rattle.sig_verify.specs.ContentCheck.{AcceptsSpki, AcceptsUnder}
use Rattle.sig_verify.specs.declared.link.Link.{Link}
use Rattle.sig_verify.specs.declared.link.Link.TheVariants.{LogKey, Promise, Proof, Checkpoint, NoteKey, NoteMatch}
use Rattle.sig_verify.specs.declared.link.Link.TheVariants.{Inclusion}

-- keys of logs by their log ids in lower-case hexadecimal
abbrev pub LogKeys : Type 0
LogKeys = List (List ℕ × List ℕ)

-- ---- the parts that a link may be about

-- the entry names a log, there is a key of its id, and the key is a SubjectPublicKeyInfo of this scheme
pub record HasLogKey (keys : LogKeys) (e : TransparencyLogEntry) (key : VerifyScheme × List ℕ) : Type 0 where
  pub id : List ℕ
  pub named : e.log_id ≡ Some id
  pub found : text_lookup (encode_lower id) keys ≡ Some key.1
  pub kind : IsKind key.1 (Scheme key.0)

-- the entry's log has a key, and this holds of it
abbrev pub OfLogKey : LogKeys → TransparencyLogEntry → (VerifyScheme × List ℕ → Type 0) → Type 0
OfLogKey keys e P = (key : VerifyScheme × List ℕ) × HasLogKey keys e key × P key

-- the entry has an inclusion proof, and this holds of it
abbrev pub OfProof : TransparencyLogEntry → (ProofFields → Type 0) → Type 0
OfProof e P = (p : ProofFields) × (e.inclusion_proof ≡ Some p) × P p

-- the proof's text is a checkpoint, and this holds of it
abbrev pub OfCheckpoint : TransparencyLogEntry → (ProofFields → SignedCheckpoint → Type 0) → Type 0
OfCheckpoint e P = OfProof e (λ p. (n : SignedCheckpoint) × OfText p (λ text. IsCheckpoint text n) × P p n)

-- ---- what a link asks

-- there is a promise, and both integers of the entry are within plus or minus 2^53 - 1
abbrev pub HasCanonicalPromise : TransparencyLogEntry → Type 0
HasCanonicalPromise e = IsSome e.inclusion_promise × IsExactEntry e

-- the promise is a signature over its text
abbrev pub IsPromised : AcceptsUnder → TransparencyLogEntry → Type 0
IsPromised accepts e =
    (promise : List ℕ) × (e.inclusion_promise ≡ Some promise) × (accepts (promise_of_entry e) promise ≡ true)

-- under the key of the entry's log
abbrev pub IsPromisedBy : AcceptsSpki → LogKeys → TransparencyLogEntry → Type 0
IsPromisedBy spki keys e = OfLogKey keys e (λ key. IsPromised (spki key.0 key.1) e)

-- root and hashes of 32 bytes, a size that is not negative, and a text of a checkpoint
pub record IsProofRead (p : ProofFields) : Type 0 where
  pub root : HasRoot p
  pub hashes : HasHashes p
  pub size : HasSize p
  pub checkpoint : IsSome p.checkpoint

-- one of the signatures is over the note
abbrev pub IsNoteSigned : AcceptsUnder → SignedCheckpoint → Type 0
IsNoteSigned accepts n = has_accepted_signature accepts n ≡ true

-- under the key of the entry's log
abbrev pub IsNoteSignedBy : AcceptsSpki → LogKeys → TransparencyLogEntry → Type 0
IsNoteSignedBy spki keys e = OfLogKey keys e (λ key. OfCheckpoint e (λ p n. IsNoteSigned (spki key.0 key.1) n))

-- the note's size and hash are the proof's size and root
abbrev pub IsNoteOf : ProofFields → SignedCheckpoint → Type 0
IsNoteOf p n = (p.tree_size ≡ pos n.note.size) × (n.note.hash ≡ p.root_hash)

-- index and size are numbers of leaves, and this holds of them
abbrev pub OfPlace : ProofFields → (ℕ → ℕ → Type 0) → Type 0
OfPlace p P = (index size : ℕ) × (p.log_index ≡ pos index) × (p.tree_size ≡ pos size) × P index size

-- the index is that of a leaf
abbrev pub IsPlaced : ProofFields → Type 0
IsPlaced p = OfPlace p (λ index size. index < size)

-- the audit path of the body's leaf, by the proof's own index, leads to the proof's root
abbrev pub IsLed : TransparencyLogEntry → ProofFields → Type 0
IsLed e p = OfPlace p (λ index size. path_root index (leaf_of e.canonicalized_body) size p.hashes ≡ Some p.root_hash)

-- ---- bytes

-- the key of the entry's log is bytes
abbrev pub HasKeyOfBytes : LogKeys → TransparencyLogEntry → Type 0
HasKeyOfBytes keys e =
    (id key : List ℕ) → e.log_id ≡ Some id → text_lookup (encode_lower id) keys ≡ Some key → AreBytes key

-- the parts that a link reads as bytes are bytes
pub record IsOfBytes (keys : LogKeys) (e : TransparencyLogEntry) : Type 0 where
  pub body : AreBytes e.canonicalized_body
  pub id : AreBytes (unwrap_or e.log_id [])
  pub key : HasKeyOfBytes keys e

-- ---- the links

abbrev pub entry_links : List Link
entry_links = LogKey ∷ Promise ∷ Proof ∷ Checkpoint ∷ NoteKey ∷ NoteMatch ∷ Inclusion ∷ []

-- what a link requires of an entry, if all links before it hold
abbrev pub HoldsOfEntry : AcceptsSpki → LogKeys → TransparencyLogEntry → Link → Type 0
HoldsOfEntry spki keys e LogKey = OfLogKey keys e (λ key. Unit {0})
HoldsOfEntry spki keys e Promise = HasCanonicalPromise e × IsPromisedBy spki keys e
HoldsOfEntry spki keys e Proof = OfProof e IsProofRead
HoldsOfEntry spki keys e Checkpoint = OfCheckpoint e (λ p n. Unit {0})
HoldsOfEntry spki keys e NoteKey = IsNoteSignedBy spki keys e
HoldsOfEntry spki keys e NoteMatch = OfCheckpoint e IsNoteOf
HoldsOfEntry spki keys e Inclusion = OfProof e IsPlaced × OfProof e (IsLed e)
HoldsOfEntry spki keys e other = Unit {0}
