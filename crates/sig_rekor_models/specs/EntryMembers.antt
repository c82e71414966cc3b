-- *Members of an entry*: what a log entry of Rekor's API has under which name, and what the JSON of an entry's body, of
-- a proposed entry and of a `hashedrekord` has (Rekor's API: LogEntry, InclusionProof, ProposedEntry; its hashedrekord
-- schema, version 0.0.1).
use Rattle.std.specs.Prelude.{◌≡◌, ◌↔◌, ℕ, ℤ, List, [], ◌∷◌, codes, map, Option, Some, None, Ok, true, option_map}
use Rattle.std.specs.Map.{keys_of}
use Rattle.sig_base.specs.Base64.{base64_bytes}
use Rattle.sig_json.specs.Closed.{has_only}
use Rattle.sig_json.specs.Data.{Data, Items, array, string}
use Rattle.sig_json.specs.Document.{document_of}
use Rattle.sig_json.specs.Find.{get}
use Rattle.sig_json.specs.List.{items_list}
use Rattle.sig_json.specs.Member.{member_of}
use Rattle.sig_json.specs.Members.{members_of}
use Rattle.sig_json.specs.NumberKinds.{i64_number_of, u64_number_of}
use Rattle.sig_rekor.specs.declared.rekor_proof.RekorInclusionProof.{RekorInclusionProof}
use Rattle.sig_rekor_models.specs.Body.{Body, body_tree}
use Rattle.sig_rekor_models.specs.EntryKind.{kind_name}
use Rattle.sig_rekor_models.specs.HashedrekordTree.{algorithm_name, hashedrekord_json, spec_json}
use Rattle.sig_rekor_models.specs.LogEntry.{LogEntry, entry_in}
use Rattle.sig_rekor_models.specs.PublicKey.{key_text}
use Rattle.sig_rekor_models.specs.declared.hashedrekord.Hashedrekord.{Hashedrekord}
use Rattle.sig_rekor_models.specs.declared.hashedrekord.Spec.{Spec}
use Rattle.sig_rekor_models.specs.declared.log_entry.Attestation.{Attestation}
use Rattle.sig_rekor_models.specs.declared.log_entry.Verification.{Verification}

-- ---- a member

-- the object has this value under the name, which is not null
abbrev pub Has : List ℕ → Data → Data → Type 0
Has name d value = member_of name d ≡ Some (Some value)

abbrev pub HasText : List ℕ → Data → List ℕ → Type 0
HasText name d text = Has name d (string text)

-- a value that means this, or nothing or null if it is `None`
abbrev pub MayHave : {A : Type 0} → (Data → A → Type 0) → List ℕ → Data → Option A → Type 0
MayHave Is name d None = member_of name d ≡ Some None
MayHave Is name d (Some x) = (value : Data) × Has name d value × Is value x

abbrev pub IsText : Data → List ℕ → Type 0
IsText value text = value ≡ string text

-- a number that is this integer
abbrev pub HasI64 : List ℕ → Data → ℤ → Type 0
HasI64 name d n = (value : Data) × Has name d value × (i64_number_of value ≡ Some n)

abbrev pub HasU64 : List ℕ → Data → ℕ → Type 0
HasU64 name d n = (value : Data) × Has name d value × (u64_number_of value ≡ Some n)

-- a list of these texts
abbrev pub HasTexts : List ℕ → Data → List (List ℕ) → Type 0
HasTexts name d texts =
    (elements : Items) × Has name d (array elements) × (items_list elements ≡ map (λ text. string text) texts)

-- ---- an entry, as it is read

-- the value is an inclusion proof of these parts
pub record IsApiProof (d : Data) (proof : RekorInclusionProof) : Type 0 where
  pub hashes : HasTexts (codes "hashes") d proof.hashes
  pub index : HasI64 (codes "logIndex") d proof.log_index
  pub root : HasText (codes "rootHash") d proof.root_hash
  pub size : HasU64 (codes "treeSize") d proof.tree_size
  pub checkpoint : HasText (codes "checkpoint") d proof.checkpoint

-- the value is what a log proves and promises
pub record IsVerification (d : Data) (verification : Verification) : Type 0 where
  pub proof : MayHave IsApiProof (codes "inclusionProof") d verification.inclusion_proof
  pub promise : HasText (codes "signedEntryTimestamp") d verification.signed_entry_timestamp

abbrev pub IsAttestation : Data → Attestation → Type 0
IsAttestation d attestation = MayHave IsText (codes "dummy") d attestation.dummy

-- the value is a body of this kind, this version and this spec
pub record IsBodyOf (d : Data) (body : Body) : Type 0 where
  pub kind : HasText (codes "kind") d (kind_name body.kind)
  pub version : HasText (codes "apiVersion") d body.api_version
  pub spec : Has (codes "spec") d body.spec

-- the value is the base64 (RFC 4648 section 4) of a document that is this body
pub record IsCodedBody (value : Data) (body : Body) : Type 0 where
  pub text : List ℕ
  pub coded : IsText value text
  pub bytes : List ℕ
  pub decoded : base64_bytes text ≡ Some bytes
  pub tree : Data
  pub document : document_of bytes ≡ Ok tree
  pub is : IsBodyOf tree body

-- the members that an entry may have
abbrev pub api_names : List (List ℕ)
api_names =
    codes "uuid" ∷ codes "attestation" ∷ codes "body" ∷ codes "integratedTime" ∷ codes "logID" ∷ codes "logIndex"
    ∷ codes "verification" ∷ []

-- the value is this entry, and has no other members
pub record IsEntryOf (d : Data) (entry : LogEntry) : Type 0 where
  pub only : has_only api_names d ≡ true
  pub uuid : MayHave IsText (codes "uuid") d entry.uuid
  pub attestation : MayHave IsAttestation (codes "attestation") d entry.attestation
  pub body : (value : Data) × Has (codes "body") d value × IsCodedBody value entry.body
  pub time : HasI64 (codes "integratedTime") d entry.integrated_time
  pub log : HasText (codes "logID") d entry.log_i_d
  pub index : HasI64 (codes "logIndex") d entry.log_index
  pub verification : (value : Data) × Has (codes "verification") d value × IsVerification value entry.verification

-- a text is read as an entry if and only if it is a document that is this entry
abbrev pub EntriesAreRead : Type 0
EntriesAreRead =
    (text : List ℕ) (entry : LogEntry) → (entry_in text ≡ Some entry)
    ↔ ((tree : Data) × (document_of text ≡ Ok tree) × IsEntryOf tree entry)

-- ---- what is written

-- the value is an object whose members have these names, in byte order, and no others
abbrev pub HasNames : List (List ℕ) → Data → Type 0
HasNames names d = option_map keys_of (members_of d) ≡ Some names

abbrev pub HasValue : List ℕ → Data → Data → Type 0
HasValue name d value = get name d ≡ Some value

-- the value is the JSON of an entry of a kind of this name, of this version, which says this
pub record IsJsonOf (name number : List ℕ) (said d : Data) : Type 0 where
  pub names : HasNames (codes "apiVersion" ∷ codes "kind" ∷ codes "spec" ∷ []) d
  pub version : HasValue (codes "apiVersion") d (string number)
  pub kind : HasValue (codes "kind") d (string name)
  pub spec : HasValue (codes "spec") d said

-- the value is what a `hashedrekord` says: `data.hash` is the hash, and `signature` the signature with the key
pub record IsSpecOf (spec : Spec) (d : Data) : Type 0 where
  pub names : HasNames (codes "data" ∷ codes "signature" ∷ []) d
  pub hashed : Data
  pub has_hashed : HasValue (codes "data") d hashed
  pub hashed_names : HasNames (codes "hash" ∷ []) hashed
  pub hash : Data
  pub has_hash : HasValue (codes "hash") hashed hash
  pub hash_names : HasNames (codes "algorithm" ∷ codes "value" ∷ []) hash
  pub algorithm : HasValue (codes "algorithm") hash (string (algorithm_name spec.logged_data.hash.algorithm))
  pub value : HasValue (codes "value") hash (string spec.logged_data.hash.value)
  pub signed : Data
  pub has_signed : HasValue (codes "signature") d signed
  pub signed_names : HasNames (codes "content" ∷ codes "publicKey" ∷ []) signed
  pub content : HasValue (codes "content") signed (string spec.signature.content)
  pub key : Data
  pub has_key : HasValue (codes "publicKey") signed key
  pub key_names : HasNames (codes "content" ∷ []) key
  pub key_content : HasValue (codes "content") key (string (key_text spec.signature.public_key))

abbrev pub BodiesAreWritten : Type 0
BodiesAreWritten = (body : Body) → IsJsonOf (kind_name body.kind) body.api_version body.spec (body_tree body)

abbrev pub HashedrekordsAreWritten : Type 0
HashedrekordsAreWritten =
    (entry : Hashedrekord) → IsJsonOf entry.kind entry.api_version (spec_json entry.spec) (hashedrekord_json entry)
    × IsSpecOf entry.spec (spec_json entry.spec)
