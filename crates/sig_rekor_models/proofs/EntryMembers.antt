-- The members of an entry: what is read of each, and what the object has under its name.
use Rattle.std.proofs.Common.{◌≡◌, ℕ, ℤ, List, [], ◌∷◌, codes, map, Bool, true, false, cond, Option, Some, None, option_map, Result, Ok, Err}
use Rattle.std.proofs.Common.{refl, sym, ap, subst, ◌∙◌}
use Rattle.std.proofs.lemmas.Slice.Eq.{bytes_eq-Decides}
use Rattle.std.specs.Result.{result_ok}
use Rattle.std.specs.Str.{bytes_eq}
use Rattle.sig_base.proofs.OptionSteps.{bind_is, some_is}
use Rattle.sig_base.proofs.ResultSteps.{ok_from}
use Rattle.sig_base.specs.Base64.{base64_bytes}
use Rattle.sig_base.specs.OptionSteps.{◌>>=◌}
use Rattle.sig_json.proofs.Records.{record_in-read, record_in-tree}
use Rattle.sig_json.specs.Closed.{has_only}
use Rattle.sig_json.specs.Data.{Data, Items, null, boolean, number, string, array, object}
use Rattle.sig_json.specs.Document.{document_of}
use Rattle.sig_json.specs.Kinds.{bytes_of, text_of}
use Rattle.sig_json.specs.List.{items_list}
use Rattle.sig_json.specs.Member.{each, list_each, member_of, optional, optional_or, required, required_list, required_text, there_or}
use Rattle.sig_json.specs.NumberKinds.{i64_number_of, u64_number_of}
use Rattle.sig_json.specs.Record.{record_in}
use Rattle.sig_rekor.specs.declared.rekor_proof.RekorInclusionProof.{RekorInclusionProof}
use Rattle.sig_rekor_models.specs.Body.{Body, body_of, body_tree, coded_body_of, entry_kind_of}
use Rattle.sig_rekor_models.specs.EntryKind.{kind_name, kind_named}
use Rattle.sig_rekor_models.specs.EntryMembers.{EntriesAreRead, Has, HasI64, HasText, HasTexts, IsApiProof, IsAttestation, IsBodyOf}
use Rattle.sig_rekor_models.specs.EntryMembers.{IsCodedBody, IsEntryOf, IsText, IsVerification, MayHave, api_names}
use Rattle.sig_rekor_models.specs.LogEntry.{LogEntry, attestation_of, beside_of, entry_in, entry_members_of, logged_of}
use Rattle.sig_rekor_models.specs.LogEntry.{log_entry_of, placed_of, rekor_proof_of, verification_of}
use Rattle.sig_rekor_models.specs.declared.entry_kind.EntryKind.{EntryKind}
use Rattle.sig_rekor_models.specs.declared.entry_kind.EntryKind.TheVariants as kinds
use Rattle.sig_rekor_models.specs.declared.log_entry.Attestation.{Attestation}
use Rattle.sig_rekor_models.specs.declared.log_entry.Verification.{Verification}
use Rattle.sig_rekor_models.specs.declared.read_entry.Beside.{Beside}
use Rattle.sig_rekor_models.specs.declared.read_entry.Logged.{Logged}
use Rattle.sig_rekor_models.specs.declared.read_entry.Placed.{Placed}

-- ---- a required member

required_takes : {A : Type 0} (kind : Data → Option A) (name : List ℕ) (d : Data) (x : A) → required kind name d ≡ Some x
    → (value : Data) × (member_of name d ≡ Some (Some value)) × (kind value ≡ Some x)
unfolding required
required_takes kind name d x = by_member (member_of name d) refl
  where
    by_member : (there : Option (Option Data)) → member_of name d ≡ there → (there >>= there_or None kind) ≡ Some x
        → (value : Data) × (member_of name d ≡ Some (Some value)) × (kind value ≡ Some x)
    by_member None is e = absurd cc
    by_member (Some None) is e = absurd cc
    by_member (Some (Some value)) is e = (value, is, e)

required_again : {A : Type 0} (kind : Data → Option A) (name : List ℕ) (d value : Data)
    → member_of name d ≡ Some (Some value) → required kind name d ≡ kind value
unfolding required
required_again kind name d value is = rw is refl

-- ---- an optional member

mapped : {A : Type 0} → (read : Option A) (found : Option A) → option_map (λ x. Some x) read ≡ Some found
    → (x : A) × (found ≡ Some x) × (read ≡ Some x)
mapped None found e = absurd cc
mapped (Some y) found e = (y, sym (some_is (Some y) found e), refl)

module _ {A : Type 0} (kind : Data → Option A) (Is : Data → A → Type 0) (name : List ℕ) (d : Data) where
  optional_takes : ((value : Data) (x : A) → kind value ≡ Some x → Is value x) → (found : Option A)
      → optional kind name d ≡ Some found → MayHave Is name d found
  unfolding optional_or
  optional_takes means found = by_member (member_of name d) refl found
    where
      by_member : (there : Option (Option Data)) → member_of name d ≡ there → (found : Option A)
          → (there >>= there_or (Some None) (λ v. option_map (λ x. Some x) (kind v))) ≡ Some found
          → MayHave Is name d found
      by_member None is found e = absurd cc
      by_member (Some None) is None e = is
      by_member (Some None) is (Some x) e = absurd cc
      by_member (Some (Some value)) is None e = let read = mapped (kind value) None e in let no = read.1 in absurd cc
      by_member (Some (Some value)) is (Some x) e =
          let read = mapped (kind value) (Some x) e in
          let same : x ≡ read.0 = some_is x read.0 read.1 in
          (value, is, means value x (read.2 ∙ ap (λ (y : A). Some y) (sym same)))

  optional_again : ((value : Data) (x : A) → Is value x → kind value ≡ Some x) → (found : Option A)
      → MayHave Is name d found → optional kind name d ≡ Some found
  unfolding optional_or
  optional_again read None none = rw none refl
  optional_again read (Some x) has = rw (has.1, read has.0 x has.2) refl

-- ---- texts

text_is : (value : Data) (text : List ℕ) → text_of value ≡ Some text → IsText value text
unfolding text_of
text_is null text e = absurd cc
text_is (boolean b) text e = absurd cc
text_is (number n) text e = absurd cc
text_is (string s) text e = ap (λ (t : List ℕ). string t) (some_is s text e)
text_is (array ds) text e = absurd cc
text_is (object ms) text e = absurd cc

is_text : (value : Data) (text : List ℕ) → IsText value text → text_of value ≡ Some text
unfolding text_of
is_text value text is = rw is refl

text_takes : (name : List ℕ) (d : Data) (text : List ℕ) → required_text name d ≡ Some text → HasText name d text
text_takes name d text e =
    let has = required_takes text_of name d text e in
    has.1 ∙ ap (λ (v : Data). Some (Some v)) (text_is has.0 text has.2)

text_again : (name : List ℕ) (d : Data) (text : List ℕ) → HasText name d text → required_text name d ≡ Some text
text_again name d text has =
    required_again text_of name d (string text) has ∙ is_text (string text) text refl

-- ---- lists of texts

each_takes : (ds : List Data) (texts : List (List ℕ)) → each text_of ds ≡ Some texts
    → ds ≡ map (λ text. string text) texts
each_takes [] texts e = ap (map (λ (text : List ℕ). string text)) (some_is [] texts e)
each_takes (d ∷ ds) texts e =
    let first = bind_is (text_of d) _ texts e in
    let others = bind_is (each text_of ds) _ texts first.2 in
    let whole : first.0 ∷ others.0 ≡ texts = some_is _ _ others.2 in
    ap (λ (v : Data). v ∷ ds) (text_is d first.0 first.1)
    ∙ ap (λ (vs : List Data). string first.0 ∷ vs) (each_takes ds others.0 others.1)
    ∙ ap (map (λ (text : List ℕ). string text)) whole

each_again : (texts : List (List ℕ)) → each text_of (map (λ text. string text) texts) ≡ Some texts
each_again [] = refl
each_again (text ∷ texts) = rw (is_text (string text) text refl, each_again texts) refl

list_takes : (value : Data) (texts : List (List ℕ)) → list_each text_of value ≡ Some texts
    → (elements : Items) × (value ≡ array elements) × (items_list elements ≡ map (λ text. string text) texts)
unfolding list_each
list_takes null texts e = absurd cc
list_takes (boolean b) texts e = absurd cc
list_takes (number n) texts e = absurd cc
list_takes (string s) texts e = absurd cc
list_takes (array ds) texts e = (ds, refl, each_takes (items_list ds) texts e)
list_takes (object ms) texts e = absurd cc

list_again : (elements : Items) (texts : List (List ℕ)) → items_list elements ≡ map (λ text. string text) texts
    → list_each text_of (array elements) ≡ Some texts
unfolding list_each
list_again elements texts are = ap (each text_of) are ∙ each_again texts

texts_take : (name : List ℕ) (d : Data) (texts : List (List ℕ)) → required_list text_of name d ≡ Some texts
    → HasTexts name d texts
texts_take name d texts e =
    let has = required_takes (list_each text_of) name d texts e in
    let list = list_takes has.0 texts has.2 in
    (list.0, has.1 ∙ ap (λ (v : Data). Some (Some v)) list.1, list.2)

texts_again : (name : List ℕ) (d : Data) (texts : List (List ℕ)) → HasTexts name d texts
    → required_list text_of name d ≡ Some texts
texts_again name d texts has =
    required_again (list_each text_of) name d (array has.0) has.1 ∙ list_again has.0 texts has.2

-- ---- what a log proves and promises

proof_takes : (d : Data) (p : RekorInclusionProof) → rekor_proof_of d ≡ Some p → IsApiProof d p
unfolding rekor_proof_of
proof_takes d p e =
    let hashes = bind_is (required_list text_of (codes "hashes") d) _ p e in
    let index = bind_is (required i64_number_of (codes "logIndex") d) _ p hashes.2 in
    let root = bind_is (required_text (codes "rootHash") d) _ p index.2 in
    let size = bind_is (required u64_number_of (codes "treeSize") d) _ p root.2 in
    let checkpoint = bind_is (required_text (codes "checkpoint") d) _ p size.2 in
    let is : record {
      hashes = hashes.0;
      log_index = index.0;
      root_hash = root.0;
      tree_size = size.0;
      checkpoint = checkpoint.0;
    } ≡ p = some_is _ _ checkpoint.2 in
    rw (← is) (record {
      hashes = texts_take (codes "hashes") d hashes.0 hashes.1;
      index = required_takes i64_number_of (codes "logIndex") d index.0 index.1;
      root = text_takes (codes "rootHash") d root.0 root.1;
      size = required_takes u64_number_of (codes "treeSize") d size.0 size.1;
      checkpoint = text_takes (codes "checkpoint") d checkpoint.0 checkpoint.1;
    })

proof_again : (d : Data) (p : RekorInclusionProof) → IsApiProof d p → rekor_proof_of d ≡ Some p
unfolding rekor_proof_of
proof_again d p is =
    rw (
      texts_again (codes "hashes") d p.hashes is.hashes,
      required_again i64_number_of (codes "logIndex") d is.index.0 is.index.1,
      is.index.2,
      text_again (codes "rootHash") d p.root_hash is.root,
      required_again u64_number_of (codes "treeSize") d is.size.0 is.size.1,
      is.size.2,
      text_again (codes "checkpoint") d p.checkpoint is.checkpoint,
    ) refl

verification_takes : (d : Data) (v : Verification) → verification_of d ≡ Some v → IsVerification d v
unfolding verification_of
verification_takes d v e =
    let proof = bind_is (optional rekor_proof_of (codes "inclusionProof") d) _ v e in
    let promise = bind_is (required_text (codes "signedEntryTimestamp") d) _ v proof.2 in
    let is : record { inclusion_proof = proof.0; signed_entry_timestamp = promise.0 } ≡ v = some_is _ _ promise.2 in
    rw (← is) (record {
      proof = optional_takes rekor_proof_of IsApiProof (codes "inclusionProof") d proof_takes proof.0 proof.1;
      promise = text_takes (codes "signedEntryTimestamp") d promise.0 promise.1;
    })

verification_again : (d : Data) (v : Verification) → IsVerification d v → verification_of d ≡ Some v
unfolding verification_of
verification_again d v is =
    rw (
      optional_again rekor_proof_of IsApiProof (codes "inclusionProof") d proof_again v.inclusion_proof is.proof,
      text_again (codes "signedEntryTimestamp") d v.signed_entry_timestamp is.promise,
    ) refl

attestation_takes : (d : Data) (a : Attestation) → attestation_of d ≡ Some a → IsAttestation d a
unfolding attestation_of
attestation_takes d a e =
    let dummy = bind_is (optional text_of (codes "dummy") d) _ a e in
    let is : record { dummy = dummy.0 } ≡ a = some_is _ _ dummy.2 in
    rw (← is) (optional_takes text_of IsText (codes "dummy") d text_is dummy.0 dummy.1)

attestation_again : (d : Data) (a : Attestation) → IsAttestation d a → attestation_of d ≡ Some a
unfolding attestation_of
attestation_again d a is = rw (optional_again text_of IsText (codes "dummy") d is_text a.dummy is) refl

-- ---- the body

-- a name is compared with that of one kind, and then with the others
one_of : (name : List ℕ) (k first : EntryKind) (others : Option EntryKind) → (others ≡ Some k → name ≡ kind_name k)
    → cond (bytes_eq name (kind_name first)) (Some first) others ≡ Some k → name ≡ kind_name k
one_of name k first others later = by_test (bytes_eq name (kind_name first)) refl
  where
    by_test : (same : Bool) → bytes_eq name (kind_name first) ≡ same → cond same (Some first) others ≡ Some k
        → name ≡ kind_name k
    by_test true is e = (bytes_eq-Decides name (kind_name first)).0 is ∙ ap kind_name (some_is first k e)
    by_test false is e = later e

named_is : (name : List ℕ) (k : EntryKind) → kind_named name ≡ Some k → name ≡ kind_name k
named_is name k =
    one_of name k kinds.Alpine _ (one_of name k kinds.Hashedrekord _ (one_of name k kinds.Helm _
    (one_of name k kinds.Intoto _ (one_of name k kinds.Jar _ (one_of name k kinds.Rekord _
    (one_of name k kinds.Rfc3161 _ (one_of name k kinds.Rpm _ (one_of name k kinds.Tuf _ (λ e. absurd cc)))))))))

name_again : (k : EntryKind) → kind_named (kind_name k) ≡ Some k
name_again kinds.Alpine = refl
name_again kinds.Hashedrekord = refl
name_again kinds.Helm = refl
name_again kinds.Intoto = refl
name_again kinds.Jar = refl
name_again kinds.Rekord = refl
name_again kinds.Rfc3161 = refl
name_again kinds.Rpm = refl
name_again kinds.Tuf = refl

body_takes : (d : Data) (b : Body) → body_of d ≡ Some b → IsBodyOf d b
unfolding body_of
body_takes d b e =
    let kind = bind_is (required entry_kind_of (codes "kind") d) _ b e in
    let version = bind_is (required_text (codes "apiVersion") d) _ b kind.2 in
    let spec = bind_is (required (λ v. Some v) (codes "spec") d) _ b version.2 in
    let is : record { kind = kind.0; api_version = version.0; spec = spec.0 } ≡ b = some_is _ _ spec.2 in
    let held = required_takes entry_kind_of (codes "kind") d kind.0 kind.1 in
    let name = bind_is (text_of held.0) kind_named kind.0 held.2 in
    let said = required_takes (λ (v : Data). Some v) (codes "spec") d spec.0 spec.1 in
    rw (← is) (record {
      kind = held.1 ∙ ap (λ (v : Data). Some (Some v))
          (text_is held.0 name.0 name.1 ∙ ap (λ (t : List ℕ). string t) (named_is name.0 kind.0 name.2));
      version = text_takes (codes "apiVersion") d version.0 version.1;
      spec = said.1 ∙ ap (λ (v : Data). Some (Some v)) (some_is said.0 spec.0 said.2);
    })

body_again : (d : Data) (b : Body) → IsBodyOf d b → body_of d ≡ Some b
unfolding body_of text_of
body_again d b is =
    rw (
      required_again entry_kind_of (codes "kind") d (string (kind_name b.kind)) is.kind,
      name_again b.kind,
      text_again (codes "apiVersion") d b.api_version is.version,
      required_again (λ (v : Data). Some v) (codes "spec") d b.spec is.spec,
    ) refl

coded_takes : (value : Data) (b : Body) → coded_body_of value ≡ Some b → IsCodedBody value b
unfolding coded_body_of bytes_of text_of
coded_takes value b e =
    let bytes = bind_is (bytes_of value) _ b e in
    let text = bind_is (text_of value) base64_bytes bytes.0 bytes.1 in
    let read = record_in-tree body_of bytes.0 b (ok_from (record_in body_of bytes.0) b bytes.2) in
    record {
      text = text.0;
      coded = text_is value text.0 text.1;
      bytes = bytes.0;
      decoded = text.2;
      tree = read.0;
      document = read.1;
      is = body_takes read.0 b read.2;
    }

coded_again : (value : Data) (b : Body) → IsCodedBody value b → coded_body_of value ≡ Some b
unfolding coded_body_of bytes_of
coded_again value b is =
    rw (
      is.coded,
      is.decoded,
      record_in-read body_of is.bytes is.tree b is.document (body_again is.tree b is.is),
    ) refl

-- ---- the entry

logged_takes : (d : Data) (l : Logged) → logged_of d ≡ Some l
    → HasI64 (codes "integratedTime") d l.integrated_time × HasText (codes "logID") d l.log_i_d
unfolding logged_of
logged_takes d l e =
    let time = bind_is (required i64_number_of (codes "integratedTime") d) _ l e in
    let log = bind_is (required_text (codes "logID") d) _ l time.2 in
    let is : record { integrated_time = time.0; log_i_d = log.0 } ≡ l = some_is _ _ log.2 in
    rw (← is) (
      required_takes i64_number_of (codes "integratedTime") d time.0 time.1,
      text_takes (codes "logID") d log.0 log.1,
    )

placed_takes : (d : Data) (p : Placed) → placed_of d ≡ Some p
    → HasI64 (codes "logIndex") d p.log_index
    × ((value : Data) × Has (codes "verification") d value × IsVerification value p.verification)
unfolding placed_of
placed_takes d p e =
    let index = bind_is (required i64_number_of (codes "logIndex") d) _ p e in
    let verification = bind_is (required verification_of (codes "verification") d) _ p index.2 in
    let is : record { log_index = index.0; verification = verification.0 } ≡ p = some_is _ _ verification.2 in
    let held = required_takes verification_of (codes "verification") d verification.0 verification.1 in
    rw (← is) (
      required_takes i64_number_of (codes "logIndex") d index.0 index.1,
      (held.0, held.1, verification_takes held.0 verification.0 held.2),
    )

beside_takes : (d : Data) (b : Beside) → beside_of d ≡ Some b
    → MayHave IsText (codes "uuid") d b.uuid × MayHave IsAttestation (codes "attestation") d b.attestation
unfolding beside_of
beside_takes d b e =
    let uuid = bind_is (optional text_of (codes "uuid") d) _ b e in
    let attestation = bind_is (optional attestation_of (codes "attestation") d) _ b uuid.2 in
    let is : record { uuid = uuid.0; attestation = attestation.0 } ≡ b = some_is _ _ attestation.2 in
    rw (← is) (
      optional_takes text_of IsText (codes "uuid") d text_is uuid.0 uuid.1,
      optional_takes attestation_of IsAttestation (codes "attestation") d attestation_takes attestation.0
          attestation.1,
    )

members_take : (d : Data) (entry : LogEntry) → has_only api_names d ≡ true → entry_members_of d ≡ Some entry
    → IsEntryOf d entry
unfolding entry_members_of
members_take d entry only e =
    let logged = bind_is (logged_of d) _ entry e in
    let placed = bind_is (placed_of d) _ entry logged.2 in
    let beside = bind_is (beside_of d) _ entry placed.2 in
    let body = bind_is (required coded_body_of (codes "body") d) _ entry beside.2 in
    let held = required_takes coded_body_of (codes "body") d body.0 body.1 in
    let by_log = logged_takes d logged.0 logged.1 in
    let by_place = placed_takes d placed.0 placed.1 in
    let by_others = beside_takes d beside.0 beside.1 in
    subst (λ (made : LogEntry). IsEntryOf d made) (some_is _ _ body.2) (record {
      only = only;
      uuid = by_others.0;
      attestation = by_others.1;
      body = (held.0, held.1, coded_takes held.0 body.0 held.2);
      time = by_log.0;
      log = by_log.1;
      index = by_place.0;
      verification = by_place.1;
    })

members_again : (d : Data) (entry : LogEntry) → IsEntryOf d entry → entry_members_of d ≡ Some entry
unfolding entry_members_of logged_of placed_of beside_of
members_again d entry is =
    rw (
      required_again i64_number_of (codes "integratedTime") d is.time.0 is.time.1,
      is.time.2,
      text_again (codes "logID") d entry.log_i_d is.log,
      required_again i64_number_of (codes "logIndex") d is.index.0 is.index.1,
      is.index.2,
      required_again verification_of (codes "verification") d is.verification.0 is.verification.1,
      verification_again is.verification.0 entry.verification is.verification.2,
      optional_again text_of IsText (codes "uuid") d is_text entry.uuid is.uuid,
      optional_again attestation_of IsAttestation (codes "attestation") d attestation_again entry.attestation
          is.attestation,
      required_again coded_body_of (codes "body") d is.body.0 is.body.1,
      coded_again is.body.0 entry.body is.body.2,
    ) refl

entry_takes : (d : Data) (entry : LogEntry) → log_entry_of d ≡ Some entry → IsEntryOf d entry
unfolding log_entry_of
entry_takes d entry = by_test (has_only api_names d) refl
  where
    by_test : (only : Bool) → has_only api_names d ≡ only → cond only (entry_members_of d) None ≡ Some entry
        → IsEntryOf d entry
    by_test true is e = members_take d entry is e
    by_test false is e = absurd cc

entry_again : (d : Data) (entry : LogEntry) → IsEntryOf d entry → log_entry_of d ≡ Some entry
unfolding log_entry_of
entry_again d entry is = rw is.only (members_again d entry is)

pub entries_are_read : EntriesAreRead
unfolding entry_in
entries_are_read text entry = (
  λ e.
      let read = record_in-tree log_entry_of text entry (ok_from (record_in log_entry_of text) entry e) in
      (read.0, read.1, entry_takes read.0 entry read.2),
  λ is. rw (record_in-read log_entry_of text is.0 entry is.1 (entry_again is.0 entry is.2)) refl,
)
