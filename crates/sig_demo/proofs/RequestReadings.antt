-- The request's document means the request.
use Rattle.std.proofs.Common.{◌≡◌, ℕ, ◌<◌, ◌≤◌, ◌^◌, ◌/◌, pos, List, [], ◌∷◌, length, codes, Option, Some, None, Result, Ok, Err, IfOk, refl}
use Rattle.std.proofs.Common.{arith}
use Rattle.std.proofs.lemmas.Bool.{lt-ltb}
use Rattle.std.specs.Prelude.{option_map}
use Rattle.sig_base.specs.OptionSteps.{◌>>=◌}
use Rattle.sig_base.specs.declared.checker.AcceptedRow.{AcceptedRow}
use Rattle.sig_base.specs.declared.checker.Operation.TheVariants.{Message}
use Rattle.sig_base.specs.declared.scheme.SigningScheme.TheVariants.{ECDSA_P256_SHA256_ASN1}
use Rattle.sig_json.specs.Writing.{IsReadAs, bytes_tree, list_tree, object_of}
use Rattle.sig_json.specs.Data.{Data, Members, no_members, number, object, put, string}
use Rattle.sig_json.specs.Find.{of_integer}
use Rattle.sig_json.specs.Kinds.{bytes_of, hash_of, i64_of, text_of, u64_of}
use Rattle.sig_json.specs.Member.{list_each, member_of, not_null, optional, optional_list, optional_or, required}
use Rattle.sig_rekor.specs.CheckpointText.{checkpoint_text}
use Rattle.sig_rekor.specs.NoteText.{note_text}
use Rattle.sig_request.specs.Accepted.{with_rows}
use Rattle.sig_request.specs.HeadMembers.{head_of}
use Rattle.sig_request.specs.Request.{log_members, log_request}
use Rattle.sig_request.specs.Row.{entries_of, operation_kind, row_of, scheme_for, scheme_kind}
use Rattle.sig_demo.specs.Log.{demo_checkpoint, demo_entry, demo_index}
use Rattle.sig_demo.specs.Request.{demo_key, demo_row, demo_scheme, hash_tree, request_of, request_tree, row_over}
use Rattle.sig_demo.specs.Request.{row_tree}
use Rattle.sig_demo.specs.declared.log.DemoLog.{DemoLog}

-- a fact is one of every value
pub always : {A E : Type 0} → (r : Result A E) (P : Type 0) → P → IfOk r (λ _. P)
always (Ok x) P holds = holds
always (Err e) P holds = tt

-- ---- a member that is there

there : {A : Type 0} → (kind : Data → Option A) (name : List ℕ) (d value : Data) (x : A)
    → member_of name d ≡ Some (not_null value) → IsReadAs kind value x → required kind name d ≡ Some x
unfolding required
there kind name d value x found back = rw (found, back.1, back.0) refl

there-or : {A : Type 0} → (absent : A) (kind : Data → Option A) (name : List ℕ) (d value : Data) (x : A)
    → member_of name d ≡ Some (not_null value) → IsReadAs kind value x → optional_or absent kind name d ≡ Some x
unfolding optional_or
there-or absent kind name d value x found back = rw (found, back.1, back.0) refl

there-optional : {A : Type 0} → (kind : Data → Option A) (name : List ℕ) (d value : Data) (x : A)
    → member_of name d ≡ Some (not_null value) → IsReadAs kind value x → optional kind name d ≡ Some (Some x)
unfolding optional_or
there-optional kind name d value x found back = rw (found, back.1, back.0) refl

-- ---- values

text-back : (text : List ℕ) → IsReadAs text_of (string text) text
unfolding text_of
text-back text = (refl, refl)

i64-back : (n : ℕ) → n < 2 ^ 63 → IsReadAs i64_of (number (of_integer (pos n))) (pos n)
unfolding i64_of
i64-back n small = (rw (lt-ltb n (2 ^ 63) small) refl, refl)

u64-back : (n : ℕ) → n < 2 ^ 64 → IsReadAs u64_of (number (of_integer (pos n))) n
unfolding u64_of
u64-back n small = (rw (lt-ltb n (2 ^ 64) small) refl, refl)

scheme-back : IsReadAs scheme_kind (string demo_scheme) ECDSA_P256_SHA256_ASN1
unfolding scheme_kind text_of
scheme-back = (refl, refl)

operation-back : IsReadAs operation_kind (string (codes "message")) Message
unfolding operation_kind text_of
operation-back = (refl, refl)

-- ---- a row of `accepted`

abbrev row_by : Data → Data → Data → Data → Data → Data
row_by operation scheme key message signature =
    object_of (
    (codes "operation", Some operation)
    ∷ (codes "scheme", Some scheme)
    ∷ (codes "key", Some key)
    ∷ (codes "message", Some message)
    ∷ (codes "signature", Some signature)
    ∷ []
    )

row-operation : (o s k m g : Data) → member_of (codes "operation") (row_by o s k m g) ≡ Some (not_null o)
unfolding member_of
row-operation o s k m g = refl

row-scheme : (o s k m g : Data) → member_of (codes "scheme") (row_by o s k m g) ≡ Some (not_null s)
unfolding member_of
row-scheme o s k m g = refl

row-key : (o s k m g : Data) → member_of (codes "key") (row_by o s k m g) ≡ Some (not_null k)
unfolding member_of
row-key o s k m g = refl

row-message : (o s k m g : Data) → member_of (codes "message") (row_by o s k m g) ≡ Some (not_null m)
unfolding member_of
row-message o s k m g = refl

row-signature : (o s k m g : Data) → member_of (codes "signature") (row_by o s k m g) ≡ Some (not_null g)
unfolding member_of
row-signature o s k m g = refl

scheme-read : (d : Data) → required scheme_kind (codes "scheme") d ≡ Some ECDSA_P256_SHA256_ASN1
    → scheme_for Message d ≡ Some demo_scheme
scheme-read d found = rw found refl

row-read : (o s k m g : Data) (key message signature : List ℕ) → IsReadAs operation_kind o Message
    → IsReadAs scheme_kind s ECDSA_P256_SHA256_ASN1 → IsReadAs bytes_of k key → IsReadAs bytes_of m message
    → IsReadAs bytes_of g signature
    → row_of (row_by o s k m g) ≡ Some (record {
      operation = Message;
      scheme = demo_scheme;
      key = key;
      message = message;
      signature = signature;
    })
unfolding row_of
row-read o s k m g key message signature operation scheme keys messages signatures =
    let d : Data = row_by o s k m g in
    rw (
      there operation_kind (codes "operation") d o Message (row-operation o s k m g) operation,
      scheme-read d (there scheme_kind (codes "scheme") d s ECDSA_P256_SHA256_ASN1 (row-scheme o s k m g) scheme),
      there bytes_of (codes "key") d k key (row-key o s k m g) keys,
      there bytes_of (codes "message") d m message (row-message o s k m g) messages,
      there bytes_of (codes "signature") d g signature (row-signature o s k m g) signatures,
    ) refl

pub row_back : (message : List ℕ) → IsReadAs bytes_of (bytes_tree demo_key) demo_key
    → IsReadAs bytes_of (bytes_tree message) message → IsReadAs bytes_of (bytes_tree (codes "sig")) (codes "sig")
    → IsReadAs row_of (row_tree (row_over message)) (row_over message)
unfolding row_tree
row_back message key messages signature = (
  row-read (string (codes "message")) (string demo_scheme) (bytes_tree demo_key) (bytes_tree message)
      (bytes_tree (codes "sig")) demo_key message (codes "sig") operation-back scheme-back key messages signature,
  refl,
)

pub row_written : (message : List ℕ) (document : Data) (a b c d e f : Members)
    → a ≡ no_members → b ≡ put (codes "operation") (string (codes "message")) a
    → c ≡ put (codes "scheme") (string demo_scheme) b → d ≡ put (codes "key") (bytes_tree demo_key) c
    → e ≡ put (codes "message") (bytes_tree message) d → f ≡ put (codes "signature") (bytes_tree (codes "sig")) e
    → document ≡ object f → document ≡ row_tree (row_over message)
unfolding row_tree
row_written message document a b c d e f first second third fourth fifth sixth whole =
    rw (whole, sixth, fifth, fourth, third, second, first) refl

-- ---- the request

abbrev pub request_by : Data → Data → Data → Data → Data → Data → Data → Data → Data → Data → Data
request_by entry index size root hashes checkpoint scheme key accepted entries =
    object_of (
    (codes "entry", Some entry)
    ∷ (codes "logIndex", Some index)
    ∷ (codes "treeSize", Some size)
    ∷ (codes "rootHash", Some root)
    ∷ (codes "hashes", Some hashes)
    ∷ (codes "checkpoint", Some checkpoint)
    ∷ (codes "scheme", Some scheme)
    ∷ (codes "key", Some key)
    ∷ (codes "accepted", Some accepted)
    ∷ (codes "entries", Some entries)
    ∷ []
    )

has_entry : (a b c d e f g h i j : Data)
    → member_of (codes "entry") (request_by a b c d e f g h i j) ≡ Some (not_null a)
unfolding member_of
has_entry a b c d e f g h i j = refl

has_index : (a b c d e f g h i j : Data)
    → member_of (codes "logIndex") (request_by a b c d e f g h i j) ≡ Some (not_null b)
unfolding member_of
has_index a b c d e f g h i j = refl

has_size : (a b c d e f g h i j : Data)
    → member_of (codes "treeSize") (request_by a b c d e f g h i j) ≡ Some (not_null c)
unfolding member_of
has_size a b c d e f g h i j = refl

has_root : (a b c d e f g h i j : Data)
    → member_of (codes "rootHash") (request_by a b c d e f g h i j) ≡ Some (not_null d)
unfolding member_of
has_root a b c d e f g h i j = refl

has_hashes : (a b c d e f g h i j : Data)
    → member_of (codes "hashes") (request_by a b c d e f g h i j) ≡ Some (not_null e)
unfolding member_of
has_hashes a b c d e f g h i j = refl

has_checkpoint : (a b c d e f g h i j : Data)
    → member_of (codes "checkpoint") (request_by a b c d e f g h i j) ≡ Some (not_null f)
unfolding member_of
has_checkpoint a b c d e f g h i j = refl

has_scheme : (a b c d e f g h i j : Data)
    → member_of (codes "scheme") (request_by a b c d e f g h i j) ≡ Some (not_null g)
unfolding member_of
has_scheme a b c d e f g h i j = refl

has_key : (a b c d e f g h i j : Data)
    → member_of (codes "key") (request_by a b c d e f g h i j) ≡ Some (not_null h)
unfolding member_of
has_key a b c d e f g h i j = refl

has_accepted : (a b c d e f g h i j : Data)
    → member_of (codes "accepted") (request_by a b c d e f g h i j) ≡ Some (not_null i)
unfolding member_of
has_accepted a b c d e f g h i j = refl

has_entries : (a b c d e f g h i j : Data)
    → member_of (codes "entries") (request_by a b c d e f g h i j) ≡ Some (not_null j)
unfolding member_of
has_entries a b c d e f g h i j = refl

pub request_back : (log : DemoLog) → log.count ≤ 4096
    → IsReadAs bytes_of (bytes_tree (demo_entry (demo_index log.count))) (demo_entry (demo_index log.count))
    → IsReadAs hash_of (hash_tree log.root) log.root
    → IsReadAs (list_each hash_of) (list_tree hash_tree log.path) log.path
    → IsReadAs bytes_of (bytes_tree demo_key) demo_key
    → IsReadAs (list_each row_of) (list_tree row_tree (demo_row log ∷ [])) (demo_row log ∷ [])
    → IsReadAs (list_each bytes_of) (list_tree bytes_tree log.entries) log.entries
    → log_request (request_tree log) ≡ Some (request_of log)
unfolding request_tree request_of with_rows log_members head_of
request_back log small entry root hashes key accepted entries =
    let a : Data = bytes_tree (demo_entry (demo_index log.count)) in
    let b : Data = number (of_integer (pos (demo_index log.count))) in
    let c : Data = number (of_integer (pos log.count)) in
    let d : Data = hash_tree log.root in
    let e : Data = list_tree hash_tree log.path in
    let f : Data = string (checkpoint_text (demo_checkpoint log)) in
    let g : Data = string demo_scheme in
    let h : Data = bytes_tree demo_key in
    let i : Data = list_tree row_tree (demo_row log ∷ []) in
    let j : Data = list_tree bytes_tree log.entries in
    let t : Data = request_by a b c d e f g h i j in
    rw (
      there-or [] (list_each row_of) (codes "accepted") t i _ (has_accepted a b c d e f g h i j) accepted,
      there bytes_of (codes "entry") t a _ (has_entry a b c d e f g h i j) entry,
      there i64_of (codes "logIndex") t b _ (has_index a b c d e f g h i j)
          (i64-back (demo_index log.count) (omega arith)),
      there u64_of (codes "treeSize") t c _ (has_size a b c d e f g h i j) (u64-back log.count (omega arith)),
      there hash_of (codes "rootHash") t d _ (has_root a b c d e f g h i j) root,
      there-or [] (list_each hash_of) (codes "hashes") t e _ (has_hashes a b c d e f g h i j) hashes,
      there text_of (codes "checkpoint") t f _ (has_checkpoint a b c d e f g h i j)
          (text-back (checkpoint_text (demo_checkpoint log))),
      there scheme_kind (codes "scheme") t g _ (has_scheme a b c d e f g h i j) scheme-back,
      there bytes_of (codes "key") t h _ (has_key a b c d e f g h i j) key,
      there-optional entries_of (codes "entries") t j _ (has_entries a b c d e f g h i j) entries,
    ) refl

pub request_written : (log : DemoLog) (document : Data) (z a b c d e f g h i j : Members)
    → z ≡ no_members → a ≡ put (codes "entry") (bytes_tree (demo_entry (demo_index log.count))) z
    → b ≡ put (codes "logIndex") (number (of_integer (pos (demo_index log.count)))) a
    → c ≡ put (codes "treeSize") (number (of_integer (pos log.count))) b
    → d ≡ put (codes "rootHash") (hash_tree log.root) c
    → e ≡ put (codes "hashes") (list_tree hash_tree log.path) d
    → f ≡ put (codes "checkpoint") (string (checkpoint_text (demo_checkpoint log))) e
    → g ≡ put (codes "scheme") (string demo_scheme) f → h ≡ put (codes "key") (bytes_tree demo_key) g
    → i ≡ put (codes "accepted") (list_tree row_tree (demo_row log ∷ [])) h
    → j ≡ put (codes "entries") (list_tree bytes_tree log.entries) i → document ≡ object j
    → document ≡ request_tree log
unfolding request_tree
request_written log document z a b c d e f g h i j zero first second third fourth fifth sixth seventh eighth ninth
    tenth whole =
    rw (whole, tenth, ninth, eighth, seventh, sixth, fifth, fourth, third, second, first, zero) refl

pub ruleset back = (row_back)
