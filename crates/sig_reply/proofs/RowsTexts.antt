-- The document of a list of signatures: how it grows, how long it is, and that it is read back.
use Rattle.std.proofs.Common.{◌≡◌, ◌<◌, ◌≤◌, ◌+◌, ℕ, List, [], ◌∷◌, ◌++◌, length, take, drop, get_or, codes, true}
use Rattle.std.proofs.Common.{Option, Some, None, Ok, refl, sym, ap, subst, ◌∙◌, arith, length-append}
use Rattle.std.proofs.lemmas.List.{take-append-drop, take_all, take_more}
use Rattle.sig_base.proofs.AcceptedRows.{as_row}
use Rattle.sig_base.specs.OptionSteps.{◌>>=◌}
use Rattle.sig_base.specs.Scheme.{name_of, scheme_of}
use Rattle.sig_base.specs.declared.checker.AcceptedRow.{AcceptedRow}
use Rattle.sig_base.specs.declared.checker.Operation.{Operation}
use Rattle.sig_base.specs.declared.checker.Operation.TheVariants.{Message, Prehash, Point, Certificate}
use Rattle.sig_base.specs.declared.scheme.VerifyScheme.{VerifyScheme}
use Rattle.sig_base.specs.declared.scheme.VerifyScheme.TheVariants as verify
use Rattle.sig_json.proofs.WrittenLists.{list_back-append, list_back-none, list_more, list_tree-append}
use Rattle.sig_json.specs.Writing.{IsReadAs, bytes_tree, items_of}
use Rattle.sig_json.specs.Builders.{with_last}
use Rattle.sig_json.specs.Data.{Data, depth, items_depth, string}
use Rattle.sig_json.specs.Document.{document_of}
use Rattle.sig_json.specs.Kinds.{bytes_of, text_of}
use Rattle.sig_json.specs.Member.{list_each, member_of, required, optional, optional_or}
use Rattle.sig_json.specs.Read.{max_depth}
use Rattle.sig_json.specs.Written.{compact_text, items_text}
use Rattle.sig_request.specs.Row.{no_kind, operation_kind, row_of, scheme_for, scheme_kind}
use Rattle.sig_reply.specs.RowsText.{AddsRow, FitsBeside, IsDocumentOf, IsListOf, IsRowReadBack, IsSchemeRead, room_beside}
use Rattle.sig_reply.specs.RowsText.{row_tree, rows_size, rows_text}
use Rattle.sig_reply.specs.RowsText.{operation_word, rows_tree, scheme_tree}

-- ---- a signature is read back

required-there : {A : Type 0} → (kind : Data → Option A) (name : List ℕ) (d value : Data) (x : A)
    → member_of name d ≡ Some (Some value) → kind value ≡ Some x → required kind name d ≡ Some x
unfolding required
required-there kind name d value x there back = rw (there, back) refl

optional-absent : {A : Type 0} → (kind : Data → Option A) (name : List ℕ) (d : Data) → member_of name d ≡ Some None
    → optional kind name d ≡ Some None
unfolding optional_or
optional-absent kind name d there = rw there refl

scheme-back : (named : VerifyScheme) → (scheme_kind (string (name_of named)) >>= λ scheme. Some (name_of
    (scheme_of scheme))) ≡ Some (name_of named)
unfolding scheme_kind text_of
scheme-back verify.RSA_PSS_SHA256 = refl
scheme-back verify.RSA_PKCS1_SHA256 = refl
scheme-back verify.ECDSA_P256_SHA256_ASN1 = refl
scheme-back verify.ECDSA_P384_SHA384_ASN1 = refl
scheme-back verify.ECDSA_P521_SHA512_ASN1 = refl
scheme-back verify.ED25519 = refl

required-then : {A B : Type 0} → (kind : Data → Option A) (then : A → Option B) (name : List ℕ) (d value : Data)
    → member_of name d ≡ Some (Some value) → (required kind name d >>= then) ≡ (kind value >>= then)
unfolding required
required-then kind then name d value there = rw there refl

-- the members of the object, by their names
has_operation : (o : Operation) (s k m g : List ℕ)
    → member_of (codes "operation") (row_tree (as_row o s k m g)) ≡ Some (Some (string (operation_word o)))
unfolding member_of row_tree bytes_tree
has_operation Message s k m g = refl
has_operation Prehash s k m g = refl
has_operation Point s k m g = refl
has_operation Certificate s k m g = refl

has_scheme : (o : Operation) (s k m g : List ℕ)
    → member_of (codes "scheme") (row_tree (as_row o s k m g)) ≡ Some (scheme_tree o s)
unfolding member_of row_tree bytes_tree
has_scheme Message s k m g = refl
has_scheme Prehash s k m g = refl
has_scheme Point s k m g = refl
has_scheme Certificate s k m g = refl

has_key : (o : Operation) (s k m g : List ℕ)
    → member_of (codes "key") (row_tree (as_row o s k m g)) ≡ Some (Some (bytes_tree k))
unfolding member_of row_tree bytes_tree
has_key Message s k m g = refl
has_key Prehash s k m g = refl
has_key Point s k m g = refl
has_key Certificate s k m g = refl

has_message : (o : Operation) (s k m g : List ℕ)
    → member_of (codes "message") (row_tree (as_row o s k m g)) ≡ Some (Some (bytes_tree m))
unfolding member_of row_tree bytes_tree
has_message Message s k m g = refl
has_message Prehash s k m g = refl
has_message Point s k m g = refl
has_message Certificate s k m g = refl

has_signature : (o : Operation) (s k m g : List ℕ)
    → member_of (codes "signature") (row_tree (as_row o s k m g)) ≡ Some (Some (bytes_tree g))
unfolding member_of row_tree bytes_tree
has_signature Message s k m g = refl
has_signature Prehash s k m g = refl
has_signature Point s k m g = refl
has_signature Certificate s k m g = refl

operation-back : (o : Operation) → operation_kind (string (operation_word o)) ≡ Some o
unfolding operation_kind text_of
operation-back Message = refl
operation-back Prehash = refl
operation-back Point = refl
operation-back Certificate = refl

scheme-read : (o : Operation) (s k m g : List ℕ) → IsSchemeRead o s
    → scheme_for o (row_tree (as_row o s k m g)) ≡ Some s
scheme-read Message s k m g read =
    let tree : Data = row_tree (as_row Message s k m g) in
    required-then scheme_kind (λ scheme. Some (name_of (scheme_of scheme))) (codes "scheme") tree (string s)
    (has_scheme Message s k m g)
    ∙ subst (λ (t : List ℕ). (scheme_kind (string t) >>= λ scheme. Some (name_of (scheme_of scheme))) ≡ Some t)
    (sym read.1) (scheme-back read.0)
scheme-read Prehash s k m g read =
    let tree : Data = row_tree (as_row Prehash s k m g) in
    required-then scheme_kind (λ scheme. Some (name_of (scheme_of scheme))) (codes "scheme") tree (string s)
    (has_scheme Prehash s k m g)
    ∙ subst (λ (t : List ℕ). (scheme_kind (string t) >>= λ scheme. Some (name_of (scheme_of scheme))) ≡ Some t)
    (sym read.1) (scheme-back read.0)
scheme-read Point s k m g read =
    let tree : Data = row_tree (as_row Point s k m g) in
    rw (optional-absent no_kind (codes "scheme") tree (has_scheme Point s k m g), read) refl
scheme-read Certificate s k m g read =
    required-there bytes_of (codes "scheme") (row_tree (as_row Certificate s k m g)) (bytes_tree s) s
    (has_scheme Certificate s k m g) read.0

not-absent : (row : AcceptedRow) → row_of (row_tree row) ≡ Some row → IsRowReadBack row
unfolding row_tree
not-absent row back = (back, refl)

pub row_back : (row : AcceptedRow) → IsSchemeRead row.operation row.scheme
    → IsReadAs bytes_of (bytes_tree row.key) row.key → IsReadAs bytes_of (bytes_tree row.message) row.message
    → IsReadAs bytes_of (bytes_tree row.signature) row.signature → IsRowReadBack row
unfolding row_of
row_back row scheme key message signature =
    let tree : Data = row_tree row in
    not-absent row (rw (
      required-there operation_kind (codes "operation") tree _ row.operation
          (has_operation row.operation row.scheme row.key row.message row.signature) (operation-back row.operation),
      scheme-read row.operation row.scheme row.key row.message row.signature scheme,
      required-there bytes_of (codes "key") tree _ row.key
          (has_key row.operation row.scheme row.key row.message row.signature) key.0,
      required-there bytes_of (codes "message") tree _ row.message
          (has_message row.operation row.scheme row.key row.message row.signature) message.0,
      required-there bytes_of (codes "signature") tree _ row.signature
          (has_signature row.operation row.scheme row.key row.message row.signature) signature.0,
    ) refl)

-- ---- how long the document is

rows_size-append : (rows more : List AcceptedRow) → rows_size (rows ++ more) ≡ rows_size rows + rows_size more
rows_size-append [] more = omega arith
rows_size-append (row ∷ rows) more = omega (arith, rows_size-append rows more)

rows_size-take : (n : ℕ) (rows : List AcceptedRow) → rows_size (take n rows) ≤ rows_size rows
rows_size-take n rows =
    let parts = ap rows_size (take-append-drop n rows) in
    omega (arith, parts, rows_size-append (take n rows) (drop n rows))

items-length : (rows : List AcceptedRow) → length (items_text true (items_of row_tree rows)) ≡ rows_size rows + 1
items-length [] = refl
items-length (row ∷ rows) =
    let both = length-append (compact_text (row_tree row)) (items_text true (items_of row_tree rows)) in
    omega (arith, both, items-length rows)

pub rows_text-length : (row : AcceptedRow) (rows : List AcceptedRow)
    → length (rows_text (row ∷ rows)) ≡ rows_size (row ∷ rows) + 1
rows_text-length row rows =
    let both = length-append (compact_text (row_tree row)) (items_text true (items_of row_tree rows)) in
    omega (arith, both, items-length rows)

-- a list has two brackets
rows_text-least : (rows : List AcceptedRow) → 2 ≤ length (rows_text rows)
rows_text-least [] = omega arith
rows_text-least (row ∷ rows) = omega (arith, rows_text-length row rows)

short-text : (most : ℕ) (rows : List AcceptedRow) → 2 ≤ most → rows_size rows < most → length (rows_text rows) ≤ most
short-text most [] least short = omega (arith, least)
short-text most (row ∷ rows) least short = omega (arith, short, rows_text-length row rows)

long-text : (most : ℕ) (rows : List AcceptedRow) → most < rows_size rows + 1 → most < length (rows_text rows)
long-text most [] long = omega (arith, long)
long-text most (row ∷ rows) long = omega (arith, long, rows_text-length row rows)

pub no-brackets : (most : ℕ) (rows : List AcceptedRow) → most < 2 → IsDocumentOf most rows None
no-brackets most rows none = omega (arith, none, rows_text-least rows)

-- ---- whether it fits beside the text of a request

pub fits-beside : (text : List ℕ) (rows : List AcceptedRow) → length (rows_text rows) ≤ room_beside text
    → FitsBeside text rows
fits-beside text rows short = omega (arith, short, rows_text-least rows)

pub not-beside : (text : List ℕ) (rows : List AcceptedRow) → room_beside text < length (rows_text rows)
    → ¬ FitsBeside text rows
not-beside text rows past fits = omega (arith, past, fits)

-- ---- how deep it nests

row_shallow : (o : Operation) (s k m g : List ℕ) → depth (row_tree (as_row o s k m g)) ≤ 1
unfolding row_tree bytes_tree
row_shallow Message s k m g = omega arith
row_shallow Prehash s k m g = omega arith
row_shallow Point s k m g = omega arith
row_shallow Certificate s k m g = omega arith

items_shallow : (rows : List AcceptedRow) → items_depth (items_of row_tree rows) ≤ 1
items_shallow [] = omega arith
items_shallow (row ∷ rows) =
    let first = row_shallow row.operation row.scheme row.key row.message row.signature in
    let rest = items_shallow rows in
    omega arith

rows_shallow : (rows : List AcceptedRow) → depth (rows_tree rows) ≤ max_depth
rows_shallow rows = let below = items_shallow rows in omega arith

-- ---- a loop over a list of signatures

-- the first of them are in the document
pub record IsListed (most : ℕ) (rows : List AcceptedRow) (count : ℕ) (list : Data) (size : ℕ) : Type 0 where
  pub tree : list ≡ rows_tree (take count rows)
  pub back : IsReadAs (list_each row_of) (rows_tree (take count rows)) (take count rows)
  pub taken : size ≡ rows_size (take count rows)
  pub room : size < most
  pub least : 2 ≤ most

pub listed-none : (most : ℕ) (rows : List AcceptedRow) (list : Data) → list ≡ rows_tree [] → 2 ≤ most
    → IsListed most rows 0 list 0
listed-none most rows list is least = record {
  tree = is;
  back = list_back-none row_of row_tree;
  taken = refl;
  room = omega (arith, least);
  least = least;
}

size-more : (rows : List AcceptedRow) (count : ℕ) (row : AcceptedRow) → count < length rows
    → row ≡ get_or rows count row
    → rows_size (take (count + 1) rows) ≡ rows_size (take count rows) + rows_size (row ∷ [])
size-more rows count row below is =
    ap rows_size (take_more rows count row below ∙ ap (λ y. take count rows ++ y ∷ []) (sym is))
    ∙ rows_size-append (take count rows) (row ∷ [])

pub listed-more : (most : ℕ) (rows : List AcceptedRow) (count : ℕ) (row : AcceptedRow) (before after : Data)
    (size sum : ℕ) → count < length rows → row ≡ get_or rows count row → IsListed most rows count before size
    → IsRowReadBack row → AddsRow most before after size row (Some sum) → IsListed most rows (count + 1) after sum
listed-more most rows count row before after size sum below is listed back added =
    let more = list_more row_of row_tree rows count row before after below is (listed.tree, listed.back) back added.2 in
    record {
      tree = more.0;
      back = more.1;
      taken = omega (arith, added.0, listed.taken, size-more rows count row below is);
      room = added.1;
      least = listed.least;
    }

pub listed-past : (most : ℕ) (rows : List AcceptedRow) (count : ℕ) (row : AcceptedRow) (before after : Data) (size : ℕ)
    → count < length rows → row ≡ get_or rows count row → IsListed most rows count before size
    → AddsRow most before after size row None → IsDocumentOf most rows None
listed-past most rows count row before after size below is listed long =
    long-text most rows (omega (
      arith,
      long,
      listed.taken,
      size-more rows count row below is,
      rows_size-take (count + 1) rows,
    ))

pub listed-whole : (most : ℕ) (rows : List AcceptedRow) (count : ℕ) (list shown : Data) (size : ℕ) (text : List ℕ)
    → length rows ≤ count → IsListed most rows count list size → shown ≡ list → text ≡ compact_text shown
    → (depth shown ≤ max_depth → document_of text ≡ Ok shown) → IsDocumentOf most rows (Some text)
listed-whole most rows count list shown size text all listed same written reads =
    let whole : take count rows ≡ rows = take_all count rows all in
    let tree : shown ≡ rows_tree rows = same ∙ listed.tree ∙ ap rows_tree whole in
    let is : text ≡ rows_text rows = written ∙ ap compact_text tree in
    let short : rows_size rows < most = omega (arith, listed.taken, ap rows_size whole, listed.room) in
    let shallow : depth shown ≤ max_depth =
    (let P : Data → Type 0 = λ d. depth d ≤ max_depth in subst P (sym tree) (rows_shallow rows)) in
    let read : document_of (rows_text rows) ≡ Ok (rows_tree rows) =
    sym (ap document_of is) ∙ reads shallow ∙ ap Ok tree in
    let back = (let P : List AcceptedRow → Type 0 = λ r. IsReadAs (list_each row_of) (rows_tree r) r in
    subst P whole listed.back) in (
      is,
      (let P : List ℕ → Type 0 = λ t. length t ≤ most in
          subst P (sym is) (short-text most rows listed.least short)),
      (read, back.0),
    )

-- ---- a list of signatures

pub list_of-none : (most : ℕ) (list : Data) → list ≡ rows_tree [] → 2 ≤ most → IsListOf most [] list 0
list_of-none most list is least = record {
  tree = is;
  back = list_back-none row_of row_tree;
  taken = refl;
  room = omega (arith, least);
  least = least;
}

pub list_of-more : (most : ℕ) (rows : List AcceptedRow) (row : AcceptedRow) (before after : Data) (size sum : ℕ)
    → IsListOf most rows before size → IsRowReadBack row → AddsRow most before after size row (Some sum)
    → IsListOf most (rows ++ row ∷ []) after sum
list_of-more most rows row before after size sum listed back added = record {
  tree = added.2 ∙ ap (with_last (row_tree row)) listed.tree ∙ list_tree-append row_tree rows row;
  back = list_back-append row_of row_tree rows row listed.back back;
  taken = omega (arith, added.0, listed.taken, rows_size-append rows (row ∷ []));
  room = added.1;
  least = listed.least;
}

pub list_of-past : (most : ℕ) (rows : List AcceptedRow) (row : AcceptedRow) (rest : List AcceptedRow)
    (before after : Data) (size : ℕ) → IsListOf most rows before size → AddsRow most before after size row None
    → most < length (rows_text (rows ++ row ∷ rest))
list_of-past most rows row rest before after size listed long =
    long-text most (rows ++ row ∷ rest) (omega (arith, long, listed.taken, rows_size-append rows (row ∷ rest)))

pub list_of-whole : (most : ℕ) (rows : List AcceptedRow) (list shown : Data) (size : ℕ) (text : List ℕ)
    → IsListOf most rows list size → shown ≡ list → text ≡ compact_text shown
    → (depth shown ≤ max_depth → document_of text ≡ Ok shown) → IsDocumentOf most rows (Some text)
list_of-whole most rows list shown size text listed same written reads =
    let tree : shown ≡ rows_tree rows = same ∙ listed.tree in
    let is : text ≡ rows_text rows = written ∙ ap compact_text tree in
    let short : rows_size rows < most = omega (arith, listed.taken, listed.room) in
    let shallow : depth shown ≤ max_depth =
    (let P : Data → Type 0 = λ d. depth d ≤ max_depth in subst P (sym tree) (rows_shallow rows)) in
    let read : document_of (rows_text rows) ≡ Ok (rows_tree rows) =
    sym (ap document_of is) ∙ reads shallow ∙ ap Ok tree in (
      is,
      (let P : List ℕ → Type 0 = λ t. length t ≤ most in
          subst P (sym is) (short-text most rows listed.least short)),
      (read, listed.back.0),
    )

-- a document that is longer with each signature
pub longer : (most : ℕ) (rows more : List AcceptedRow) → most < length (rows_text rows)
    → most < length (rows_text (rows ++ more))
longer most [] [] long = long
longer most [] (row ∷ more) long = omega (arith, long, rows_text-length row more)
longer most (row ∷ rows) more long =
    omega (
      arith,
      long,
      rows_text-length row rows,
      rows_text-length row (rows ++ more),
      rows_size-append rows more,
    )
