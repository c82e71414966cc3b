-- How long the request of the demonstration's log is at most.
use Rattle.std.proofs.Common.{◌≡◌, ℕ, zero, suc, ◌+◌, ◌*◌, ◌-◌, ◌/◌, ◌%◌, ◌<◌, ◌≤◌, ◌^◌, Bool, true, false, cond, List, [], ◌∷◌}
use Rattle.std.proofs.Common.{◌++◌, length, take, drop, codes, pos, refl, sym, ap, ◌∙◌, arith, length-append, lit≤}
use Rattle.std.proofs.Common.{Result, Ok, Err, IfOk}
use Rattle.std.proofs.lemmas.Fmt.{length-decimal-le}
use Rattle.std.specs.Fmt.{decimal}
use Rattle.std.specs.List.{AllByRecursion}
use Rattle.std.specs.Prelude.{nat_lt, replicate, if◌then◌else◌}
use Rattle.base64.proofs.RoundTrip.{length-encode_symbols}
use Rattle.base64.specs.Engines.{standard}
use Rattle.base64.specs.Rfc4648.{encode_symbols, padding_len}
use Rattle.hex.proofs.HexLemmas.{length-encode_with}
use Rattle.hex.specs.Hex.{encode_lower, lower_digits}
use Rattle.json.specs.Print.{escape, escape_byte, escape_letter, quoted}
use Rattle.sha2.proofs.Facts256.{length-sha256}
use Rattle.sig_base.specs.Base64.{base64_text}
use Rattle.sig_base.specs.declared.memory.OutOfMemory.{OutOfMemory}
use Rattle.sig_json.specs.Writing.{bytes_tree, items_of, list_tree}
use Rattle.sig_json.specs.Data.{Data, Members, member, no_members, number, string}
use Rattle.sig_json.specs.Find.{of_integer}
use Rattle.sig_json.specs.Written.{comma_if, compact_text, items_text, members_text}
use Rattle.sig_merkle.specs.AuditPath.{audit_path, audit_path_at}
use Rattle.sig_merkle.specs.Root.{node_of, root, root_at}
use Rattle.sig_rekor.specs.CheckpointText.{checkpoint_text, empty_line}
use Rattle.sig_rekor.specs.NoteText.{note_text}
use Rattle.sig_rekor.specs.SignatureText.{signature_text}
use Rattle.sig_request.specs.Limit.{most_bytes}
use Rattle.sig_demo.proofs.RequestReadings.{request_by}
use Rattle.sig_demo.proofs.Logs.{length-entries}
use Rattle.sig_demo.specs.Log.{demo_checkpoint, demo_entries, demo_entry, demo_index, demo_log, demo_signature}
use Rattle.sig_demo.specs.Request.{demo_key, demo_row, demo_scheme, hash_tree, request_tree, row_over, row_tree}
use Rattle.sig_demo.specs.declared.log.DemoLog.{DemoLog}

-- ---- a text in quotes

one-of : (a b : Bool) (xs ys zs : List ℕ) (n : ℕ) → length xs ≤ n → length ys ≤ n → length zs ≤ n
    → length (cond a xs (cond b ys zs)) ≤ n
one-of true b xs ys zs n x y z = x
one-of false true xs ys zs n x y z = y
one-of false false xs ys zs n x y z = z

byte-size : (x : ℕ) → length (escape_byte x) ≤ 6
unfolding escape_byte
byte-size x =
    one-of (nat_lt 0 (escape_letter x)) (nat_lt x 32) _ _ _ 6 (omega arith) (omega arith) (omega arith)

escape-size : (text : List ℕ) → length (escape text) ≤ 6 * length text
escape-size [] = omega arith
escape-size (x ∷ text) =
    omega (arith, byte-size x, escape-size text, length-append (escape_byte x) (escape text))

text-size : (text : List ℕ) (n : ℕ) → length text ≤ n → length (compact_text (string text)) ≤ 6 * n + 2
text-size text n short = omega (arith, short, escape-size text, length-append (escape text) (34 ∷ []))

-- ---- bytes in base64, and a hash in hexadecimal digits

length-replicate : (n x : ℕ) → length (replicate n x) ≡ n
length-replicate zero x = refl
length-replicate (suc n) x = ap (λ l. suc l) (length-replicate n x)

base64-size : (bytes : List ℕ) → length (base64_text bytes) ≤ 2 * length bytes + 6
unfolding base64_text
base64-size bytes =
    let pad = replicate (padding_len (length bytes)) standard.padding.value in
    let both = length-append (encode_symbols standard.encode_table bytes) pad in
    let front = length-encode_symbols standard.encode_table bytes in
    let back = length-replicate (padding_len (length bytes)) standard.padding.value in
    omega (arith, both, front, back)

bytes-size : (bytes : List ℕ) (n : ℕ) → length bytes ≤ n → length (compact_text (bytes_tree bytes)) ≤ 12 * n + 38
unfolding bytes_tree
bytes-size bytes n short =
    let text = text-size (base64_text bytes) (2 * n + 6) (omega (arith, short, base64-size bytes)) in omega (arith, text)

hash-size : (hash : List ℕ) → length hash ≡ 32 → length (compact_text (hash_tree hash)) ≤ 511
hash-size hash size =
    let text = text-size (encode_lower hash) 64 (omega (arith, size, length-encode_with lower_digits hash)) in
    omega (arith, text)

-- ---- lists and objects

items-size : {A : Type 0} → (written : A → Data) (xs : List A) (later : Bool)
    → AllByRecursion (λ x. length (compact_text (written x)) ≤ 511) xs
    → length (items_text later (items_of written xs)) ≤ 512 * length xs + 1
items-size written [] later all = omega arith
items-size written (x ∷ xs) true all =
    omega (
      arith,
      all.0,
      items-size written xs true all.1,
      length-append (compact_text (written x)) (items_text true (items_of written xs)),
    )
items-size written (x ∷ xs) false all =
    omega (
      arith,
      all.0,
      items-size written xs true all.1,
      length-append (compact_text (written x)) (items_text true (items_of written xs)),
    )

list-size : {A : Type 0} → (written : A → Data) (xs : List A) → length xs ≤ 4096
    → AllByRecursion (λ x. length (compact_text (written x)) ≤ 511) xs
    → length (compact_text (list_tree written xs)) ≤ 2097154
list-size written xs few all = let items = items-size written xs false all in omega (arith, items, few)

first-size : (name : List ℕ) (d : Data) (ms : Members)
    → length (members_text false (member name d ms)) ≡ length (quoted name) + (1 + (length (compact_text d)
    + length (members_text true ms)))
first-size name d ms =
    let rest = compact_text d ++ members_text true ms in
    omega (
      arith,
      length-append (quoted name) (58 ∷ rest),
      length-append (compact_text d) (members_text true ms),
    )

next-size : (name : List ℕ) (d : Data) (ms : Members)
    → length (members_text true (member name d ms)) ≡ 1 + (length (quoted name) + (1 + (length (compact_text d)
    + length (members_text true ms))))
next-size name d ms =
    let rest = compact_text d ++ members_text true ms in
    omega (
      arith,
      length-append (quoted name) (58 ∷ rest),
      length-append (compact_text d) (members_text true ms),
    )

-- the members of the request, in the byte order of their names
object-size : (a b c d e f g h i j : Data) → length (compact_text (request_by a b c d e f g h i j)) ≤ 700
    + (length (compact_text a) + (length (compact_text b) + (length (compact_text c) + (length (compact_text d)
    + (length (compact_text e) + (length (compact_text f) + (length (compact_text g) + (length (compact_text h)
    + (length (compact_text i) + length (compact_text j))))))))))
object-size a b c d e f g h i j =
    let m1 : Members = member (codes "treeSize") c no_members in
    let m2 : Members = member (codes "scheme") g m1 in
    let m3 : Members = member (codes "rootHash") d m2 in
    let m4 : Members = member (codes "logIndex") b m3 in
    let m5 : Members = member (codes "key") h m4 in
    let m6 : Members = member (codes "hashes") e m5 in
    let m7 : Members = member (codes "entry") a m6 in
    let m8 : Members = member (codes "entries") j m7 in
    let m9 : Members = member (codes "checkpoint") f m8 in
    omega (
      arith,
      first-size (codes "accepted") i m9,
      next-size (codes "checkpoint") f m8,
      next-size (codes "entries") j m7,
      next-size (codes "entry") a m6,
      next-size (codes "hashes") e m5,
      next-size (codes "key") h m4,
      next-size (codes "logIndex") b m3,
      next-size (codes "rootHash") d m2,
      next-size (codes "scheme") g m1,
      next-size (codes "treeSize") c no_members,
      text-size (codes "accepted") 8 (lit≤ tt),
      text-size (codes "checkpoint") 10 (lit≤ tt),
      text-size (codes "entries") 7 (lit≤ tt),
      text-size (codes "entry") 5 (lit≤ tt),
      text-size (codes "hashes") 6 (lit≤ tt),
      text-size (codes "key") 3 (lit≤ tt),
      text-size (codes "logIndex") 8 (lit≤ tt),
      text-size (codes "rootHash") 8 (lit≤ tt),
      text-size (codes "scheme") 6 (lit≤ tt),
      text-size (codes "treeSize") 8 (lit≤ tt),
    )

row-size : (message : List ℕ) → length message ≤ 100 → length (compact_text (row_tree (row_over message))) ≤ 3000
unfolding row_tree
row-size message short =
    let m1 : Members = member (codes "signature") (bytes_tree (codes "sig")) no_members in
    let m2 : Members = member (codes "scheme") (string demo_scheme) m1 in
    let m3 : Members = member (codes "operation") (string (codes "message")) m2 in
    let m4 : Members = member (codes "message") (bytes_tree message) m3 in
    omega (
      arith,
      first-size (codes "key") (bytes_tree demo_key) m4,
      next-size (codes "message") (bytes_tree message) m3,
      next-size (codes "operation") (string (codes "message")) m2,
      next-size (codes "scheme") (string demo_scheme) m1,
      next-size (codes "signature") (bytes_tree (codes "sig")) no_members,
      text-size (codes "key") 3 (lit≤ tt),
      text-size (codes "message") 7 (lit≤ tt),
      text-size (codes "operation") 9 (lit≤ tt),
      text-size (codes "scheme") 6 (lit≤ tt),
      text-size (codes "signature") 9 (lit≤ tt),
      text-size demo_scheme 22 (lit≤ tt),
      bytes-size demo_key 3 (lit≤ tt),
      bytes-size message 100 short,
      bytes-size (codes "sig") 3 (lit≤ tt),
    )

-- ---- the log

all-append : {A : Type 0} → (P : A → Type 0) (xs : List A) (x : A) → AllByRecursion P xs → P x
    → AllByRecursion P (xs ++ x ∷ [])
all-append P [] x all last = (last, tt)
all-append P (y ∷ ys) x all last = (all.0, all-append P ys x all.1 last)

all-weaker : {A : Type 0} → (P Q : A → Type 0) (xs : List A) → ((x : A) → P x → Q x) → AllByRecursion P xs
    → AllByRecursion Q xs
all-weaker P Q [] weaker all = tt
all-weaker P Q (x ∷ xs) weaker all = (weaker x all.0, all-weaker P Q xs weaker all.1)

root-size_at : (level : ℕ) (entries : List (List ℕ)) → length (root_at level entries) ≡ 32
unfolding root_at
root-size_at zero [] = length-sha256 []
root-size_at zero (entry ∷ entries) = length-sha256 (0 ∷ entry)
root-size_at (suc level) entries = of (nat_lt (2 ^ level) (length entries)) (root-size_at level entries) where
  of : (more : Bool) → length (root_at level entries) ≡ 32
      → length (if more
      then node_of (root_at level (take (2 ^ level) entries)) (root_at level (drop (2 ^ level) entries))
      else root_at level entries) ≡ 32
  of true below = length-sha256 _
  of false below = below

root-size : (entries : List (List ℕ)) → length (root entries) ≡ 32
unfolding root
root-size entries = root-size_at (length entries) entries

abbrev Is32 : List ℕ → Type 0
Is32 hash = length hash ≡ 32

-- at most a hash for each level
abbrev IsShortPath : ℕ → List (List ℕ) → Type 0
IsShortPath level path = (length path ≤ level) × AllByRecursion Is32 path

longer-path : (level : ℕ) (path : List (List ℕ)) (hash : List ℕ) → IsShortPath level path → length hash ≡ 32
    → IsShortPath (suc level) (path ++ hash ∷ [])
longer-path level path hash short size =
    (omega (arith, short.0, length-append path (hash ∷ [])), all-append Is32 path hash short.1 size)

path-size_at : (level index : ℕ) (entries : List (List ℕ)) → IsShortPath level (audit_path_at level index entries)
unfolding audit_path_at
path-size_at zero index entries = (omega arith, tt)
path-size_at (suc level) index entries =
    of (nat_lt (2 ^ level) (length entries)) (nat_lt index (2 ^ level)) (λ i half. path-size_at level i half) where
      of : (more left : Bool) → ((i : ℕ) (half : List (List ℕ)) → IsShortPath level (audit_path_at level i half))
          → IsShortPath (suc level) (if more
          then (if left
          then audit_path_at level index (take (2 ^ level) entries) ++ root (drop (2 ^ level) entries) ∷ []
          else audit_path_at level (index - 2 ^ level) (drop (2 ^ level) entries) ++ root (take (2 ^ level) entries) ∷ [])
          else audit_path_at level index entries)
      of false left below = let short = below index entries in (omega (arith, short.0), short.1)
      of true true below =
          longer-path level _ _ (below index (take (2 ^ level) entries))
          (root-size (drop (2 ^ level) entries))
      of true false below =
          longer-path level _ _ (below (index - 2 ^ level) (drop (2 ^ level) entries))
          (root-size (take (2 ^ level) entries))

path-size : (index : ℕ) (entries : List (List ℕ)) → IsShortPath (length entries) (audit_path index entries)
unfolding audit_path
path-size index entries = path-size_at (length entries) index entries

number-size : (n : ℕ) → n < 1000000 → length (decimal n) ≤ 6
number-size n small = length-decimal-le 6 n (omega arith) (omega (arith, small)) (omega (arith, small))

entry-size : (index : ℕ) → index ≤ 4096 → length (demo_entry index) ≤ 7
entry-size index small = omega (arith, number-size (123456 + index) (omega (arith, small)))

abbrev IsShortEntry : List ℕ → Type 0
IsShortEntry entry = length (compact_text (bytes_tree entry)) ≤ 511

entry-text-size : (entry : List ℕ) → length entry ≤ 7 → IsShortEntry entry
entry-text-size entry short = omega (arith, bytes-size entry 7 short)

entries-size : (count : ℕ) → count ≤ 4096 → AllByRecursion IsShortEntry (demo_entries count)
unfolding demo_entries
entries-size zero few = tt
entries-size (suc count) few =
    all-append IsShortEntry (demo_entries count) (demo_entry count) (entries-size count (omega (arith, few)))
    (entry-text-size (demo_entry count) (entry-size count (omega (arith, few))))

-- ---- the checkpoint

note-size : (log : DemoLog) → log.count ≤ 4096 → length log.root ≡ 32
    → length (note_text (demo_checkpoint log).note) ≤ 100
unfolding note_text
note-size log few size =
    omega (
      arith,
      size,
      base64-size log.root,
      number-size log.count (omega (arith, few)),
      length-append (base64_text log.root) (10 ∷ []),
      length-append (decimal log.count) (10 ∷ (base64_text log.root ++ 10 ∷ [])),
    )

signature-size : length (signature_text demo_signature) ≤ 40
unfolding signature_text
signature-size =
    let coded : List ℕ = base64_text (0 ∷ 0 ∷ 0 ∷ 1 ∷ codes "sig") in
    omega (arith, base64-size (0 ∷ 0 ∷ 0 ∷ 1 ∷ codes "sig"), length-append coded (10 ∷ []))

checkpoint-size : (log : DemoLog) → log.count ≤ 4096 → length log.root ≡ 32
    → length (checkpoint_text (demo_checkpoint log)) ≤ 200
unfolding checkpoint_text
checkpoint-size log few size =
    omega (
      arith,
      note-size log few size,
      signature-size,
      length-append (note_text (demo_checkpoint log).note) (10 ∷ 10 ∷ (signature_text demo_signature ++ [])),
      length-append (signature_text demo_signature) [],
    )

-- ---- the request

request-size_by : (log : DemoLog) → log.count ≤ 4096 → length log.root ≡ 32 → length log.path ≤ 4096
    → AllByRecursion Is32 log.path → length log.entries ≤ 4096 → AllByRecursion IsShortEntry log.entries
    → length (compact_text (request_tree log)) ≤ 2 ^ 24
unfolding request_tree
request-size_by log few root short path short_list entries =
    omega (
      arith,
      object-size (bytes_tree (demo_entry (demo_index log.count))) (number (of_integer (pos (demo_index log.count))))
          (number (of_integer (pos log.count))) (hash_tree log.root) (list_tree hash_tree log.path)
          (string (checkpoint_text (demo_checkpoint log))) (string demo_scheme) (bytes_tree demo_key)
          (list_tree row_tree (demo_row log ∷ [])) (list_tree bytes_tree log.entries),
      bytes-size (demo_entry (demo_index log.count)) 7 (entry-size (demo_index log.count) (omega (arith, few))),
      number-size (demo_index log.count) (omega (arith, few)),
      number-size log.count (omega (arith, few)),
      hash-size log.root root,
      list-size hash_tree log.path short (all-weaker Is32 _ log.path hash-size path),
      text-size (checkpoint_text (demo_checkpoint log)) 200 (checkpoint-size log few root),
      text-size demo_scheme 22 (lit≤ tt),
      bytes-size demo_key 3 (lit≤ tt),
      row-size (note_text (demo_checkpoint log).note) (note-size log few root),
      length-append (compact_text (row_tree (demo_row log))) (93 ∷ []),
      list-size bytes_tree log.entries short_list entries,
    )

pub request-size : (count : ℕ) → count ≤ 4096 → length (compact_text (request_tree (demo_log count))) ≤ 2 ^ 24
unfolding demo_log
request-size count few =
    let path = path-size (demo_index count) (demo_entries count) in
    let size = length-entries count in
    request-size_by (demo_log count) few (root-size (demo_entries count)) (omega (arith, path.0, size, few)) path.1
    (omega (arith, size, few)) (entries-size count few)

-- a text of the request
short-text : (log : DemoLog) (text : List ℕ) (count : ℕ) → text ≡ compact_text (request_tree log) → log.count ≤ 4096
    → log ≡ demo_log count → length text ≤ most_bytes
unfolding demo_log
short-text log text count is few same =
    let size : log.count ≡ count = ap (λ (l : DemoLog). l.count) same in
    let sized : length text ≡ length (compact_text (request_tree (demo_log count))) =
    ap length (is ∙ ap (λ (l : DemoLog). compact_text (request_tree l)) same) in
    omega (arith, sized, request-size count (omega (arith, few, size)))

-- a copy of it
pub short_copied : (log : DemoLog) (text : List ℕ) (r : Result (List ℕ) OutOfMemory) → IfOk r (λ bytes. bytes ≡ text)
    → text ≡ compact_text (request_tree log) → log.count ≤ 4096
    → IfOk r (λ bytes. (count : ℕ) → log ≡ demo_log count → length bytes ≤ most_bytes)
short_copied log text (Ok bytes) same is few = λ count which. short-text log bytes count (same ∙ is) few which
short_copied log text (Err memory) same is few = tt
