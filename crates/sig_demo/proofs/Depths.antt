-- How deep the request's document nests, so that its text is read back.
use Rattle.std.proofs.Common.{◌≡◌, ℕ, suc, max, pos, ◌+◌, ◌≤◌, List, [], ◌∷◌, Result, Ok, Err, IfOk, refl, sym, ap, subst, ◌∙◌, arith}
use Rattle.sig_base.specs.declared.memory.OutOfMemory.{OutOfMemory}
use Rattle.sig_json.specs.Writing.{bytes_tree, items_of, list_tree}
use Rattle.sig_json.specs.Data.{Data, depth, items_depth, number, string}
use Rattle.sig_json.specs.Find.{of_integer}
use Rattle.sig_rekor.specs.CheckpointText.{checkpoint_text}
use Rattle.sig_json.specs.Document.{document_of}
use Rattle.sig_json.specs.Read.{max_depth}
use Rattle.sig_json.specs.Written.{compact_text}
use Rattle.sig_demo.proofs.RequestReadings.{request_by}
use Rattle.sig_demo.specs.Request.{demo_key, demo_row, demo_scheme, hash_tree, request_tree, row_tree}
use Rattle.sig_demo.specs.Log.{demo_checkpoint, demo_entry, demo_index}
use Rattle.sig_demo.specs.declared.log.DemoLog.{DemoLog}

both : (a b n : ℕ) → a ≤ n → b ≤ n → max a b ≤ n
both a b n first second = omega arith

items-shallow : {A : Type 0} → (written : A → Data) (xs : List A) → ((x : A) → depth (written x) ≤ 0)
    → items_depth (items_of written xs) ≤ 0
items-shallow written [] all = omega arith
items-shallow written (x ∷ xs) all =
    both (depth (written x)) (items_depth (items_of written xs)) 0 (all x) (items-shallow written xs all)

list-shallow : {A : Type 0} → (written : A → Data) (xs : List A) → ((x : A) → depth (written x) ≤ 0)
    → depth (list_tree written xs) ≤ 2
list-shallow written xs all = let below = items-shallow written xs all in omega arith

bytes-shallow : (bytes : List ℕ) → depth (bytes_tree bytes) ≤ 0
unfolding bytes_tree
bytes-shallow bytes = omega arith

rows-shallow : (log : DemoLog) → depth (list_tree row_tree (demo_row log ∷ [])) ≤ 2
unfolding row_tree bytes_tree
rows-shallow log = omega arith

-- members in the byte order of their names
object-shallow : (a b c d e f g h i j : Data) → depth a ≤ 2 → depth b ≤ 2 → depth c ≤ 2 → depth d ≤ 2 → depth e ≤ 2
    → depth f ≤ 2 → depth g ≤ 2 → depth h ≤ 2 → depth i ≤ 2 → depth j ≤ 2
    → depth (request_by a b c d e f g h i j) ≤ 3
object-shallow a b c d e f g h i j la lb lc ld le lf lg lh li lj =
    let all : max (depth i) (max (depth f) (max (depth j) (max (depth a) (max (depth e) (max (depth h)
    (max (depth b) (max (depth d) (max (depth g) (max (depth c) 0))))))))) ≤ 2 =
    both _ _ 2 li (both _ _ 2 lf (both _ _ 2 lj (both _ _ 2 la (both _ _ 2 le (both _ _ 2 lh (both _ _ 2 lb
    (both _ _ 2 ld (both _ _ 2 lg (both _ _ 2 lc (omega arith)))))))))) in
    omega (arith, all)

request-shallow : (log : DemoLog) → depth (request_tree log) ≤ 3
unfolding request_tree bytes_tree
request-shallow log =
    object-shallow (bytes_tree (demo_entry (demo_index log.count))) (number (of_integer (pos (demo_index log.count))))
    (number (of_integer (pos log.count))) (hash_tree log.root) (list_tree hash_tree log.path)
    (string (checkpoint_text (demo_checkpoint log))) (string demo_scheme) (bytes_tree demo_key)
    (list_tree row_tree (demo_row log ∷ [])) (list_tree bytes_tree log.entries) (omega arith) (omega arith) (omega arith) (omega arith)
    (list-shallow hash_tree log.path (λ hash. omega arith)) (omega arith) (omega arith) (omega arith)
    (rows-shallow log) (list-shallow bytes_tree log.entries bytes-shallow)

-- the text that a view of the document is written as is read as the document
pub read_shown : (log : DemoLog) (text : List ℕ) (d shown : Data) → d ≡ request_tree log → shown ≡ d
    → text ≡ compact_text shown → (depth shown ≤ max_depth → document_of text ≡ Ok shown)
    → (text ≡ compact_text (request_tree log)) × (document_of text ≡ Ok (request_tree log))
read_shown log text d shown is same written reads =
    let tree : shown ≡ request_tree log = same ∙ is in
    let P : Data → Type 0 = λ t. depth t ≤ max_depth in
    let below = request-shallow log in
    let shallow : depth shown ≤ max_depth = subst P (sym tree) (omega (arith, below)) in
    (written ∙ ap compact_text tree, reads shallow ∙ ap Ok tree)

-- a copy of the text
pub read_copied : (log : DemoLog) (text : List ℕ) (r : Result (List ℕ) OutOfMemory) → IfOk r (λ bytes. bytes ≡ text)
    → document_of text ≡ Ok (request_tree log) → IfOk r (λ bytes. document_of bytes ≡ Ok (request_tree log))
read_copied log text (Ok bytes) same reads = ap document_of same ∙ reads
read_copied log text (Err memory) same reads = tt
