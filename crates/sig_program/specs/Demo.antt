-- What `demo` writes: the number of entries of its log, the root of their tree (RFC 6962 section 2.1), and the first line
-- of the reply of `log` to its request.
use Rattle.std.specs.Prelude.{◌≡◌, ◌≢◌, ℕ, ◌/◌, ◌<◌, List, ◌++◌, codes, decimal, get_or, length}
use Rattle.hex.specs.Hex.{encode_lower}
use Rattle.sig_demo.specs.Log.{demo_entries}
use Rattle.sig_merkle.specs.Root.{root}
use Rattle.sig_rekor.specs.NoteText.{newline}
use Rattle.sig_reply.specs.declared.reply.Reply.{Reply}

abbrev pub entries_line : ℕ → List ℕ
entries_line count = codes "entries " ++ (decimal count ++ codes "\n")

-- the root in lower-case hexadecimal
abbrev pub root_line : ℕ → List ℕ
root_line count = codes "root " ++ (encode_lower (root (demo_entries count)) ++ codes "\n")

-- the index and the size of the proof in the request
abbrev pub logged_line : ℕ → List ℕ
logged_line count = codes "logged " ++ (decimal (count / 2) ++ (codes " " ++ (decimal count ++ codes "\n")))

abbrev pub demo_text : ℕ → List ℕ
demo_text count = entries_line count ++ (root_line count ++ logged_line count)

abbrev pub demo_reply : ℕ → Reply
demo_reply count = record { status = 0; text = demo_text count }

-- for private clauses: no byte ends a line
abbrev pub IsLine : List ℕ → Type 0
IsLine line = (index : ℕ) → index < length line → get_or line index 0 ≢ 10

-- for private clauses: the line without its end
abbrev pub logged_start : ℕ → List ℕ
logged_start count = codes "logged " ++ (decimal (count / 2) ++ (codes " " ++ decimal count))

-- for private clauses: what `log` replies to the request of `demo`: its first line, and another
abbrev pub IsDemoLogged : ℕ → Reply → Type 0
IsDemoLogged count reply =
    (reply.status ≡ 0) × ((second : List ℕ) × (reply.text ≡ logged_start count ++ (newline ++ second)))
