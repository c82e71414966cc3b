-- The note of a checkpoint, both ways: origin, size, root hash and further contents, a line each
-- (the checkpoint format of transparency-dev, "Checkpoint body").
use Rattle.std.specs.Prelude.{◌≡◌, ℕ, ◌<◌, ◌^◌, Bool, false, ◌&&◌, nat_lt, if◌then◌else◌, List, [], ◌∷◌, ◌++◌, length}
use Rattle.std.specs.Prelude.{map, filter, codes, Option, Some, None, Result, Ok, Err, decimal, ◌==◌}
use Rattle.std.specs.List.{AllZip, list_all, flat_map}
use Rattle.std.specs.Char.{is_ascii_digit}
use Rattle.std.specs.Str.{trim}
use Rattle.std.specs.Str.Parse.{IsNumeral, digits_value, without_leading_plus}
use Rattle.sig_base.specs.ResultSteps.{◌>>=◌}
use Rattle.sig_base.specs.declared.fault.CheckpointFault.{CheckpointFault}
use Rattle.sig_base.specs.declared.fault.CheckpointFault.TheVariants.{NoteFormat, EmptyOrigin, Size, HashBase64}
use Rattle.sig_base.specs.declared.fault.CheckpointFault.TheVariants.{HashLength}
use Rattle.sig_rekor.specs.declared.checkpoint.Checkpoint.{Checkpoint}
use Rattle.sig_rekor.specs.declared.checkpoint.OtherContent.{OtherContent}
use Rattle.sig_rekor.specs.declared.checkpoint.OtherContent.TheVariants.{KeyValue, Value}
use Rattle.sig_rekor.specs.TextCuts.{IsCut, IsParts, Lacks, cut_at, parts_between}
use Rattle.sig_base.specs.Base64.{base64_bytes, base64_text}
use Rattle.sig_rekor.specs.Reading.{base64_of}

-- U+000A, which ends a line
abbrev pub line_feed : ℕ
line_feed = 10

abbrev pub newline : List ℕ
newline = line_feed ∷ []

-- the bytes of a root hash, a SHA-256
abbrev pub hash_len : ℕ
hash_len = 32

-- `: `, between a key and its value
abbrev pub colon : List ℕ
colon = codes ": "

abbrev pub is_not_empty : List ℕ → Bool
is_not_empty text = nat_lt 0 (length text)

-- only white space, as `char::is_whitespace` says
unfoldable pub is_blank : List ℕ → Bool
is_blank text = length (trim text) == 0

-- what a line says: a key and its value around the first `: `, or the line as it is
abbrev pub IsContent : List ℕ → OtherContent → Type 0
IsContent line (KeyValue key value) = IsCut colon line key value
IsContent line (Value value) = (value ≡ line) × Lacks colon line

-- digits of a number below 2^64, after an optional plus sign
abbrev pub IsSize : List ℕ → ℕ → Type 0
IsSize line n =
    IsNumeral 10 (without_leading_plus line) × (n ≡ digits_value 10 (without_leading_plus line)) × (n < 2 ^ 64)

-- *Note*: the text is at least three lines, which are the origin, the size and the root hash, and each further line
-- that is not empty is a content
pub record IsNote (text : List ℕ) (note : Checkpoint) : Type 0 where
  pub size_line : List ℕ
  pub hash_line : List ℕ
  pub others : List (List ℕ)
  pub lines : IsParts newline text (note.origin ∷ size_line ∷ hash_line ∷ others)
  pub origin : is_blank note.origin ≡ false
  pub size : IsSize size_line note.size
  pub hash : (base64_bytes hash_line ≡ Some note.hash) × (length note.hash ≡ hash_len)
  pub contents : AllZip IsContent (filter is_not_empty others) note.other_content

-- the content of a line, from its cut
abbrev pub content_by : List ℕ → Option (List ℕ × List ℕ) → OtherContent
content_by line None = Value line
content_by line (Some cut) = KeyValue cut.0 cut.1

unfoldable pub other_content_of : List ℕ → OtherContent
other_content_of line = content_by line (cut_at colon line)

unfoldable pub contents_of : List (List ℕ) → List OtherContent
contents_of lines = map other_content_of (filter is_not_empty lines)

-- the size that a line says
abbrev pub size_by : List ℕ → Result ℕ CheckpointFault
size_by digits = if list_all is_ascii_digit digits && (is_not_empty digits && nat_lt (digits_value 10 digits) (2 ^ 64))
    then Ok (digits_value 10 digits) else Err Size

unfoldable pub tree_size_of : List ℕ → Result ℕ CheckpointFault
tree_size_of line = size_by (without_leading_plus line)

-- the hash that a line says
abbrev pub hash_by : List ℕ → Result (List ℕ) CheckpointFault
hash_by bytes = if length bytes == hash_len then Ok bytes else Err HashLength

unfoldable pub root_hash_of : List ℕ → Result (List ℕ) CheckpointFault
root_hash_of line = base64_of HashBase64 line >>= hash_by

unfoldable pub origin_of : List ℕ → Result (List ℕ) CheckpointFault
origin_of line = if is_blank line then Err EmptyOrigin else Ok line

-- the note that these lines are, or the first rule that is broken
abbrev pub note_by : List (List ℕ) → Result Checkpoint CheckpointFault
note_by (origin_line ∷ size_line ∷ hash_line ∷ others) = do
  origin ← origin_of origin_line
  size ← tree_size_of size_line
  hash ← root_hash_of hash_line
  Ok (record { origin = origin; size = size; hash = hash; other_content = contents_of others })
note_by _ = Err NoteFormat

unfoldable pub note_of : List ℕ → Result Checkpoint CheckpointFault
note_of text = note_by (parts_between newline text)

-- how a content is written
abbrev pub content_text : OtherContent → List ℕ
content_text (KeyValue key value) = key ++ (colon ++ value)
content_text (Value value) = value

abbrev pub content_line : OtherContent → List ℕ
content_line content = content_text content ++ newline

-- *Note text*: origin, size in decimal, base64 of the hash and the contents, each ended by a newline
unfoldable pub note_text : Checkpoint → List ℕ
note_text note =
    note.origin ++ (newline ++ (decimal note.size ++
    (newline ++ (base64_text note.hash ++ (newline ++ flat_map content_line note.other_content)))))
