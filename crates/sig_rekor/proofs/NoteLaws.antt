-- What is read as a note stands for it, and what stands for a note is read as it.
use Rattle.std.proofs.Common.{◌≡◌, ℕ, ◌<◌, ◌^◌, false, ◌&&◌, ◌==◌, nat_lt, List, [], ◌∷◌, length, Option, Some, None}
use Rattle.std.proofs.Common.{Ok, Err, refl, sym, ◌∙◌, ap, subst, inl, inr, arith, filter, map}
use Rattle.std.proofs.lemmas.Bool.{eqb-true, eq-eqb, ltb-true, and_parts}
use Rattle.std.specs.List.{AllZip, list_all}
use Rattle.std.specs.Char.{is_ascii_digit}
use Rattle.std.specs.Str.Parse.{digits_value, without_leading_plus}
use Rattle.sig_base.specs.declared.fault.CheckpointFault.TheVariants.{EmptyOrigin, Size, HashBase64, HashLength}
use Rattle.sig_rekor.specs.declared.checkpoint.Checkpoint.{Checkpoint}
use Rattle.sig_rekor.specs.declared.checkpoint.OtherContent.{OtherContent}
use Rattle.sig_rekor.specs.declared.checkpoint.OtherContent.TheVariants.{KeyValue, Value}
use Rattle.sig_rekor.specs.TextCuts.{IsParts, cut_at, parts_between}
use Rattle.sig_base.specs.Base64.{base64_bytes}
use Rattle.sig_base.proofs.Digits.{digits_mean}
use Rattle.sig_base.proofs.ResultSteps.{bind_ok}
use Rattle.sig_rekor.specs.Reading.{base64_of}
use Rattle.sig_rekor.specs.NoteText.{newline, colon, is_blank, is_not_empty, IsContent, IsSize, IsNote, content_by}
use Rattle.sig_rekor.specs.NoteText.{other_content_of, contents_of, origin_of, tree_size_of, hash_by, root_hash_of}
use Rattle.sig_rekor.specs.NoteText.{note_by, note_of}
use Rattle.sig_rekor.proofs.CutLaws.{cut_at-some, cut_at-none, cut_at-cut, cut_at-lacks, parts_between-found}
use Rattle.sig_rekor.proofs.CutLaws.{parts_between-only}
use Rattle.sig_rekor.proofs.Notes.{tree_size_of-numeral}
use Rattle.sig_rekor.proofs.Steps.{chosen, ok_or-ok}

-- a content
content-found : (line : List ℕ) → IsContent line (other_content_of line)
unfolding other_content_of
content-found line = found _ refl where
  found : (o : Option (List ℕ × List ℕ)) → cut_at colon line ≡ o → IsContent line (content_by line (cut_at colon line))
  found None e = rw e (refl, cut_at-none colon line (omega arith) e)
  found (Some cut) e = rw e (cut_at-some colon line cut.0 cut.1 e)

content-only : (line : List ℕ) (content : OtherContent) → IsContent line content → other_content_of line ≡ content
unfolding other_content_of
content-only line (KeyValue key value) is = rw (cut_at-cut colon line key value (omega arith) is) refl
content-only line (Value value) is = rw (cut_at-lacks colon line is.1) (ap Value (sym is.0))

contents-found : (lines : List (List ℕ)) → AllZip IsContent lines (map other_content_of lines)
contents-found [] = tt
contents-found (line ∷ lines) = (content-found line, contents-found lines)

contents-only : (lines : List (List ℕ)) (contents : List OtherContent) → AllZip IsContent lines contents
    → map other_content_of lines ≡ contents
contents-only [] [] are = refl
contents-only [] (content ∷ contents) are = absurd are
contents-only (line ∷ lines) [] are = absurd are
contents-only (line ∷ lines) (content ∷ contents) are =
    rw (content-only line content are.0, contents-only lines contents are.1) refl

-- the origin, the size and the hash
origin-found : (line origin : List ℕ) → origin_of line ≡ Ok origin → (line ≡ origin) × (is_blank line ≡ false)
unfolding origin_of
origin-found line origin e = elim (chosen (is_blank line) (Err EmptyOrigin) (Ok line) (Ok origin) e) [
  | inl blank ↦ (let f = blank.1 in cc)
  | inr written ↦ ((let f = written.1 in cc), written.0)
]

pub origin-only : (line : List ℕ) → is_blank line ≡ false → origin_of line ≡ Ok line
unfolding origin_of
origin-only line written = rw written refl

pub size-found : (line : List ℕ) (n : ℕ) → tree_size_of line ≡ Ok n → IsSize line n
unfolding tree_size_of
size-found line n e =
    let ds = without_leading_plus line in
    let big = is_not_empty ds && nat_lt (digits_value 10 ds) (2 ^ 64) in
    elim (chosen (list_all is_ascii_digit ds && big) (Ok (digits_value 10 ds)) (Err Size) (Ok n) e) [
      | inl all ↦
          let both = and_parts (list_all is_ascii_digit ds) big all.0 in
          let rest = and_parts (is_not_empty ds) (nat_lt (digits_value 10 ds) (2 ^ 64)) both.1 in
          let same : digits_value 10 ds ≡ n = (let f = all.1 in cc) in (
            (ltb-true 0 (length ds) rest.0, digits_mean ds both.0),
            sym same,
            subst (λ m. m < 2 ^ 64) same
                (ltb-true (digits_value 10 ds) (2 ^ 64) rest.1),
          )
      | inr none ↦ (let f = none.1 in cc)
    ]

pub size-only : (line : List ℕ) (n : ℕ) → IsSize line n → tree_size_of line ≡ Ok n
size-only line n is = tree_size_of-numeral line n (is.0, subst (λ m. m < 2 ^ 64) is.1 is.2) is.1

hash-found : (line hash : List ℕ) → root_hash_of line ≡ Ok hash → (base64_bytes line ≡ Some hash) × (length hash ≡ 32)
unfolding root_hash_of base64_of
hash-found line hash e =
    let read = bind_ok (base64_of HashBase64 line) hash_by hash e in
    elim (chosen (length read.0 == 32) (Ok read.0) (Err HashLength) (Ok hash) read.2) [
      | inl sized ↦
          let same : read.0 ≡ hash = (let f = sized.1 in cc) in (
            ok_or-ok (base64_bytes line) HashBase64 hash (read.1 ∙ ap Ok same),
            sym (ap length same)
                ∙ eqb-true (length read.0) 32 sized.0,
          )
      | inr other ↦ (let f = other.1 in cc)
    ]

pub hash-only : (line hash : List ℕ) → (base64_bytes line ≡ Some hash) × (length hash ≡ 32) → root_hash_of line
    ≡ Ok hash
unfolding root_hash_of base64_of
hash-only line hash is = rw (is.0, eq-eqb (length hash) 32 is.1) refl

-- the note
lines-found : (text : List ℕ) (lines : List (List ℕ)) (note : Checkpoint) → IsParts newline text lines
    → note_by lines ≡ Ok note → IsNote text note
unfolding contents_of
lines-found text [] note are e = absurd are
lines-found text (a ∷ []) note are e = cc
lines-found text (a ∷ b ∷ []) note are e = cc
lines-found text (origin ∷ size ∷ hash ∷ others) note are e =
    let a = bind_ok (origin_of origin) _ note e in
    let b = bind_ok (tree_size_of size) _ note a.2 in
    let c = bind_ok (root_hash_of hash) _ note b.2 in
    let o = origin-found origin a.0 a.1 in
    let made : Checkpoint = record { origin = a.0; size = b.0; hash = c.0; other_content = contents_of others } in
    let same : made ≡ note = (let f = c.2 in cc) in
    subst (IsNote text) same (record {
      size_line = size;
      hash_line = hash;
      others = others;
      lines = subst (λ t. IsParts newline text (t ∷ size ∷ hash ∷ others)) o.0 are;
      origin = sym (ap is_blank o.0) ∙ o.1;
      size = size-found size b.0 b.1;
      hash = hash-found hash c.0 c.1;
      contents = contents-found (filter is_not_empty others);
    })

pub note-found : (text : List ℕ) (note : Checkpoint) → note_of text ≡ Ok note → IsNote text note
unfolding note_of
note-found text note e = lines-found text (parts_between newline text) note
    (parts_between-found newline text (omega arith)) e

pub note-only : (text : List ℕ) (note : Checkpoint) → IsNote text note → note_of text ≡ Ok note
unfolding note_of contents_of
note-only text note is =
    rw (
      parts_between-only newline text (note.origin ∷ is.size_line ∷ is.hash_line ∷ is.others) (omega arith) is.lines,
      origin-only note.origin is.origin,
      size-only is.size_line note.size is.size,
      hash-only is.hash_line note.hash is.hash,
      contents-only (filter is_not_empty is.others) note.other_content is.contents,
    ) refl
