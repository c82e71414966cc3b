-- What is written of a checkpoint reads back.
use Rattle.std.proofs.Common.{◌≡◌, ◌≢◌, ℕ, zero, suc, ◌<◌, true, false, ◌==◌, List, [], ◌∷◌, ◌++◌, length, drop, map}
use Rattle.std.proofs.Common.{replicate, Option, Some, None, Result, Ok, Err, IfOk, OnOk, refl, sym, ◌∙◌, ap, subst}
use Rattle.std.proofs.Common.{arith, append_assoc, append-nil}
use Rattle.std.proofs.lemmas.Bool.{lt-ltb, ne_eqb}
use Rattle.std.proofs.lemmas.List.{same_from_push}
use Rattle.std.proofs.lemmas.Fmt.{decimal_nonempty}
use lib.Utf8.{encode}
use Rattle.base64.specs.Rfc4648.{encode_symbols}
use Rattle.std.specs.Fmt.{decimal}
use Rattle.std.specs.List.{AllByRecursion, flat_map, join_by}
use Rattle.std.specs.Str.{trim_start, trim_end, chars, skip_leading_whitespace, drop_trailing_whitespace}
use Rattle.std.specs.Str.{encode_utf8_all}
use Rattle.sig_rekor.specs.declared.checkpoint.SignedCheckpoint.{SignedCheckpoint}
use Rattle.sig_rekor.specs.declared.checkpoint.Checkpoint.{Checkpoint}
use Rattle.sig_rekor.specs.declared.checkpoint.CheckpointSignature.{CheckpointSignature}
use Rattle.sig_rekor.specs.declared.checkpoint.OtherContent.{OtherContent}
use Rattle.sig_rekor.specs.TextCuts.{IsParts, Lacks, cut_at, parts_between, trimmed}
use Rattle.sig_base.specs.Base64.{base64_text, base64_bytes}
use Rattle.sig_rekor.specs.NoteText.{newline, is_blank, contents_of, content_text, content_line, note_of, note_text}
use Rattle.sig_rekor.specs.SignatureText.{em_dash, space, fingerprint_and_raw, signature_of, signature_text}
use Rattle.sig_rekor.specs.CheckpointText.{quotation_mark, empty_line, signatures_by, checkpoint_of, checkpoint_text}
use Rattle.sig_rekor.specs.ReadBack.{IsContentLine, IsSignerName, IsSignatureValue, IsNoteValue, ReadsBack}
use Rattle.sig_rekor.proofs.CutLaws.{parts_between-whole, parts_between-cut, parts_between-found, trimmed-only}
use Rattle.sig_rekor.proofs.NoteLaws.{origin-only, hash-only}
use Rattle.sig_rekor.proofs.SignatureLaws.{signature-only}
use Rattle.sig_rekor.proofs.Steps.{head_is}
use Rattle.sig_rekor.proofs.Signatures.{signatures_by-blank, signatures_by-written, signatures_by-none}
use Rattle.sig_rekor.proofs.GraphicTexts.{IsFreeOf, graphic-free, decimal-graphic, tree_size_of-decimal, base64-graphic}
use Rattle.sig_rekor.proofs.GraphicTexts.{base64-again, trim_end-graphic}
use Rattle.sig_rekor.proofs.WrittenCuts.{free-lacks, free-append, onto_cut, cut_past, cut_none, cut_after, cut_empty}
use Rattle.sig_rekor.proofs.WrittenCuts.{cut_apart, cut_last, written, IsLine, written_parts, written_cut}

-- ---- a signature

-- the line of a signature, without its newline
abbrev signature_line : CheckpointSignature → List ℕ
signature_line s = em_dash ++ (space ++ (s.name ++ (space ++ base64_text (fingerprint_and_raw s))))

line_newline : (s : CheckpointSignature) → signature_text s ≡ signature_line s ++ newline
unfolding signature_text
line_newline s =
    ap (λ t. em_dash ++ (space ++ t)) (sym (append_assoc s.name
    (space ++ base64_text (fingerprint_and_raw s)) newline))

line_parts : (s : CheckpointSignature) → IsSignerName s.name → IsSignatureValue s
    → parts_between space (signature_line s) ≡ em_dash ∷ s.name ∷ base64_text (fingerprint_and_raw s) ∷ []
line_parts s name value =
    let coded = base64_text (fingerprint_and_raw s) in
    parts_between-cut space (signature_line s) em_dash (s.name ++ (space ++ coded)) (omega arith)
    (cut_after 32 em_dash (s.name ++ (space ++ coded))
    ((λ e. omega arith), ((λ e. omega arith), ((λ e. omega arith), tt))))
    ∙ ap (λ ps. em_dash ∷ ps) (parts_between-cut space (s.name ++ (space ++ coded)) s.name coded (omega arith)
    (cut_after 32 s.name coded (free-lacks 32 s.name name.word))
    ∙ ap (λ ps. s.name ∷ ps) (parts_between-whole space coded
    (cut_none 32 [] coded (graphic-free 32 coded (omega arith) (base64-graphic (fingerprint_and_raw s) value.bytes)))))

-- no newline in it
line_free : (s : CheckpointSignature) → IsSignerName s.name → IsSignatureValue s → IsFreeOf 10 (signature_line s)
line_free s name value = (
  (λ e. omega arith),
  (
    (λ e. omega arith),
    (
      (λ e. omega arith),
      (
        (λ e. omega arith),
        free-append 10 s.name (space ++ base64_text (fingerprint_and_raw s)) (free-lacks 10 s.name name.line) (
          (λ e. omega arith),
          graphic-free 10 (base64_text (fingerprint_and_raw s)) (omega arith)
              (base64-graphic (fingerprint_and_raw s) value.bytes),
        ),
      ),
    ),
  ),
)

-- a text without the mark does not end in it
not_last : (t rest : List ℕ) → IsFreeOf 10 t → t ≢ rest ++ 10 ∷ []
not_last [] [] free w = cc
not_last [] (r ∷ rest) free w = cc
not_last (b ∷ t) [] free w = free.0 (let f : b ≡ 10 = cc in f)
not_last (b ∷ t) (r ∷ rest) free w = not_last t rest free.1 (let f : t ≡ rest ++ 10 ∷ [] = cc in f)

apart : ◌≡◌ {A = ℕ} 226 10 → ⊥
apart e = omega arith

-- a line between newlines is read as its signature
pub signature_between : (s : CheckpointSignature) (n m : ℕ) → IsSignerName s.name → IsSignatureValue s
    → signature_of (replicate n 10 ++ (signature_line s ++ replicate m 10)) ≡ Ok s
signature_between s n m name value =
    let coded = base64_text (fingerprint_and_raw s) in
    signature-only (replicate n 10 ++ (signature_line s ++ replicate m 10)) s (record {
      line = signature_line s;
      after_dash = space ++ (s.name ++ (space ++ coded));
      first = em_dash;
      coded = coded;
      newlines = record {
        before = n;
        after = m;
        whole = refl;
        front = λ rest w. apart (head_is 226 10 _ rest w);
        back = λ rest w. not_last (signature_line s) rest (line_free s name value) w;
      };
      dash = refl;
      parts =
          subst (IsParts space (signature_line s)) (line_parts s name value)
          (parts_between-found space (signature_line s) (omega arith));
      bytes =
          ap base64_bytes (trim_end-graphic coded (base64-graphic (fingerprint_and_raw s) value.bytes))
          ∙ base64-again (fingerprint_and_raw s) value.bytes;
      fingerprint = value.fingerprint;
    })

pub signature_back : {E : Type 0} (s : CheckpointSignature) (r : Result (List ℕ) E) → IsSignerName s.name
    → IfOk r (λ t. t ≡ signature_text s) → OnOk r (IsSignatureValue s) → IfOk r (λ t. signature_of t ≡ Ok s)
signature_back s (Ok t) name text value = ap signature_of (text ∙ line_newline s) ∙ signature_between s 0 1 name value
signature_back s (Err e) name text value = tt

-- ---- the pieces

longer : (b : ℕ) (t : List ℕ) → (length (b ∷ t) == 0) ≡ false
longer b t = ne_eqb (suc (length t)) 0 (λ e. omega arith)

dash_chars : (t : List ℕ) → (cs : List ℕ) × (chars (226 ∷ 128 ∷ 148 ∷ t) ≡ 8212 ∷ cs)
unfolding chars
dash_chars [] = ([], refl)
dash_chars (b ∷ t) = (_, refl)

newline_chars : (t : List ℕ) → (cs : List ℕ) × (chars (10 ∷ 226 ∷ 128 ∷ 148 ∷ t) ≡ 10 ∷ 8212 ∷ cs)
unfolding chars
newline_chars [] = ([], refl)
newline_chars (b ∷ t) = (_, refl)

-- an em dash is not trimmed off
dash_starts : (t cs : List ℕ) → chars t ≡ cs → skip_leading_whitespace cs ≡ 8212 ∷ drop 1 (skip_leading_whitespace cs)
    → (u : List ℕ) × (trim_start t ≡ 226 ∷ 128 ∷ 148 ∷ u)
unfolding trim_start encode
dash_starts t cs e f = (
  encode_utf8_all (drop 1 (skip_leading_whitespace cs)),
  ap (λ x. encode_utf8_all (skip_leading_whitespace x)) e
      ∙ ap encode_utf8_all f,
)

dash_ends : (t : List ℕ) → (u : List ℕ) × (trim_end (226 ∷ 128 ∷ 148 ∷ t) ≡ 226 ∷ u)
unfolding trim_end encode
dash_ends t = let c = dash_chars t in (_, ap (λ x. encode_utf8_all (drop_trailing_whitespace x)) c.1)

dash_written : (t u : List ℕ) → trim_start t ≡ 226 ∷ 128 ∷ 148 ∷ u → is_blank t ≡ false
unfolding is_blank
dash_written t u e = let ends = dash_ends u in rw (e, ends.1) (longer 226 ends.0)

not_blank : (n : ℕ) (s : CheckpointSignature) (t : List ℕ) → n < 2
    → is_blank (replicate n 10 ++ (signature_line s ++ t)) ≡ false
not_blank zero s t small =
    let c = dash_chars (32 ∷ (s.name ++ 32 ∷ base64_text (fingerprint_and_raw s) ++ t)) in
    let start = dash_starts (signature_line s ++ t) (8212 ∷ c.0) c.1 refl in
    dash_written (signature_line s ++ t) start.0 start.1
not_blank (suc zero) s t small =
    let c = newline_chars (32 ∷ (s.name ++ 32 ∷ base64_text (fingerprint_and_raw s) ++ t)) in
    let start = dash_starts (10 ∷ (signature_line s ++ t)) (10 ∷ 8212 ∷ c.0) c.1 refl in
    dash_written (10 ∷ (signature_line s ++ t)) start.0 start.1
not_blank (suc (suc n)) s t small = absurd (omega arith)

-- the signatures, each line ended and a newline between each two
abbrev joined : CheckpointSignature → List CheckpointSignature → List ℕ
joined s [] = signature_line s ++ newline
joined s (next ∷ ss) = signature_line s ++ (10 ∷ 10 ∷ joined next ss)

joined_is : (s : CheckpointSignature) (ss : List CheckpointSignature)
    → join_by signature_text newline (s ∷ ss) ≡ joined s ss
joined_is s [] = append-nil (signature_text s) ∙ line_newline s
joined_is s (next ∷ ss) =
    let others = signature_text next ++ flat_map (λ x. newline ++ signature_text x) ss in
    ap (λ t. t ++ 10 ∷ others) (line_newline s) ∙ append_assoc (signature_line s) newline (10 ∷ others)
    ∙ ap (λ t. signature_line s ++ (10 ∷ 10 ∷ t)) (joined_is next ss)

joined_ends : (s : CheckpointSignature) (ss : List CheckpointSignature) → (t : List ℕ) × (joined s ss ≡ t ++ 10 ∷ [])
joined_ends s [] = (signature_line s, refl)
joined_ends s (next ∷ ss) =
    let deeper = joined_ends next ss in (
      signature_line s ++ (10 ∷ 10 ∷ deeper.0),
      ap (λ t. signature_line s ++ (10 ∷ 10 ∷ t)) deeper.1
          ∙ sym (append_assoc (signature_line s) (10 ∷ 10 ∷ deeper.0) (10 ∷ [])),
    )

-- the first piece
onto_onto : (a b : List ℕ) (o : Option (List ℕ × List ℕ)) → onto_cut a (onto_cut b o) ≡ onto_cut (a ++ b) o
onto_onto a b None = refl
onto_onto a b (Some cut) = ap (λ t. Some (t, cut.1)) (sym (append_assoc a b cut.0))

piece_cut : (n : ℕ) (s : CheckpointSignature) (t : List ℕ) → n < 2 → IsFreeOf 10 (signature_line s)
    → cut_at empty_line (replicate n 10 ++ (signature_line s ++ t))
    ≡ onto_cut (replicate n 10 ++ signature_line s) (cut_at empty_line t)
piece_cut zero s t small free = cut_past 10 newline (signature_line s) t free
piece_cut (suc zero) s t small free =
    let after = 128 ∷ 148 ∷ (space ++ (s.name ++ (space ++ base64_text (fingerprint_and_raw s)))) in
    cut_apart 226 (after ++ t) apart ∙ ap (onto_cut newline) (cut_past 10 newline (signature_line s) t free)
    ∙ onto_onto newline (signature_line s) (cut_at empty_line t)
piece_cut (suc (suc n)) s t small free = absurd (omega arith)

signatures_back : (n : ℕ) (s : CheckpointSignature) (ss : List CheckpointSignature) → n < 2
    → AllByRecursion (λ (x : CheckpointSignature). IsSignerName x.name) (s ∷ ss) → AllByRecursion IsSignatureValue
    (s ∷ ss)
    → signatures_by (parts_between empty_line (replicate n 10 ++ joined s ss)) ≡ Ok (s ∷ ss)
signatures_back n s [] small names values =
    let text = replicate n 10 ++ (signature_line s ++ newline) in
    let free = line_free s names.0 values.0 in
    let whole : cut_at empty_line text ≡ None = piece_cut n s newline small free
    ∙ ap (onto_cut (replicate n 10 ++ signature_line s)) cut_last in
    rw (
      parts_between-whole empty_line text whole,
      signatures_by-written text []
          (not_blank n s newline small),
      signature_between s n 1 names.0 values.0,
      signatures_by-none,
    ) refl
signatures_back n s (next ∷ ss) small names values =
    let rest = joined next ss in
    let text = replicate n 10 ++ (signature_line s ++ (10 ∷ 10 ∷ rest)) in
    let piece = replicate n 10 ++ (signature_line s ++ []) in
    let free = line_free s names.0 values.0 in
    let cut : cut_at empty_line text ≡ Some (piece, rest) =
    piece_cut n s (10 ∷ 10 ∷ rest) small free ∙ ap (onto_cut (replicate n 10 ++ signature_line s)) (cut_empty rest)
    ∙ ap (λ t. Some (t, rest)) (append_assoc (replicate n 10) (signature_line s) []) in
    rw (
      parts_between-cut empty_line text piece rest (omega arith) cut,
      signatures_by-written piece (parts_between empty_line rest)
          (not_blank n s [] small),
      signature_between s n 0 names.0 values.0,
      signatures_back 0 next ss
          (omega arith) names.1 values.1,
    ) refl

-- the rest after the first empty line
blank_newline : is_blank newline ≡ true
unfolding is_blank trim_start trim_end chars
blank_newline = refl

rest_back : (ss : List CheckpointSignature) → AllByRecursion (λ (x : CheckpointSignature). IsSignerName x.name) ss
    → AllByRecursion IsSignatureValue ss → signatures_by
    (parts_between empty_line (10 ∷ join_by signature_text newline ss))
    ≡ Ok ss
rest_back [] names values =
    rw (
      parts_between-whole empty_line newline cut_last,
      signatures_by-blank newline [] blank_newline,
      signatures_by-none,
    ) refl
rest_back (s ∷ ss) names values = rw (joined_is s ss) (signatures_back 1 s ss (omega arith) names values)

-- ---- the note

contents_written : (line : List ℕ) (contents : List OtherContent) (tail : List ℕ)
    → line ++ 10 ∷ (flat_map content_line contents ++ tail) ≡ written line (map content_text contents) (10 ∷ tail)
contents_written line [] tail = refl
contents_written line (content ∷ contents) tail =
    ap (λ t. line ++ 10 ∷ t) (append_assoc (content_line content) (flat_map content_line contents) tail
    ∙ append_assoc (content_text content) newline (flat_map content_line contents ++ tail)
    ∙ contents_written (content_text content) contents tail)

contents_back : (contents : List OtherContent) → AllByRecursion IsContentLine contents
    → contents_of (map content_text contents) ≡ contents
unfolding contents_of
contents_back [] all = refl
contents_back (content ∷ contents) all =
    rw (lt-ltb 0 (length (content_text content)) all.0.written, all.0.same)
    (ap (λ t. content ∷ t) (contents_back contents all.1))

content_lines : (contents : List OtherContent) → AllByRecursion IsContentLine contents
    → AllByRecursion IsLine (map content_text contents)
content_lines [] all = tt
content_lines (content ∷ contents) all = (
  record { free = free-lacks 10 (content_text content) all.0.line; some = all.0.written },
  content_lines contents
      all.1,
)

-- the lines of a note after the first
abbrev further : Checkpoint → List (List ℕ)
further note = decimal note.size ∷ base64_text note.hash ∷ map content_text note.other_content

note_written : (note : Checkpoint) (tail : List ℕ)
    → note_text note ++ tail ≡ written note.origin (further note) (10 ∷ tail)
unfolding note_text
note_written note tail =
    let hash = base64_text note.hash in
    let after = flat_map content_line note.other_content in
    append_assoc note.origin (newline ++ (decimal note.size ++ (newline ++ (hash ++ (newline ++ after))))) tail
    ∙ ap (λ t. note.origin ++ 10 ∷ t) (append_assoc (decimal note.size) (newline ++ (hash ++ (newline ++ after))) tail
    ∙ ap (λ t. decimal note.size ++ 10 ∷ t) (append_assoc hash (newline ++ after) tail
    ∙ contents_written hash note.other_content tail))

base64-some : (m : List ℕ) → 0 < length m → 0 < length (base64_text m)
unfolding base64_text encode_symbols
base64-some [] some = absurd (omega arith)
base64-some (a ∷ []) some = omega arith
base64-some (a ∷ b ∷ []) some = omega arith
base64-some (a ∷ b ∷ c ∷ rest) some = omega arith

blank_nil : is_blank [] ≡ true
unfolding is_blank trim_start trim_end chars
blank_nil = refl

origin_some : (origin : List ℕ) → is_blank origin ≡ false → 0 < length origin
origin_some [] written = (let f = blank_nil in cc)
origin_some (b ∷ origin) written = omega arith

first_line : (origin : List ℕ) → is_blank origin ≡ false → Lacks newline origin → IsLine origin
first_line origin written lacks = record { free = free-lacks 10 origin lacks; some = origin_some origin written }

further_lines : (note : Checkpoint) → IsNoteValue note → AllByRecursion IsContentLine note.other_content
    → AllByRecursion IsLine (further note)
further_lines note value contents = (
  record {
    free = graphic-free 10 (decimal note.size) (omega arith)
        (decimal-graphic note.size value.size);
    some = decimal_nonempty note.size value.size;
  },
  (
    record {
      free = graphic-free 10 (base64_text note.hash) (omega arith)
          (base64-graphic note.hash value.bytes);
      some = base64-some note.hash (omega (arith, value.hash));
    },
    content_lines note.other_content contents,
  ),
)

note_back : (note : Checkpoint) → IsNoteValue note → is_blank note.origin ≡ false → Lacks newline note.origin
    → AllByRecursion IsContentLine note.other_content → note_of (written note.origin (further note) []) ≡ Ok note
unfolding note_of
note_back note value origin line contents =
    rw (
      written_parts note.origin (further note) (first_line note.origin origin line)
          (further_lines note value contents),
      origin-only note.origin origin,
      tree_size_of-decimal note.size value.size,
      hash-only (base64_text note.hash) note.hash (base64-again note.hash value.bytes, value.hash),
      contents_back note.other_content contents,
    ) refl

-- ---- the whole

-- no quotation mark is trimmed off
ends_written : (t rest : List ℕ) → t ++ 10 ∷ [] ≢ rest ++ quotation_mark ∷ []
ends_written t rest w = let f : ◌≡◌ {A = ℕ} 10 34 = (same_from_push t rest 10 34 w).1 in omega arith

text_ends : (checkpoint : SignedCheckpoint) → (t : List ℕ) × (checkpoint_text checkpoint ≡ t ++ 10 ∷ [])
unfolding checkpoint_text
text_ends checkpoint = ends checkpoint.signatures where
  ends : (ss : List CheckpointSignature) → (t : List ℕ)
      × (note_text checkpoint.note ++ (empty_line ++ join_by signature_text newline ss) ≡ t ++ 10 ∷ [])
  ends [] = (note_text checkpoint.note ++ newline, sym (append_assoc (note_text checkpoint.note) newline newline))
  ends (s ∷ ss) =
      let last = joined_ends s ss in (
        note_text checkpoint.note ++ (empty_line ++ last.0),
        ap (λ t. note_text checkpoint.note ++ (empty_line ++ t))
            (joined_is s ss ∙ last.1) ∙ sym (append_assoc (note_text checkpoint.note) (empty_line ++ last.0)
            (10 ∷ [])),
      )

starts_plain : (origin t rest : List ℕ) → 0 < length origin → ((r : List ℕ) → origin ≢ quotation_mark ∷ r)
    → origin ++ t ≢ quotation_mark ∷ rest
starts_plain [] t rest some unquoted w = omega arith
starts_plain (b ∷ origin) t rest some unquoted w =
    unquoted origin (ap (λ x. x ∷ origin) (head_is b 34 (origin ++ t) rest w))

text_begins : (checkpoint : SignedCheckpoint) → (t : List ℕ)
    × (checkpoint_text checkpoint ≡ checkpoint.note.origin ++ t)
unfolding checkpoint_text note_text
text_begins checkpoint = (_, append_assoc checkpoint.note.origin _ _)

text_written : (checkpoint : SignedCheckpoint) → checkpoint_text checkpoint
    ≡ written checkpoint.note.origin (further checkpoint.note)
    (10 ∷ 10 ∷ 10 ∷ join_by signature_text newline checkpoint.signatures)
unfolding checkpoint_text
text_written checkpoint =
    note_written checkpoint.note (empty_line ++ join_by signature_text newline checkpoint.signatures)

untrimmed : (checkpoint : SignedCheckpoint) → ReadsBack checkpoint
    → trimmed quotation_mark (checkpoint_text checkpoint) ≡ checkpoint_text checkpoint
untrimmed checkpoint is =
    let text = checkpoint_text checkpoint in
    let ends = text_ends checkpoint in
    trimmed-only quotation_mark text text (record {
      before = 0;
      after = 0;
      whole = sym (append-nil text);
      front =
          λ rest w. (let begins = text_begins checkpoint in
          starts_plain checkpoint.note.origin begins.0 rest (origin_some checkpoint.note.origin is.origin) is.unquoted
          (sym begins.1 ∙ w));
      back = λ rest w. ends_written ends.0 rest (sym ends.1 ∙ w);
    })

checkpoint_again : (checkpoint : SignedCheckpoint) → ReadsBack checkpoint → IsNoteValue checkpoint.note
    → AllByRecursion IsSignatureValue checkpoint.signatures
    → checkpoint_of (checkpoint_text checkpoint) ≡ Ok checkpoint
unfolding checkpoint_of
checkpoint_again checkpoint is value values =
    let note = checkpoint.note in
    let joined_all = join_by signature_text newline checkpoint.signatures in
    let cut : cut_at empty_line (checkpoint_text checkpoint)
    ≡ Some (written note.origin (further note) [], 10 ∷ joined_all) =
    ap (cut_at empty_line) (text_written checkpoint)
    ∙ written_cut note.origin (further note) (10 ∷ joined_all) (first_line note.origin is.origin is.line)
    (further_lines note value is.contents) in
    rw (
      untrimmed checkpoint is,
      cut,
      rest_back checkpoint.signatures is.names values,
      note_back note value is.origin
          is.line is.contents,
    ) refl

pub checkpoint_back : {E : Type 0} (checkpoint : SignedCheckpoint) (r : Result (List ℕ) E) → ReadsBack checkpoint
    → IfOk r (λ t. t ≡ checkpoint_text checkpoint) → OnOk r (IsNoteValue checkpoint.note)
    → OnOk r (AllByRecursion IsSignatureValue checkpoint.signatures)
    → IfOk r (λ t. checkpoint_of t ≡ Ok checkpoint)
checkpoint_back checkpoint (Ok t) is text note signatures =
    ap checkpoint_of text ∙ checkpoint_again checkpoint is note signatures
checkpoint_back checkpoint (Err e) is text note signatures = tt
