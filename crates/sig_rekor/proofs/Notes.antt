-- The note of a checkpoint: its lines, its size and its contents.
use Rattle.std.proofs.Common.{◌≡◌, ℕ, suc, ◌+◌, ◌-◌, ◌<◌, ◌^◌, true, ◌&&◌, ◌==◌, nat_lt, List, [], ◌∷◌, ◌++◌, length}
use Rattle.std.proofs.Common.{Some, None, Ok, Err, refl, sym, ◌∙◌, ap, arith, append_assoc, append-nil}
use Rattle.std.proofs.lemmas.Bool.{eqb-true, lt-ltb, ltb-true, and_parts, and_from, cond_both}
use Rattle.std.proofs.lemmas.Bool.Decides.{nat_tests}
use Rattle.std.specs.Char.{is_ascii_digit, digit_value}
use Rattle.std.specs.List.{list_all}
use Rattle.std.specs.Str.Parse.{IsNumeral, AllDigits, digits_value, without_leading_plus}
use Rattle.sig_base.proofs.Digits.{digits_mean}
use Rattle.sig_base.specs.declared.fault.CheckpointFault.TheVariants.{NoteFormat, Size}
use Rattle.sig_rekor.specs.declared.checkpoint.OtherContent.{OtherContent}
use Rattle.sig_rekor.specs.TextCuts.{cut_at, parts_between, parts_within}
use Rattle.sig_rekor.specs.NoteText.{newline, is_not_empty, tree_size_of, note_by, note_of, other_content_of}
use Rattle.sig_rekor.specs.NoteText.{contents_of}
use Rattle.sig_rekor.proofs.CutLaws.{parts_between-whole, parts_between-cut}

-- ---- the size

digit_tells : (c : ℕ) → digit_value c < 10 → is_ascii_digit c ≡ true
digit_tells c small = grind (arith, nat_tests)

digits_tell : (ds : List ℕ) → AllDigits 10 ds → list_all is_ascii_digit ds ≡ true
digits_tell [] all = refl
digits_tell (d ∷ ds) all =
    and_from (is_ascii_digit d) (list_all is_ascii_digit ds) (digit_tells d all.0) (digits_tell ds all.1)

-- what `parse` reads
pub tree_size_of-numeral : (line : List ℕ) (n : ℕ) → IsNumeral 10 (without_leading_plus line)
    × (digits_value 10 (without_leading_plus line) < 2 ^ 64) → n ≡ digits_value 10 (without_leading_plus line)
    → tree_size_of line ≡ Ok n
unfolding tree_size_of
tree_size_of-numeral line n is same =
    rw (
      digits_tell (without_leading_plus line) is.0.1,
      lt-ltb 0 (length (without_leading_plus line)) is.0.0,
      lt-ltb
          (digits_value 10 (without_leading_plus line)) (2 ^ 64) is.1,
    ) (ap Ok (sym same))

-- and what it does not
pub tree_size_of-none : (line : List ℕ) → ((IsNumeral 10 (without_leading_plus line)
    × (digits_value 10 (without_leading_plus line) < 2 ^ 64)) → ⊥) → tree_size_of line ≡ Err Size
unfolding tree_size_of
tree_size_of-none line not =
    let ds = without_leading_plus line in
    let big = is_not_empty ds && nat_lt (digits_value 10 ds) (2 ^ 64) in
    cond_both (list_all is_ascii_digit ds && big) (Ok (digits_value 10 ds)) (Err Size) (λ r. r ≡ Err Size)
    (λ all.
    let both = and_parts (list_all is_ascii_digit ds) big all in
    let rest = and_parts (is_not_empty ds) (nat_lt (digits_value 10 ds) (2 ^ 64)) both.1 in
    absurd (not (
      (ltb-true 0 (length ds) rest.0, digits_mean ds both.0),
      ltb-true (digits_value 10 ds)
          (2 ^ 64) rest.1,
    )))
    (λ none. refl)

-- ---- the lines

-- no line has ended, or one alone
pub note_of-short : (text : List ℕ) → None ≡ cut_at newline text → note_of text ≡ Err NoteFormat
unfolding note_of
note_of-short text e = rw (parts_between-whole newline text (sym e)) refl

pub note_of-two : (text origin rest : List ℕ) → Some (origin, rest) ≡ cut_at newline text → None ≡ cut_at newline rest
    → note_of text ≡ Err NoteFormat
unfolding note_of
note_of-two text origin rest e f =
    rw (parts_between-cut newline text origin rest (omega arith) (sym e), parts_between-whole newline rest (sym f))
    refl

-- two lines have ended, and a third or none
pub note_of-ended : (text origin rest size rest' hash others : List ℕ) → Some (origin, rest) ≡ cut_at newline text
    → Some (size, rest') ≡ cut_at newline rest → Some (hash, others) ≡ cut_at newline rest'
    → note_of text ≡ note_by (origin ∷ size ∷ hash ∷ parts_between newline others)
unfolding note_of
note_of-ended text origin rest size rest' hash others e f g =
    ap note_by (parts_between-cut newline text origin rest (omega arith) (sym e)
    ∙ ap (λ ls. origin ∷ ls) (parts_between-cut newline rest size rest' (omega arith) (sym f)
    ∙ ap (λ ls. size ∷ ls) (parts_between-cut newline rest' hash others (omega arith) (sym g))))

pub note_of-last : (text origin rest size hash : List ℕ) → Some (origin, rest) ≡ cut_at newline text
    → Some (size, hash) ≡ cut_at newline rest → None ≡ cut_at newline hash
    → note_of text ≡ note_by (origin ∷ size ∷ hash ∷ parts_between newline [])
unfolding note_of contents_of parts_between parts_within cut_at
note_of-last text origin rest size hash e f g =
    ap note_by (parts_between-cut newline text origin rest (omega arith) (sym e)
    ∙ ap (λ ls. origin ∷ ls) (parts_between-cut newline rest size hash (omega arith) (sym f)
    ∙ ap (λ ls. size ∷ ls) (parts_between-whole newline hash (sym g))))

-- ---- the contents

pub contents_of-empty : (line : List ℕ) → length line ≡ 0 → contents_of (line ∷ []) ≡ []
unfolding contents_of
contents_of-empty [] none = refl
contents_of-empty (b ∷ line) none = absurd (omega arith)

pub contents_of-unchanged : (contents : List OtherContent) (line : List ℕ) → (length line == 0) ≡ true
    → contents ≡ contents ++ contents_of (line ∷ [])
contents_of-unchanged contents line none =
    rw (contents_of-empty line (eqb-true (length line) 0 none)) (sym (append-nil contents))

pub contents_of-written : (line : List ℕ) → 0 < length line → contents_of (line ∷ []) ≡ other_content_of line ∷ []
unfolding contents_of
contents_of-written line some = rw (lt-ltb 0 (length line) some) refl

pub contents_of-more : (line : List ℕ) (lines : List (List ℕ))
    → contents_of (line ∷ lines) ≡ contents_of (line ∷ []) ++ contents_of lines
unfolding contents_of
contents_of-more [] lines = refl
contents_of-more (b ∷ line) lines = rw (lt-ltb 0 (suc (length line)) (omega arith)) refl

-- the contents so far and those of what is left, one line on
pub contents_of-step : (text line rest : List ℕ) → Some (line, rest) ≡ cut_at newline text
    → contents_of (parts_between newline text) ≡ contents_of (line ∷ []) ++ contents_of (parts_between newline rest)
contents_of-step text line rest e =
    ap contents_of (parts_between-cut newline text line rest (omega arith) (sym e))
    ∙ contents_of-more line (parts_between newline rest)

pub contents_of-end : (text : List ℕ) → None ≡ cut_at newline text
    → contents_of (parts_between newline text) ≡ contents_of (text ∷ [])
contents_of-end text e = ap contents_of (parts_between-whole newline text (sym e))

pub ruleset all_lines = (note_of-short, note_of-two, note_of-ended, note_of-last)

pub ruleset one_content = (contents_of-unchanged, contents_of-written)

pub ruleset all_contents = (contents_of-step, contents_of-end, append_assoc)
