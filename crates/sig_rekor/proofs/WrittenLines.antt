-- Lines of which none is empty are what is written of their contents.
use Rattle.std.proofs.Common.{◌≡◌, ℕ, zero, suc, ◌<◌, ◌≤◌, List, [], ◌∷◌, ◌++◌, length, Option, Some, None, refl, sym}
use Rattle.std.proofs.Common.{◌∙◌, ap, arith, replicate, append_assoc, append-nil, length-append}
use Rattle.std.proofs.Common.{Bool, false, ◌==◌, option_map, is_some}
use Rattle.std.proofs.lemmas.List.{length-replicate}
use Rattle.std.proofs.lemmas.Grind.{flat_map-append}
use Rattle.std.specs.List.{flat_map}
use Rattle.sig_rekor.specs.TextCuts.{cut_at, parts_between, trimmed}
use Rattle.sig_rekor.specs.NoteText.{line_feed, newline, colon, content_by, content_line, other_content_of, contents_of}
use Rattle.sig_rekor.specs.CheckpointText.{empty_line}
use Rattle.sig_rekor.specs.WrittenLines.{AreWritten}
use Rattle.sig_rekor.proofs.CutLaws.{cut_at-some, cut_at-none, trimmed-found}
use Rattle.sig_rekor.proofs.Notes.{contents_of-written, contents_of-step, contents_of-end}

-- a text without newlines at its ends and without an empty line
trimmed_whole : (text body : List ℕ) (n m : ℕ) → text ≡ replicate n 10 ++ (body ++ replicate m 10)
    → length text ≤ length body → text ≡ body
trimmed_whole text body zero zero e long = e ∙ append-nil body
trimmed_whole text body zero (suc m) e long =
    absurd (omega (arith, simp (length-append, length-replicate) at (ap length e)))
trimmed_whole text body (suc n) m e long =
    absurd (omega (arith, simp (length-append, length-replicate) at (ap length e)))

pub are_written-found : (text : List ℕ) → 0 < length text → length text ≤ length (trimmed line_feed text)
    → cut_at empty_line text ≡ None → AreWritten text
are_written-found text some long e =
    let is = trimmed-found line_feed text in
    let whole = trimmed_whole text (trimmed line_feed text) is.before is.after is.whole long in record {
      some = λ none. omega (arith, ap length none);
      front = λ rest w. is.front rest (sym whole ∙ w);
      back = λ rest w. is.back rest (sym whole ∙ w);
      apart = cut_at-none empty_line text (omega arith) e;
    }

pub not_empty : (text : List ℕ) (b : Bool) → b ≡ (length text == 0) → b ≡ false → 0 < length text
not_empty [] b e filled = absurd cc
not_empty (x ∷ text) b e filled = omega arith

-- no cut was found
pub no_cut : {A B : Type 0} (f : A → B) (r : Option A) (o : Option B) → option_map f r ≡ o → is_some r ≡ false
    → o ≡ None
no_cut f None o e none = sym e
no_cut f (Some x) o e none = absurd cc

-- a line is what is written of its content
line_written : (line : List ℕ) → content_line (other_content_of line) ≡ line ++ newline
unfolding other_content_of
line_written line = written _ refl where
  written : (o : Option (List ℕ × List ℕ)) → cut_at colon line ≡ o
      → content_line (content_by line (cut_at colon line)) ≡ line ++ newline
  written None e = rw e refl
  written (Some cut) e = rw e (ap (λ l. l ++ newline) (sym (cut_at-some colon line cut.0 cut.1 e).whole))

-- what is written of the contents of a text
abbrev pub lines_of : List ℕ → List ℕ
lines_of text = flat_map content_line (contents_of (parts_between newline text))

-- the first line has ended, and the others are lines too
others_written : (text line rest : List ℕ) → text ≡ line ++ (newline ++ rest) → AreWritten text → AreWritten rest
others_written text line rest e are = record {
  some = λ none. are.back line (e ∙ ap (λ r. line ++ (newline ++ r)) none);
  front = λ r first. are.apart line r (e ∙ ap (λ t. line ++ (newline ++ t)) first);
  back = λ r last. are.back (line ++ (newline ++ r))
      (e ∙ ap (λ t. line ++ (newline ++ t)) last ∙ sym (append_assoc line (newline ++ r) newline));
  apart = λ before after w. are.apart (line ++ (newline ++ before)) after
      (e ∙ ap (λ t. line ++ (newline ++ t)) w ∙ sym (append_assoc line (newline ++ before) _));
}

written_some : (text : List ℕ) → AreWritten text → 0 < length text
written_some [] are = absurd (are.some refl)
written_some (b ∷ text) are = omega arith

first_some : (text line rest : List ℕ) → text ≡ line ++ (newline ++ rest) → AreWritten text → 0 < length line
first_some text [] rest e are = absurd (are.front rest e)
first_some text (b ∷ line) rest e are = omega arith

one_line : (line : List ℕ) → 0 < length line → flat_map content_line (contents_of (line ∷ [])) ≡ line ++ newline
one_line line some = rw (contents_of-written line some) (append-nil _ ∙ line_written line)

regroup : (line rest : List ℕ) → (line ++ newline) ++ (rest ++ newline) ≡ (line ++ (newline ++ rest)) ++ newline
regroup line rest = simp append_assoc

lines_within : (n : ℕ) (text : List ℕ) → length text < n → AreWritten text → lines_of text ≡ text ++ newline
lines_within zero text less are = absurd (omega arith)
lines_within (suc n) text less are = by (lines_within n) _ refl where
  by : ((rest : List ℕ) → length rest < n → AreWritten rest → lines_of rest ≡ rest ++ newline)
      → (o : Option (List ℕ × List ℕ)) → cut_at newline text ≡ o → lines_of text ≡ text ++ newline
  by others None e =
      ap (flat_map content_line) (contents_of-end text (sym e)) ∙ one_line text (written_some text are)
  by others (Some cut) e =
      let split : text ≡ cut.0 ++ (newline ++ cut.1) = (cut_at-some newline text cut.0 cut.1 e).whole in
      let less : length cut.1 < n = omega (arith, simp length-append at (ap length split)) in
      ap (flat_map content_line) (contents_of-step text cut.0 cut.1 (sym e))
      ∙ flat_map-append content_line (contents_of (cut.0 ∷ [])) (contents_of (parts_between newline cut.1))
      ∙ rw (
        one_line cut.0 (first_some text cut.0 cut.1 split are),
        others cut.1 less (others_written text cut.0 cut.1 split are),
      ) (regroup cut.0 cut.1 ∙ ap (λ t. t ++ newline) (sym split))

pub lines_written-all : (text : List ℕ) → AreWritten text → lines_of text ≡ text ++ newline
lines_written-all text are = lines_within (suc (length text)) text (omega arith) are

pub ruleset lines_written = (lines_written-all, append_assoc)
