-- The cuts of texts that are written line by line.
use Rattle.std.proofs.Common.{◌≡◌, ◌≢◌, ℕ, ◌<◌, List, [], ◌∷◌, ◌++◌, length, Option, Some, None, option_map, refl, sym}
use Rattle.std.proofs.Common.{◌∙◌, ap, arith, append-nil}
use Rattle.std.proofs.lemmas.Bool.{ne_eqb, eq-eqb}
use Rattle.std.specs.List.{AllByRecursion}
use Rattle.sig_rekor.specs.TextCuts.{Lacks, cut_at, cut_here, parts_between}
use Rattle.sig_rekor.specs.NoteText.{newline}
use Rattle.sig_rekor.specs.CheckpointText.{empty_line}
use Rattle.sig_rekor.proofs.GraphicTexts.{IsFreeOf}
use Rattle.sig_rekor.proofs.CutLaws.{parts_between-whole, parts_between-cut}

pub free-lacks : (s : ℕ) (t : List ℕ) → Lacks (s ∷ []) t → IsFreeOf s t
free-lacks s [] lacks = tt
free-lacks s (b ∷ t) lacks = (
  λ same. lacks [] t (ap (λ x. x ∷ t) same),
  free-lacks s t
      (λ before after w. lacks (b ∷ before) after (ap (λ x. b ∷ x) w)),
)

pub free-append : (s : ℕ) (a b : List ℕ) → IsFreeOf s a → IsFreeOf s b → IsFreeOf s (a ++ b)
free-append s [] b f g = g
free-append s (x ∷ a) b f g = (f.0, free-append s a b f.1 g)

-- with a front that lacks the separator's first byte
abbrev pub onto_cut : List ℕ → Option (List ℕ × List ℕ) → Option (List ℕ × List ℕ)
onto_cut front o = option_map (λ (cut : List ℕ × List ℕ). (front ++ cut.0, cut.1)) o

onto_byte : (b : ℕ) (front : List ℕ) (o : Option (List ℕ × List ℕ))
    → cut_here b None (onto_cut front o) ≡ onto_cut (b ∷ front) o
onto_byte b front None = refl
onto_byte b front (Some cut) = refl

pub cut_past : (s : ℕ) (separator front text : List ℕ) → IsFreeOf s front
    → cut_at (s ∷ separator) (front ++ text) ≡ onto_cut front (cut_at (s ∷ separator) text)
unfolding cut_at
cut_past s separator [] text free = sym (same (cut_at (s ∷ separator) text)) where
  same : (o : Option (List ℕ × List ℕ)) → onto_cut [] o ≡ o
  same None = refl
  same (Some cut) = refl
cut_past s separator (b ∷ front) text free =
    rw (ne_eqb s b (λ same. free.0 (sym same))) (ap (cut_here b None) (cut_past s separator front text free.1)
    ∙ onto_byte b front (cut_at (s ∷ separator) text))

pub cut_none : (s : ℕ) (separator text : List ℕ) → IsFreeOf s text → cut_at (s ∷ separator) text ≡ None
unfolding cut_at
cut_none s separator [] free = refl
cut_none s separator (b ∷ text) free =
    rw (ne_eqb s b (λ same. free.0 (sym same)), cut_none s separator text free.1) refl

-- at a byte
cut_now : (s : ℕ) (rest : List ℕ) → cut_at (s ∷ []) (s ∷ rest) ≡ Some ([], rest)
unfolding cut_at
cut_now s rest = rw (eq-eqb s s refl) refl

pub cut_after : (s : ℕ) (front rest : List ℕ) → IsFreeOf s front
    → cut_at (s ∷ []) (front ++ s ∷ rest) ≡ Some (front, rest)
cut_after s front rest free =
    cut_past s [] front (s ∷ rest) free ∙ ap (onto_cut front) (cut_now s rest)
    ∙ ap (λ x. Some (x, rest)) (append-nil front)

-- at an empty line, at a newline alone, and at the last newline
pub cut_empty : (rest : List ℕ) → cut_at empty_line (10 ∷ 10 ∷ rest) ≡ Some ([], rest)
unfolding cut_at
cut_empty rest = refl

pub cut_apart : (b : ℕ) (text : List ℕ) → b ≢ 10
    → cut_at empty_line (10 ∷ b ∷ text) ≡ onto_cut (10 ∷ []) (cut_at empty_line (b ∷ text))
unfolding cut_at
cut_apart b text other = rw (ne_eqb 10 b (λ same. other (sym same))) refl

pub cut_last : cut_at empty_line (10 ∷ []) ≡ None
unfolding cut_at
cut_last = refl

-- lines with a newline between each two, and a tail
abbrev pub written : List ℕ → List (List ℕ) → List ℕ → List ℕ
written line [] tail = line ++ tail
written line (next ∷ lines) tail = line ++ 10 ∷ written next lines tail

-- a line
pub record IsLine (line : List ℕ) : Type 0 where
  pub free : IsFreeOf 10 line
  pub some : 0 < length line

pub written_parts : (line : List ℕ) (lines : List (List ℕ)) → IsLine line → AllByRecursion IsLine lines
    → parts_between newline (written line lines []) ≡ line ∷ lines
written_parts line [] is are =
    parts_between-whole newline (line ++ []) (ap (cut_at newline) (append-nil line) ∙ cut_none 10 [] line is.free)
    ∙ ap (λ x. x ∷ []) (append-nil line)
written_parts line (next ∷ lines) is are =
    parts_between-cut newline (line ++ 10 ∷ written next lines []) line (written next lines []) (omega arith)
    (cut_after 10 line (written next lines []) is.free)
    ∙ ap (λ ps. line ∷ ps) (written_parts next lines are.0 are.1)

-- the first empty line stands after lines that are not empty
pub written_cut : (line : List ℕ) (lines : List (List ℕ)) (rest : List ℕ) → IsLine line → AllByRecursion IsLine lines
    → cut_at empty_line (written line lines (10 ∷ 10 ∷ rest)) ≡ Some (written line lines [], rest)
written_cut line [] rest is are =
    cut_past 10 newline line (10 ∷ 10 ∷ rest) is.free ∙ ap (onto_cut line) (cut_empty rest)
written_cut line (next ∷ lines) rest is are =
    cut_past 10 newline line (10 ∷ written next lines (10 ∷ 10 ∷ rest)) is.free
    ∙ ap (onto_cut line) (next_line next lines are.0 (written_cut next lines rest are.0 are.1)) where
      next_line : (next : List ℕ) (lines : List (List ℕ)) → IsLine next
          → cut_at empty_line (written next lines (10 ∷ 10 ∷ rest)) ≡ Some (written next lines [], rest)
          → cut_at empty_line (10 ∷ written next lines (10 ∷ 10 ∷ rest)) ≡ Some (10 ∷ written next lines [], rest)
      next_line [] lines is e = absurd (let some = is.some in omega arith)
      next_line (b ∷ next) [] is e = cut_apart b (next ++ 10 ∷ 10 ∷ rest) is.free.0 ∙ ap (onto_cut (10 ∷ [])) e
      next_line (b ∷ next) (y ∷ ys) is e =
          cut_apart b (next ++ 10 ∷ written y ys (10 ∷ 10 ∷ rest)) is.free.0 ∙ ap (onto_cut (10 ∷ [])) e
