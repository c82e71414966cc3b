-- The lines of a text in fives: they are cut as they were written, in one way.
use Rattle.std.proofs.Common.{◌≡◌, ◌==◌, ℕ, ◌<◌, Bool, true, false, List, [], ◌∷◌, ◌++◌, length, Option, Some, None, refl, sym, ◌∙◌, ap}
use Rattle.std.proofs.Common.{arith, append_assoc, length-append, subst}
use Rattle.std.proofs.lemmas.Bool.{eqb-true}
use Rattle.std.specs.List.{AllByRecursion}
use Rattle.sig_base.proofs.OptionSteps.{bind_is, some_is}
use Rattle.sig_rekor.proofs.CutLaws.{cut_at-some}
use Rattle.sig_rekor.proofs.Steps.{all_push}
use Rattle.sig_rekor.proofs.WrittenCuts.{cut_after, free-lacks}
use Rattle.sig_rekor.specs.TextCuts.{cut_at}
use Rattle.sig_rekor.specs.NoteText.{newline}
use Rattle.sig_witness.specs.StateCauses.{AreLines, AreLinesOf, IsLine}
use Rattle.sig_witness.specs.StateCut.{lines_cut}
use Rattle.sig_witness.specs.StateText.{LogLines, all_before, lines_before}

-- ---- five lines

pub lines-cut : (lines : LogLines) (rest : List ℕ) → AreLines lines
    → lines_cut (lines_before lines rest) ≡ Some (lines, rest)
lines-cut lines rest are =
    let hash = lines.hash ++ 10 ∷ rest in
    let size = lines.size ++ 10 ∷ hash in
    let key = lines.key ++ 10 ∷ size in
    let scheme = lines.scheme ++ 10 ∷ key in
    rw (
      cut_after 10 lines.origin scheme are.origin,
      cut_after 10 lines.scheme key are.scheme,
      cut_after 10 lines.key size are.key,
      cut_after 10 lines.size hash are.size,
      cut_after 10 lines.hash rest are.hash,
    ) refl

-- a line ends at the first newline
one-line : (text before after : List ℕ) → cut_at newline text ≡ Some (before, after)
    → (text ≡ before ++ 10 ∷ after) × IsLine before
one-line text before after is =
    let cut = cut_at-some newline text before after is in (
      cut.whole,
      free-lacks 10 before (λ front back here.
          (let longer : text ≡ front ++ (newline ++ (back ++ 10 ∷ after)) =
          cut.whole ∙ ap (λ t. t ++ 10 ∷ after) here ∙ append_assoc front (newline ++ back) (10 ∷ after) in
          let first = cut.first front (back ++ 10 ∷ after) longer in
          let size = ap length here in
          absurd (omega (arith, length-append front (newline ++ back))))),
    )

five-lines : (text origin one scheme two key three size four hash five : List ℕ) (lines : LogLines) (rest : List ℕ)
    → cut_at newline text ≡ Some (origin, one) → cut_at newline one ≡ Some (scheme, two)
    → cut_at newline two ≡ Some (key, three) → cut_at newline three ≡ Some (size, four)
    → cut_at newline four ≡ Some (hash, five)
    → ◌≡◌ {A = LogLines × List ℕ}
    (record { origin = origin; scheme = scheme; key = key; size = size; hash = hash }, five) (lines, rest)
    → (text ≡ lines_before lines rest) × AreLines lines
five-lines text origin one scheme two key three size four hash five lines rest cut1 cut2 cut3 cut4 cut5 is =
    let made : LogLines = record { origin = origin; scheme = scheme; key = key; size = size; hash = hash } in
    let at1 = one-line text origin one cut1 in
    let at2 = one-line one scheme two cut2 in
    let at3 = one-line two key three cut3 in
    let at4 = one-line three size four cut4 in
    let at5 = one-line four hash five cut5 in
    let whole : text ≡ lines_before made five =
    at1.0 ∙ ap (λ t. origin ++ 10 ∷ t) (at2.0 ∙ ap (λ t. scheme ++ 10 ∷ t) (at3.0
    ∙ ap (λ t. key ++ 10 ∷ t) (at4.0 ∙ ap (λ t. size ++ 10 ∷ t) at5.0))) in
    let are : AreLines made =
    record { origin = at1.1; scheme = at2.1; key = at3.1; size = at4.1; hash = at5.1 } in (
      whole ∙ ap (λ (p : LogLines × List ℕ). lines_before p.0 p.1) is,
      subst (λ (p : LogLines × List ℕ). AreLines p.0) is are,
    )

pub cut-lines : (text : List ℕ) (lines : LogLines) (rest : List ℕ) → lines_cut text ≡ Some (lines, rest)
    → (text ≡ lines_before lines rest) × AreLines lines
cut-lines text lines rest is =
    let (origin, origin_is, more1) = bind_is (cut_at newline text) _ (lines, rest) is in
    let (scheme, scheme_is, more2) = bind_is (cut_at newline origin.1) _ (lines, rest) more1 in
    let (key, key_is, more3) = bind_is (cut_at newline scheme.1) _ (lines, rest) more2 in
    let (size, size_is, more4) = bind_is (cut_at newline key.1) _ (lines, rest) more3 in
    let (hash, hash_is, more5) = bind_is (cut_at newline size.1) _ (lines, rest) more4 in
    five-lines text origin.0 origin.1 scheme.0 scheme.1 key.0 key.1 size.0 size.1 hash.0 hash.1 lines rest
    origin_is scheme_is key_is size_is hash_is (some_is _ _ more5)

before-some : (lines : LogLines) (rest : List ℕ) → 0 < length (lines_before lines rest)
before-some lines rest =
    omega (
      arith,
      length-append lines.origin (10 ∷ (lines.scheme ++ 10 ∷ (lines.key ++ 10 ∷ (lines.size ++ 10 ∷
          (lines.hash ++ 10 ∷ rest))))),
    )

-- ---- all lines

all-push : (made : List LogLines) (lines : LogLines) (after : List ℕ)
    → all_before (made ++ lines ∷ []) after ≡ all_before made (lines_before lines after)
all-push [] lines after = refl
all-push (one ∷ made) lines after = ap (λ t. lines_before one t) (all-push made lines after)

-- lines in fives that are not empty begin with five
first-five : (text : List ℕ) (all : List LogLines) → AreLinesOf text all → 0 < length text
    → (lines : LogLines) × (later : List LogLines) × (all ≡ lines ∷ later)
    × (lines_cut text ≡ Some (lines, all_before later [])) × AllByRecursion AreLines later
first-five text [] are some = absurd (let none = ap length are.whole in omega arith)
first-five text (lines ∷ later) are some = (
  lines,
  later,
  refl,
  ap lines_cut are.whole ∙ lines-cut lines (all_before later []) are.lines.0,
  are.lines.1,
)

pub lines-unique : (all others : List LogLines) → AllByRecursion AreLines all → AllByRecursion AreLines others
    → all_before all [] ≡ all_before others [] → all ≡ others
lines-unique [] [] are aren is = refl
lines-unique [] (other ∷ others) are aren is =
    absurd (let size = ap length is in let some = before-some other (all_before others []) in omega arith)
lines-unique (one ∷ all) [] are aren is =
    absurd (let size = ap length is in let some = before-some one (all_before all []) in omega arith)
lines-unique (one ∷ all) (other ∷ others) are aren is =
    let pair : ◌≡◌ {A = LogLines × List ℕ} (one, all_before all []) (other, all_before others []) =
    some_is _ _ (sym (lines-cut one (all_before all []) are.0) ∙ ap lines_cut is
    ∙ lines-cut other (all_before others []) aren.0) in
    let first : one ≡ other = ap (λ (p : LogLines × List ℕ). p.0) pair in
    let rest : all_before all [] ≡ all_before others [] = ap (λ (p : LogLines × List ℕ). p.1) pair in
    rw (first, lines-unique all others are.1 aren.1 rest) refl

pub same-lines : (text : List ℕ) (all others : List LogLines) → AreLinesOf text all → AreLinesOf text others
    → all ≡ others
same-lines text all others are aren = lines-unique all others are.lines aren.lines (sym are.whole ∙ aren.whole)

-- ---- as a loop cuts them

-- a text with its first lines cut: if the whole text is lines in fives, so is what is left
pub record IsSplitting (text : List ℕ) (made : List LogLines) (rest : List ℕ) : Type 0 where
  pub whole : text ≡ all_before made rest
  pub lines : AllByRecursion AreLines made
  pub others : (all : List LogLines) → AreLinesOf text all → (later : List LogLines) × AreLinesOf rest later

pub split-start : (text : List ℕ) → IsSplitting text [] text
split-start text = record { whole = refl; lines = tt; others = λ all are. (all, are) }

pub split-more : (text : List ℕ) (made : List LogLines) (rest : List ℕ) (lines : LogLines) (after : List ℕ)
    → IsSplitting text made rest → 0 < length rest → lines_cut rest ≡ Some (lines, after)
    → IsSplitting text (made ++ lines ∷ []) after
split-more text made rest lines after so_far some cut =
    let (rest_is, are) = cut-lines rest lines after cut in
    record {
      whole = so_far.whole ∙ ap (all_before made) rest_is ∙ sym (all-push made lines after);
      lines = all_push AreLines made lines so_far.lines are;
      others =
          λ all all_are.
          (let (later, later_are) = so_far.others all all_are in
          let (one, more, _, one_cut, more_are) = first-five rest later later_are some in
          let pair : ◌≡◌ {A = LogLines × List ℕ} (lines, after) (one, all_before more []) =
          some_is _ _ (sym cut ∙ one_cut) in
          let is : after ≡ all_before more [] = ap (λ (p : LogLines × List ℕ). p.1) pair in
          (more, record { whole = is; lines = more_are }));
    }

pub split-done : (text : List ℕ) (made : List LogLines) (rest : List ℕ) → IsSplitting text made rest → rest ≡ []
    → AreLinesOf text made
split-done text made rest so_far empty =
    record { whole = so_far.whole ∙ ap (all_before made) empty; lines = so_far.lines }

pub split-fails : (text : List ℕ) (made : List LogLines) (rest : List ℕ) → IsSplitting text made rest → 0 < length rest
    → lines_cut rest ≡ None → (all : List LogLines) → ¬ AreLinesOf text all
split-fails text made rest so_far some none all are =
    let (later, later_are) = so_far.others all are in
    let (one, more, _, one_cut, _) = first-five rest later later_are some in
    (let both : ◌≡◌ {A = Option (LogLines × List ℕ)} None (Some (one, all_before more [])) = sym none ∙ one_cut in cc)

pub not-empty : (text : List ℕ) (b : Bool) → b ≡ (length text == 0) → b ≡ false → 0 < length text
not-empty [] b is is_false = absurd (let both : true ≡ false = sym is ∙ is_false in cc)
not-empty (c ∷ text) b is is_false = omega arith

pub is-empty : (text : List ℕ) (b : Bool) → b ≡ (length text == 0) → b ≡ true → text ≡ []
is-empty [] b is is_true = refl
is-empty (c ∷ text) b is is_true =
    absurd (let none : length (c ∷ text) ≡ 0 = eqb-true (length (c ∷ text)) 0 (sym is ∙ is_true) in omega arith)

pub ruleset splitting = (split-start, split-more, split-done, split-fails, not-empty, is-empty)
