-- What the bundles of a manifest ask for is one list, and each signature of it is asked for.
use Rattle.std.proofs.Common.{◌≡◌, ◌≤◌, ◌+◌, ◌∙◌, ◌↔◌, ℕ, List, [], ◌∷◌, ◌++◌, length, inl, inr, ap, arith, refl, subst, sym}
use Rattle.std.proofs.lemmas.List.{append-nil, append_assoc}
use Rattle.std.proofs.lemmas.List.Elements.{Contains-append_left, Contains-append_right}
use Rattle.std.proofs.lemmas.List.Sums.{sum_by-append}
use Rattle.std.specs.Prelude.{Contains}
use Rattle.sig_base.proofs.RuleLaws.{none_fails}
use Rattle.sig_base.specs.declared.checker.AcceptedRow.{AcceptedRow}
use Rattle.sig_gate_command.proofs.DistinctRows.{all-different, once-same}
use Rattle.sig_gate_command.specs.Questions.{AreRows, AreRowsOf, AreWithin, AsksFor, each_once, gate_inputs}
use Rattle.sig_gate_command.specs.Suffice.{GateRowsAreEachOnce}
use Rattle.sig_questions.proofs.RowLaws.{empty_has, has_both}
use Rattle.sig_questions.specs.Questions.{HoldsUnasked, QuestionsAreOneList, question_links}
use Rattle.sig_questions.specs.Rows.{bytes_of_rows, row_bytes}
use Rattle.sig_reply.proofs.RowsTexts.{rows_text-length}
use Rattle.sig_reply.specs.RowsText.{rows_size, rows_text}
use Rattle.sig_verify.specs.Links.{Inputs}
use Rattle.sig_witness_command.proofs.DistinctRows.{first-or-later, here, later, once-begins, once-parts}

-- ---- of a bundle

-- a bundle has one list
pub one-rows : QuestionsAreOneList → (i : Inputs) (a b : List AcceptedRow) → AreRowsOf i a → AreRowsOf i b → a ≡ b
one-rows one i a b (inl is) (inl other) = one i a b is.are other.are
one-rows one i a b (inl is) (inr other) = absurd (none_fails (HoldsUnasked i) question_links other.link is.links other.fails)
one-rows one i a b (inr is) (inl other) = absurd (none_fails (HoldsUnasked i) question_links is.link other.links is.fails)
one-rows one i a b (inr is) (inr other) = is.none ∙ sym other.none

-- and each of it is asked for
asked-of : (i : Inputs) (rows : List AcceptedRow) (row : AcceptedRow) → AreRowsOf i rows
    → Contains rows row ↔ AsksFor i row
asked-of i rows row (inl is) = (λ there. (is.links, (is.asked row).0 there), λ asks. (is.asked row).1 asks.1)
asked-of i rows row (inr is) = (
  λ there. absurd (empty_has row (subst (λ (all : List AcceptedRow). Contains all row) is.none there)),
  λ asks. absurd (none_fails (HoldsUnasked i) question_links is.link asks.0 is.fails),
)

-- ---- of several

pub all-rows-one : QuestionsAreOneList → (is : List Inputs) (a b : List AcceptedRow) → AreRows is a → AreRows is b → a ≡ b
all-rows-one one [] a b all other = all ∙ sym other
all-rows-one one (i ∷ is) a b (first, rest, split, its, all) (also, more, cut, others, after) =
    split ∙ ap (λ front. front ++ rest) (one-rows one i first also its others)
    ∙ ap (λ back. also ++ back) (all-rows-one one is rest more all after) ∙ sym cut

pub rows-single : (i : Inputs) (rows : List AcceptedRow) → AreRowsOf i rows → AreRows (i ∷ []) rows
rows-single i rows its = (rows, [], sym (append-nil rows), its, refl)

pub rows-joined : (xs ys : List Inputs) (a b : List AcceptedRow) → AreRows xs a → AreRows ys b
    → AreRows (xs ++ ys) (a ++ b)
rows-joined [] ys a b none all = subst (λ (front : List AcceptedRow). AreRows ys (front ++ b)) (sym none) all
rows-joined (x ∷ xs) ys a b (first, rest, split, its, all) after = (
  first,
  rest ++ b,
  ap (λ front. front ++ b) split ∙ append_assoc first rest b,
  its,
  rows-joined xs ys rest b all after,
)

-- what the first and the others ask for
pub record AreCut (xs ys : List Inputs) (rows : List AcceptedRow) : Type 0 where
  pub front : List AcceptedRow
  pub back : List AcceptedRow
  pub whole : rows ≡ front ++ back
  pub first : AreRows xs front
  pub others : AreRows ys back

pub rows-cut : (xs ys : List Inputs) (rows : List AcceptedRow) → AreRows (xs ++ ys) rows → AreCut xs ys rows
rows-cut [] ys rows all = record { front = []; back = rows; whole = refl; first = refl; others = all }
rows-cut (x ∷ xs) ys rows (first, rest, split, its, all) =
    let cut = rows-cut xs ys rest all in
    record {
      front = first ++ cut.front;
      back = cut.back;
      whole = split ∙ ap (λ more. first ++ more) cut.whole ∙ sym (append_assoc first cut.front cut.back);
      first = (first, cut.front, refl, its, cut.first);
      others = cut.others;
    }

-- one of these asks for it
abbrev SomeAsks : List Inputs → AcceptedRow → Type 0
SomeAsks is row = (i : Inputs) × Contains is i × AsksFor i row

asked-among : (is : List Inputs) (rows : List AcceptedRow) (row : AcceptedRow) → AreRows is rows
    → Contains rows row ↔ SomeAsks is row
asked-among [] rows row none = (
  λ there. absurd (empty_has row (subst (λ (all : List AcceptedRow). Contains all row) none there)),
  λ asks. absurd (empty_has asks.0 asks.1),
)
asked-among (i ∷ is) rows row (first, rest, split, its, all) =
    let both = has_both first rest row in
    let here_asked = asked-of i first row its in
    let there_asked = asked-among is rest row all in (
      λ there. elim (both.0 (subst (λ (whole : List AcceptedRow). Contains whole row) split there)) [
        | inl front ↦ (i, here i is, here_asked.0 front)
        | inr back ↦ let (j, inside, asks) = there_asked.0 back in (j, later i j is inside, asks)
      ],
      λ found. (let (j, inside, asks) = found in
          subst (λ (whole : List AcceptedRow). Contains whole row) (sym split)
          (elim (first-or-later i j is inside) [
            | inl same ↦
                Contains-append_left first rest row (here_asked.1 (subst (λ (k : Inputs). AsksFor k row) (sym same) asks))
            | inr after ↦ Contains-append_right first rest row (there_asked.1 (j, after, asks))
          ])),
    )

pub gate_rows_each_once : GateRowsAreEachOnce
gate_rows_each_once gate rows are = (
  λ row. (
    λ there. (asked-among (gate_inputs gate) rows row are).0 ((once-same rows row).0 there),
    λ asks. (once-same rows row).1 ((asked-among (gate_inputs gate) rows row are).1 asks),
  ),
  all-different rows,
)

-- ---- how long they are

size-joined : (a b : List AcceptedRow) → rows_size (a ++ b) ≡ rows_size a + rows_size b
size-joined [] b = omega arith
size-joined (row ∷ a) b = omega (arith, size-joined a b)

-- a list is as long as its front, or longer
text-grows : (a b : List AcceptedRow) → length (rows_text a) ≤ length (rows_text (a ++ b))
text-grows [] [] = omega arith
text-grows [] (row ∷ b) = omega (arith, rows_text-length row b)
text-grows (row ∷ a) b =
    omega (arith, rows_text-length row a, rows_text-length row (a ++ b), size-joined a b)

-- a list is at least as long as that of one of its rows alone
size-of-one : (rows : List AcceptedRow) (row : AcceptedRow) → Contains rows row → rows_size (row ∷ []) ≤ rows_size rows
size-of-one [] row there = absurd (empty_has row there)
size-of-one (one ∷ rest) row there = elim (first-or-later one row rest there) [
  | inl same ↦ let is = ap (λ r. rows_size (r ∷ [])) same in omega (arith, is)
  | inr after ↦ omega (arith, size-of-one rest row after)
]

pub text-of-one : (rows : List AcceptedRow) (row : AcceptedRow) → Contains rows row
    → length (rows_text (row ∷ [])) ≤ length (rows_text rows)
text-of-one [] row there = absurd (empty_has row there)
text-of-one (one ∷ rest) row there =
    omega (arith, size-of-one (one ∷ rest) row there, rows_text-length one rest, rows_text-length row [])

pub bytes-joined : (a b : List AcceptedRow) → bytes_of_rows (a ++ b) ≡ bytes_of_rows a + bytes_of_rows b
bytes-joined a b = sum_by-append row_bytes a b

-- what is within stays so with fewer
pub within-front : (most : ℕ) (a b : List AcceptedRow) → AreWithin most (a ++ b) → AreWithin most a
within-front most a b is =
    let (more, begins) = once-begins (each_once a) b in
    let whole : each_once (a ++ b) ≡ each_once a ++ more = once-parts [] a b ∙ begins in
    let longer = ap (λ all. length (rows_text all)) whole in
    record {
      few = omega (arith, is.few, bytes-joined a b);
      short = omega (arith, is.short, longer, text-grows (each_once a) more);
    }
