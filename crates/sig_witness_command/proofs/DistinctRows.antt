-- Rows, each once.
use Rattle.std.proofs.Common.{◌≡◌, ◌∙◌, Bool, true, false, List, [], ◌∷◌, ◌++◌, inl, inr, ◌⊎◌, ap, arith, refl, subst, sym}
use Rattle.std.specs.Prelude.{Contains, if◌then◌else◌}
use Rattle.std.proofs.lemmas.List.{append-nil, append_assoc}
use Rattle.std.proofs.lemmas.List.Elements.{Contains-append_cases, Contains-append_left, Contains-append_right, Contains-push, Contains-push_cases}
use Rattle.sig_base.proofs.AcceptedRows.{accepted-rows}
use Rattle.sig_base.specs.declared.checker.AcceptedRow.{AcceptedRow}
use Rattle.sig_witness_command.specs.Questions.{each_once_after, has_row, update_rows, with_row}
use Rattle.sig_witness_command.specs.Suffice.{AreDifferent, WitnessRowsAreEachOnce}

-- ---- whether a row is there

pub among : (rows : List AcceptedRow) (row : AcceptedRow) → has_row rows row ≡ true → Contains rows row
among rows row is = (accepted-rows rows row.operation row.scheme row.key row.message row.signature).0 is

among-true : (rows : List AcceptedRow) (row : AcceptedRow) → Contains rows row → has_row rows row ≡ true
among-true rows row there = (accepted-rows rows row.operation row.scheme row.key row.message row.signature).1 there

bool-apart : (b : Bool) → b ≡ false → b ≡ true → ⊥
bool-apart b is_false is_true = (let f : false ≡ true = sym is_false ∙ is_true in cc)

not-true : (b : Bool) → (b ≡ true → ⊥) → b ≡ false
not-true true never = absurd (never refl)
not-true false never = refl

pub if-true : {X : Type 0} (b : Bool) (x y : X) → b ≡ true → (if b then x else y) ≡ x
if-true true x y is = refl
if-true false x y is = absurd (let f : false ≡ true = is in cc)

pub if-false : {X : Type 0} (b : Bool) (x y : X) → b ≡ false → (if b then x else y) ≡ y
if-false true x y is = absurd (let f : true ≡ false = is in cc)
if-false false x y is = refl

pub there-same : (rows : List AcceptedRow) (row : AcceptedRow) → Contains rows row → with_row rows row ≡ rows
there-same rows row there = if-true (has_row rows row) rows (rows ++ row ∷ []) (among-true rows row there)

pub absent-after : (rows : List AcceptedRow) (row : AcceptedRow) → ¬ Contains rows row
    → with_row rows row ≡ rows ++ row ∷ []
absent-after rows row absent =
    if-false (has_row rows row) rows (rows ++ row ∷ [])
    (not-true (has_row rows row) (λ is. absent (among rows row is)))

-- one more row is there, or it is not and comes after
pub one-row : (rows : List AcceptedRow) (row : AcceptedRow)
    → (Contains rows row × (with_row rows row ≡ rows)) ⊎ ((¬ Contains rows row) × (with_row rows row ≡ rows ++ row ∷ []))
one-row rows row = by (has_row rows row) refl where
  by : (b : Bool) → has_row rows row ≡ b
      → (Contains rows row × (with_row rows row ≡ rows)) ⊎ ((¬ Contains rows row) × (with_row rows row ≡ rows ++ row ∷ []))
  by true is = inl (among rows row is, if-true (has_row rows row) rows (rows ++ row ∷ []) is)
  by false is = inr (
    λ there. bool-apart (has_row rows row) is (among-true rows row there),
    if-false (has_row rows row) rows (rows ++ row ∷ []) is,
  )

-- ---- rows after others

pub once-parts : (before first second : List AcceptedRow)
    → each_once_after before (first ++ second) ≡ each_once_after (each_once_after before first) second
once-parts before [] second = refl
once-parts before (row ∷ later) second = once-parts (with_row before row) later second

-- they begin with those before them
pub once-begins : (before rows : List AcceptedRow)
    → (more : List AcceptedRow) × (each_once_after before rows ≡ before ++ more)
once-begins before [] = ([], sym (append-nil before))
once-begins before (row ∷ later) =
    let rest = once-begins (with_row before row) later in
    elim (one-row before row) [
      | inl (_, same) ↦ (rest.0, rest.1 ∙ ap (λ front. front ++ rest.0) same)
      | inr (_, same) ↦
          (row ∷ rest.0, rest.1 ∙ ap (λ front. front ++ rest.0) same ∙ append_assoc before (row ∷ []) rest.0)
    ]

-- ---- each row is there, and no other

pub here : {X : Type 0} (row : X) (rows : List X) → Contains (row ∷ rows) row
here row rows = (0, omega arith, refl)

pub later : {X : Type 0} (row one : X) (rows : List X) → Contains rows one → Contains (row ∷ rows) one
later row one rows there = Contains-append_right (row ∷ []) rows one there

pub first-or-later : {X : Type 0} (row one : X) (rows : List X) → Contains (row ∷ rows) one
    → (row ≡ one) ⊎ Contains rows one
first-or-later row one rows there = elim (Contains-append_cases (row ∷ []) rows one there) [
  | inl single ↦ elim (Contains-push_cases [] row one single) [
    | inl none ↦ absurd (omega (arith, none.1))
    | inr same ↦ inl same
  ]
  | inr rest ↦ inr rest
]

kept-with : (rows : List AcceptedRow) (row one : AcceptedRow) → Contains rows one → Contains (with_row rows row) one
kept-with rows row one there = elim (one-row rows row) [
  | inl (_, same) ↦ subst (λ (all : List AcceptedRow). Contains all one) (sym same) there
  | inr (_, same) ↦
      subst (λ (all : List AcceptedRow). Contains all one) (sym same) (Contains-append_left rows (row ∷ []) one there)
]

new-with : (rows : List AcceptedRow) (row : AcceptedRow) → Contains (with_row rows row) row
new-with rows row = elim (one-row rows row) [
  | inl (there, same) ↦ subst (λ (all : List AcceptedRow). Contains all row) (sym same) there
  | inr (_, same) ↦ subst (λ (all : List AcceptedRow). Contains all row) (sym same) (Contains-push rows row)
]

pub with-cases : (rows : List AcceptedRow) (row one : AcceptedRow) → Contains (with_row rows row) one
    → Contains rows one ⊎ (row ≡ one)
with-cases rows row one there = elim (one-row rows row) [
  | inl (_, same) ↦ inl (subst (λ (all : List AcceptedRow). Contains all one) same there)
  | inr (_, same) ↦ Contains-push_cases rows row one (subst (λ (all : List AcceptedRow). Contains all one) same there)
]

once-keeps : (before rows : List AcceptedRow) (one : AcceptedRow) → Contains before one
    → Contains (each_once_after before rows) one
once-keeps before [] one there = there
once-keeps before (row ∷ rest) one there =
    once-keeps (with_row before row) rest one (kept-with before row one there)

pub once-has : (before rows : List AcceptedRow) (one : AcceptedRow) → Contains rows one
    → Contains (each_once_after before rows) one
once-has before [] one there = absurd (omega (arith, there.1))
once-has before (row ∷ rest) one there = elim (first-or-later row one rest there) [
  | inl same ↦
      once-keeps (with_row before row) rest one
      (subst (Contains (with_row before row)) same (new-with before row))
  | inr after ↦ once-has (with_row before row) rest one after
]

pub once-only : (before rows : List AcceptedRow) (one : AcceptedRow) → Contains (each_once_after before rows) one
    → Contains before one ⊎ Contains rows one
once-only before [] one there = inl there
once-only before (row ∷ rest) one there = elim (once-only (with_row before row) rest one there) [
  | inl front ↦ elim (with-cases before row one front) [
    | inl old ↦ inl old
    | inr same ↦ inr (subst (Contains (row ∷ rest)) same (here row rest))
  ]
  | inr after ↦ inr (later row one rest after)
]

-- ---- none is there twice

different-after : (rows : List AcceptedRow) (row : AcceptedRow) → AreDifferent rows → ¬ Contains rows row
    → AreDifferent (rows ++ row ∷ [])
different-after [] row all absent = (λ there. omega (arith, there.1), tt)
different-after (one ∷ rest) row all absent = (
  λ there. elim (Contains-push_cases rest row one there) [
    | inl inside ↦ absurd (all.0 inside)
    | inr same ↦ absurd (absent (subst (Contains (one ∷ rest)) (sym same) (here one rest)))
  ],
  different-after rest row all.1 (λ there. absent (later one row rest there)),
)

pub once-different : (before rows : List AcceptedRow) → AreDifferent before → AreDifferent (each_once_after before rows)
once-different before [] all = all
once-different before (row ∷ rest) all = once-different (with_row before row) rest (elim (one-row before row) [
  | inl (_, same) ↦ subst AreDifferent (sym same) all
  | inr (absent, same) ↦ subst AreDifferent (sym same) (different-after before row all absent)
])

pub rows_each_once : WitnessRowsAreEachOnce
rows_each_once start updates = (
  λ row. (
    λ there. elim (once-only [] (update_rows start updates) row there) [
      | inl none ↦ absurd (omega (arith, none.1))
      | inr is ↦ is
    ],
    once-has [] (update_rows start updates) row,
  ),
  once-different [] (update_rows start updates) tt,
)
