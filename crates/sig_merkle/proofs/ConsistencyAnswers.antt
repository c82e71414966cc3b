-- The law `consistency_answers`: an answer to a consistency proof is the one whose cause holds.
use Rattle.std.proofs.Common.{◌≡◌, ◌≢◌, ◌⊎◌, ◌↔◌, ℕ, ◌<◌, Bool, true, false, Option, Some, None, MatchOption}
use Rattle.std.proofs.Common.{Result, Ok, Err, IsOk, List, [], ◌∷◌, length, refl, sym, ◌∙◌, ap, subst, inl, inr, arith}
use Rattle.std.specs.Prelude.{bytes_eq, is_ok, ◌==◌}
use Rattle.std.proofs.lemmas.Bool.{lt-ltb, le-ltb, eq-eqb, ne_eqb, cases_lt, cases_eq, false≢true, true≢false}
use Rattle.std.proofs.lemmas.Slice.Eq.{bytes_eq-Decides}
use Rattle.sig_base.specs.Sha256.{sha256}
use Rattle.sig_base.specs.declared.merkle_error.MerkleProofError.{MerkleProofError}
use Rattle.sig_base.specs.declared.merkle_error.MerkleProofError.TheVariants.{MismatchedRoot, IndexGtTreeSize}
use Rattle.sig_base.specs.declared.merkle_error.MerkleProofError.TheVariants.{UnexpectedNonEmptyProof}
use Rattle.sig_base.specs.declared.merkle_error.MerkleProofError.TheVariants.{UnexpectedEmptyProof, NewTreeSmaller}
use Rattle.sig_base.specs.declared.merkle_error.MerkleProofError.TheVariants.{WrongProofSize, WrongEmptyTreeHash}
use Rattle.sig_merkle.specs.Consistency.{roots_of, roots_len}
use Rattle.sig_merkle.specs.Inclusion.{match_root}
use Rattle.sig_merkle.specs.ConsistencyAnswer.{HasGrown, LeadsTo, IsSameTree, IsFromEmpty, IsConsistent}
use Rattle.sig_merkle.specs.ConsistencyAnswer.{same_tree_answer}
use Rattle.sig_merkle.specs.ConsistencyAnswer.{from_empty_answer, then_match, match_roots, growth_answer}
use Rattle.sig_merkle.specs.ConsistencyAnswer.{consistency_answer, IsWrongGrowthSize, IsMismatch, IsConsistencyAnswer}
use Rattle.sig_merkle.proofs.InclusionLaws.{match_root-same, match_root-apart, bytes_eq-apart, Ok-from_IsOk}
use Rattle.sig_merkle.proofs.ConsistencyLens.{roots_of-fits, roots_of-none, roots_len-grown}

-- which of the four answers it is

pub consistency_answer-smaller : (old_size new_size : ℕ) (hashes : List (List ℕ)) (old new : List ℕ)
    → new_size < old_size
    → consistency_answer old_size new_size hashes old new ≡ Err (NewTreeSmaller new_size old_size)
unfolding consistency_answer
consistency_answer-smaller old_size new_size hashes old new smaller = rw (lt-ltb new_size old_size smaller) refl

pub consistency_answer-same : (old_size new_size : ℕ) (hashes : List (List ℕ)) (old new : List ℕ)
    → old_size ≡ new_size → consistency_answer old_size new_size hashes old new ≡ same_tree_answer hashes old new
unfolding consistency_answer
consistency_answer-same old_size new_size hashes old new same =
    rw (le-ltb new_size old_size (omega arith), eq-eqb old_size new_size same) refl

pub consistency_answer-from_empty : (old_size new_size : ℕ) (hashes : List (List ℕ)) (old new : List ℕ)
    → old_size ≡ 0 → 0 < new_size
    → consistency_answer old_size new_size hashes old new ≡ from_empty_answer hashes old
unfolding consistency_answer
consistency_answer-from_empty old_size new_size hashes old new empty some =
    rw (
      le-ltb new_size old_size (omega arith),
      ne_eqb old_size new_size (λ same. absurd (omega arith)),
      eq-eqb old_size 0 empty,
    ) refl

pub consistency_answer-growth : (old_size new_size : ℕ) (hashes : List (List ℕ)) (old new : List ℕ)
    → 0 < old_size → old_size < new_size
    → consistency_answer old_size new_size hashes old new ≡ growth_answer old_size new_size hashes old new
unfolding consistency_answer
consistency_answer-growth old_size new_size hashes old new some older =
    rw (
      le-ltb new_size old_size (omega arith),
      ne_eqb old_size new_size (λ same. absurd (omega arith)),
      ne_eqb old_size 0 (λ empty. absurd (omega arith)),
    ) refl

-- one of them it is
sizes_cases : (old_size new_size : ℕ) → (new_size < old_size) ⊎ (old_size ≡ new_size)
    ⊎ ((old_size ≡ 0) × (0 < new_size)) ⊎ HasGrown old_size new_size
sizes_cases old_size new_size =
    elim (cases_lt new_size old_size) [
      | inl smaller ↦ inl smaller
      | inr within ↦ elim (cases_eq old_size new_size) [
        | inl same ↦ inr (inl same)
        | inr apart ↦ elim (cases_lt 0 old_size) [
          | inl some ↦ inr (inr (inr (some, omega arith)))
          | inr none ↦ inr (inr (inl (omega arith, omega arith)))
        ]
      ]
    ]

-- the cause of each

-- what holds of both results of the comparison of two roots holds of it
match_root-cases : (P : Result (Unit {0}) MerkleProofError → Type 0) (computed root : List ℕ)
    → (computed ≡ root → P (Ok tt))
    → (computed ≢ root → P (Err (MismatchedRoot (record { root = computed }) (record { root = root }))))
    → P (match_root (Ok computed) root)
match_root-cases P computed root same apart = cases_by (bytes_eq computed root) refl
  where
    cases_by : (b : Bool) → bytes_eq computed root ≡ b → P (match_root (Ok computed) root)
    cases_by true is =
        let equal = (bytes_eq-Decides computed root).0 is in
        subst P (sym (match_root-same computed root equal)) (same equal)
    cases_by false is =
        let differ : computed ≢ root = λ equal. false≢true (sym is ∙ (bytes_eq-Decides computed root).1 equal) in
        subst P (sym (match_root-apart computed root differ)) (apart differ)

not_empty : (hash : List ℕ) (rest : List (List ℕ)) → hash ∷ rest ≢ []
not_empty hash rest same = absurd (omega (arith, ap length same))

same_tree-cause : (size : ℕ) (hashes : List (List ℕ)) (old new : List ℕ)
    → IsConsistencyAnswer size size hashes old new (same_tree_answer hashes old new)
same_tree-cause size [] old new =
    match_root-cases (IsConsistencyAnswer size size [] old new) old new (λ same. inl ((refl, refl), same))
    (λ apart. (apart, inl ((refl, refl), refl, refl)))
same_tree-cause size (hash ∷ rest) old new = (inl refl, not_empty hash rest)

from_empty-compared : (new_size : ℕ) (old new : List ℕ) (b : Bool) → bytes_eq old (sha256 []) ≡ b → 0 < new_size
    → IsConsistencyAnswer 0 new_size [] old new (from_empty_answer [] old)
from_empty-compared new_size old new true is some =
    rw is (inr (inl ((refl, some, refl), (bytes_eq-Decides old (sha256 [])).0 is)))
from_empty-compared new_size old new false is some =
    rw is ((refl, some, refl), λ same. false≢true (sym is ∙ (bytes_eq-Decides old (sha256 [])).1 same))

from_empty-cause : (new_size : ℕ) (hashes : List (List ℕ)) (old new : List ℕ) → 0 < new_size
    → IsConsistencyAnswer 0 new_size hashes old new (from_empty_answer hashes old)
from_empty-cause new_size [] old new some =
    from_empty-compared new_size old new (bytes_eq old (sha256 [])) refl some
from_empty-cause new_size (hash ∷ rest) old new some = (inr refl, not_empty hash rest)

growth-led : (old_size new_size : ℕ) (hashes : List (List ℕ)) (old new : List ℕ) (led : Option (List ℕ × List ℕ))
    → HasGrown old_size new_size → hashes ≢ [] → roots_of old_size new_size true old hashes ≡ led
    → MatchOption led (length hashes ≢ roots_len old_size new_size true)
    (λ _. length hashes ≡ roots_len old_size new_size true)
    → IsConsistencyAnswer old_size new_size hashes old new
    (match_roots led (length hashes) (roots_len old_size new_size true) old new)
growth-led old_size new_size hashes old new None grown some led apart = (grown, some, refl, refl, apart)
growth-led old_size new_size hashes old new (Some (led_old, led_new)) grown some led fits =
    match_root-cases
    (λ compared. IsConsistencyAnswer old_size new_size hashes old new (then_match compared led_new new)) led_old old
    (λ same_old. let led_to : LeadsTo old_size new_size old hashes old led_new =
    (grown, led ∙ rw same_old refl) in
    match_root-cases (IsConsistencyAnswer old_size new_size hashes old new) led_new new
    (λ same_new. inr (inr (grown, led_to.1 ∙ rw same_new refl)))
    (λ apart. (apart, inr (inr (led_to, refl)))))
    (λ apart. (apart, inr (inl ((led_new, (grown, led)), refl))))

growth-cause : (old_size new_size : ℕ) (hashes : List (List ℕ)) (old new : List ℕ) → HasGrown old_size new_size
    → IsConsistencyAnswer old_size new_size hashes old new (growth_answer old_size new_size hashes old new)
growth-cause old_size new_size [] old new grown = (grown, refl)
growth-cause old_size new_size (hash ∷ rest) old new grown =
    growth-led old_size new_size (hash ∷ rest) old new (roots_of old_size new_size true old (hash ∷ rest)) grown
    (not_empty hash rest) refl (roots_of-fits old_size new_size true old (hash ∷ rest))

cause_at : (old_size new_size : ℕ) (hashes : List (List ℕ)) (old new : List ℕ)
    (answer : Result (Unit {0}) MerkleProofError) → consistency_answer old_size new_size hashes old new ≡ answer
    → IsConsistencyAnswer old_size new_size hashes old new answer
    → IsConsistencyAnswer old_size new_size hashes old new (consistency_answer old_size new_size hashes old new)
cause_at old_size new_size hashes old new answer is cause =
    subst (IsConsistencyAnswer old_size new_size hashes old new) (sym is) cause

pub consistency-cause : (old_size new_size : ℕ) (hashes : List (List ℕ)) (old new : List ℕ)
    → IsConsistencyAnswer old_size new_size hashes old new (consistency_answer old_size new_size hashes old new)
consistency-cause old_size new_size hashes old new =
    elim (sizes_cases old_size new_size) [
      | inl smaller ↦ cause_at old_size new_size hashes old new (Err (NewTreeSmaller new_size old_size))
          (consistency_answer-smaller old_size new_size hashes old new smaller) (smaller, refl, refl)
      | inr (inl same) ↦ cause_at old_size new_size hashes old new (same_tree_answer hashes old new)
          (consistency_answer-same old_size new_size hashes old new same)
          (rw same (same_tree-cause new_size hashes old new))
      | inr (inr (inl from)) ↦ cause_at old_size new_size hashes old new (from_empty_answer hashes old)
          (consistency_answer-from_empty old_size new_size hashes old new from.0 from.1)
          (rw from.0 (from_empty-cause new_size hashes old new from.1))
      | inr (inr (inr grown)) ↦ cause_at old_size new_size hashes old new
          (growth_answer old_size new_size hashes old new)
          (consistency_answer-growth old_size new_size hashes old new grown.0 grown.1)
          (growth-cause old_size new_size hashes old new grown)
    ]

-- where a cause holds, its answer comes

same_tree-given : (old_size new_size : ℕ) (hashes : List (List ℕ)) (old new : List ℕ)
    → IsSameTree old_size new_size hashes
    → consistency_answer old_size new_size hashes old new ≡ match_root (Ok old) new
same_tree-given old_size new_size hashes old new same =
    consistency_answer-same old_size new_size hashes old new same.0 ∙ rw (same.1) refl

from_empty-given : (old_size new_size : ℕ) (hashes : List (List ℕ)) (old new : List ℕ)
    → IsFromEmpty old_size new_size hashes
    → consistency_answer old_size new_size hashes old new ≡ from_empty_answer [] old
from_empty-given old_size new_size hashes old new from =
    consistency_answer-from_empty old_size new_size hashes old new from.0 from.1 ∙ rw (from.2) refl

growth-given : (old_size new_size : ℕ) (hashes : List (List ℕ)) (old new : List ℕ) → HasGrown old_size new_size
    → hashes ≢ [] → consistency_answer old_size new_size hashes old new
    ≡ match_roots (roots_of old_size new_size true old hashes) (length hashes) (roots_len old_size new_size true)
    old new
growth-given old_size new_size [] old new grown some = absurd (some refl)
growth-given old_size new_size (hash ∷ rest) old new grown some =
    consistency_answer-growth old_size new_size (hash ∷ rest) old new grown.0 grown.1

count_of_led : (found : Option (List ℕ × List ℕ)) (led : List ℕ × List ℕ) (count wanted : ℕ) → found ≡ Some led
    → MatchOption found (count ≢ wanted) (λ _. count ≡ wanted) → count ≡ wanted
count_of_led found led count wanted is fits = rw is at fits

led-some : (old_size new_size : ℕ) (hashes : List (List ℕ)) (old led_old led_new : List ℕ)
    → LeadsTo old_size new_size old hashes led_old led_new → hashes ≢ []
led-some old_size new_size hashes old led_old led_new led none =
    let count = count_of_led (roots_of old_size new_size true old hashes) (led_old, led_new) (length hashes)
    (roots_len old_size new_size true) led.1 (roots_of-fits old_size new_size true old hashes) in
    omega (arith, ap length none, roots_len-grown old_size new_size true led.0.0 led.0.1)

led-given : (old_size new_size : ℕ) (hashes : List (List ℕ)) (old new led_old led_new : List ℕ)
    → LeadsTo old_size new_size old hashes led_old led_new → consistency_answer old_size new_size hashes old new
    ≡ then_match (match_root (Ok led_old) old) led_new new
led-given old_size new_size hashes old new led_old led_new led =
    growth-given old_size new_size hashes old new led.0
    (led-some old_size new_size hashes old led_old led_new led) ∙ rw (led.1) refl

consistent-given : (old_size new_size : ℕ) (hashes : List (List ℕ)) (old new : List ℕ)
    → IsConsistent old_size new_size hashes old new → consistency_answer old_size new_size hashes old new ≡ Ok tt
consistent-given old_size new_size hashes old new (inl same) =
    same_tree-given old_size new_size hashes old new same.0 ∙ match_root-same old new same.1
consistent-given old_size new_size hashes old new (inr (inl from)) =
    from_empty-given old_size new_size hashes old new from.0
    ∙ rw ((bytes_eq-Decides old (sha256 [])).1 from.1) refl
consistent-given old_size new_size hashes old new (inr (inr led)) =
    led-given old_size new_size hashes old new old new led
    ∙ rw (match_root-same old old refl) (match_root-same new new refl)

mismatch-given : (old_size new_size : ℕ) (hashes : List (List ℕ)) (old new expected got : List ℕ)
    → IsMismatch old_size new_size hashes old new expected got → consistency_answer old_size new_size hashes old new
    ≡ Err (MismatchedRoot (record { root = expected }) (record { root = got }))
mismatch-given old_size new_size hashes old new expected got (apart, inl same) =
    let differ : old ≢ new = λ equal. apart (same.1 ∙ equal ∙ sym same.2) in
    same_tree-given old_size new_size hashes old new same.0 ∙ match_root-apart old new differ
    ∙ rw (same.1, same.2) refl
mismatch-given old_size new_size hashes old new expected got (apart, inr (inl led)) =
    let differ : expected ≢ old = λ equal. apart (equal ∙ sym led.1) in
    led-given old_size new_size hashes old new expected led.0.0 led.0.1
    ∙ rw (match_root-apart expected old differ, led.1) refl
mismatch-given old_size new_size hashes old new expected got (apart, inr (inr led)) =
    let differ : expected ≢ new = λ equal. apart (equal ∙ sym led.1) in
    led-given old_size new_size hashes old new old expected led.0
    ∙ rw (match_root-same old old refl, match_root-apart expected new differ, led.1) refl

-- there are hashes where none may be
not_empty-given : (old_size new_size : ℕ) (hashes : List (List ℕ)) (old new : List ℕ)
    → ((old_size ≡ new_size) ⊎ (old_size ≡ 0)) → hashes ≢ []
    → consistency_answer old_size new_size hashes old new ≡ Err UnexpectedNonEmptyProof
not_empty-given old_size new_size [] old new sizes some = absurd (some refl)
not_empty-given old_size new_size (hash ∷ rest) old new (inl same) some =
    consistency_answer-same old_size new_size (hash ∷ rest) old new same
not_empty-given old_size new_size (hash ∷ rest) old new (inr none) some =
    elim (cases_lt 0 new_size) [
      | inl more ↦ consistency_answer-from_empty old_size new_size (hash ∷ rest) old new none more
      | inr same ↦ consistency_answer-same old_size new_size (hash ∷ rest) old new (omega arith)
    ]

wrong_empty-given : (old_size new_size : ℕ) (hashes : List (List ℕ)) (old new : List ℕ)
    → IsFromEmpty old_size new_size hashes → old ≢ sha256 []
    → consistency_answer old_size new_size hashes old new ≡ Err WrongEmptyTreeHash
wrong_empty-given old_size new_size hashes old new from apart =
    from_empty-given old_size new_size hashes old new from
    ∙ rw (bytes_eq-apart old (sha256 []) (bytes_eq old (sha256 [])) refl apart) refl

wrong_size-given : (old_size new_size : ℕ) (hashes : List (List ℕ)) (old new : List ℕ) (got want : ℕ)
    → IsWrongGrowthSize old_size new_size hashes got want
    → consistency_answer old_size new_size hashes old new ≡ Err (WrongProofSize got want)
wrong_size-given old_size new_size hashes old new got want wrong =
    let apart : length hashes ≢ roots_len old_size new_size true =
    λ same. wrong.4 (wrong.2 ∙ same ∙ sym wrong.3) in
    growth-given old_size new_size hashes old new wrong.0 wrong.1
    ∙ rw (roots_of-none old_size new_size true old hashes apart, wrong.2, wrong.3) refl

consistency-by_cause : (old_size new_size : ℕ) (hashes : List (List ℕ)) (old new : List ℕ)
    (answer : Result (Unit {0}) MerkleProofError) → IsConsistencyAnswer old_size new_size hashes old new answer
    → consistency_answer old_size new_size hashes old new ≡ answer
consistency-by_cause old_size new_size hashes old new (Ok done) cause =
    consistent-given old_size new_size hashes old new cause
consistency-by_cause old_size new_size hashes old new (Err (NewTreeSmaller kept_new kept_old)) cause =
    consistency_answer-smaller old_size new_size hashes old new cause.0 ∙ rw (cause.1, cause.2) refl
consistency-by_cause old_size new_size hashes old new (Err UnexpectedNonEmptyProof) cause =
    not_empty-given old_size new_size hashes old new cause.0 cause.1
consistency-by_cause old_size new_size hashes old new (Err WrongEmptyTreeHash) cause =
    wrong_empty-given old_size new_size hashes old new cause.0 cause.1
consistency-by_cause old_size new_size hashes old new (Err UnexpectedEmptyProof) cause =
    consistency_answer-growth old_size new_size hashes old new cause.0.0 cause.0.1 ∙ rw (cause.1) refl
consistency-by_cause old_size new_size hashes old new (Err (WrongProofSize got want)) cause =
    wrong_size-given old_size new_size hashes old new got want cause
consistency-by_cause old_size new_size hashes old new (Err (MismatchedRoot expected got)) cause =
    mismatch-given old_size new_size hashes old new expected.root got.root cause
consistency-by_cause old_size new_size hashes old new (Err IndexGtTreeSize) cause = absurd cause

pub consistency_answers : (old_size new_size : ℕ) (old new : List ℕ) (hashes : List (List ℕ))
    (answer : Result (Unit {0}) MerkleProofError)
    → (consistency_answer old_size new_size hashes old new ≡ answer)
    ↔ IsConsistencyAnswer old_size new_size hashes old new answer
consistency_answers old_size new_size old new hashes answer = (
  λ is. subst (IsConsistencyAnswer old_size new_size hashes old new) is
      (consistency-cause old_size new_size hashes old new),
  consistency-by_cause old_size new_size hashes old new answer,
)

-- the same, as the check meets them

pub growth-wrong_size : (old_size new_size : ℕ) (hashes : List (List ℕ)) (old new : List ℕ) (want : ℕ)
    → false ≡ (length hashes == 0) → want ≡ roots_len old_size new_size true → length hashes ≢ want
    → Err (WrongProofSize (length hashes) want) ≡ growth_answer old_size new_size hashes old new
growth-wrong_size old_size new_size [] old new want some is apart = absurd (true≢false (sym some))
growth-wrong_size old_size new_size (hash ∷ rest) old new want some is apart =
    let none = roots_of-none old_size new_size true old (hash ∷ rest) (λ same. apart (same ∙ sym is)) in
    rw (none, is) refl

pub answered-cause : (old_size new_size : ℕ) (hashes : List (List ℕ)) (old new : List ℕ)
    (answer : Result (Unit {0}) MerkleProofError) → answer ≡ consistency_answer old_size new_size hashes old new
    → IsConsistencyAnswer old_size new_size hashes old new answer
answered-cause old_size new_size hashes old new answer is =
    rw is (consistency-cause old_size new_size hashes old new)

pub answered-ok : (old_size new_size : ℕ) (hashes : List (List ℕ)) (old new : List ℕ)
    (answer : Result (Unit {0}) MerkleProofError) → answer ≡ consistency_answer old_size new_size hashes old new
    → IsOk answer ↔ IsConsistent old_size new_size hashes old new
answered-ok old_size new_size hashes old new answer is = (
  λ ok. (consistency_answers old_size new_size old new hashes (Ok tt)).0 (sym is ∙ Ok-from_IsOk answer ok),
  λ consistent. ap is_ok (is ∙ consistent-given old_size new_size hashes old new consistent),
)
