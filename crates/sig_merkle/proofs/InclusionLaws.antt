-- The law `inclusion_answers`: an answer to an inclusion proof is the one whose cause holds.
use Rattle.std.proofs.Common.{◌≡◌, ◌≢◌, ℕ, ◌<◌, ◌≤◌, ◌↔◌, Bool, true, false, Option, Some, None, MatchOption, IsNone}
use Rattle.std.proofs.Common.{Result, Ok, Err, IsOk, List, length, refl, sym, ◌∙◌, ap, subst, inl, inr}
use Rattle.std.specs.Prelude.{bytes_eq, is_ok}
use Rattle.std.proofs.lemmas.Bool.{le-leb, lt-leb, cases_lt, false≢true}
use Rattle.std.proofs.lemmas.Slice.Eq.{bytes_eq-Decides}
use Rattle.sig_base.specs.declared.merkle_error.MerkleProofError.{MerkleProofError}
use Rattle.sig_base.specs.declared.merkle_error.MerkleProofError.TheVariants.{MismatchedRoot, IndexGtTreeSize}
use Rattle.sig_base.specs.declared.merkle_error.MerkleProofError.TheVariants.{UnexpectedNonEmptyProof}
use Rattle.sig_base.specs.declared.merkle_error.MerkleProofError.TheVariants.{UnexpectedEmptyProof, NewTreeSmaller}
use Rattle.sig_base.specs.declared.merkle_error.MerkleProofError.TheVariants.{WrongProofSize, WrongEmptyTreeHash}
use Rattle.sig_merkle.specs.Path.{path_root, path_len}
use Rattle.sig_merkle.specs.Inclusion.{IsIncluded, root_or_wrong_size, inclusion_root, match_root, inclusion_answer}
use Rattle.sig_merkle.specs.Inclusion.{IsRootAnswer, IsInclusionAnswer}
use Rattle.sig_merkle.proofs.PathLaws.{path_root-fits, path_root-none}

-- the root that a proof leads to

pub inclusion_root-beyond : (index : ℕ) (leaf : List ℕ) (size : ℕ) (hashes : List (List ℕ)) → size ≤ index
    → inclusion_root index leaf size hashes ≡ Err IndexGtTreeSize
unfolding inclusion_root
inclusion_root-beyond index leaf size hashes beyond = rw (le-leb size index beyond) refl

inclusion_root-within : (index : ℕ) (leaf : List ℕ) (size : ℕ) (hashes : List (List ℕ)) → index < size
    → inclusion_root index leaf size hashes ≡ root_or_wrong_size (path_root index leaf size hashes) (length hashes)
    (path_len index size)
unfolding inclusion_root
inclusion_root-within index leaf size hashes within = rw (lt-leb size index within) refl

pub inclusion_root-led : (index : ℕ) (leaf : List ℕ) (size : ℕ) (hashes : List (List ℕ)) (root : List ℕ) → index < size
    → path_root index leaf size hashes ≡ Some root → inclusion_root index leaf size hashes ≡ Ok root
inclusion_root-led index leaf size hashes root within led =
    inclusion_root-within index leaf size hashes within ∙ rw led refl

None-from_IsNone : (led : Option (List ℕ)) → IsNone led → led ≡ None
None-from_IsNone None none = refl
None-from_IsNone (Some root) none = absurd (false≢true (sym none))

pub inclusion_root-wrong_size : (index : ℕ) (leaf : List ℕ) (size : ℕ) (hashes : List (List ℕ)) → index < size
    → length hashes ≢ path_len index size → inclusion_root index leaf size hashes
    ≡ Err (WrongProofSize (length hashes) (path_len index size))
inclusion_root-wrong_size index leaf size hashes within apart =
    let none = None-from_IsNone (path_root index leaf size hashes) ((path_root-none index size leaf hashes).1 apart) in
    inclusion_root-within index leaf size hashes within ∙ rw none refl

root-cause_led : (index : ℕ) (leaf : List ℕ) (size : ℕ) (hashes : List (List ℕ)) (led : Option (List ℕ)) → index < size
    → path_root index leaf size hashes ≡ led → MatchOption led (length hashes ≢ path_len index size)
    (λ _. length hashes ≡ path_len index size)
    → IsRootAnswer index leaf size hashes (root_or_wrong_size led (length hashes) (path_len index size))
root-cause_led index leaf size hashes None within led apart = (within, refl, refl, apart)
root-cause_led index leaf size hashes (Some root) within led same = (within, led)

root-cause : (index : ℕ) (leaf : List ℕ) (size : ℕ) (hashes : List (List ℕ))
    → IsRootAnswer index leaf size hashes (inclusion_root index leaf size hashes)
root-cause index leaf size hashes =
    elim (cases_lt index size) [
      | inl within ↦ subst (IsRootAnswer index leaf size hashes)
          (sym (inclusion_root-within index leaf size hashes within))
          (root-cause_led index leaf size hashes (path_root index leaf size hashes) within refl
          (path_root-fits index size leaf hashes))
      | inr beyond ↦ subst (IsRootAnswer index leaf size hashes)
          (sym (inclusion_root-beyond index leaf size hashes beyond)) beyond
    ]

root-by_cause : (index : ℕ) (leaf : List ℕ) (size : ℕ) (hashes : List (List ℕ))
    (answer : Result (List ℕ) MerkleProofError) → IsRootAnswer index leaf size hashes answer
    → inclusion_root index leaf size hashes ≡ answer
root-by_cause index leaf size hashes (Ok root) cause = inclusion_root-led index leaf size hashes root cause.0 cause.1
root-by_cause index leaf size hashes (Err IndexGtTreeSize) cause = inclusion_root-beyond index leaf size hashes cause
root-by_cause index leaf size hashes (Err (WrongProofSize got want)) cause =
    let apart : length hashes ≢ path_len index size = λ same. cause.3 (cause.1 ∙ same ∙ sym cause.2) in
    inclusion_root-wrong_size index leaf size hashes cause.0 apart ∙ cc (cause.1, cause.2)
root-by_cause index leaf size hashes (Err (MismatchedRoot expected got)) cause = absurd cause
root-by_cause index leaf size hashes (Err UnexpectedNonEmptyProof) cause = absurd cause
root-by_cause index leaf size hashes (Err UnexpectedEmptyProof) cause = absurd cause
root-by_cause index leaf size hashes (Err (NewTreeSmaller new old)) cause = absurd cause
root-by_cause index leaf size hashes (Err WrongEmptyTreeHash) cause = absurd cause

pub root_answers : (index size : ℕ) (leaf : List ℕ) (hashes : List (List ℕ))
    (answer : Result (List ℕ) MerkleProofError)
    → (inclusion_root index leaf size hashes ≡ answer) ↔ IsRootAnswer index leaf size hashes answer
root_answers index size leaf hashes answer = (
  λ is. subst (IsRootAnswer index leaf size hashes) is
      (root-cause index leaf size hashes),
  root-by_cause index leaf size hashes answer,
)

-- the comparison with the given root

pub match_root-same : (computed root : List ℕ) → computed ≡ root → match_root (Ok computed) root ≡ Ok tt
match_root-same computed root same = rw ((bytes_eq-Decides computed root).1 same) refl

pub bytes_eq-apart : (computed root : List ℕ) (b : Bool) → bytes_eq computed root ≡ b → computed ≢ root
    → bytes_eq computed root ≡ false
bytes_eq-apart computed root true is apart = absurd (apart ((bytes_eq-Decides computed root).0 is))
bytes_eq-apart computed root false is apart = is

pub match_root-apart : (computed root : List ℕ) → computed ≢ root
    → match_root (Ok computed) root ≡ Err (MismatchedRoot (record { root = computed }) (record { root = root }))
match_root-apart computed root apart = rw (bytes_eq-apart computed root (bytes_eq computed root) refl apart) refl

pub inclusion_answer-refused : (index : ℕ) (leaf : List ℕ) (size : ℕ) (hashes : List (List ℕ)) (root : List ℕ)
    (refusal : MerkleProofError) → inclusion_root index leaf size hashes ≡ Err refusal
    → inclusion_answer index leaf size hashes root ≡ Err refusal
unfolding inclusion_answer
inclusion_answer-refused index leaf size hashes root refusal refused = rw refused refl

pub inclusion_answer-same : (index : ℕ) (leaf : List ℕ) (size : ℕ) (hashes : List (List ℕ)) (root computed : List ℕ)
    → inclusion_root index leaf size hashes ≡ Ok computed → computed ≡ root
    → inclusion_answer index leaf size hashes root ≡ Ok tt
unfolding inclusion_answer
inclusion_answer-same index leaf size hashes root computed led same = rw led (match_root-same computed root same)

pub inclusion_answer-apart : (index : ℕ) (leaf : List ℕ) (size : ℕ) (hashes : List (List ℕ)) (root computed : List ℕ)
    → inclusion_root index leaf size hashes ≡ Ok computed → computed ≢ root
    → inclusion_answer index leaf size hashes root
    ≡ Err (MismatchedRoot (record { root = computed }) (record { root = root }))
unfolding inclusion_answer
inclusion_answer-apart index leaf size hashes root computed led apart = rw led (match_root-apart computed root apart)

cause_matched : (index : ℕ) (leaf : List ℕ) (size : ℕ) (hashes : List (List ℕ)) (root computed : List ℕ) (b : Bool)
    → bytes_eq computed root ≡ b → IsIncluded index leaf size hashes computed
    → IsInclusionAnswer index leaf size hashes root (match_root (Ok computed) root)
cause_matched index leaf size hashes root computed true is included =
    let same = (bytes_eq-Decides computed root).0 is in
    subst (IsInclusionAnswer index leaf size hashes root) (sym (match_root-same computed root same))
    (subst (IsIncluded index leaf size hashes) same included)
cause_matched index leaf size hashes root computed false is included =
    let apart : computed ≢ root = λ same. false≢true (sym is ∙ (bytes_eq-Decides computed root).1 same) in
    subst (IsInclusionAnswer index leaf size hashes root) (sym (match_root-apart computed root apart))
    (included, refl, apart)

cause_found : (index : ℕ) (leaf : List ℕ) (size : ℕ) (hashes : List (List ℕ)) (root : List ℕ)
    (found : Result (List ℕ) MerkleProofError) → IsRootAnswer index leaf size hashes found
    → IsInclusionAnswer index leaf size hashes root (match_root found root)
cause_found index leaf size hashes root (Ok computed) cause =
    cause_matched index leaf size hashes root computed (bytes_eq computed root) refl cause
cause_found index leaf size hashes root (Err IndexGtTreeSize) cause = cause
cause_found index leaf size hashes root (Err (WrongProofSize got want)) cause = cause
cause_found index leaf size hashes root (Err (MismatchedRoot expected got)) cause = absurd cause
cause_found index leaf size hashes root (Err UnexpectedNonEmptyProof) cause = cause
cause_found index leaf size hashes root (Err UnexpectedEmptyProof) cause = cause
cause_found index leaf size hashes root (Err (NewTreeSmaller new old)) cause = cause
cause_found index leaf size hashes root (Err WrongEmptyTreeHash) cause = cause

pub answer-cause : (index : ℕ) (leaf : List ℕ) (size : ℕ) (hashes : List (List ℕ)) (root : List ℕ)
    → IsInclusionAnswer index leaf size hashes root (inclusion_answer index leaf size hashes root)
unfolding inclusion_answer
answer-cause index leaf size hashes root =
    cause_found index leaf size hashes root (inclusion_root index leaf size hashes) (root-cause index leaf size hashes)

answer-by_cause : (index : ℕ) (leaf : List ℕ) (size : ℕ) (hashes : List (List ℕ)) (root : List ℕ)
    (answer : Result (Unit {0}) MerkleProofError) → IsInclusionAnswer index leaf size hashes root answer
    → inclusion_answer index leaf size hashes root ≡ answer
answer-by_cause index leaf size hashes root (Ok done) cause =
    inclusion_answer-same index leaf size hashes root root
    (inclusion_root-led index leaf size hashes root cause.0 cause.1) refl
answer-by_cause index leaf size hashes root (Err (MismatchedRoot expected got)) cause =
    let led = inclusion_root-led index leaf size hashes expected.root cause.0.0 cause.0.1 in
    inclusion_answer-apart index leaf size hashes root expected.root led cause.2
    ∙ ap (λ handed. Err (MismatchedRoot expected (record { root = handed }))) (sym cause.1)
answer-by_cause index leaf size hashes root (Err IndexGtTreeSize) cause =
    inclusion_answer-refused index leaf size hashes root IndexGtTreeSize
    (root-by_cause index leaf size hashes (Err IndexGtTreeSize) cause)
answer-by_cause index leaf size hashes root (Err (WrongProofSize got want)) cause =
    inclusion_answer-refused index leaf size hashes root (WrongProofSize got want)
    (root-by_cause index leaf size hashes (Err (WrongProofSize got want)) cause)
answer-by_cause index leaf size hashes root (Err UnexpectedNonEmptyProof) cause = absurd cause
answer-by_cause index leaf size hashes root (Err UnexpectedEmptyProof) cause = absurd cause
answer-by_cause index leaf size hashes root (Err (NewTreeSmaller new old)) cause = absurd cause
answer-by_cause index leaf size hashes root (Err WrongEmptyTreeHash) cause = absurd cause

pub inclusion_answers : (index size : ℕ) (leaf root : List ℕ) (hashes : List (List ℕ))
    (answer : Result (Unit {0}) MerkleProofError)
    → (inclusion_answer index leaf size hashes root ≡ answer) ↔ IsInclusionAnswer index leaf size hashes root answer
inclusion_answers index size leaf root hashes answer = (
  λ is. subst (IsInclusionAnswer index leaf size hashes root) is
      (answer-cause index leaf size hashes root),
  answer-by_cause index leaf size hashes root answer,
)

pub Ok-from_IsOk : (answer : Result (Unit {0}) MerkleProofError) → IsOk answer → answer ≡ Ok tt
Ok-from_IsOk (Ok done) ok = refl
Ok-from_IsOk (Err refusal) ok = absurd (false≢true ok)

-- it is Ok if and only if the leaf is included
pub inclusion_answer-ok : (index : ℕ) (leaf : List ℕ) (size : ℕ) (hashes : List (List ℕ)) (root : List ℕ)
    → IsOk (inclusion_answer index leaf size hashes root) ↔ IsIncluded index leaf size hashes root
inclusion_answer-ok index leaf size hashes root = (
  λ ok. (inclusion_answers index size leaf root hashes (Ok tt)).0
      (Ok-from_IsOk (inclusion_answer index leaf size hashes root) ok),
  λ included. ap is_ok
      ((inclusion_answers index size leaf root hashes (Ok tt)).1 included),
)

pub answer-ok : (index : ℕ) (leaf : List ℕ) (size : ℕ) (hashes : List (List ℕ)) (root : List ℕ)
    (answer : Result (Unit {0}) MerkleProofError) → answer ≡ inclusion_answer index leaf size hashes root
    → IsOk answer ↔ IsIncluded index leaf size hashes root
answer-ok index leaf size hashes root answer is = rw is (inclusion_answer-ok index leaf size hashes root)

-- the same, as the check meets them: the root that was led to is given, not looked for

pub answered_same : (index : ℕ) (leaf : List ℕ) (size : ℕ) (hashes : List (List ℕ)) (root computed : List ℕ)
    → Ok computed ≡ inclusion_root index leaf size hashes → computed ≡ root
    → Ok tt ≡ inclusion_answer index leaf size hashes root
answered_same index leaf size hashes root computed led same =
    sym (inclusion_answer-same index leaf size hashes root computed (sym led) same)

pub answered_apart : (index : ℕ) (leaf : List ℕ) (size : ℕ) (hashes : List (List ℕ)) (root computed : List ℕ)
    → Ok computed ≡ inclusion_root index leaf size hashes → computed ≢ root
    → Err (MismatchedRoot (record { root = computed }) (record { root = root }))
    ≡ inclusion_answer index leaf size hashes root
answered_apart index leaf size hashes root computed led apart =
    sym (inclusion_answer-apart index leaf size hashes root computed (sym led) apart)

-- what the checks cite where they refuse, or find the root
pub ruleset finds_root = (inclusion_root-beyond, inclusion_root-wrong_size, inclusion_root-led)

pub ruleset passes_refusal = (inclusion_answer-refused)
