-- Each error of a check of a checkpoint and an inclusion proof has its cause, and where the cause is, the error comes.
use Rattle.std.proofs.Common.{◌≡◌, ◌↔◌, ◌⊎◌, inl, inr, ℕ, Bool, true, cond, nat_lt, List}
use Rattle.std.proofs.Common.{Option, Some, None, Result, Ok, Err, ℤ, pos, negsuc, refl, sym, ap, subst, ◌∙◌, arith}
use Rattle.std.proofs.lemmas.Bool.{ltb-false, le-ltb, lt-ltb, ltb-true, false_from_ne_true}
use Rattle.std.proofs.lemmas.List.Folds.{Any-from_list_any, list_any-from_Any}
use Rattle.std.specs.Cmp.Lexicographic.{bytes_decides}
use Rattle.std.specs.Str.{bytes_eq}
use Rattle.sig_base.proofs.ResultSteps.{err_is}
use Rattle.sig_base.specs.declared.error.SigstoreError.{SigstoreError}
use Rattle.sig_base.specs.declared.error.SigstoreError.TheVariants.{CheckpointSignatureVerificationError}
use Rattle.sig_base.specs.declared.error.SigstoreError.TheVariants.{ConsistencyProofError, InclusionProofError}
use Rattle.sig_base.specs.declared.error.SigstoreError.TheVariants.{UnexpectedError}
use Rattle.sig_base.specs.declared.merkle_error.MerkleProofError.{MerkleProofError}
use Rattle.sig_base.specs.declared.merkle_error.MerkleProofError.TheVariants.{MismatchedRoot, IndexGtTreeSize}
use Rattle.sig_base.specs.declared.merkle_error.MerkleProofError.TheVariants.{UnexpectedNonEmptyProof}
use Rattle.sig_base.specs.declared.merkle_error.MerkleProofError.TheVariants.{UnexpectedEmptyProof, NewTreeSmaller}
use Rattle.sig_base.specs.declared.merkle_error.MerkleProofError.TheVariants.{WrongProofSize, WrongEmptyTreeHash}
use Rattle.sig_base.specs.declared.unexpected.UnexpectedKind.TheVariants.{CheckpointMissing}
use Rattle.sig_merkle.proofs.InclusionLaws.{inclusion_answers}
use Rattle.sig_merkle.specs.Inclusion.{IsInclusionAnswer, inclusion_answer}
use Rattle.sig_merkle.specs.Root.{leaf_of}
use Rattle.sig_rekor.proofs.Steps.{chosen}
use Rattle.sig_rekor.proofs.VerifyLaws.{of_tree, tree_accepted}
use Rattle.sig_rekor.specs.NoteText.{note_text}
use Rattle.sig_rekor.specs.Refusals.{IsTreeCause, IsTreeRefusal, IsSigned, IsSignedHead, IsHeadRefusal, IsPathCause}
use Rattle.sig_rekor.specs.Refusals.{IsPathRefusal, IsProofRefusal}
use Rattle.sig_rekor.specs.Verify.{has_accepted_signature, signed_answer, tree_answer}
use Rattle.sig_rekor.specs.Verify.{as_inclusion, inclusion_at, and_then, checkpoint_answer, proof_answer}
use Rattle.sig_rekor.specs.declared.checkpoint.SignedCheckpoint.{SignedCheckpoint}
use Rattle.sig_rekor.specs.declared.inclusion_proof.InclusionProof.{InclusionProof}

-- ---- the tree of a note

tree-fails : (checkpoint : SignedCheckpoint) (root : List ℕ) (size : ℕ) (e : SigstoreError)
    → tree_answer checkpoint root size ≡ Err e → IsTreeRefusal checkpoint.note root size e
tree-fails checkpoint root size e is =
    let note = checkpoint.note in
    let larger : MerkleProofError = NewTreeSmaller size note.size in
    let other : MerkleProofError = MismatchedRoot (record { root = note.hash }) (record { root = root }) in
    let compared : Result (Unit {0}) SigstoreError =
    cond (bytes_eq note.hash root) (Ok tt) (Err (ConsistencyProofError other)) in
    let not_larger : Result (Unit {0}) SigstoreError =
    cond (nat_lt note.size size) (Err (ConsistencyProofError UnexpectedEmptyProof)) compared in
    elim (chosen (nat_lt size note.size) (Err (ConsistencyProofError larger)) not_larger (Err e) is) [
      | inl above ↦ (
        larger,
        sym (err_is (ConsistencyProofError larger) e above.1),
        (ltb-true size note.size above.0, refl, refl),
      )
      | inr no_more ↦
          elim (chosen (nat_lt note.size size) (Err (ConsistencyProofError UnexpectedEmptyProof)) compared (Err e)
          no_more.1) [
            | inl below ↦ (
              UnexpectedEmptyProof,
              sym (err_is (ConsistencyProofError UnexpectedEmptyProof) e below.1),
              ltb-true note.size size below.0,
            )
            | inr no_less ↦
                elim (chosen (bytes_eq note.hash root) (Ok tt) (Err (ConsistencyProofError other)) (Err e) no_less.1) [
                  | inl equal ↦ absurd (let f = equal.1 in cc)
                  | inr apart ↦ (
                    other,
                    sym (err_is (ConsistencyProofError other) e apart.1),
                    (
                      omega (arith, ltb-false size note.size no_more.0, ltb-false note.size size no_less.0),
                      λ same. (let f = (bytes_decides note.hash root).1 same in let g = apart.0 in cc),
                      refl,
                      refl,
                    ),
                  )
                ]
          ]
    ]

caused : (checkpoint : SignedCheckpoint) (root : List ℕ) (size : ℕ) (cause : MerkleProofError)
    → IsTreeCause checkpoint.note root size cause
    → tree_answer checkpoint root size ≡ Err (ConsistencyProofError cause)
caused checkpoint root size (NewTreeSmaller new old) is = rw (lt-ltb size checkpoint.note.size is.0, is.1, is.2) refl
caused checkpoint root size UnexpectedEmptyProof is =
    rw (le-ltb size checkpoint.note.size (omega arith), lt-ltb checkpoint.note.size size is) refl
caused checkpoint root size (MismatchedRoot expected got) is =
    rw (
      le-ltb size checkpoint.note.size (omega arith),
      le-ltb checkpoint.note.size size (omega arith),
      false_from_ne_true (bytes_eq checkpoint.note.hash root)
          (λ same. is.1 ((bytes_decides checkpoint.note.hash root).0 same)),
      ← is.2,
      ← is.3,
    ) refl
caused checkpoint root size IndexGtTreeSize is = absurd is
caused checkpoint root size UnexpectedNonEmptyProof is = absurd is
caused checkpoint root size (WrongProofSize _ _) is = absurd is
caused checkpoint root size WrongEmptyTreeHash is = absurd is

tree-only_fails : (checkpoint : SignedCheckpoint) (root : List ℕ) (size : ℕ) (e : SigstoreError)
    → IsTreeRefusal checkpoint.note root size e → tree_answer checkpoint root size ≡ Err e
tree-only_fails checkpoint root size e is = caused checkpoint root size is.0 is.2 ∙ ap Err (sym is.1)

pub tree-refusals : (checkpoint : SignedCheckpoint) (root : List ℕ) (size : ℕ) (e : SigstoreError)
    → (tree_answer checkpoint root size ≡ Err e) ↔ IsTreeRefusal checkpoint.note root size e
tree-refusals checkpoint root size e =
    (tree-fails checkpoint root size e, tree-only_fails checkpoint root size e)

-- ---- a signed head

module _ (accepts : List ℕ → List ℕ → Bool) (checkpoint : SignedCheckpoint) where
  signed-is : has_accepted_signature accepts checkpoint ≡ true → IsSigned accepts checkpoint
  unfolding has_accepted_signature
  signed-is is =
      Any-from_list_any (λ signature. accepts (note_text checkpoint.note) signature.raw) checkpoint.signatures is

  signed-of : IsSigned accepts checkpoint → has_accepted_signature accepts checkpoint ≡ true
  unfolding has_accepted_signature
  signed-of is =
      list_any-from_Any (λ signature. accepts (note_text checkpoint.note) signature.raw) checkpoint.signatures is

  pub signed-found : signed_answer accepts checkpoint ≡ Ok tt → IsSigned accepts checkpoint
  signed-found e =
      elim (chosen (has_accepted_signature accepts checkpoint) (Ok tt) (Err CheckpointSignatureVerificationError)
      (Ok tt) e) [
        | inl is ↦ signed-is is.0
        | inr none ↦ absurd (let f = none.1 in cc)
      ]

  pub signed-only : IsSigned accepts checkpoint → signed_answer accepts checkpoint ≡ Ok tt
  signed-only is = rw (signed-of is) refl

  pub unsigned : (e : SigstoreError) → signed_answer accepts checkpoint ≡ Err e
      → (¬ IsSigned accepts checkpoint) × (e ≡ CheckpointSignatureVerificationError)
  unsigned e told =
      elim (chosen (has_accepted_signature accepts checkpoint) (Ok tt) (Err CheckpointSignatureVerificationError)
      (Err e) told) [
        | inl is ↦ absurd (let f = is.1 in cc)
        | inr none ↦ (
          λ is. (let f = signed-of is in let g = none.0 in cc),
          sym (err_is CheckpointSignatureVerificationError e none.1),
        )
      ]

  pub unsigned-only : ¬ IsSigned accepts checkpoint
      → signed_answer accepts checkpoint ≡ Err CheckpointSignatureVerificationError
  unsigned-only none =
      rw (false_from_ne_true (has_accepted_signature accepts checkpoint) (λ is. none (signed-is is))) refl

-- ---- the path

inclusion-fails : (r : Result (Unit {0}) MerkleProofError) (e : SigstoreError) → as_inclusion r ≡ Err e
    → (cause : MerkleProofError) × (e ≡ InclusionProofError cause) × (r ≡ Err cause)
inclusion-fails (Ok _) e is = absurd cc
inclusion-fails (Err cause) e is = (cause, sym (err_is (InclusionProofError cause) e is), refl)

module _ (entry : List ℕ) (proof : InclusionProof) where
  abbrev IsAnswer : ℕ → MerkleProofError → Type 0
  IsAnswer n cause =
      IsInclusionAnswer n (leaf_of entry) proof.tree_size proof.hashes proof.root_hash (Err cause)

  abbrev answer_at : ℕ → Result (Unit {0}) MerkleProofError
  answer_at n = inclusion_answer n (leaf_of entry) proof.tree_size proof.hashes proof.root_hash

  answers : (n : ℕ) (cause : MerkleProofError) → (answer_at n ≡ Err cause) ↔ IsAnswer n cause
  answers n cause =
      inclusion_answers n proof.tree_size (leaf_of entry) proof.root_hash proof.hashes (Err cause)

  same_index : (n m : ℕ) → pos n ≡ pos m → n ≡ m
  same_index n m e = cc

  as_cause : (n : ℕ) (cause : MerkleProofError) → IsAnswer n cause → IsPathCause (pos n) entry proof cause
  as_cause n IndexGtTreeSize is = λ m same. (let e = same_index n m same in omega (arith, is, e))
  as_cause n (WrongProofSize got want) is = (n, refl, is)
  as_cause n (MismatchedRoot expected got) is = (n, refl, is.0, is.1, is.2)
  as_cause n UnexpectedNonEmptyProof is = absurd is
  as_cause n UnexpectedEmptyProof is = absurd is
  as_cause n (NewTreeSmaller _ _) is = absurd is
  as_cause n WrongEmptyTreeHash is = absurd is

  at_index : (n m : ℕ) (cause : MerkleProofError) → pos n ≡ pos m → IsAnswer m cause → IsAnswer n cause
  at_index n m cause same = subst (λ i. IsAnswer i cause) (sym (same_index n m same))

  as_answer : (n : ℕ) (cause : MerkleProofError) → IsPathCause (pos n) entry proof cause → IsAnswer n cause
  as_answer n IndexGtTreeSize is = is n refl
  as_answer n (WrongProofSize got want) is = at_index n is.0 (WrongProofSize got want) is.1 is.2
  as_answer n (MismatchedRoot expected got) is =
      at_index n is.0 (MismatchedRoot expected got) is.1 (is.2, is.3, is.4)
  as_answer n UnexpectedNonEmptyProof is = absurd is
  as_answer n UnexpectedEmptyProof is = absurd is
  as_answer n (NewTreeSmaller _ _) is = absurd is
  as_answer n WrongEmptyTreeHash is = absurd is

  -- a negative index is that of no leaf
  negative : (n : ℕ) (cause : MerkleProofError) → IsPathCause (negsuc n) entry proof cause → cause ≡ IndexGtTreeSize
  negative n IndexGtTreeSize is = refl
  negative n (WrongProofSize got want) is = absurd (let f = is.1 in cc)
  negative n (MismatchedRoot expected got) is = absurd (let f = is.1 in cc)
  negative n UnexpectedNonEmptyProof is = absurd is
  negative n UnexpectedEmptyProof is = absurd is
  negative n (NewTreeSmaller _ _) is = absurd is
  negative n WrongEmptyTreeHash is = absurd is

  path-fails : (index : ℤ) (e : SigstoreError) → inclusion_at index entry proof ≡ Err e
      → (cause : MerkleProofError) × (e ≡ InclusionProofError cause) × IsPathCause index entry proof cause
  path-fails (pos n) e is =
      let f = inclusion-fails (answer_at n) e is in (f.0, f.1, as_cause n f.0 ((answers n f.0).0 f.2))
  path-fails (negsuc n) e is =
      (IndexGtTreeSize, sym (err_is (InclusionProofError IndexGtTreeSize) e is), λ m same. absurd cc)

  path-only_fails : (index : ℤ) (cause : MerkleProofError) → IsPathCause index entry proof cause
      → inclusion_at index entry proof ≡ Err (InclusionProofError cause)
  path-only_fails (pos n) cause is = rw ((answers n cause).1 (as_answer n cause is)) refl
  path-only_fails (negsuc n) cause is = rw (negative n cause is) refl

pub path-refusals : (entry : List ℕ) (proof : InclusionProof) (e : SigstoreError)
    → (inclusion_at proof.log_index entry proof ≡ Err e) ↔ IsPathRefusal entry proof e
path-refusals entry proof e = (
  path-fails entry proof proof.log_index e,
  (λ refused.
      path-only_fails entry proof proof.log_index refused.0 refused.2
      ∙ ap (λ (x : SigstoreError). Err x) (sym refused.1)),
)

-- ---- the proof

-- which of two checks refused
pub stopped : (first next : Result (Unit {0}) SigstoreError) (e : SigstoreError) → and_then first next ≡ Err e
    → (first ≡ Err e) ⊎ ((first ≡ Ok tt) × (next ≡ Err e))
stopped (Ok _) next e is = inr (refl, is)
stopped (Err refusal) next e is = inl is

module _ (accepts : List ℕ → List ℕ → Bool) (checkpoint : SignedCheckpoint) (root : List ℕ) (size : ℕ) where
  abbrev head : Result (Unit {0}) SigstoreError
  head = and_then (signed_answer accepts checkpoint) (tree_answer checkpoint root size)

  head-fails : (e : SigstoreError) → head ≡ Err e → IsHeadRefusal accepts checkpoint root size e
  head-fails e is = elim (stopped (signed_answer accepts checkpoint) (tree_answer checkpoint root size) e is) [
    | inl none ↦ inl (unsigned accepts checkpoint e none)
    | inr one ↦ inr (signed-found accepts checkpoint one.0, tree-fails checkpoint root size e one.1)
  ]

  head-only_fails : (e : SigstoreError) → IsHeadRefusal accepts checkpoint root size e → head ≡ Err e
  head-only_fails e (inl none) = rw (unsigned-only accepts checkpoint none.0, none.1) refl
  head-only_fails e (inr other) =
      rw (signed-only accepts checkpoint other.0, tree-only_fails checkpoint root size e other.1) refl

  head-found : head ≡ Ok tt → IsSignedHead accepts checkpoint root size
  head-found is = elim (signed_answer_is (signed_answer accepts checkpoint) refl) [
    | inl signed ↦ (
      signed-found accepts checkpoint signed,
      of_tree checkpoint root size (rw signed at is),
    )
    | inr refused ↦ absurd (let f = rw refused.1 at is in cc)
  ] where
    signed_answer_is : (r : Result (Unit {0}) SigstoreError) → signed_answer accepts checkpoint ≡ r
        → (signed_answer accepts checkpoint ≡ Ok tt)
        ⊎ ((e : SigstoreError) × (signed_answer accepts checkpoint ≡ Err e))
    signed_answer_is (Ok _) is = inl is
    signed_answer_is (Err e) is = inr (e, is)

  head-only : IsSignedHead accepts checkpoint root size → head ≡ Ok tt
  head-only is = rw (signed-only accepts checkpoint is.0, tree_accepted checkpoint root size is.1) refl

module _ (accepts : List ℕ → List ℕ → Bool) (entry : List ℕ) (proof : InclusionProof) where
  without-fails : (o : Option SignedCheckpoint) (e : SigstoreError) → proof.checkpoint ≡ o
      → checkpoint_answer accepts proof o ≡ Err e → IsProofRefusal accepts entry proof e
  without-fails None e brought is = inl (brought, sym (err_is (UnexpectedError CheckpointMissing) e is))
  without-fails (Some checkpoint) e brought is =
      inr (checkpoint, brought, inl (head-fails accepts checkpoint proof.root_hash proof.tree_size e is))

  with-fails : (o : Option SignedCheckpoint) (e : SigstoreError) → proof.checkpoint ≡ o
      → checkpoint_answer accepts proof o ≡ Ok tt → inclusion_at proof.log_index entry proof ≡ Err e
      → IsProofRefusal accepts entry proof e
  with-fails None e brought ok is = absurd cc
  with-fails (Some checkpoint) e brought ok is =
      inr (
        checkpoint,
        brought,
        inr (
          head-found accepts checkpoint proof.root_hash proof.tree_size ok,
          path-fails entry proof proof.log_index e is,
        ),
      )

  pub proof-refused : (e : SigstoreError) → proof_answer accepts entry proof ≡ Err e
      → IsProofRefusal accepts entry proof e
  unfolding proof_answer
  proof-refused e is =
      elim (stopped (checkpoint_answer accepts proof proof.checkpoint) (inclusion_at proof.log_index entry proof) e
      is) [
        | inl none ↦ without-fails proof.checkpoint e refl none
        | inr one ↦ with-fails proof.checkpoint e refl one.0 one.1
      ]

  held-fails : (o : Option SignedCheckpoint) (checkpoint : SignedCheckpoint) (e : SigstoreError)
      → o ≡ Some checkpoint → IsHeadRefusal accepts checkpoint proof.root_hash proof.tree_size e
      → checkpoint_answer accepts proof o ≡ Err e
  held-fails o checkpoint e brought refused =
      rw (brought, head-only_fails accepts checkpoint proof.root_hash proof.tree_size e refused) refl

  held-passes : (o : Option SignedCheckpoint) (checkpoint : SignedCheckpoint)
      → o ≡ Some checkpoint → IsSignedHead accepts checkpoint proof.root_hash proof.tree_size
      → checkpoint_answer accepts proof o ≡ Ok tt
  held-passes o checkpoint brought signed =
      rw (brought, head-only accepts checkpoint proof.root_hash proof.tree_size signed) refl

  none-fails : (o : Option SignedCheckpoint) → o ≡ None
      → checkpoint_answer accepts proof o ≡ Err (UnexpectedError CheckpointMissing)
  none-fails o none = rw none refl

  pub proof-only_refused : (e : SigstoreError) → IsProofRefusal accepts entry proof e
      → proof_answer accepts entry proof ≡ Err e
  unfolding proof_answer
  proof-only_refused e (inl none) = rw (none-fails proof.checkpoint none.0, none.1) refl
  proof-only_refused e (inr (checkpoint, brought, (inl refused))) =
      rw (held-fails proof.checkpoint checkpoint e brought refused) refl
  proof-only_refused e (inr (checkpoint, brought, (inr (signed, path)))) =
      rw (
        held-passes proof.checkpoint checkpoint brought signed,
        path-only_fails entry proof proof.log_index path.0 path.2,
        path.1,
      ) refl

pub proof-refusals : (accepts : List ℕ → List ℕ → Bool) (entry : List ℕ) (proof : InclusionProof) (e : SigstoreError)
    → (proof_answer accepts entry proof ≡ Err e) ↔ IsProofRefusal accepts entry proof e
proof-refusals accepts entry proof e = (proof-refused accepts entry proof e, proof-only_refused accepts entry proof e)
