-- The members of an inclusion proof: what is computed of them is the proof that they are, or the first rule that does
-- not hold.
use Rattle.std.proofs.Common.{◌≡◌, ◌⊎◌, inl, inr, ℕ, suc, ◌+◌, ◌==◌, ℤ, pos, negsuc, Bool, true, false, cond}
use Rattle.std.proofs.Common.{List, [], ◌∷◌, ◌++◌, length, Option, Some, None, Result, Ok, Err}
use Rattle.std.proofs.Common.{refl, sym, ap, subst, ◌∙◌, arith}
use Rattle.std.proofs.lemmas.Bool.{eq-eqb, eqb-true, cond-false, false_from_ne_true}
use Rattle.std.specs.List.{AllByRecursion}
use Rattle.sig_base.proofs.ResultSteps.{bind_err, bind_ok, ok_is, when_ok}
use Rattle.sig_base.specs.Answers.{Answers}
use Rattle.sig_bundle.specs.AnswersOnly.{AnswersOnly}
use Rattle.sig_base.specs.ResultSteps.{◌>>=◌}
use Rattle.sig_base.specs.declared.fault.CheckpointFault.{CheckpointFault}
use Rattle.sig_rekor.proofs.CheckpointFaults.{checkpoint-fails, checkpoint-only_fails}
use Rattle.sig_rekor.proofs.CheckpointLaws.{checkpoint-found, checkpoint-only}
use Rattle.sig_rekor.specs.CheckpointText.{IsCheckpoint, checkpoint_of}
use Rattle.sig_rekor.specs.declared.checkpoint.SignedCheckpoint.{SignedCheckpoint}
use Rattle.sig_rekor.specs.declared.inclusion_proof.InclusionProof.{InclusionProof}
use Rattle.sig_bundle.specs.Proof.{IsHash, HasRoot, HasHashes, HasSize, IsFirstOther, IsProof, IsProofFault}
use Rattle.sig_bundle.specs.Proof.{IsProofOrFault, hash_or, path_hashes_from, size_or_fault, checkpoint_or_fault}
use Rattle.sig_bundle.specs.Proof.{under_proof_name, proof_or_fault}
use Rattle.sig_bundle.specs.declared.material.ProofFields.{ProofFields}
use Rattle.sig_bundle.specs.declared.proof_error.ProofFieldsError.{ProofFieldsError}
use Rattle.sig_bundle.specs.declared.proof_error.ProofFieldsError.TheVariants.{RootLength, HashLength, TreeSize}
use Rattle.sig_bundle.specs.declared.proof_error.ProofFieldsError.TheVariants.{CheckpointMissing, Checkpoint}
use Rattle.sig_bundle.specs.declared.proof_error.ProofFieldsError.TheVariants.{OutOfMemory}

-- ---- steps

stopped : {A E : Type 0} (b : Bool) (x : A) (e d : E) → cond b (Ok x) (Err e) ≡ Err d → (b ≡ false) × (d ≡ e)
stopped true x e d is = absurd cc
stopped false x e d is = (refl, cc)

-- ---- one hash

hash_or-found : (e : ProofFieldsError) (bytes hash : List ℕ) → hash_or e bytes ≡ Ok hash
    → (hash ≡ bytes) × IsHash bytes
hash_or-found e bytes hash is =
    let h = when_ok (length bytes == 32) e (Ok bytes) hash is in
    (sym (ok_is bytes hash h.1), eqb-true (length bytes) 32 h.0)

hash_or-only : (e : ProofFieldsError) (bytes : List ℕ) → IsHash bytes → hash_or e bytes ≡ Ok bytes
hash_or-only e bytes is = rw (eq-eqb (length bytes) 32 is) refl

hash_or-fails : (e d : ProofFieldsError) (bytes : List ℕ) → hash_or e bytes ≡ Err d → (d ≡ e) × ¬ IsHash bytes
hash_or-fails e d bytes is =
    let h = stopped (length bytes == 32) bytes e d is in
    (h.1, λ sized. let t = eq-eqb (length bytes) 32 sized in let f = h.0 in cc)

hash_or-only_fails : (e : ProofFieldsError) (bytes : List ℕ) → ¬ IsHash bytes → hash_or e bytes ≡ Err e
hash_or-only_fails e bytes wrong =
    cond-false (length bytes == 32) (Ok bytes) (Err e)
    (false_from_ne_true (length bytes == 32) (λ t. wrong (eqb-true (length bytes) 32 t)))

-- ---- the hashes

same_lists : (a b : List ℕ) (cs ds : List (List ℕ)) → a ≡ b → cs ≡ ds → a ∷ cs ≡ b ∷ ds
same_lists a b cs ds e f = rw (e, f) refl

hashes-found : (place : ℕ) (all hashes : List (List ℕ)) → path_hashes_from place all ≡ Ok hashes
    → (hashes ≡ all) × AllByRecursion IsHash all
hashes-found place [] hashes e = (cc, tt)
hashes-found place (bytes ∷ others) hashes e =
    let a = bind_ok (hash_or (HashLength place) bytes) _ hashes e in
    let b = bind_ok (path_hashes_from (place + 1) others) _ hashes a.2 in
    let first = hash_or-found (HashLength place) bytes a.0 a.1 in
    let rest = hashes-found (place + 1) others b.0 b.1 in
    (sym (ok_is (a.0 ∷ b.0) hashes b.2) ∙ same_lists a.0 bytes b.0 others first.0 rest.0, (first.1, rest.1))

hashes-only : (place : ℕ) (all : List (List ℕ)) → AllByRecursion IsHash all → path_hashes_from place all ≡ Ok all
hashes-only place [] is = refl
hashes-only place (bytes ∷ others) is =
    rw (hash_or-only (HashLength place) bytes is.0, hashes-only (place + 1) others is.1) refl

-- the first that is not a hash, in a list that goes on from this index
record Fails (place : ℕ) (all : List (List ℕ)) (e : ProofFieldsError) : Type 0 where
  index : ℕ
  named : e ≡ HashLength (place + index)
  first : IsFirstOther all index

hashes-fail : (place : ℕ) (all : List (List ℕ)) (e : ProofFieldsError) → path_hashes_from place all ≡ Err e
    → Fails place all e
hashes-fail place [] e is = absurd cc
hashes-fail place (bytes ∷ others) e is =
    elim (bind_err (hash_or (HashLength place) bytes) _ e is) [
      | inl wrong ↦
          let h = hash_or-fails (HashLength place) e bytes wrong in
          let here : place ≡ place + 0 = omega arith in
          record {
            index = 0;
            named = h.0 ∙ ap HashLength here;
            first = record {
              before = [];
              other = bytes;
              after = others;
              split = refl;
              place = refl;
              sound = tt;
              wrong = h.1;
            };
          }
      | inr good ↦
          let h = hash_or-found (HashLength place) bytes good.0 good.1 in
          elim (bind_err (path_hashes_from (place + 1) others) _ e good.2) [
            | inl later ↦
                let r = hashes-fail (place + 1) others e later in
                let there : place + 1 + r.index ≡ place + suc r.index = omega arith in
                record {
                  index = suc r.index;
                  named = r.named ∙ ap HashLength there;
                  first = record {
                    before = bytes ∷ r.first.before;
                    other = r.first.other;
                    after = r.first.after;
                    split = ap (λ xs. bytes ∷ xs) r.first.split;
                    place = ap suc r.first.place;
                    sound = (h.1, r.first.sound);
                    wrong = r.first.wrong;
                  };
                }
            | inr none ↦ absurd (let f = none.2 in cc)
          ]
    ]

fails_after : (place : ℕ) (before : List (List ℕ)) (other : List ℕ) (after : List (List ℕ))
    → AllByRecursion IsHash before → ¬ IsHash other
    → path_hashes_from place (before ++ other ∷ after) ≡ Err (HashLength (place + length before))
fails_after place [] other after sound wrong =
    let here : place ≡ place + 0 = omega arith in
    rw (hash_or-only_fails (HashLength place) other wrong) (ap (λ n. Err (HashLength n)) here)
fails_after place (bytes ∷ before) other after sound wrong =
    let there : place + 1 + length before ≡ place + suc (length before) = omega arith in
    rw (hash_or-only (HashLength place) bytes sound.0, fails_after (place + 1) before other after sound.1 wrong)
    (ap (λ n. Err (HashLength n)) there)

hashes-only_fail : (all : List (List ℕ)) (index : ℕ) → IsFirstOther all index
    → path_hashes_from 0 all ≡ Err (HashLength index)
hashes-only_fail all index is =
    let there : 0 + length is.before ≡ index = (let p = is.place in omega arith) in
    rw (is.split, fails_after 0 is.before is.other is.after is.sound is.wrong) (ap (λ n. Err (HashLength n)) there)

-- ---- the size

size-found : (z : ℤ) (size : ℕ) → size_or_fault z ≡ Ok size → z ≡ pos size
size-found (pos n) size e = ap pos (ok_is n size e)
size-found (negsuc n) size e = absurd cc

size-fails : (z : ℤ) (e : ProofFieldsError) → size_or_fault z ≡ Err e
    → (e ≡ TreeSize) × ((size : ℕ) → z ≡ pos size → ⊥)
size-fails (pos n) e is = absurd cc
size-fails (negsuc n) e is = (cc, λ size same. cc)

size-only_fails : (z : ℤ) → ((size : ℕ) → z ≡ pos size → ⊥) → size_or_fault z ≡ Err TreeSize
size-only_fails (pos n) never = absurd (never n refl)
size-only_fails (negsuc n) never = refl

-- ---- the checkpoint

named-found : (read : Result SignedCheckpoint CheckpointFault) (checkpoint : SignedCheckpoint)
    → under_proof_name read ≡ Ok checkpoint → read ≡ Ok checkpoint
named-found (Ok c) checkpoint e = ap Ok (ok_is c checkpoint e)
named-found (Err fault) checkpoint e = absurd cc

named-fails : (read : Result SignedCheckpoint CheckpointFault) (e : ProofFieldsError)
    → under_proof_name read ≡ Err e → (fault : CheckpointFault) × (e ≡ Checkpoint fault) × (read ≡ Err fault)
named-fails (Ok c) e is = absurd cc
named-fails (Err fault) e is = (fault, cc, refl)

checkpoint_or-found : (held : Option (List ℕ)) (checkpoint : SignedCheckpoint)
    → checkpoint_or_fault held ≡ Ok checkpoint
    → (text : List ℕ) × (held ≡ Some text) × IsCheckpoint text checkpoint
checkpoint_or-found None checkpoint e = absurd cc
checkpoint_or-found (Some text) checkpoint e =
    (text, refl, checkpoint-found text checkpoint (named-found (checkpoint_of text) checkpoint e))

-- ---- the proof

pub proof-found : (fields : ProofFields) (proof : InclusionProof) → proof_or_fault fields ≡ Ok proof
    → IsProof fields proof
proof-found fields proof e =
    let a = bind_ok (hash_or RootLength fields.root_hash) _ proof e in
    let b = bind_ok (path_hashes_from 0 fields.hashes) _ proof a.2 in
    let s = bind_ok (size_or_fault fields.tree_size) _ proof b.2 in
    let k = bind_ok (checkpoint_or_fault fields.checkpoint) _ proof s.2 in
    let root = hash_or-found RootLength fields.root_hash a.0 a.1 in
    let hashes = hashes-found 0 fields.hashes b.0 b.1 in
    let made : InclusionProof = record {
      log_index = fields.log_index;
      root_hash = a.0;
      tree_size = s.0;
      hashes = b.0;
      checkpoint = Some k.0;
    } in
    subst (IsProof fields) (ok_is made proof k.2) (record {
      index = refl;
      root = root;
      size = size-found fields.tree_size s.0 s.1;
      hashes = hashes;
      checkpoint = k.0;
      decoded = checkpoint_or-found fields.checkpoint k.0 k.1;
      carried = refl;
    })

pub proof-only : (fields : ProofFields) (proof : InclusionProof) → IsProof fields proof
    → proof_or_fault fields ≡ Ok proof
proof-only fields proof is =
    let text = is.decoded.0 in
    rw (
      hash_or-only RootLength fields.root_hash is.root.1,
      hashes-only 0 fields.hashes is.hashes.1,
      is.size,
      is.decoded.1,
      checkpoint-only text is.checkpoint is.decoded.2,
      ← is.index,
      ← is.root.0,
      ← is.hashes.0,
      ← is.carried,
    ) refl

-- ---- the first rule that does not hold

checkpoint_or-fails : (fields : ProofFields) (e : ProofFieldsError) → HasRoot fields → HasHashes fields
    → HasSize fields → (held : Option (List ℕ)) → fields.checkpoint ≡ held → checkpoint_or_fault held ≡ Err e
    → IsProofFault fields e
checkpoint_or-fails fields e root hashes size None held is =
    let named : CheckpointMissing ≡ e = cc in subst (IsProofFault fields) named (root, hashes, size, held)
checkpoint_or-fails fields e root hashes size (Some text) held is =
    let f = named-fails (checkpoint_of text) e is in
    subst (IsProofFault fields) (sym f.1) (root, hashes, size, (text, held, checkpoint-fails text f.0 f.2))

pub proof-fails : (fields : ProofFields) (e : ProofFieldsError) → proof_or_fault fields ≡ Err e
    → IsProofFault fields e
proof-fails fields e is =
    elim (bind_err (hash_or RootLength fields.root_hash) _ e is) [
      | inl wrong ↦
          let h = hash_or-fails RootLength e fields.root_hash wrong in subst (IsProofFault fields) (sym h.0) h.1
      | inr a ↦
          let root = (hash_or-found RootLength fields.root_hash a.0 a.1).1 in
          elim (bind_err (path_hashes_from 0 fields.hashes) _ e a.2) [
            | inl wrong ↦
                let h = hashes-fail 0 fields.hashes e wrong in
                let same : 0 + h.index ≡ h.index = omega arith in
                subst (IsProofFault fields) (sym (h.named ∙ ap HashLength same)) (root, h.first)
            | inr b ↦
                let hashes = (hashes-found 0 fields.hashes b.0 b.1).1 in
                elim (bind_err (size_or_fault fields.tree_size) _ e b.2) [
                  | inl wrong ↦
                      let h = size-fails fields.tree_size e wrong in
                      subst (IsProofFault fields) (sym h.0) (root, hashes, λ has. h.1 has.0 has.1)
                  | inr s ↦
                      let size : HasSize fields = (s.0, size-found fields.tree_size s.0 s.1) in
                      elim (bind_err (checkpoint_or_fault fields.checkpoint) _ e s.2) [
                        | inl wrong ↦ checkpoint_or-fails fields e root hashes size fields.checkpoint refl wrong
                        | inr k ↦ absurd (let f = k.2 in cc)
                      ]
                ]
          ]
    ]

pub proof-only_fails : (fields : ProofFields) (e : ProofFieldsError) → IsProofFault fields e
    → proof_or_fault fields ≡ Err e
proof-only_fails fields RootLength is = rw (hash_or-only_fails RootLength fields.root_hash is) refl
proof-only_fails fields (HashLength index) is =
    rw (hash_or-only RootLength fields.root_hash is.0, hashes-only_fail fields.hashes index is.1) refl
proof-only_fails fields TreeSize is =
    let never : (size : ℕ) → fields.tree_size ≡ pos size → ⊥ = λ size same. is.2 (size, same) in
    rw (
      hash_or-only RootLength fields.root_hash is.0,
      hashes-only 0 fields.hashes is.1,
      size-only_fails fields.tree_size never,
    ) refl
proof-only_fails fields CheckpointMissing is =
    rw (
      hash_or-only RootLength fields.root_hash is.0,
      hashes-only 0 fields.hashes is.1,
      is.2.1,
      is.3,
    ) refl
proof-only_fails fields (Checkpoint fault) is =
    rw (
      hash_or-only RootLength fields.root_hash is.0,
      hashes-only 0 fields.hashes is.1,
      is.2.1,
      is.3.1,
      checkpoint-only_fails is.3.0 fault is.3.2,
    ) refl
proof-only_fails fields OutOfMemory is = absurd is

-- ---- both in one

means : (fields : ProofFields) (meant : Result InclusionProof ProofFieldsError) → proof_or_fault fields ≡ meant
    → IsProofOrFault fields meant
means fields (Ok proof) is = proof-found fields proof is
means fields (Err e) is = proof-fails fields e is

only_means : (fields : ProofFields) (meant : Result InclusionProof ProofFieldsError) → IsProofOrFault fields meant
    → proof_or_fault fields ≡ meant
only_means fields (Ok proof) is = proof-only fields proof is
only_means fields (Err e) is = proof-only_fails fields e is

pub answers_only : (fields : ProofFields) (result : Result InclusionProof ProofFieldsError)
    → Answers OutOfMemory (λ proof. proof) result (proof_or_fault fields)
    → AnswersOnly OutOfMemory (IsProofOrFault fields) result
answers_only fields (Ok proof) is =
    (inr (means fields (Ok proof) is), λ meant of. inr (sym is ∙ only_means fields meant of))
answers_only fields (Err e) (inl memory) = (inl (ap Err memory), λ meant of. inl (ap Err memory))
answers_only fields (Err e) (inr is) =
    (inr (means fields (Err e) is), λ meant of. inr (sym is ∙ only_means fields meant of))
