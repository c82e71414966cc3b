-- The links `proof` and `checkpoint`.
use Rattle.std.proofs.Common.{◌≡◌, ◌↔◌, ℕ, true, false, List, [], ◌∷◌, ◌++◌, Option, Some, None, Result, Ok, Err, inl}
use Rattle.std.proofs.Common.{inr, refl, sym, ap, subst, ◌∙◌}
use Rattle.std.specs.Prelude.{is_some}
use Rattle.std.specs.List.{AllByRecursion}
use Rattle.sig_base.proofs.OptionSteps.{some_is}
use Rattle.sig_base.proofs.ResultSteps.{ok_is}
use Rattle.sig_base.specs.declared.fault.CheckpointFault.{CheckpointFault}
use Rattle.sig_bundle.specs.Proof.{IsFirstOther, IsHash, IsProof, IsProofFault, OfText, proof_or_fault}
use Rattle.sig_bundle.specs.declared.material.ProofFields.{ProofFields}
use Rattle.sig_bundle.specs.declared.material.TransparencyLogEntry.{TransparencyLogEntry}
use Rattle.sig_bundle.specs.declared.proof_error.ProofFieldsError.{ProofFieldsError}
use Rattle.sig_bundle.specs.declared.proof_error.ProofFieldsError.TheVariants as fault
use Rattle.sig_rekor.proofs.CheckpointFaults.{checkpoint-only_fails}
use Rattle.sig_rekor.proofs.CheckpointLaws.{checkpoint-only}
use Rattle.sig_rekor.specs.CheckpointText.{IsCheckpoint, checkpoint_of}
use Rattle.sig_rekor.specs.declared.checkpoint.SignedCheckpoint.{SignedCheckpoint}
use Rattle.sig_rekor.specs.declared.inclusion_proof.InclusionProof.{InclusionProof}
use Rattle.sig_verify.proofs.JudgedLaws.{not_first}
use Rattle.sig_verify.specs.ContentCheck.{AcceptsSpki}
use Rattle.sig_verify.specs.EntryLinks.{HoldsOfEntry, IsProofRead, LogKeys, OfCheckpoint, OfProof}
use Rattle.sig_verify.specs.Judged.{Judged}
use Rattle.sig_verify.specs.LogEntry.{fields_answer, from_fields}
use Rattle.sig_verify.specs.OfflineErrors.{of_fields}
use Rattle.sig_verify.specs.declared.link.Link.TheVariants.{Proof, Checkpoint}
use Rattle.sig_verify.specs.declared.offline_error.OfflineError.TheVariants as error

-- a proof is taken if and only if it is one, and each fault comes if and only if it has its cause
pub record ProofLaws : Type 0 where
  pub proofs : (fields : ProofFields) (proof : InclusionProof)
      → (proof_or_fault fields ≡ Ok proof) ↔ IsProof fields proof
  pub faults : (fields : ProofFields) (e : ProofFieldsError) → (proof_or_fault fields ≡ Err e) ↔ IsProofFault fields e

-- what holds of the proof
pub at_proof : (e : TransparencyLogEntry) (p : ProofFields) (P : ProofFields → Type 0) → e.inclusion_proof ≡ Some p
    → OfProof e P → P p
at_proof e p P is holds = subst P (some_is holds.0 p (sym holds.1 ∙ is)) holds.2

-- a text is one checkpoint
one_note : (p : ProofFields) (n m : SignedCheckpoint) → OfText p (λ text. IsCheckpoint text n)
    → OfText p (λ text. IsCheckpoint text m) → m ≡ n
one_note p n m one other =
    ok_is m n (sym (checkpoint-only other.0 m other.2)
    ∙ ap checkpoint_of (some_is other.0 one.0 (sym other.1 ∙ one.1)) ∙ checkpoint-only one.0 n one.2)

-- what holds of the checkpoint
pub at_checkpoint : (e : TransparencyLogEntry) (p : ProofFields) (n : SignedCheckpoint) (P : ProofFields
    → SignedCheckpoint → Type 0)
    → e.inclusion_proof ≡ Some p → OfText p (λ text. IsCheckpoint text n) → OfCheckpoint e P → P p n
at_checkpoint e p n P is decoded holds =
    let Q : ProofFields → Type 0 = λ q. (m : SignedCheckpoint) × OfText q (λ text. IsCheckpoint text m) × P q m in
    let there : Q p = at_proof e p Q is holds in
    subst (P p) (one_note p n there.0 decoded there.1) there.2

-- among the hashes is one that is none
not_all : (before after : List (List ℕ)) (other : List ℕ) → AllByRecursion IsHash (before ++ other ∷ after)
    → IsHash other
not_all [] after other are = are.0
not_all (hash ∷ before) after other are = not_all before after other are.1

other_hash : (hashes : List (List ℕ)) (index : ℕ) → IsFirstOther hashes index → ¬ AllByRecursion IsHash hashes
other_hash hashes index is are =
    is.wrong (not_all is.before is.after is.other
    (subst (λ (hs : List (List ℕ)). AllByRecursion IsHash hs) is.split are))

module _ (spki : AcceptsSpki) (keys : LogKeys) (e : TransparencyLogEntry) where
  -- the proof is as it was read
  read_of : (p : ProofFields) → e.inclusion_proof ≡ Some p → OfProof e IsProofRead → IsProofRead p
  read_of p is holds = at_proof e p IsProofRead is holds

  by_fault : (p : ProofFields) → e.inclusion_proof ≡ Some p → (f : ProofFieldsError) → IsProofFault p f
      → Judged {A = InclusionProof} (HoldsOfEntry spki keys e) (Proof ∷ Checkpoint ∷ []) (Err (of_fields f))
  by_fault p is fault.RootLength cause =
      not_first (HoldsOfEntry spki keys e) Proof (Checkpoint ∷ []) error.RootLength
      (λ holds. cause (read_of p is holds).root) refl
  by_fault p is (fault.HashLength index) cause =
      not_first (HoldsOfEntry spki keys e) Proof (Checkpoint ∷ []) (error.HashLength index)
      (λ holds. other_hash p.hashes index cause.1 (read_of p is holds).hashes) refl
  by_fault p is fault.TreeSize cause =
      not_first (HoldsOfEntry spki keys e) Proof (Checkpoint ∷ []) error.TreeSize
      (λ holds. cause.2 (read_of p is holds).size) refl
  by_fault p is fault.CheckpointMissing cause =
      not_first (HoldsOfEntry spki keys e) Proof (Checkpoint ∷ []) error.CheckpointMissing
      (λ holds. let wrong : true ≡ false = sym (read_of p is holds).checkpoint ∙ ap is_some cause.3 in absurd cc) refl
  by_fault p is (fault.Checkpoint f) cause =
      let read : IsProofRead p =
      record { root = cause.0; hashes = cause.1; size = cause.2; checkpoint = ap is_some cause.3.1 } in (
        Checkpoint,
        refl,
        inr (
          (p, is, read),
          inl (
            (λ holds.
                let Q : ProofFields
                → Type 0 = λ q. (m : SignedCheckpoint) × OfText q (λ text. IsCheckpoint text m) × Unit {0} in
                let there : Q p = at_proof e p Q is holds in
                let both : ◌≡◌ {A = Result SignedCheckpoint CheckpointFault} (Ok there.0) (Err f) =
                sym (checkpoint-only there.1.0 there.0 there.1.2)
                ∙ ap checkpoint_of (some_is there.1.0 cause.3.0 (sym there.1.1 ∙ cause.3.1))
                ∙ checkpoint-only_fails cause.3.0 f cause.3.2 in absurd cc),
            refl,
          ),
        ),
      )
  by_fault p is fault.OutOfMemory cause = absurd cause

  by_read : ProofLaws → (p : ProofFields) → e.inclusion_proof ≡ Some p → (r : Result InclusionProof ProofFieldsError)
      → proof_or_fault p ≡ r → Judged (HoldsOfEntry spki keys e) (Proof ∷ Checkpoint ∷ []) (from_fields r)
  by_read laws p is (Ok proof) said =
      let of = (laws.proofs p proof).0 said in
      let read : IsProofRead p =
      record {
        root = of.root.1;
        hashes = of.hashes.1;
        size = (proof.tree_size, of.size);
        checkpoint = ap is_some
            of.decoded.1;
      } in
      ((p, is, read), ((p, is, (of.checkpoint, of.decoded, tt)), tt))
  by_read laws p is (Err f) said = by_fault p is f ((laws.faults p f).0 said)

  by_fields : ProofLaws → (o : Option ProofFields) → e.inclusion_proof ≡ o
      → Judged (HoldsOfEntry spki keys e) (Proof ∷ Checkpoint ∷ []) (fields_answer o)
  by_fields laws None is =
      not_first (HoldsOfEntry spki keys e) Proof (Checkpoint ∷ []) error.ProofMissing
      (λ holds. let wrong : ◌≡◌ {A = Option ProofFields} (Some holds.0) None = sym holds.1 ∙ is in absurd cc) refl
  by_fields laws (Some p) is = by_read laws p is (proof_or_fault p) refl

  pub judged_proof : ProofLaws
      → Judged (HoldsOfEntry spki keys e) (Proof ∷ Checkpoint ∷ []) (fields_answer e.inclusion_proof)
  judged_proof laws = by_fields laws e.inclusion_proof refl

-- what is taken is the proof
taken : ProofLaws → (p : ProofFields) (r : Result InclusionProof ProofFieldsError) (proof : InclusionProof)
    → proof_or_fault p ≡ r → from_fields r ≡ Ok proof → IsProof p proof
taken laws p (Ok other) proof said is =
    (laws.proofs p proof).0 (said ∙ (let same : other ≡ proof = cc in ap Ok same))
taken laws p (Err f) proof said is = absurd cc

pub proof_taken : ProofLaws → (e : TransparencyLogEntry) (o : Option ProofFields) (proof : InclusionProof)
    → e.inclusion_proof ≡ o → fields_answer o ≡ Ok proof → OfProof e (λ p. IsProof p proof)
proof_taken laws e None proof is answer = absurd cc
proof_taken laws e (Some p) proof is answer = (p, is, taken laws p (proof_or_fault p) proof refl answer)
