-- The links `log-key` to `inclusion`: the result says which of them fails first.
use Rattle.std.proofs.Common.{◌≡◌, ℕ, List, [], ◌∷◌, Result, Ok, Err, inl, inr, refl, subst, sym, ◌∙◌}
use Rattle.std.specs.Prelude.{IfOk, unwrap_or}
use Rattle.sig_base.proofs.ResultSteps.{bind_ok, ok_is}
use Rattle.sig_base.specs.Answers.{Answers, UnlessMemory}
use Rattle.sig_base.specs.declared.scheme.VerifyScheme.{VerifyScheme}
use Rattle.sig_base.specs.ByteLists.{AreBytes}
use Rattle.sig_bundle.specs.declared.material.TransparencyLogEntry.{TransparencyLogEntry}
use Rattle.sig_rekor.specs.Verify.{proof_answer}
use Rattle.sig_rekor.specs.declared.inclusion_proof.InclusionProof.{InclusionProof}
use Rattle.sig_verify.proofs.EntryKeys.{judged_key, key_has}
use Rattle.sig_verify.proofs.EntryPaths.{judged_path}
use Rattle.sig_verify.proofs.EntryPromises.{judged_promise}
use Rattle.sig_verify.proofs.EntryProofs.{ProofLaws, judged_proof, proof_taken}
use Rattle.sig_verify.proofs.EntrySteps.{included_is, logged}
use Rattle.sig_verify.proofs.JudgedLaws.{judged_answer, judged_bind, judged_map, judged_tells}
use Rattle.sig_verify.specs.ContentCheck.{AcceptsSpki}
use Rattle.sig_verify.specs.EntryLinks.{HasKeyOfBytes, HasLogKey, HoldsOfEntry, IsOfBytes, LogKeys, entry_links}
use Rattle.sig_verify.specs.LinkLaws.{IsKept}
use Rattle.sig_verify.specs.Judged.{Judged, Tells}
use Rattle.sig_verify.specs.LogEntry.{log_entry_answer, fields_answer, from_proof, included, log_key_answer}
use Rattle.sig_verify.specs.LogEntry.{promise_answer, vouched}
use Rattle.sig_verify.specs.declared.link.Link.TheVariants.{LogKey, Promise, Proof, Checkpoint, NoteKey, NoteMatch}
use Rattle.sig_verify.specs.declared.link.Link.TheVariants.{Inclusion}
use Rattle.sig_verify.specs.declared.logged_entry.LoggedEntry.{LoggedEntry}
use Rattle.sig_verify.specs.declared.offline_error.OfflineError.{OfflineError}
use Rattle.sig_verify.specs.declared.offline_error.OfflineError.TheVariants.{OutOfMemory}

module _ (proofs : ProofLaws) (spki : AcceptsSpki) (keys : LogKeys) (e : TransparencyLogEntry)
    (bytes : IsOfBytes keys e) where
  judged_included : (key : VerifyScheme × List ℕ) → HasLogKey keys e key → (proof : InclusionProof)
      → fields_answer e.inclusion_proof ≡ Ok proof
      → Judged (HoldsOfEntry spki keys e) (NoteKey ∷ NoteMatch ∷ Inclusion ∷ []) (included (spki key.0 key.1) e proof)
  judged_included key has proof answer =
      let of = proof_taken proofs e e.inclusion_proof proof refl answer in
      subst (λ (r : Result LoggedEntry OfflineError).
      Judged (HoldsOfEntry spki keys e) (NoteKey ∷ NoteMatch ∷ Inclusion ∷ []) r)
      (sym (included_is (spki key.0 key.1) e proof))
      (judged_map (HoldsOfEntry spki keys e) (NoteKey ∷ NoteMatch ∷ Inclusion ∷ [])
      (from_proof (proof_answer (spki key.0 key.1) e.canonicalized_body proof))
      (λ (done : Unit {0}). logged e proof)
      (judged_path spki keys e bytes key has of.0 of.1 proof of.2))

  judged_vouched : (key : VerifyScheme × List ℕ) → HasLogKey keys e key
      → Judged (HoldsOfEntry spki keys e) (Promise ∷ Proof ∷ Checkpoint ∷ NoteKey ∷ NoteMatch ∷ Inclusion ∷ [])
      (vouched (spki key.0 key.1) e)
  judged_vouched key has =
      judged_bind (HoldsOfEntry spki keys e) (Promise ∷ []) (Proof ∷ Checkpoint ∷ NoteKey ∷ NoteMatch ∷ Inclusion ∷ [])
      (promise_answer (spki key.0 key.1) e) _ (judged_promise spki keys e bytes key has)
      (λ done promised. judged_bind (HoldsOfEntry spki keys e) (Proof ∷ Checkpoint ∷ [])
      (NoteKey ∷ NoteMatch ∷ Inclusion ∷ [])
      (fields_answer e.inclusion_proof) _ (judged_proof spki keys e proofs)
      (λ proof answer. judged_included key has proof answer))

  pub judged_entry : Judged (HoldsOfEntry spki keys e) entry_links (log_entry_answer spki keys e)
  judged_entry =
      judged_bind (HoldsOfEntry spki keys e) (LogKey ∷ [])
      (Promise ∷ Proof ∷ Checkpoint ∷ NoteKey ∷ NoteMatch ∷ Inclusion ∷ [])
      (log_key_answer keys e.log_id) _ (judged_key spki keys e bytes)
      (λ key answer. judged_vouched key (key_has keys e bytes key answer))

  pub entry_told : Tells (HoldsOfEntry spki keys e) entry_links (log_entry_answer spki keys e)
  entry_told = judged_tells (HoldsOfEntry spki keys e) entry_links (log_entry_answer spki keys e) judged_entry

-- what the last step keeps
pub entry_kept : ProofLaws → (spki : AcceptsSpki) (keys : LogKeys) (e : TransparencyLogEntry) (offline : LoggedEntry)
    → log_entry_answer spki keys e ≡ Ok offline → IsKept e offline
entry_kept proofs spki keys e offline answer =
    let a = bind_ok (log_key_answer keys e.log_id) _ offline answer in
    let b = bind_ok (promise_answer (spki a.0.0 a.0.1) e) _ offline a.2 in
    let c = bind_ok (fields_answer e.inclusion_proof) _ offline b.2 in
    let d = bind_ok (from_proof (proof_answer (spki a.0.0 a.0.1) e.canonicalized_body c.0))
    (λ (done : Unit {0}). Ok (logged e c.0)) offline
    (sym (included_is (spki a.0.0 a.0.1) e c.0) ∙ c.2) in
    let is : logged e c.0 ≡ offline = ok_is _ offline d.2 in
    subst (λ (o : LoggedEntry). IsKept e o) is
    (record { body = refl; proof = proof_taken proofs e e.inclusion_proof c.0 refl c.1 })

-- what the call returns, whose arguments are bytes
pub entry_linked : ProofLaws → (spki : AcceptsSpki) (keys : LogKeys) (e : TransparencyLogEntry)
    (r : Result LoggedEntry OfflineError) → Answers OutOfMemory (λ (o : LoggedEntry). o) r (log_entry_answer spki keys e)
    → UnlessMemory OutOfMemory r (HasKeyOfBytes keys e) → AreBytes e.canonicalized_body
    → AreBytes (unwrap_or e.log_id []) → UnlessMemory OutOfMemory r (Judged (HoldsOfEntry spki keys e) entry_links r)
entry_linked proofs spki keys e r is (inl memory) body id = inl memory
entry_linked proofs spki keys e r is (inr key) body id =
    judged_answer OutOfMemory (HoldsOfEntry spki keys e) entry_links r (log_entry_answer spki keys e) is
    (judged_entry proofs spki keys e (record { body = body; id = id; key = key }))

pub entry_kept_of : ProofLaws → (spki : AcceptsSpki) (keys : LogKeys) (e : TransparencyLogEntry)
    (r : Result LoggedEntry OfflineError) → Answers OutOfMemory (λ (o : LoggedEntry). o) r (log_entry_answer spki keys e)
    → IfOk r (IsKept e)
entry_kept_of proofs spki keys e (Ok offline) is = entry_kept proofs spki keys e offline is
entry_kept_of proofs spki keys e (Err error) is = tt
