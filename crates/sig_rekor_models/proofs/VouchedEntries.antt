-- The check of an entry is Ok if and only if the proof that it carries vouches for it.
use Rattle.std.proofs.Common.{◌≡◌, ℕ, Bool, List, Option, Some, None, Result, Ok, Err, inl, inr}
use Rattle.std.specs.Option.{ok_or}
use Rattle.std.specs.Prelude.{OnOk, IsOkUnless}
use Rattle.sig_base.proofs.ResultSteps.{bind_ok}
use Rattle.sig_base.specs.Answers.{Answers}
use Rattle.sig_base.specs.declared.error.SigstoreError.{SigstoreError}
use Rattle.sig_base.specs.declared.error.SigstoreError.TheVariants.{OutOfMemory, UnexpectedError}
use Rattle.sig_base.specs.declared.unexpected.UnexpectedKind.{UnexpectedKind}
use Rattle.sig_base.specs.declared.unexpected.UnexpectedKind.TheVariants.{ProofMissing, ProofConversion, CanonicalBody}
use Rattle.sig_json_text.specs.Canonical.{canonical_of}
use Rattle.sig_rekor.proofs.Steps.{ok_or-ok}
use Rattle.sig_rekor.proofs.VerifyLaws.{vouched, accepted}
use Rattle.sig_rekor.specs.RekorProof.{inclusion_proof_from_rekor}
use Rattle.sig_rekor_models.specs.Body.{body_tree}
use Rattle.sig_rekor_models.specs.Inclusion.{or_unexpected, carried_proof, logged_bytes, entry_answer, IsVouchedEntry}
use Rattle.sig_rekor_models.specs.LogEntry.{LogEntry}

expected : {A E : Type 0} (kind : UnexpectedKind) (r : Result A E) (x : A) → or_unexpected kind r ≡ Ok x → r ≡ Ok x
expected kind (Ok y) x e = cc
expected kind (Err f) x e = cc

vouched_entry : (accepts : List ℕ → List ℕ → Bool) (entry : LogEntry)
    → entry_answer accepts entry ≡ Ok tt → IsVouchedEntry accepts entry
unfolding entry_answer
vouched_entry accepts entry is =
    let proof = bind_ok (carried_proof entry) _ tt is in
    let leaf = bind_ok (logged_bytes entry.body) _ tt proof.2 in
    let api = bind_ok (ok_or entry.verification.inclusion_proof (UnexpectedError ProofMissing)) _ proof.0 proof.1 in
    record {
      api = api.0;
      proof = proof.0;
      leaf = leaf.0;
      carried = ok_or-ok entry.verification.inclusion_proof (UnexpectedError ProofMissing) api.0 api.1;
      converted = expected ProofConversion (inclusion_proof_from_rekor api.0) proof.0 api.2;
      canonical = expected CanonicalBody (canonical_of (body_tree entry.body)) leaf.0 leaf.1;
      vouched = vouched accepts leaf.0 proof.0 leaf.2;
    }

accepted_entry : (accepts : List ℕ → List ℕ → Bool) (entry : LogEntry) → IsVouchedEntry accepts entry
    → entry_answer accepts entry ≡ Ok tt
unfolding entry_answer
accepted_entry accepts entry is =
    rw (is.carried, is.converted, is.canonical) (accepted accepts is.leaf is.proof is.vouched)

-- the answer of a call
pub vouched_ok : (accepts : List ℕ → List ℕ → Bool) (entry : LogEntry) (r : Result (Unit {0}) SigstoreError)
    → Answers OutOfMemory (λ x. x) r (entry_answer accepts entry) → OnOk r (IsVouchedEntry accepts entry)
vouched_ok accepts entry (Ok _) is = vouched_entry accepts entry is
vouched_ok accepts entry (Err e) is = tt

pub accepted_only : (accepts : List ℕ → List ℕ → Bool) (entry : LogEntry) (r : Result (Unit {0}) SigstoreError)
    → Answers OutOfMemory (λ x. x) r (entry_answer accepts entry) → IsVouchedEntry accepts entry
    → IsOkUnless r OutOfMemory
accepted_only accepts entry (Ok _) is vouches = tt
accepted_only accepts entry (Err e) is vouches = elim is [
  | inl memory ↦ memory
  | inr refused ↦ (let f = accepted_entry accepts entry vouches in cc)
]
