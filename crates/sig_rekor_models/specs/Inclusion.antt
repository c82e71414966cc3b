-- When a log vouches for an entry that Rekor's API returned, and the result of the check where it does not. What is
-- logged is the canonical JSON of the body (RFC 8785). `accepts` is what the checker accepts under the log's key.
use Rattle.std.specs.Prelude.{◌≡◌, ℕ, Bool, List, Some, Result, Ok, Err}
use Rattle.std.specs.Option.{ok_or}
use Rattle.sig_base.specs.ResultSteps.{◌>>=◌}
use Rattle.sig_base.specs.declared.error.SigstoreError.{SigstoreError}
use Rattle.sig_base.specs.declared.error.SigstoreError.TheVariants.{UnexpectedError}
use Rattle.sig_base.specs.declared.unexpected.UnexpectedKind.{UnexpectedKind}
use Rattle.sig_base.specs.declared.unexpected.UnexpectedKind.TheVariants.{ProofMissing, ProofConversion, CanonicalBody}
use Rattle.sig_json_text.specs.Canonical.{canonical_of}
use Rattle.sig_rekor.specs.RekorProof.{inclusion_proof_from_rekor}
use Rattle.sig_rekor.specs.Verify.{IsVouched, proof_answer}
use Rattle.sig_rekor.specs.declared.inclusion_proof.InclusionProof.{InclusionProof}
use Rattle.sig_rekor.specs.declared.rekor_proof.RekorInclusionProof.{RekorInclusionProof}
use Rattle.sig_rekor_models.specs.Body.{Body, body_tree}
use Rattle.sig_rekor_models.specs.LogEntry.{LogEntry}

-- any error is this one
abbrev pub or_unexpected : {A E : Type 0} → UnexpectedKind → Result A E → Result A SigstoreError
or_unexpected kind (Ok x) = Ok x
or_unexpected kind (Err e) = Err (UnexpectedError kind)

abbrev pub carried_proof : LogEntry → Result InclusionProof SigstoreError
carried_proof entry = do
  api ← ok_or entry.verification.inclusion_proof (UnexpectedError ProofMissing)
  or_unexpected ProofConversion (inclusion_proof_from_rekor api)

abbrev pub logged_bytes : Body → Result (List ℕ) SigstoreError
logged_bytes body = or_unexpected CanonicalBody (canonical_of (body_tree body))

-- the result of a check of an entry: a proof, its texts, a canonical body, and what the proof's own check says
unfoldable pub entry_answer : (List ℕ → List ℕ → Bool) → LogEntry → Result (Unit {0}) SigstoreError
entry_answer accepts entry = do
  proof ← carried_proof entry
  leaf ← logged_bytes entry.body
  proof_answer accepts leaf proof

-- *Vouched entry*: the proof that the entry carries vouches for the canonical JSON of its body
pub record IsVouchedEntry (accepts : List ℕ → List ℕ → Bool) (entry : LogEntry) : Type 0 where
  pub api : RekorInclusionProof
  pub proof : InclusionProof
  pub leaf : List ℕ
  pub carried : entry.verification.inclusion_proof ≡ Some api
  pub converted : inclusion_proof_from_rekor api ≡ Ok proof
  pub canonical : canonical_of (body_tree entry.body) ≡ Ok leaf
  pub vouched : IsVouched accepts leaf proof
