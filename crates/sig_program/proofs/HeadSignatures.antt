-- The signature of the note of a head's checkpoint, by the table.
use Rattle.std.proofs.Common.{◌≡◌, ◌↔◌, ◌⊎◌, inl, inr, ℕ, Bool, true, false, List, refl, sym, subst, ◌∙◌, Err}
use Rattle.std.specs.Prelude.{Any, IsTrue}
use Rattle.std.proofs.lemmas.Bool.{false≢true}
use Rattle.std.proofs.lemmas.List.Folds.{Any-from_list_any, list_any-from_Any}
use Rattle.sig_base.specs.declared.checker.Operation.TheVariants.{Message}
use Rattle.sig_base.specs.declared.error.SigstoreError.{SigstoreError}
use Rattle.sig_base.specs.declared.error.SigstoreError.TheVariants.{CheckpointSignatureVerificationError, OutOfMemory}
use Rattle.sig_base.specs.Checker.{accepted}
use Rattle.sig_base.specs.Scheme.{name_of, scheme_of}
use Rattle.sig_base.proofs.AcceptedRows.{accepted-rows}
use Rattle.sig_key.specs.declared.verification_key.CosignVerificationKey.{CosignVerificationKey}
use Rattle.sig_key.specs.Key.{key_scheme, key_info, key_accepts}
use Rattle.sig_rekor.specs.declared.checkpoint.SignedCheckpoint.{SignedCheckpoint}
use Rattle.sig_rekor.specs.NoteText.{note_text}
use Rattle.sig_rekor.specs.Verify.{has_accepted_signature, signed_answer}
use Rattle.sig_request.specs.declared.head_members.ClaimedHead.{ClaimedHead}
use Rattle.sig_program.specs.Head.{HasAcceptedSignature}

-- what holds of some element, where it follows of each
Any-more : {A : Type 0} {P Q : A → Type 0} (xs : List A) → ((x : A) → P x → Q x) → Any P xs → Any Q xs
Any-more xs more some = (some.0, some.1, some.2, some.3, more some.1 some.4)

-- one of the signatures passes the test if and only if the table has its row
has_accepted_signature-rows : (head : ClaimedHead) (checkpoint : SignedCheckpoint) (accepts : List ℕ → List ℕ → Bool)
    → ((message signature : List ℕ) → accepts message signature
    ≡ accepted head.accepted Message (name_of (scheme_of head.scheme)) head.key message signature)
    → (has_accepted_signature accepts checkpoint ≡ true) ↔ HasAcceptedSignature head checkpoint
unfolding has_accepted_signature
has_accepted_signature-rows head checkpoint accepts same =
    let note = note_text checkpoint.note in (
      λ e. Any-more checkpoint.signatures
          (λ s passes. (accepted-rows head.accepted Message
          (name_of (scheme_of head.scheme)) head.key note s.raw).0 (sym (same note s.raw) ∙ passes))
          (Any-from_list_any (λ s. accepts note s.raw) checkpoint.signatures e),
      λ some. list_any-from_Any (λ s. accepts note s.raw) checkpoint.signatures (Any-more checkpoint.signatures
          (λ s row. same note s.raw ∙ (accepted-rows head.accepted Message
          (name_of (scheme_of head.scheme)) head.key note s.raw).1 row) some),
    )

-- the test under the head's key is the table's
pub has_accepted_signature-key : (head : ClaimedHead) (checkpoint : SignedCheckpoint) (key : CosignVerificationKey)
    → key_scheme key ≡ scheme_of head.scheme → key_info key ≡ head.key
    → (has_accepted_signature (key_accepts (λ scheme info message signature. accepted head.accepted Message
    (name_of scheme) info message signature) key) checkpoint ≡ true)
    ↔ HasAcceptedSignature head checkpoint
has_accepted_signature-key head checkpoint key scheme info =
    has_accepted_signature-rows head checkpoint (λ message signature. accepted head.accepted Message
    (name_of (key_scheme key)) (key_info key) message signature)
    (λ message signature. rw (scheme, info))

-- the answers of the check under the head's key
pub signed-yes : (head : ClaimedHead) (checkpoint : SignedCheckpoint) (key : CosignVerificationKey)
    → key_scheme key ≡ scheme_of head.scheme → key_info key ≡ head.key
    → has_accepted_signature (key_accepts (λ scheme info message signature. accepted head.accepted Message
    (name_of scheme) info message signature) key) checkpoint ≡ true
    → IsTrue true ↔ HasAcceptedSignature head checkpoint
signed-yes head checkpoint key scheme info is =
    (λ _. (has_accepted_signature-key head checkpoint key scheme info).0 is, λ _. refl)

unsigned : (accepts : List ℕ → List ℕ → Bool) (checkpoint : SignedCheckpoint)
    → signed_answer accepts checkpoint ≡ Err CheckpointSignatureVerificationError
    → has_accepted_signature accepts checkpoint ≡ true → ⊥
unsigned accepts checkpoint refused is = let answer = rw is at refused in cc

signed-no : (head : ClaimedHead) (checkpoint : SignedCheckpoint) (key : CosignVerificationKey)
    → key_scheme key ≡ scheme_of head.scheme → key_info key ≡ head.key
    → (◌≡◌ {A = SigstoreError} CheckpointSignatureVerificationError OutOfMemory)
    ⊎ (signed_answer (key_accepts (λ scheme info message signature. accepted head.accepted Message
    (name_of scheme) info message signature) key) checkpoint
    ≡ Err CheckpointSignatureVerificationError)
    → IsTrue false ↔ HasAcceptedSignature head checkpoint
signed-no head checkpoint key scheme info (inl memory) = absurd (let e : ⊥ = cc in e)
signed-no head checkpoint key scheme info (inr refused) = (
  λ e. absurd (false≢true e),
  λ signed. absurd (unsigned (key_accepts (λ scheme info message signature. accepted head.accepted Message
      (name_of scheme) info message signature) key) checkpoint refused
      ((has_accepted_signature-key head checkpoint key scheme info).1 signed)),
)

-- the same of an error that is this one
pub signed-refused : (head : ClaimedHead) (checkpoint : SignedCheckpoint) (key : CosignVerificationKey)
    → key_scheme key ≡ scheme_of head.scheme → key_info key ≡ head.key → (error : SigstoreError)
    → error ≡ CheckpointSignatureVerificationError
    → (error ≡ OutOfMemory)
    ⊎ (signed_answer (key_accepts (λ scheme info message signature. accepted head.accepted Message
    (name_of scheme) info message signature) key) checkpoint ≡ Err error)
    → IsTrue false ↔ HasAcceptedSignature head checkpoint
signed-refused head checkpoint key scheme info error is told =
    signed-no head checkpoint key scheme info (subst (λ (e : SigstoreError). (e ≡ OutOfMemory)
    ⊎ (signed_answer (key_accepts (λ scheme info message signature. accepted head.accepted Message
    (name_of scheme) info message signature) key) checkpoint ≡ Err e)) is told)
