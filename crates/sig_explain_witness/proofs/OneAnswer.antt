-- An update has one result, and one step.
use Rattle.std.proofs.Common.{◌≡◌, ◌<◌, ◌∙◌, ℕ, Bool, List, length, Option, Some, None, Result, Ok, Err, inl, inr}
use Rattle.std.proofs.Common.{ap, arith, refl, subst, sym}
use Rattle.sig_audit.specs.Chained.{HasGrownFrom}
use Rattle.sig_audit.specs.Fronts.{IsLast}
use Rattle.sig_audit.specs.declared.chain.ChainHead.{ChainHead}
use Rattle.sig_base.proofs.OptionSteps.{some_is}
use Rattle.sig_base.proofs.ResultSteps.{err_is}
use Rattle.sig_base.specs.ByText.{text_put}
use Rattle.sig_base.specs.declared.merkle_error.MerkleProofError.{MerkleProofError}
use Rattle.sig_base.specs.declared.scheme.VerifyScheme.{VerifyScheme}
use Rattle.sig_key.specs.Key.{key_accepts}
use Rattle.sig_merkle.proofs.ConsistencyAnswers.{consistency_answers}
use Rattle.sig_merkle.specs.ConsistencyAnswer.{consistency_answer}
use Rattle.sig_witness.specs.Causes.{IsHeadFault, IsLogFault, IsUngrown, IsUpdateAnswer, IsUpdateFault}
use Rattle.sig_witness.specs.Updates.{IsStep, IsTaken, Update, grown_log, most_heads, new_head, origin_of}
use Rattle.sig_witness.specs.declared.error.WitnessError.{WitnessError}
use Rattle.sig_witness.specs.declared.error.WitnessError.TheVariants.{Consistency}
use Rattle.sig_witness.specs.declared.kept_log.KeptLog.{KeptLog}
use Rattle.sig_witness_command.specs.Start.{Logs}

-- ---- the kept head

module _ (heads : ℕ) (last : ChainHead) (update : Update) where
  abbrev found : Result (Unit {0}) MerkleProofError
  found =
      consistency_answer last.size update.checkpoint.note.size update.hashes last.hash update.checkpoint.note.hash

  fails : (cause : MerkleProofError) → IsUngrown last update cause → found ≡ Err cause
  fails cause is =
      (consistency_answers last.size update.checkpoint.note.size last.hash update.checkpoint.note.hash update.hashes
      (Err cause)).1 is

  grows : HasGrownFrom last (new_head update) → found ≡ Ok tt
  grows is =
      (consistency_answers last.size update.checkpoint.note.size last.hash update.checkpoint.note.hash update.hashes
      (Ok tt)).1 is

  not_both : (cause : MerkleProofError) → IsUngrown last update cause → HasGrownFrom last (new_head update) → ⊥
  not_both cause is grown =
      let both : ◌≡◌ {A = Result (Unit {0}) MerkleProofError} (Ok tt) (Err cause) =
      sym (grows grown) ∙ fails cause is in
      cc

  one_of_head : (e f : WitnessError) → IsHeadFault heads last update e → IsHeadFault heads last update f → e ≡ f
  one_of_head e f (inl (apart, p)) (inl (too, q)) = p ∙ sym q
  one_of_head e f (inl (apart, p)) (inr (inl (same, other))) = absurd (apart same)
  one_of_head e f (inl (apart, p)) (inr (inr (same, grown, full, q))) = absurd (apart same)
  one_of_head e f (inr (inl (same, other))) (inl (apart, q)) = absurd (apart same)
  one_of_head e f (inr (inl (same, (cause, is, p)))) (inr (inl (too, (why, was, q)))) =
      p ∙ ap (λ (c : MerkleProofError). Consistency c) (err_is cause why (sym (fails cause is) ∙ fails why was)) ∙ sym q
  one_of_head e f (inr (inl (same, (cause, is, p)))) (inr (inr (too, grown, full, q))) =
      absurd (not_both cause is grown)
  one_of_head e f (inr (inr (same, grown, full, p))) (inl (apart, q)) = absurd (apart same)
  one_of_head e f (inr (inr (same, grown, full, p))) (inr (inl (too, (cause, is, q)))) =
      absurd (not_both cause is grown)
  one_of_head e f (inr (inr (same, grown, full, p))) (inr (inr (too, also, fully, q))) = p ∙ sym q

  not_of_head : (e : WitnessError) → last.size ≡ update.old_size → HasGrownFrom last (new_head update)
      → heads < most_heads → IsHeadFault heads last update e → ⊥
  not_of_head e same grown room (inl (apart, named)) = apart same
  not_of_head e same grown room (inr (inl (too, (cause, is, named)))) = not_both cause is grown
  not_of_head e same grown room (inr (inr (too, also, full, named))) = omega (arith, room, full)

-- ---- the log

one_last : (log : KeptLog) (a b : ChainHead) → IsLast log.chain a → IsLast log.chain b → a ≡ b
one_last log a b p q = some_is a b (sym p ∙ q)

one_of_log : (accepts : List ℕ → List ℕ → Bool) (log : KeptLog) (update : Update) (e f : WitnessError)
    → IsLogFault accepts log update e → IsLogFault accepts log update f → e ≡ f
one_of_log accepts log update e f (inl (unsigned, p)) (inl (too, q)) = p ∙ sym q
one_of_log accepts log update e f (inl (unsigned, p)) (inr (signed, other)) = absurd (unsigned signed)
one_of_log accepts log update e f (inr (signed, other)) (inl (unsigned, q)) = absurd (unsigned signed)
one_of_log accepts log update e f (inr (signed, (last, is, p))) (inr (too, (other, was, q))) =
    one_of_head (length log.chain) other update e f
    (subst (λ (h : ChainHead). IsHeadFault (length log.chain) h update e) (one_last log last other is was) p) q

module _ (accepts : VerifyScheme → List ℕ → List ℕ → List ℕ → Bool) (logs : Logs) (update : Update) where
  -- ---- the update

  one_refusal : (e f : WitnessError) → IsUpdateFault accepts logs update e → IsUpdateFault accepts logs update f → e ≡ f
  one_refusal e f (inl (none, p)) (inl (too, q)) = p ∙ sym q
  one_refusal e f (inl (none, p)) (inr (log, there, q)) =
      absurd (let both : ◌≡◌ {A = Option KeptLog} None (Some log) = sym none ∙ there in cc)
  one_refusal e f (inr (log, there, p)) (inl (none, q)) =
      absurd (let both : ◌≡◌ {A = Option KeptLog} None (Some log) = sym none ∙ there in cc)
  one_refusal e f (inr (log, there, p)) (inr (other, also, q)) =
      one_of_log (key_accepts accepts other.key) other update e f
      (subst (λ (l : KeptLog). IsLogFault (key_accepts accepts l.key) l update e)
      (some_is log other (sym there ∙ also)) p) q

  of_taken : (log : KeptLog) → IsTaken accepts logs update log → (e : WitnessError)
      → IsLogFault (key_accepts accepts log.key) log update e → ⊥
  of_taken log taken e (inl (unsigned, named)) = unsigned taken.signed
  of_taken log taken e (inr (signed, (last, is, fault))) =
      not_of_head (length log.chain) taken.last update e taken.old_size taken.grown taken.room
      (subst (λ (h : ChainHead). IsHeadFault (length log.chain) h update e)
      (one_last log last taken.last is taken.is_last) fault)

  not_refused : (log : KeptLog) → IsTaken accepts logs update log → (e : WitnessError)
      → IsUpdateFault accepts logs update e → ⊥
  not_refused log taken e (inl (none, named)) =
      (let both : ◌≡◌ {A = Option KeptLog} None (Some log) = sym none ∙ taken.kept in cc)
  not_refused log taken e (inr (other, there, fault)) =
      of_taken log taken e
      (subst (λ (l : KeptLog). IsLogFault (key_accepts accepts l.key) l update e)
      (some_is other log (sym there ∙ taken.kept)) fault)

  pub one_answer : (a b : Result (Unit {0}) WitnessError) → IsUpdateAnswer accepts logs update a
      → IsUpdateAnswer accepts logs update b → a ≡ b
  one_answer (Ok done) (Ok too) p q = refl
  one_answer (Ok done) (Err e) (log, taken) q = absurd (not_refused log taken e q)
  one_answer (Err e) (Ok done) p (log, taken) = absurd (not_refused log taken e p)
  one_answer (Err e) (Err f) p q = ap (λ (error : WitnessError). Err error) (one_refusal e f p q)

  pub one_step : (a b : Logs) → IsStep accepts logs update a → IsStep accepts logs update b → a ≡ b
  one_step a b (inl (log, taken, p)) (inl (other, too, q)) =
      p
      ∙ ap (λ (l : KeptLog). text_put (origin_of update) (grown_log l (new_head update)) logs)
      (some_is log other (sym taken.kept ∙ too.kept))
      ∙ sym q
  one_step a b (inl (log, taken, p)) (inr (none, q)) = absurd (none log taken)
  one_step a b (inr (none, p)) (inl (log, taken, q)) = absurd (none log taken)
  one_step a b (inr (none, p)) (inr (never, q)) = p ∙ sym q
