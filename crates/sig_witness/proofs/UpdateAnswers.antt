-- The result of an update is the one whose cause holds, and no other has its cause.
use Rattle.std.proofs.Common.{◌≡◌, ◌≢◌, ◌⊎◌, ℕ, ◌<◌, ◌≤◌, Bool, true, false, inl, inr, List, [], ◌∷◌, ◌++◌, length}
use Rattle.std.proofs.Common.{Option, Some, None, Result, Ok, Err, refl, sym, ◌∙◌, ap, subst, arith}
use Rattle.std.proofs.lemmas.Bool.{eqb-true, eqb-false, eq-eqb, ne_eqb, ltb-true, ltb-false, lt-ltb, le-ltb}
use Rattle.std.proofs.lemmas.List.Folds.{Any-from_list_any, list_any-from_Any}
use Rattle.std.specs.Prelude.{nat_eq, nat_lt, OnOk, OnErr}
use Rattle.std.specs.List.{AllByRecursion}
use Rattle.sig_base.specs.Answers.{Answers, UnlessMemory}
use Rattle.sig_base.specs.ByText.{text_lookup, text_put}
use Rattle.sig_base.specs.declared.merkle_error.MerkleProofError.{MerkleProofError}
use Rattle.sig_base.specs.declared.scheme.VerifyScheme.{VerifyScheme}
use Rattle.sig_key.specs.Key.{key_accepts}
use Rattle.sig_merkle.proofs.ConsistencyAnswers.{consistency_answers}
use Rattle.sig_rekor.specs.NoteText.{note_text}
use Rattle.sig_rekor.specs.Refusals.{IsSigned}
use Rattle.sig_rekor.specs.Verify.{has_accepted_signature}
use Rattle.sig_rekor.specs.declared.checkpoint.SignedCheckpoint.{SignedCheckpoint}
use Rattle.sig_audit.proofs.HeadAnswers.{err_apart, same_err, signed-cases}
use Rattle.sig_audit.specs.Chained.{HasGrownFrom}
use Rattle.sig_audit.specs.Fronts.{IsLast}
use Rattle.sig_audit.specs.declared.chain.ChainHead.{ChainHead}
use Rattle.sig_witness.specs.declared.error.WitnessError.{WitnessError}
use Rattle.sig_witness.specs.declared.error.WitnessError.TheVariants.{UnknownOrigin, NoteKey, OldSize, Consistency, Full, OutOfMemory}
use Rattle.sig_witness.specs.declared.kept_log.KeptLog.{KeptLog}
use Rattle.sig_witness.specs.Answer.{room_answer, head_answer, log_answer, found_answer, update_answer}
use Rattle.sig_witness.specs.Causes.{IsHeadFault, IsLogFault, IsUpdateAnswer}
use Rattle.sig_witness.specs.KeptLogs.{IsKeptLog, IsKeptChain, last_of}
use Rattle.sig_witness.specs.Updates.{Update, origin_of, new_head, grown_log, most_heads, IsTaken, IsStep}
use Rattle.sig_witness.proofs.Entries.{found-all}
use Rattle.sig_witness.proofs.Heads.{chain-last, chain-grown}

-- ---- room

room-cases : (heads : ℕ) → ((nat_lt heads most_heads ≡ true) × (heads < most_heads))
    ⊎ ((nat_lt heads most_heads ≡ false) × (most_heads ≤ heads))
room-cases heads = by (nat_lt heads most_heads) refl where
  by : (b : Bool) → nat_lt heads most_heads ≡ b → ((nat_lt heads most_heads ≡ true) × (heads < most_heads))
      ⊎ ((nat_lt heads most_heads ≡ false) × (most_heads ≤ heads))
  by true is = inl (is, ltb-true heads most_heads is)
  by false is = inr (is, ltb-false heads most_heads is)

room-ok : (heads : ℕ) (found : Result (Unit {0}) MerkleProofError) → room_answer heads found ≡ Ok tt
    → (found ≡ Ok tt) × (heads < most_heads)
room-ok heads (Err cause) is = absurd (err_apart tt (Consistency cause) is)
room-ok heads (Ok tt) is = elim (room-cases heads) [
  | inl (_, room) ↦ (refl, room)
  | inr (is_false, _) ↦ absurd (err_apart tt Full (rw is_false at is))
]

room-err : (heads : ℕ) (found : Result (Unit {0}) MerkleProofError) (e : WitnessError) → heads ≤ most_heads
    → room_answer heads found ≡ Err e
    → ((cause : MerkleProofError) × (found ≡ Err cause) × (e ≡ Consistency cause))
    ⊎ ((found ≡ Ok tt) × (heads ≡ most_heads) × (e ≡ Full))
room-err heads (Err cause) e most is = inl (cause, refl, same_err (Consistency cause) e is)
room-err heads (Ok tt) e most is = elim (room-cases heads) [
  | inl (is_true, _) ↦ absurd (err_apart tt e (sym (rw is_true at is)))
  | inr (is_false, full) ↦ inr (refl, omega arith, same_err Full e (rw is_false at is))
]

-- ---- the kept head

size-cases : (m n : ℕ) → ((nat_eq m n ≡ true) × (m ≡ n)) ⊎ ((nat_eq m n ≡ false) × (m ≢ n))
size-cases m n = by (nat_eq m n) refl where
  by : (b : Bool) → nat_eq m n ≡ b → ((nat_eq m n ≡ true) × (m ≡ n)) ⊎ ((nat_eq m n ≡ false) × (m ≢ n))
  by true is = inl (is, eqb-true m n is)
  by false is = inr (is, eqb-false m n is)

module _ (heads : ℕ) (update : Update) (last : ChainHead) where
  abbrev HeadPasses : Type 0
  HeadPasses = (last.size ≡ update.old_size) × HasGrownFrom last (new_head update) × (heads < most_heads)

  head-ok : head_answer heads update (Some last) ≡ Ok tt → HeadPasses
  head-ok is = elim (size-cases last.size update.old_size) [
    | inl (is_true, same) ↦ (let (ok, room) = room-ok heads _ (rw is_true at is) in
        (same, (consistency_answers _ _ _ _ _ (Ok tt)).0 ok, room))
    | inr (is_false, _) ↦ absurd (err_apart tt (OldSize last.size) (rw is_false at is))
  ]

  head-passes : HeadPasses → head_answer heads update (Some last) ≡ Ok tt
  head-passes (same, grown, room) =
      rw (
        eq-eqb last.size update.old_size same,
        (consistency_answers last.size update.checkpoint.note.size last.hash update.checkpoint.note.hash update.hashes
            (Ok tt)).1 grown,
        lt-ltb heads most_heads room,
      ) refl

  head-err : (e : WitnessError) → heads ≤ most_heads → head_answer heads update (Some last) ≡ Err e
      → IsHeadFault heads last update e
  head-err e most is = elim (size-cases last.size update.old_size) [
    | inl (is_true, same) ↦ elim (room-err heads _ e most (rw is_true at is)) [
      | inl (cause, fails, named) ↦
          inr (inl (same, (cause, (consistency_answers _ _ _ _ _ (Err cause)).0 fails, named)))
      | inr (ok, full, named) ↦ inr (inr (same, (consistency_answers _ _ _ _ _ (Ok tt)).0 ok, full, named))
    ]
    | inr (is_false, apart) ↦ inl (apart, same_err (OldSize last.size) e (rw is_false at is))
  ]

  head-fails : (e : WitnessError) → IsHeadFault heads last update e → head_answer heads update (Some last) ≡ Err e
  head-fails e (inl (apart, named)) = rw (ne_eqb last.size update.old_size apart, named) refl
  head-fails e (inr (inl (same, (cause, fails, named)))) =
      rw (
        eq-eqb last.size update.old_size same,
        (consistency_answers last.size update.checkpoint.note.size last.hash update.checkpoint.note.hash update.hashes
            (Err cause)).1 fails,
        named,
      ) refl
  head-fails e (inr (inr (same, grown, full, named))) =
      rw (
        eq-eqb last.size update.old_size same,
        (consistency_answers last.size update.checkpoint.note.size last.hash update.checkpoint.note.hash update.hashes
            (Ok tt)).1 grown,
        le-ltb heads most_heads (omega arith),
        named,
      ) refl

-- ---- the log

module _ (accepts : List ℕ → List ℕ → Bool) (log : KeptLog) (update : Update) (last : ChainHead)
    (is_last : last_of log.chain ≡ Some last) where
  unsigned-is : has_accepted_signature accepts update.checkpoint ≡ false → log_answer accepts log update ≡ Err NoteKey
  unfolding log_answer
  unsigned-is is_false = rw is_false refl

  signed-is : has_accepted_signature accepts update.checkpoint ≡ true
      → log_answer accepts log update ≡ head_answer (length log.chain) update (Some last)
  unfolding log_answer
  signed-is is_true = rw (is_true, is_last) refl

  log-ok : log_answer accepts log update ≡ Ok tt
      → IsSigned accepts update.checkpoint × HeadPasses (length log.chain) update last
  log-ok is = elim (signed-cases accepts update.checkpoint) [
    | inl (is_true, signed) ↦ (signed, head-ok (length log.chain) update last (sym (signed-is is_true) ∙ is))
    | inr (is_false, _) ↦ absurd (err_apart tt NoteKey (sym (unsigned-is is_false) ∙ is))
  ]

  log-passes : IsSigned accepts update.checkpoint → HeadPasses (length log.chain) update last
      → log_answer accepts log update ≡ Ok tt
  log-passes signed passes = elim (signed-cases accepts update.checkpoint) [
    | inl (is_true, _) ↦ signed-is is_true ∙ head-passes (length log.chain) update last passes
    | inr (_, unsigned) ↦ absurd (unsigned signed)
  ]

  log-err : (e : WitnessError) → length log.chain ≤ most_heads → log_answer accepts log update ≡ Err e
      → IsLogFault accepts log update e
  log-err e most is = elim (signed-cases accepts update.checkpoint) [
    | inl (is_true, signed) ↦
        inr (signed, (last, is_last, head-err (length log.chain) update last e most (sym (signed-is is_true) ∙ is)))
    | inr (is_false, unsigned) ↦ inl (unsigned, same_err NoteKey e (sym (unsigned-is is_false) ∙ is))
  ]

  same-last : (other : ChainHead) → IsLast log.chain other → other ≡ last
  same-last other is = (let both : Some other ≡ Some last = sym is ∙ is_last in cc)

  log-fails : (e : WitnessError) → IsLogFault accepts log update e → log_answer accepts log update ≡ Err e
  log-fails e (inl (unsigned, named)) = elim (signed-cases accepts update.checkpoint) [
    | inl (_, signed) ↦ absurd (unsigned signed)
    | inr (is_false, _) ↦ unsigned-is is_false ∙ ap Err (sym named)
  ]
  log-fails e (inr (signed, (other, is, fault))) = elim (signed-cases accepts update.checkpoint) [
    | inl (is_true, _) ↦
        signed-is is_true
        ∙ head-fails (length log.chain) update last e
        (subst (λ (head : ChainHead). IsHeadFault (length log.chain) head update e) (same-last other is) fault)
    | inr (_, unsigned) ↦ absurd (unsigned signed)
  ]

-- a log that takes an update is kept
pub log-kept : (accepts : List ℕ → List ℕ → Bool) (log : KeptLog) (update : Update) → IsKeptChain log.chain
    → log_answer accepts log update ≡ Ok tt → IsKeptChain (log.chain ++ new_head update ∷ [])
log-kept accepts log update kept is =
    let (last, is_last) = chain-last log.chain kept.chained in
    let (_, (_, grown, room)) = log-ok accepts log update last is_last is in
    chain-grown log.chain last (new_head update) kept is_last grown room

-- ---- the witness

module _ (accepts : VerifyScheme → List ℕ → List ℕ → List ℕ → Bool) (logs : List (List ℕ × KeptLog)) (update : Update)
    (kept : AllByRecursion IsKeptLog logs) where
  kept-chain : (log : KeptLog) → text_lookup (origin_of update) logs ≡ Some log → IsKeptChain log.chain
  kept-chain log found = (found-all IsKeptLog (origin_of update) log logs kept found).1

  answer-is : (found : Option KeptLog) → text_lookup (origin_of update) logs ≡ found
      → (answer : Result (Unit {0}) WitnessError) → found_answer accepts update found ≡ answer
      → IsUpdateAnswer accepts logs update answer
  answer-is None at (Ok tt) is = absurd (err_apart tt UnknownOrigin is)
  answer-is None at (Err e) is = inl (at, same_err UnknownOrigin e is)
  answer-is (Some log) at (Ok tt) is =
      let chain = kept-chain log at in
      let (last, is_last) = chain-last log.chain chain.chained in
      let (signed, (same, grown, room)) = log-ok (key_accepts accepts log.key) log update last is_last is in (
        log,
        record {
          kept = at;
          signed = signed;
          last = last;
          is_last = is_last;
          old_size = same;
          grown = grown;
          room = room;
        },
      )
  answer-is (Some log) at (Err e) is =
      let chain = kept-chain log at in
      let (last, is_last) = chain-last log.chain chain.chained in
      inr (log, at, log-err (key_accepts accepts log.key) log update last is_last e chain.room is)

  found-is : (log : KeptLog) → text_lookup (origin_of update) logs ≡ Some log
      → update_answer accepts logs update ≡ log_answer (key_accepts accepts log.key) log update
  found-is log at = rw at refl

  answer-of : (answer : Result (Unit {0}) WitnessError) → IsUpdateAnswer accepts logs update answer
      → update_answer accepts logs update ≡ answer
  answer-of (Ok tt) (log, taken) =
      found-is log taken.kept
      ∙ log-passes (key_accepts accepts log.key) log update taken.last taken.is_last taken.signed
      (taken.old_size, taken.grown, taken.room)
  answer-of (Err e) (inl (none, named)) = rw none (ap Err (sym named))
  answer-of (Err e) (inr (log, at, fault)) =
      let (last, is_last) = chain-last log.chain (kept-chain log at).chained in
      found-is log at ∙ log-fails (key_accepts accepts log.key) log update last is_last e fault

  not-taken : (e : WitnessError) → update_answer accepts logs update ≡ Err e
      → (log : KeptLog) → ¬ IsTaken accepts logs update log
  not-taken e is log taken = err_apart tt e (sym is ∙ answer-of (Ok tt) (log, taken))

  -- the result is the one whose cause holds
  pub answer-found : (result : Result (Unit {0}) WitnessError)
      → Answers OutOfMemory (λ x. x) result (update_answer accepts logs update)
      → UnlessMemory OutOfMemory result (IsUpdateAnswer accepts logs update result)
  answer-found (Ok tt) is = inr (answer-is _ refl (Ok tt) is)
  answer-found (Err e) (inl memory) = inl (ap Err memory)
  answer-found (Err e) (inr is) = inr (answer-is _ refl (Err e) is)

  -- and is_false other has its cause
  pub answer-only : (result : Result (Unit {0}) WitnessError)
      → Answers OutOfMemory (λ x. x) result (update_answer accepts logs update)
      → (answer : Result (Unit {0}) WitnessError) → IsUpdateAnswer accepts logs update answer
      → Answers OutOfMemory (λ x. x) result answer
  answer-only result is answer holds = rw (answer-of answer holds) at is

  -- the logs afterwards are those after the step
  pub answer-step : (after : List (List ℕ × KeptLog)) (result : Result (Unit {0}) WitnessError)
      → Answers OutOfMemory (λ x. x) result (update_answer accepts logs update)
      → ((log : KeptLog) → text_lookup (origin_of update) logs ≡ Some log
      → OnOk result (after ≡ text_put (origin_of update) (grown_log log (new_head update)) logs))
      → OnErr result (after ≡ logs)
      → UnlessMemory OutOfMemory result (IsStep accepts logs update after)
  answer-step after (Ok tt) is grows stays =
      let (log, taken) = answer-is _ refl (Ok tt) is in
      inr (inl (log, taken, grows log taken.kept))
  answer-step after (Err e) (inl memory) grows stays = inl (ap Err memory)
  answer-step after (Err e) (inr is) grows stays = inr (inr (not-taken e is, stays))

pub ruleset update_answers = (answer-found, answer-only)
