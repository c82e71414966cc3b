-- The result of an audit is the one whose cause holds, and no other has its cause.
use Rattle.std.proofs.Common.{◌≡◌, ◌⊎◌, ℕ, zero, suc, ◌+◌, ◌-◌, ◌≤◌, Bool, inl, inr, List, [], ◌∷◌, length}
use Rattle.std.proofs.Common.{Option, Some, None, Result, Ok, Err, slice_get, refl, sym, ◌∙◌, ap, subst, arith, zero-add}
use Rattle.std.proofs.lemmas.Option.{slice_get_past}
use Rattle.std.specs.List.{AllByRecursion}
use Rattle.sig_base.proofs.ResultSteps.{bind_ok}
use Rattle.sig_base.specs.Answers.{Answers, UnlessMemory}
use Rattle.sig_merkle.proofs.InclusionLaws.{inclusion_answers}
use Rattle.sig_audit.specs.declared.chain.ChainHead.{ChainHead}
use Rattle.sig_audit.specs.declared.error.AuditError.{AuditError}
use Rattle.sig_audit.specs.declared.error.AuditError.TheVariants.{Head, Inclusion, OutOfMemory}
use Rattle.sig_audit.specs.declared.heads.AuditHead.{AuditHead}
use Rattle.sig_audit.specs.declared.heads.Watch.{Watch}
use Rattle.sig_audit.specs.Answer.{first_error, as_fault, head_answer, path_answer, watch_answer, size_or, latest_size}
use Rattle.sig_audit.specs.Answer.{audit_answer}
use Rattle.sig_audit.specs.Audited.{chain_head, chain_of, AreAudited, IsWatched}
use Rattle.sig_audit.specs.Faults.{IsNotIncluded}
use Rattle.sig_audit.specs.Faults.{IsHeadFault, IsHeadsFault, IsWatchFault, IsWatchesFault}
use Rattle.sig_audit.specs.Faults.{IsLatestSize, IsAuditAnswer}
use Rattle.sig_audit.specs.Fronts.{IsLast}
use Rattle.sig_audit.proofs.Chains.{last-later}
use Rattle.sig_audit.proofs.FirstErrors.{last_or, first-at, first-from}
use Rattle.sig_audit.proofs.HeadAnswers.{HeadsPass, HeadFails, head-err, head-fails, heads-ok, heads-pass}
use Rattle.sig_audit.proofs.HeadAnswers.{ok_fault, err_fault, same_err, err_apart}

-- ---- the first fault of the heads

last-or : {X : Type 0} (first last : X) (later : List X) → last_or (Some first) later ≡ Some last
    → IsLast (first ∷ later) last
last-or first last [] is = is
last-or first last (next ∷ later) is =
    let rest = last-or next last later is in
    let one : suc (suc (length later)) - 1 ≡ suc (length later) = omega arith in
    let next_one : suc (length later) - 1 ≡ length later = omega arith in
    rw one (rw next_one at rest)

or-last : {X : Type 0} (first last : X) (later : List X) → IsLast (first ∷ later) last
    → last_or (Some first) later ≡ Some last
or-last first last [] is = is
or-last first last (next ∷ later) is = or-last next last later (last-later first next last later is)

some-last : {X : Type 0} (one : X) (others : List X) → (last : X) × (last_or (Some one) others ≡ Some last)
some-last one [] = (one, refl)
some-last one (next ∷ later) = some-last next later

module _ (accepts : List ℕ → List ℕ → Bool) (first : AuditHead) where
  fault-of : (before : List AuditHead) (head : AuditHead) (e : AuditError)
      → HeadFails accepts first (last_or None before) (length before) head e → IsHeadFault accepts first before head e
  fault-of before head e (inl unsigned) = inl unsigned
  fault-of before head e (inr (inl other)) = inr (inl other)
  fault-of [] head e (inr (inr (signed, origin, none))) = absurd none
  fault-of (one ∷ others) head e (inr (inr (signed, origin, ungrown))) =
      let (older, is) = some-last one others in
      inr (inr (signed, origin, (older, last-or one older others is, rw is at ungrown)))

  of-fault : (before : List AuditHead) (head : AuditHead) (e : AuditError) → IsHeadFault accepts first before head e
      → HeadFails accepts first (last_or None before) (length before) head e
  of-fault before head e (inl unsigned) = inl unsigned
  of-fault before head e (inr (inl other)) = inr (inl other)
  of-fault [] head e (inr (inr (signed, origin, (older, is, _)))) = absurd cc
  of-fault (one ∷ others) head e (inr (inr (signed, origin, (older, is, ungrown)))) =
      inr (inr (signed, origin, rw (or-last one older others is) ungrown))

  heads-fault : (later : List AuditHead) (e : AuditError)
      → first_error (head_answer accepts first) None 0 (first ∷ later) ≡ Err e → IsHeadsFault accepts (first ∷ later) e
  heads-fault later e is =
      let found = first-at (head_answer accepts first) None 0 (first ∷ later) e is in
      let passed = heads-ok accepts first None 0 found.front found.passed in
      record {
        first = first;
        before = found.front;
        head = found.here;
        after = found.after;
        begins = refl;
        split = found.split;
        signed = passed.0;
        origins = passed.1;
        grown = passed.2;
        fault =
            fault-of found.front found.here e
            (head-err accepts first (last_or None found.front) (length found.front) found.here e
            (rw (zero-add (length found.front)) at found.fails));
      }

  heads-err : (later : List AuditHead) (e : AuditError) → IsHeadsFault accepts (first ∷ later) e
      → first_error (head_answer accepts first) None 0 (first ∷ later) ≡ Err e
  heads-err later e fault =
      let same : fault.first ≡ first = (let f = fault.begins in cc) in
      let fails = head-fails accepts first (last_or None fault.before) (length fault.before) fault.head e
      (of-fault fault.before fault.head e (rw same at fault.fault)) in
      rw (fault.split) (first-from (head_answer accepts first) None 0 fault.before fault.head fault.after e
      (heads-pass accepts first None 0 fault.before (fault.signed, rw same at fault.origins, fault.grown))
      (rw (zero-add (length fault.before)) fails))

-- ---- the watches

note_head : (heads : List AuditHead) (place : ℕ) (head : AuditHead) → slice_get heads place ≡ Some head
    → slice_get (chain_of heads) place ≡ Some (chain_head head)
note_head [] place head is = absurd cc
note_head (one ∷ later) zero head is = (let same : one ≡ head = cc in rw same refl)
note_head (one ∷ later) (suc place) head is = note_head later place head is

head_note : (heads : List AuditHead) (place : ℕ) (noted : ChainHead) → slice_get (chain_of heads) place ≡ Some noted
    → (head : AuditHead) × (slice_get heads place ≡ Some head) × (noted ≡ chain_head head)
head_note [] place noted is = absurd cc
head_note (one ∷ later) zero noted is = (one, refl, cc)
head_note (one ∷ later) (suc place) noted is = head_note later place noted is

chain-length : (heads : List AuditHead) → length (chain_of heads) ≡ length heads
chain-length [] = refl
chain-length (one ∷ later) = ap suc (chain-length later)

past_end : {X : Type 0} (xs : List X) (place : ℕ) → slice_get xs place ≡ None → length xs ≤ place
past_end [] place is = omega arith
past_end (x ∷ xs) zero is = absurd cc
past_end (x ∷ xs) (suc place) is = let rest = past_end xs place is in omega arith

module _ (heads : List AuditHead) where
  path-ok : (place : ℕ) (watch : Watch) (found : Option AuditHead) → slice_get heads watch.head ≡ found
      → path_answer place watch found ≡ Ok tt → IsWatched (chain_of heads) watch
  path-ok place watch None at is = absurd (err_apart _ _ is)
  path-ok place watch (Some head) at is =
      (chain_head head, note_head heads watch.head head at, (inclusion_answers _ _ _ _ _ (Ok tt)).0 (ok_fault _ _ is))

  path-passes : (place : ℕ) (watch : Watch) → IsWatched (chain_of heads) watch
      → path_answer place watch (slice_get heads watch.head) ≡ Ok tt
  path-passes place watch (noted, at, included) =
      let (head, is, same) = head_note heads watch.head noted at in
      rw is (ap (as_fault (Inclusion place)) ((inclusion_answers _ _ _ _ _ (Ok tt)).1 (rw same at included)))

  path-err : (place : ℕ) (watch : Watch) (found : Option AuditHead) (e : AuditError) → slice_get heads watch.head ≡ found
      → path_answer place watch found ≡ Err e → IsWatchFault (chain_of heads) place watch e
  path-err place watch None e at is =
      inl (rw (chain-length heads) (past_end heads watch.head at), same_err (Head place) e is)
  path-err place watch (Some head) e at is =
      let (cause, fails, named) = err_fault _ _ e is in
      inr (
        chain_head head,
        note_head heads watch.head head at,
        (cause, (inclusion_answers _ _ _ _ _ (Err cause)).0 fails, named),
      )

  path-fails : (place : ℕ) (watch : Watch) (e : AuditError) → IsWatchFault (chain_of heads) place watch e
      → path_answer place watch (slice_get heads watch.head) ≡ Err e
  path-fails place watch e (inl (past, named)) =
      rw (slice_get_past heads watch.head (rw (chain-length heads) at past)) (ap Err (sym named))
  path-fails place watch e (inr (noted, at, (cause, fails, named))) =
      let (head, is, same) = head_note heads watch.head noted at in
      let refused : IsNotIncluded (chain_head head) watch cause =
      subst (λ (found : ChainHead). IsNotIncluded found watch cause) same fails in
      rw is (ap (as_fault (Inclusion place)) ((inclusion_answers _ _ _ _ _ (Err cause)).1 refused) ∙ ap Err (sym named))

  watches-ok : (before : Option Watch) (place : ℕ) (watched : List Watch)
      → first_error (watch_answer heads) before place watched ≡ Ok tt
      → AllByRecursion (IsWatched (chain_of heads)) watched
  unfolding first_error
  watches-ok before place [] is = tt
  watches-ok before place (watch ∷ later) is =
      let (u, ok, rest) = bind_ok (watch_answer heads before place watch)
      (λ _. first_error (watch_answer heads) (Some watch) (place + 1) later) tt is in
      (path-ok place watch (slice_get heads watch.head) refl ok, watches-ok (Some watch) (place + 1) later rest)

  watches-pass : (before : Option Watch) (place : ℕ) (watched : List Watch)
      → AllByRecursion (IsWatched (chain_of heads)) watched
      → first_error (watch_answer heads) before place watched ≡ Ok tt
  unfolding first_error
  watches-pass before place [] all = refl
  watches-pass before place (watch ∷ later) (here, rest) =
      rw (path-passes place watch here) (watches-pass (Some watch) (place + 1) later rest)

  watches-fault : (watched : List Watch) (e : AuditError) → first_error (watch_answer heads) None 0 watched ≡ Err e
      → IsWatchesFault (chain_of heads) watched e
  watches-fault watched e is =
      let found = first-at (watch_answer heads) None 0 watched e is in record {
        before = found.front;
        watch = found.here;
        after = found.after;
        split = found.split;
        sound = watches-ok None 0 found.front found.passed;
        fault = path-err (length found.front) found.here (slice_get heads found.here.head) e refl
            (rw (zero-add (length found.front)) at found.fails);
      }

  watches-err : (watched : List Watch) (e : AuditError) → IsWatchesFault (chain_of heads) watched e
      → first_error (watch_answer heads) None 0 watched ≡ Err e
  watches-err watched e fault =
      rw (fault.split) (first-from (watch_answer heads) None 0 fault.before fault.watch fault.after e
      (watches-pass None 0 fault.before fault.sound)
      (rw (zero-add (length fault.before)) (path-fails (length fault.before) fault.watch e fault.fault)))

-- ---- the audit

result-cases : {E : Type 0} (r : Result (Unit {0}) E) → (r ≡ Ok tt) ⊎ ((e : E) × (r ≡ Err e))
result-cases (Ok tt) = inl refl
result-cases (Err e) = inr (e, refl)

latest-is : (first : AuditHead) (later : List AuditHead) → IsLatestSize (first ∷ later) (latest_size first later)
latest-is first [] = (first, refl, refl)
latest-is first (next ∷ later) =
    let (last, is) = some-last next later in
    let at = last-or next last later is in
    (last, last-or first last (next ∷ later) is, ap (size_or first) (sym at))

latest-only : (first : AuditHead) (later : List AuditHead) (size : ℕ) → IsLatestSize (first ∷ later) size
    → latest_size first later ≡ size
latest-only first later size (last, is, named) =
    let (other, is_other, named_other) = latest-is first later in
    let same : Some other ≡ Some last = sym is_other ∙ is in
    let equal : other ≡ last = cc in
    sym named_other ∙ ap (λ (head : AuditHead). head.checkpoint.note.size) equal ∙ named

module _ (accepts : List ℕ → List ℕ → Bool) where
  audited : (first : AuditHead) (later : List AuditHead) → HeadsPass accepts first None (first ∷ later)
      → AreAudited accepts (first ∷ later)
  audited first later (signed, (_, origins), grown) =
      record { signed = signed; origins = origins; chained = (λ empty. cc, grown) }

  passes : (first : AuditHead) (later : List AuditHead) → AreAudited accepts (first ∷ later)
      → HeadsPass accepts first None (first ∷ later)
  passes first later are = (are.signed, (refl, are.origins), are.chained.1)

  pub audit-is : (heads : List AuditHead) (watched : List Watch)
      → IsAuditAnswer accepts heads watched (audit_answer accepts heads watched)
  unfolding audit_answer
  audit-is [] watched = inl (refl, refl)
  audit-is (first ∷ later) watched =
      elim (result-cases (first_error (head_answer accepts first) None 0 (first ∷ later))) [
        | inl pass ↦ (let are = audited first later (heads-ok accepts first None 0 (first ∷ later) pass) in
            elim (result-cases (first_error (watch_answer (first ∷ later)) None 0 watched)) [
              | inl all ↦ rw (pass, all) (
                (are, watches-ok (first ∷ later) None 0 watched all),
                latest-is first later,
              )
              | inr (e, fails) ↦ rw (pass, fails) (inr (inr (are, watches-fault (first ∷ later) watched e fails)))
            ])
        | inr (e, fails) ↦ rw fails (inr (inl (heads-fault accepts first later e fails)))
      ]

  pub audit-only : (heads : List AuditHead) (watched : List Watch) (answer : Result ℕ AuditError)
      → IsAuditAnswer accepts heads watched answer → audit_answer accepts heads watched ≡ answer
  unfolding audit_answer
  audit-only [] watched (Ok size) ((are, _), _) = absurd (are.chained.0 refl)
  audit-only [] watched (Err e) (inl (_, named)) = ap Err (sym named)
  audit-only [] watched (Err e) (inr (inl fault)) = absurd (let f = fault.begins in cc)
  audit-only [] watched (Err e) (inr (inr (are, _))) = absurd (are.chained.0 refl)
  audit-only (first ∷ later) watched (Ok size) ((are, all), latest) =
      rw (
        heads-pass accepts first None 0 (first ∷ later) (passes first later are),
        watches-pass (first ∷ later) None 0 watched all,
      ) (ap Ok (latest-only first later size latest))
  audit-only (first ∷ later) watched (Err e) (inl (empty, _)) = absurd cc
  audit-only (first ∷ later) watched (Err e) (inr (inl fault)) = rw (heads-err accepts first later e fault) refl
  audit-only (first ∷ later) watched (Err e) (inr (inr (are, fault))) =
      rw (
        heads-pass accepts first None 0 (first ∷ later) (passes first later are),
        watches-err (first ∷ later) watched e fault,
      ) refl

-- the result is the one whose cause holds
pub answer-found : (accepts : List ℕ → List ℕ → Bool) (heads : List AuditHead) (watched : List Watch)
    (result : Result ℕ AuditError) → Answers OutOfMemory (λ size. size) result (audit_answer accepts heads watched)
    → UnlessMemory OutOfMemory result (IsAuditAnswer accepts heads watched result)
answer-found accepts heads watched (Ok size) is = inr (rw is at (audit-is accepts heads watched))
answer-found accepts heads watched (Err e) (inl memory) = inl (ap Err memory)
answer-found accepts heads watched (Err e) (inr is) = inr (rw is at (audit-is accepts heads watched))

-- and no other has its cause
pub answer-only : (accepts : List ℕ → List ℕ → Bool) (heads : List AuditHead) (watched : List Watch)
    (result : Result ℕ AuditError) → Answers OutOfMemory (λ size. size) result (audit_answer accepts heads watched)
    → (answer : Result ℕ AuditError) → IsAuditAnswer accepts heads watched answer
    → Answers OutOfMemory (λ size. size) result answer
answer-only accepts heads watched result is answer holds = rw (audit-only accepts heads watched answer holds) at is

pub ruleset audit_answers = (answer-found, answer-only)
