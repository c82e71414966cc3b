-- Nothing but the listed signatures decides the reply of `witness`.
use Rattle.std.proofs.Common.{◌≡◌, ◌↔◌, ◌∙◌, ℕ, Bool, List, [], ◌∷◌, inl, inr, Option, Some, ap, arith, refl, subst, sym}
use Rattle.std.specs.Option.{option_map}
use Rattle.std.specs.Prelude.{Contains, map}
use Rattle.std.proofs.lemmas.List.Elements.{Contains-append_left, Contains-append_right}
use Rattle.sig_base.proofs.AcceptedRows.{accepted-rows}
use Rattle.sig_base.specs.ByText.{text_lookup, text_put}
use Rattle.sig_base.specs.Scheme.{name_of}
use Rattle.sig_base.specs.declared.checker.AcceptedRow.{AcceptedRow}
use Rattle.sig_base.specs.declared.checker.Operation.TheVariants.{Message}
use Rattle.sig_base.specs.declared.scheme.VerifyScheme.{VerifyScheme}
use Rattle.sig_key.specs.Key.{key_accepts, key_info, key_scheme}
use Rattle.sig_key.specs.declared.verification_key.CosignVerificationKey.{CosignVerificationKey}
use Rattle.sig_rekor.specs.NoteText.{note_text}
use Rattle.sig_rekor.specs.Refusals.{IsSigned}
use Rattle.sig_rekor.specs.declared.checkpoint.CheckpointSignature.{CheckpointSignature}
use Rattle.sig_reply.specs.declared.reply.Reply.{Reply}
use Rattle.sig_request.proofs.RequestTexts.{one_request}
use Rattle.sig_request.specs.ReadFrom.{IsRequestOf}
use Rattle.sig_witness.specs.Causes.{IsUpdateFault}
use Rattle.sig_witness.specs.KeptLogs.{log_key}
use Rattle.sig_witness.specs.Updates.{IsStep, IsTaken, Update, grown_log, new_head, origin_of}
use Rattle.sig_witness.specs.declared.error.WitnessError.{WitnessError}
use Rattle.sig_witness.specs.declared.kept_log.KeptLog.{KeptLog}
use Rattle.sig_witness_command.proofs.Listings.{one-update}
use Rattle.sig_witness_command.proofs.Lookups.{put-cases}
use Rattle.sig_witness_command.proofs.Replies.{made-walk}
use Rattle.sig_witness_command.proofs.DistinctRows.{first-or-later, here, later, once-has}
use Rattle.sig_witness_command.specs.Outcome.{IsOutcome, IsRefused, IsUpdate}
use Rattle.sig_witness_command.specs.Questions.{checkpoint_rows, note_rows, rows_under, signature_row, update_rows, witness_rows}
use Rattle.sig_witness_command.specs.Reply.{HasStart, IsReadAs, IsUnread, IsWitnessReply, IsWitnessedReply}
use Rattle.sig_witness_command.specs.Request.{witness_request}
use Rattle.sig_witness_command.specs.Start.{HasNoStart, IsStart, Logs}
use Rattle.sig_witness_command.specs.Suffice.{AgreeOnNotes, WitnessQuestionsSuffice, witness_with_accepted}
use Rattle.sig_witness_command.specs.Walk.{AreUpdates, IsTextStep, IsWalk, takes}
use Rattle.sig_witness_command.specs.declared.outcome.Outcome.{Outcome}
use Rattle.sig_witness_command.specs.declared.outcome.Outcome.TheVariants.{Accepted, Checkpoint, Origin, NoteKey, OldSize, Consistency, Full}
use Rattle.sig_witness_command.specs.declared.request.UpdateText.{UpdateText}
use Rattle.sig_witness_command.specs.declared.request.WitnessRequest.{WitnessRequest}

-- ---- keys stay

-- these logs have the keys of those
abbrev HaveKeys : Logs → Logs → Type 0
HaveKeys start logs =
    (origin : List ℕ) → option_map log_key (text_lookup origin logs) ≡ option_map log_key (text_lookup origin start)

keys-grown : (start logs : Logs) (update : Update) (log : KeptLog) → HaveKeys start logs
    → text_lookup (origin_of update) logs ≡ Some log
    → HaveKeys start (text_put (origin_of update) (grown_log log (new_head update)) logs)
keys-grown start logs update log keys at origin =
    elim (put-cases origin (origin_of update) (grown_log log (new_head update)) logs) [
      | inl (same, found) ↦
          ap (option_map log_key) found
          ∙ sym (ap (option_map log_key) (ap (λ o. text_lookup o logs) same ∙ at)) ∙ keys origin
      | inr (_, kept) ↦ ap (option_map log_key) kept ∙ keys origin
    ]

-- ---- two checkers that accept the signatures of updates alike

module _ (a b : VerifyScheme → List ℕ → List ℕ → List ℕ → Bool) (start : Logs) where
  -- under the key of its origin
  abbrev IsAlike : Update → Type 0
  IsAlike update =
      (key : CosignVerificationKey) → option_map log_key (text_lookup (origin_of update) start) ≡ Some key
      → IsSigned (key_accepts a key) update.checkpoint ↔ IsSigned (key_accepts b key) update.checkpoint

  its-key : (logs : Logs) (update : Update) (log : KeptLog) → HaveKeys start logs
      → text_lookup (origin_of update) logs ≡ Some log
      → option_map log_key (text_lookup (origin_of update) start) ≡ Some log.key
  its-key logs update log keys at = sym (keys (origin_of update)) ∙ ap (option_map log_key) at

  taken-same : (logs : Logs) (update : Update) (log : KeptLog) → HaveKeys start logs → IsAlike update
      → IsTaken a logs update log → IsTaken b logs update log
  taken-same logs update log keys alike is = record {
    kept = is.kept;
    signed = (alike log.key (its-key logs update log keys is.kept)).0 is.signed;
    last = is.last;
    is_last = is.is_last;
    old_size = is.old_size;
    grown = is.grown;
    room = is.room;
  }

  taken-back : (logs : Logs) (update : Update) (log : KeptLog) → HaveKeys start logs → IsAlike update
      → IsTaken b logs update log → IsTaken a logs update log
  taken-back logs update log keys alike is = record {
    kept = is.kept;
    signed = (alike log.key (its-key logs update log keys is.kept)).1 is.signed;
    last = is.last;
    is_last = is.is_last;
    old_size = is.old_size;
    grown = is.grown;
    room = is.room;
  }

  fault-same : (logs : Logs) (update : Update) (e : WitnessError) → HaveKeys start logs → IsAlike update
      → IsUpdateFault a logs update e → IsUpdateFault b logs update e
  fault-same logs update e keys alike (inl none) = inl none
  fault-same logs update e keys alike (inr (log, at, inl (unsigned, named))) =
      inr (
        log,
        at,
        inl (
          λ signed. unsigned ((alike log.key (its-key logs update log keys at)).1 signed),
          named,
        ),
      )
  fault-same logs update e keys alike (inr (log, at, inr (signed, rest))) =
      inr (log, at, inr ((alike log.key (its-key logs update log keys at)).0 signed, rest))

  refused-same : (logs : Logs) (text : UpdateText) (e : WitnessError) → HaveKeys start logs
      → ((update : Update) → IsUpdate text update → IsAlike update) → IsRefused a logs text e → IsRefused b logs text e
  refused-same logs text e keys alike is = record {
    update = is.update;
    is = is.is;
    fault = fault-same logs is.update e keys (alike is.update is.is) is.fault;
  }

  outcome-same : (logs : Logs) (text : UpdateText) (outcome : Outcome) → HaveKeys start logs
      → ((update : Update) → IsUpdate text update → IsAlike update) → IsOutcome a logs text outcome
      → IsOutcome b logs text outcome
  outcome-same logs text (Accepted size) keys alike is = record {
    update = is.update;
    is = is.is;
    log = is.log;
    taken = taken-same logs is.update is.log keys (alike is.update is.is) is.taken;
    size_is = is.size_is;
  }
  outcome-same logs text Checkpoint keys alike is = is
  outcome-same logs text Origin keys alike is = refused-same logs text _ keys alike is
  outcome-same logs text NoteKey keys alike is = refused-same logs text _ keys alike is
  outcome-same logs text (OldSize kept) keys alike is = refused-same logs text _ keys alike is
  outcome-same logs text Consistency keys alike (cause, is) = (cause, refused-same logs text _ keys alike is)
  outcome-same logs text Full keys alike is = refused-same logs text _ keys alike is

  step-same : (logs : Logs) (update : Update) (after : Logs) → HaveKeys start logs → IsAlike update
      → IsStep a logs update after → IsStep b logs update after × HaveKeys start after
  step-same logs update after keys alike (inl (log, taken, put)) = (
    inl (log, taken-same logs update log keys alike taken, put),
    subst (HaveKeys start) (sym put) (keys-grown start logs update log keys taken.kept),
  )
  step-same logs update after keys alike (inr (none, same)) = (
    inr (λ log taken. none log (taken-back logs update log keys alike taken), same),
    subst (HaveKeys start) (sym same) keys,
  )

  text-same : (logs : Logs) (text : UpdateText) (after : Logs) → HaveKeys start logs
      → ((update : Update) → IsUpdate text update → IsAlike update) → IsTextStep a logs text after
      → IsTextStep b logs text after × HaveKeys start after
  text-same logs text after keys alike (inl (unread, same)) =
      (inl (unread, same), subst (HaveKeys start) (sym same) keys)
  text-same logs text after keys alike (inr (update, read, step)) =
      let (other, still) = step-same logs update after keys (alike update read) step in
      (inr (update, read, other), still)

  walk-same : (logs : Logs) (texts : List UpdateText) (outcomes : List Outcome) (after : Logs) → HaveKeys start logs
      → (updates : List Update) → AreUpdates texts updates → ((update : Update) → Contains updates update → IsAlike update)
      → IsWalk a logs texts outcomes after → IsWalk b logs texts outcomes after
  walk-same logs [] outcomes after keys updates are alike is = is
  walk-same logs (text ∷ later) outcomes after keys updates are alike (outcome, next, others, split, (is, step), rest) =
      let each : (update : Update) → IsUpdate text update → IsAlike update = λ update read.
      (elim are [
        | inl (unread, _) ↦ absurd (unread (update.checkpoint, read.read))
        | inr (first, also, (more, cut, _)) ↦
            alike update (subst (λ (us : List Update). Contains us update) (sym cut)
            (Contains-append_left (first ∷ []) more update
            (subst (Contains (first ∷ [])) (one-update text first update also read) (here first []))))
      ]) in
      let (other, still) = text-same logs text next keys each step in
      let remaining : (us : List Update) × AreUpdates later us × ((update : Update) → Contains us update → IsAlike update) =
      (elim are [
        | inl (_, same) ↦ (updates, same, alike)
        | inr (first, _, (more, cut, same)) ↦ (
          more,
          same,
          λ update there. alike update (subst (λ (us : List Update). Contains us update) (sym cut)
              (Contains-append_right (first ∷ []) more update there)),
        )
      ]) in
      let (us, us_are, us_alike) = remaining in (
        outcome,
        next,
        others,
        split,
        (outcome-same logs text outcome keys each is, other),
        walk-same next later others after still us us_are us_alike rest,
      )

-- ---- a request with other accepted signatures

in-mapped : {X Y : Type 0} (f : X → Y) (xs : List X) (x : X) → Contains xs x → Contains (map f xs) (f x)
in-mapped {X} f [] x there = absurd (omega (arith, there.1))
in-mapped {X} f (y ∷ ys) x there = elim (first-or-later y x ys there) [
  | inl same ↦ subst (λ (z : X). Contains (f y ∷ map f ys) (f z)) same (here (f y) (map f ys))
  | inr after ↦ later (f y) (f x) (map f ys) (in-mapped f ys x after)
]

in-updates : (start : Logs) (updates : List Update) (update : Update) (row : AcceptedRow) → Contains updates update
    → Contains (checkpoint_rows start update.checkpoint) row → Contains (update_rows start updates) row
in-updates start [] update row there inside = absurd (omega (arith, there.1))
in-updates start (first ∷ rest) update row there inside = elim (first-or-later first update rest there) [
  | inl same ↦
      Contains-append_left (checkpoint_rows start first.checkpoint) (update_rows start rest) row
      (subst (λ (u : Update). Contains (checkpoint_rows start u.checkpoint) row) (sym same) inside)
  | inr after ↦
      Contains-append_right (checkpoint_rows start first.checkpoint) (update_rows start rest) row
      (in-updates start rest update row after inside)
]

listed-row : (start : Logs) (updates : List Update) (update : Update) (key : CosignVerificationKey)
    (signature : CheckpointSignature) → Contains updates update
    → option_map log_key (text_lookup (origin_of update) start) ≡ Some key
    → Contains update.checkpoint.signatures signature
    → Contains (witness_rows start updates) (signature_row key update.checkpoint signature)
listed-row start updates update key signature there at inside =
    let row = signature_row key update.checkpoint signature in
    let mapped : Contains (note_rows key update.checkpoint) row =
    in-mapped (signature_row key update.checkpoint) update.checkpoint.signatures signature inside in
    let under : Contains (checkpoint_rows start update.checkpoint) row =
    subst (λ (found : Option CosignVerificationKey). Contains (rows_under found update.checkpoint) row) (sym at) mapped in
    once-has [] (update_rows start updates) row (in-updates start updates update row there under)

signed-same : (one other : List AcceptedRow) (start : Logs) (updates : List Update) (update : Update)
    (key : CosignVerificationKey) → Contains updates update
    → option_map log_key (text_lookup (origin_of update) start) ≡ Some key
    → ((row : AcceptedRow) → Contains (witness_rows start updates) row → Contains one row → Contains other row)
    → IsSigned (key_accepts (takes one) key) update.checkpoint
    → IsSigned (key_accepts (takes other) key) update.checkpoint
signed-same one other start updates update key there at agree (place, signature, below, is, holds) =
    let note = note_text update.checkpoint.note in
    let row = signature_row key update.checkpoint signature in
    let had = (accepted-rows one Message (name_of (key_scheme key)) (key_info key) note signature.raw).0 holds in
    let asked = listed-row start updates update key signature there at (place, below, is) in
    let has = agree row asked had in (
      place,
      signature,
      below,
      is,
      (accepted-rows other Message (name_of (key_scheme key)) (key_info key) note signature.raw).1 has,
    )

start-same : (request : WitnessRequest) (rows : List AcceptedRow) (start : Logs) → IsStart request start
    → IsStart (witness_with_accepted request rows) start
start-same request rows start is = record { kept = is.kept; state = is.state; added = is.added }

module _ (request : WitnessRequest) (rows : List AcceptedRow) where
  abbrev changed : WitnessRequest
  changed = witness_with_accepted request rows

  module _ (text other : List ℕ) (is : IsRequestOf witness_request text request)
      (other_is : IsRequestOf witness_request other changed) (agree : AgreeOnNotes request rows) where
    made-same : (start : Logs) (reply : Reply) → IsStart request start → IsWitnessedReply request start reply
        → IsWitnessedReply changed start reply
    made-same start reply starts made =
        let alike : (update : Update) → Contains made.updates update
        → IsAlike (takes request.accepted) (takes rows) start update = λ update there key at. (
          signed-same request.accepted rows start made.updates update key there at
              (λ row asked. (agree start made.updates starts made.are row asked).0),
          signed-same rows request.accepted start made.updates update key there at
              (λ row asked. (agree start made.updates starts made.are row asked).1),
        ) in
        made-walk changed start made.outcomes made.after reply
        (walk-same (takes request.accepted) (takes rows) start start request.updates made.outcomes made.after
        (λ origin. refl) made.updates made.are alike made.walk)
        made.made

    has-other : HasStart text → HasStart other
    has-other has =
        let same = one_request witness_request text has.request request has.is.meant is in
        let starts = subst (λ (r : WitnessRequest). IsStart r has.start) same has.is.starts in
        record {
          request = changed;
          start = has.start;
          is = record { meant = other_is; starts = start-same request rows has.start starts };
        }

    unread-other : IsUnread text → IsUnread other
    unread-other (inl none) = absurd (none request is)
    unread-other (inr (r, meant, stops)) =
        inr (changed, other_is, subst HasNoStart (one_request witness_request text r request meant is) stops)

    replied-other : (reply : Reply)
        → ((r : WitnessRequest) (start : Logs) → IsReadAs text r start → IsWitnessedReply r start reply)
        → (r : WitnessRequest) (start : Logs) → IsReadAs other r start → IsWitnessedReply r start reply
    replied-other reply made r start read =
        let same = one_request witness_request other changed r other_is read.meant in
        let starts = subst (λ (q : WitnessRequest). IsStart q start) (sym same) read.starts in
        let back = start-same changed request.accepted start starts in
        subst (λ (q : WitnessRequest). IsWitnessedReply q start reply) same
        (made-same start reply back (made request start (record { meant = is; starts = back })))

back-agree : (request : WitnessRequest) (rows : List AcceptedRow) → AgreeOnNotes request rows
    → AgreeOnNotes (witness_with_accepted request rows) request.accepted
back-agree request rows agree start updates starts are row inside =
    let back = start-same (witness_with_accepted request rows) request.accepted start starts in
    let both = agree start updates back are row inside in (both.1, both.0)

one-way : (text other : List ℕ) (request : WitnessRequest) (rows : List AcceptedRow)
    → IsRequestOf witness_request text request
    → IsRequestOf witness_request other (witness_with_accepted request rows) → AgreeOnNotes request rows
    → (reply : Reply) → IsWitnessReply text reply → IsWitnessReply other reply
one-way text other request rows is other_is agree reply made =
    let new : WitnessRequest = witness_with_accepted request rows in
    let back = back-agree request rows agree in
    let unread_back = unread-other new request.accepted other text other_is is back in
    record {
      decided = elim made.decided [
        | inl has ↦ inl (has-other request rows text other is other_is agree has)
        | inr none ↦ inr (unread-other request rows text other is other_is agree none)
      ];
      replied = replied-other request rows text other is other_is agree reply made.replied;
      refused = λ none. made.refused (unread_back none);
      status = (
        λ two. unread-other request rows text other is other_is agree (made.status.0 two),
        λ none. made.status.1 (unread_back none),
      );
    }

pub witness_suffices : WitnessQuestionsSuffice
witness_suffices text other request rows is other_is agree reply = (
  one-way text other request rows is other_is agree reply,
  one-way other text (witness_with_accepted request rows) request.accepted other_is is (back-agree request rows agree)
      reply,
)
