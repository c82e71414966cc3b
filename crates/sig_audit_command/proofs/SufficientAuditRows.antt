-- Nothing but the listed signatures decides the reply of `audit`.
use Rattle.std.proofs.Common.{zero, suc, ◌≡◌, ◌<◌, ◌↔◌, ◌+◌, ◌∙◌, ℕ, Bool, true, false, List, [], ◌∷◌, ◌++◌, length, map, get_or, inl, inr}
use Rattle.std.proofs.Common.{Option, Some, None, Result, Ok, Err, ap, arith, refl, subst, sym}
use Rattle.std.specs.List.{AllByRecursion, list_any}
use Rattle.std.specs.Prelude.{Contains}
use Rattle.sig_audit.proofs.AuditAnswers.{audit-is, audit-only}
use Rattle.sig_audit.specs.Answer.{audit_answer, first_error, head_answer}
use Rattle.sig_audit.specs.Audited.{IsAudited}
use Rattle.sig_audit.specs.Faults.{IsAuditAnswer, IsAuditFault}
use Rattle.sig_audit.specs.declared.error.AuditError.{AuditError}
use Rattle.sig_audit.specs.declared.heads.AuditHead.{AuditHead}
use Rattle.sig_audit.specs.declared.heads.Watch.{Watch}
use Rattle.sig_base.proofs.AcceptedRows.{accepted-rows}
use Rattle.sig_base.specs.Scheme.{name_of, scheme_of}
use Rattle.sig_base.specs.declared.checker.AcceptedRow.{AcceptedRow}
use Rattle.sig_base.specs.declared.checker.Operation.TheVariants.{Message}
use Rattle.sig_rekor.specs.NoteText.{note_text}
use Rattle.sig_rekor.specs.Verify.{has_accepted_signature}
use Rattle.sig_rekor.specs.declared.checkpoint.CheckpointSignature.{CheckpointSignature}
use Rattle.sig_rekor.specs.declared.checkpoint.SignedCheckpoint.{SignedCheckpoint}
use Rattle.sig_reply.specs.declared.reply.Reply.{Reply}
use Rattle.sig_request.proofs.RequestTexts.{one_request}
use Rattle.sig_request.specs.AuditRequest.{audit_request}
use Rattle.sig_request.specs.ReadFrom.{IsRequestOf}
use Rattle.sig_request.specs.declared.audit_request.AuditRequest.{AuditRequest}
use Rattle.sig_audit_command.proofs.AuditReplies.{audited-ok}
use Rattle.sig_audit_command.proofs.Replies.{decided-as}
use Rattle.sig_audit_command.specs.Heads.{AreHeads, IsFirstUnread, accepts}
use Rattle.sig_audit_command.specs.Line.{IsAuditedReply}
use Rattle.sig_audit_command.specs.Link.{EndsAt, EveryLinkHolds, IsFirstFailing, IsReadAs, IsUnread}
use Rattle.sig_audit_command.specs.Questions.{audit_rows, head_row, note_rows}
use Rattle.sig_audit_command.specs.Reply.{IsAuditReply, Succeeds}
use Rattle.sig_audit_command.specs.Suffice.{AgreeOnHeads, AuditQuestionsSuffice, audit_with_accepted}
use Rattle.sig_audit_command.specs.declared.link.AuditLink.{AuditLink}

-- ---- lists

all-contained : {X : Type 0} (P : X → Type 0) (xs : List X) → ((x : X) → Contains xs x → P x) → AllByRecursion P xs
all-contained P [] each = tt
all-contained P (x ∷ xs) each = (
  each x (0, omega arith, refl),
  all-contained P xs (λ y inside. each y (suc inside.0, omega (arith, inside.1), inside.2)),
)

all-parts : {X : Type 0} (P : X → Type 0) (xs ys : List X) → AllByRecursion P (xs ++ ys)
    → AllByRecursion P xs × AllByRecursion P ys
all-parts P [] ys all = (tt, all)
all-parts P (x ∷ xs) ys all = let rest = all-parts P xs ys all.1 in ((all.0, rest.0), rest.1)

all-mapped : {X Y : Type 0} (P : Y → Type 0) (f : X → Y) (xs : List X) → AllByRecursion P (map f xs)
    → AllByRecursion (λ x. P (f x)) xs
all-mapped P f [] all = tt
all-mapped P f (x ∷ xs) all = (all.0, all-mapped P f xs all.1)

any-same : {X : Type 0} (p q : X → Bool) (xs : List X) → AllByRecursion (λ x. p x ≡ q x) xs
    → list_any p xs ≡ list_any q xs
any-same p q [] all = refl
any-same p q (x ∷ xs) all = rw (all.0, any-same p q xs all.1) refl

same-bool : (a b : Bool) → (a ≡ true → b ≡ true) → (b ≡ true → a ≡ true) → a ≡ b
same-bool true b there back = sym (there refl)
same-bool false true there back = back refl
same-bool false false there back = refl

all-more : {X : Type 0} (P Q : X → Type 0) (xs : List X) → ((x : X) → P x → Q x) → AllByRecursion P xs
    → AllByRecursion Q xs
all-more P Q [] more all = tt
all-more P Q (x ∷ xs) more all = (more x all.0, all-more P Q xs more all.1)

-- ---- two tables of which the signatures of a head are accepted alike

abbrev SignedAlike : (List ℕ → List ℕ → Bool) → (List ℕ → List ℕ → Bool) → AuditHead → Type 0
SignedAlike a b head = has_accepted_signature a head.checkpoint ≡ has_accepted_signature b head.checkpoint

module _ (a b : List ℕ → List ℕ → Bool) where
  head-same : (first : AuditHead) (before : Option AuditHead) (place : ℕ) (head : AuditHead) → SignedAlike a b head
      → head_answer a first before place head ≡ head_answer b first before place head
  unfolding head_answer
  head-same first before place head same = rw same refl

  first-same : (first : AuditHead) (before : Option AuditHead) (place : ℕ) (heads : List AuditHead)
      → AllByRecursion (SignedAlike a b) heads
      → first_error (head_answer a first) before place heads ≡ first_error (head_answer b first) before place heads
  unfolding first_error
  first-same first before place [] all = refl
  first-same first before place (head ∷ later) all =
      rw (head-same first before place head all.0, first-same first (Some head) (place + 1) later all.1) refl

  answers-same : (heads : List AuditHead) (watched : List Watch) → AllByRecursion (SignedAlike a b) heads
      → audit_answer a heads watched ≡ audit_answer b heads watched
  unfolding audit_answer
  answers-same [] watched all = refl
  answers-same (first ∷ later) watched all = rw (first-same first None 0 (first ∷ later) all) refl

  answer-same : (heads : List AuditHead) (watched : List Watch) (x : Result ℕ AuditError)
      → AllByRecursion (SignedAlike a b) heads → IsAuditAnswer a heads watched x → IsAuditAnswer b heads watched x
  answer-same heads watched x all is =
      subst (IsAuditAnswer b heads watched)
      (sym (answers-same heads watched all) ∙ audit-only a heads watched x is) (audit-is b heads watched)

  audited-same : (heads : List AuditHead) (watched : List Watch) → AllByRecursion (SignedAlike a b) heads
      → IsAudited a heads watched → IsAudited b heads watched
  audited-same heads watched all is =
      let found = audited-ok a heads watched is in (answer-same heads watched (Ok found.0) all found.1).0

-- ---- a request with other accepted signatures

-- what is listed of it is the same
rows-same : (request : AuditRequest) (rows : List AcceptedRow) (heads : List AuditHead)
    → audit_rows (audit_with_accepted request rows) heads ≡ audit_rows request heads
rows-same request rows [] = refl
rows-same request rows (head ∷ later) =
    ap (λ rest. note_rows request head.checkpoint ++ rest) (rows-same request rows later)

module _ (request : AuditRequest) (rows : List AcceptedRow) where
  abbrev changed : AuditRequest
  changed = audit_with_accepted request rows

  abbrev Agrees : AcceptedRow → Type 0
  Agrees row = Contains request.accepted row ↔ Contains rows row

  accepted-same : (checkpoint : SignedCheckpoint) (signature : CheckpointSignature)
      → Agrees (head_row request checkpoint signature)
      → accepts request (note_text checkpoint.note) signature.raw ≡ accepts changed (note_text checkpoint.note) signature.raw
  accepted-same checkpoint signature agree =
      let one = accepted-rows request.accepted Message (name_of (scheme_of request.scheme)) request.key
      (note_text checkpoint.note) signature.raw in
      let other = accepted-rows rows Message (name_of (scheme_of request.scheme)) request.key
      (note_text checkpoint.note) signature.raw in
      same-bool _ _ (λ e. other.1 (agree.0 (one.0 e))) (λ e. one.1 (agree.1 (other.0 e)))

  checkpoint-same : (checkpoint : SignedCheckpoint) → AllByRecursion Agrees (note_rows request checkpoint)
      → has_accepted_signature (accepts request) checkpoint ≡ has_accepted_signature (accepts changed) checkpoint
  unfolding has_accepted_signature
  checkpoint-same checkpoint all =
      any-same (λ (s : CheckpointSignature). accepts request (note_text checkpoint.note) s.raw)
      (λ (s : CheckpointSignature). accepts changed (note_text checkpoint.note) s.raw) checkpoint.signatures
      (all-more (λ s. Agrees (head_row request checkpoint s)) _ checkpoint.signatures
      (λ s. accepted-same checkpoint s)
      (all-mapped Agrees (head_row request checkpoint) checkpoint.signatures all))

  heads-same : (heads : List AuditHead) → AllByRecursion Agrees (audit_rows request heads)
      → AllByRecursion (SignedAlike (accepts request) (accepts changed)) heads
  heads-same [] all = tt
  heads-same (head ∷ later) all =
      let parts = all-parts Agrees (note_rows request head.checkpoint) (audit_rows request later) all in
      (checkpoint-same head.checkpoint parts.0, heads-same later parts.1)

  module _ (text other : List ℕ) (is : IsRequestOf audit_request text request)
      (other_is : IsRequestOf audit_request other changed) (agree : AgreeOnHeads request rows) where
    -- what a text is read as
    its : (r : AuditRequest) (heads : List AuditHead) → IsReadAs text r heads → (r ≡ request) × AreHeads request.heads heads
    its r heads read =
        let same = one_request audit_request text r request read.meant is in
        (same, subst (λ (q : AuditRequest). AreHeads q.heads heads) same read.read)

    alike : (heads : List AuditHead) → AreHeads request.heads heads
        → AllByRecursion (SignedAlike (accepts request) (accepts changed)) heads
    alike heads read = heads-same heads (all-contained Agrees (audit_rows request heads) (agree heads read))

    every-other : EveryLinkHolds text → EveryLinkHolds other
    every-other every =
        let read = its every.request every.heads every.is in
        let audited = subst (λ (q : AuditRequest). IsAudited (accepts q) every.heads q.watched) read.0 every.audited in
        record {
          request = changed;
          heads = every.heads;
          is = record { meant = other_is; read = read.1 };
          audited =
              audited-same (accepts request) (accepts changed) every.heads request.watched (alike every.heads read.1)
              audited;
        }

    ends-other : (link : AuditLink) → EndsAt text link → EndsAt other link
    ends-other link ends =
        let read = its ends.request ends.heads ends.is in
        let fails = subst (λ (q : AuditRequest). IsAuditFault (accepts q) ends.heads q.watched ends.e) read.0 ends.fault in
        record {
          request = changed;
          heads = ends.heads;
          is = record { meant = other_is; read = read.1 };
          e = ends.e;
          fault =
              answer-same (accepts request) (accepts changed) ends.heads request.watched (Err ends.e)
              (alike ends.heads read.1) fails;
          named = ends.named;
        }

    unread-other : (link : AuditLink) → IsUnread text link → IsUnread other link
    unread-other link (inl (_, none)) = absurd (none request is)
    unread-other link (inr (place, named, (r, meant, first))) =
        inr (
          place,
          named,
          (
            changed,
            other_is,
            subst (λ (q : AuditRequest). IsFirstUnread q.heads place)
                (one_request audit_request text r request meant is) first,
          ),
        )

    first-other : (link : AuditLink) → IsFirstFailing text link → IsFirstFailing other link
    first-other link (inl unread) = inl (unread-other link unread)
    first-other link (inr ends) = inr (ends-other link ends)

    succeeds-other : (reply : Reply) → Succeeds text reply → Succeeds other reply
    succeeds-other reply made r heads read =
        let same = one_request audit_request other changed r other_is read.meant in
        let heads_read : AreHeads request.heads heads =
        subst (λ (q : AuditRequest). AreHeads q.heads heads) (sym same) read.read in
        let shown = made request heads (record { meant = is; read = heads_read }) in
        subst (λ (q : AuditRequest). IsAuditedReply q heads reply) same shown

back-agree : (request : AuditRequest) (rows : List AcceptedRow) → AgreeOnHeads request rows
    → AgreeOnHeads (audit_with_accepted request rows) request.accepted
back-agree request rows agree heads read row inside =
    let both = agree heads read row (subst (λ (all : List AcceptedRow). Contains all row) (rows-same request rows heads)
    inside) in (both.1, both.0)

pub audit_suffices : AuditQuestionsSuffice
audit_suffices text other request rows is other_is agree reply =
    let new : AuditRequest = audit_with_accepted request rows in
    let back = back-agree request rows agree in
    let every = every-other request rows text other is other_is agree in
    let every_back = every-other new request.accepted other text other_is is back in
    let first = first-other request rows text other is other_is agree in
    let first_back = first-other new request.accepted other text other_is is back in (
      decided-as (EveryLinkHolds text) (IsFirstFailing text) (Succeeds text) (EveryLinkHolds other)
          (IsFirstFailing other) (Succeeds other) every every_back first first_back
          (succeeds-other request rows text other is other_is agree) reply,
      decided-as (EveryLinkHolds other) (IsFirstFailing other) (Succeeds other) (EveryLinkHolds text)
          (IsFirstFailing text) (Succeeds text) every_back every first_back first
          (succeeds-other new request.accepted other text other_is is back) reply,
    )
