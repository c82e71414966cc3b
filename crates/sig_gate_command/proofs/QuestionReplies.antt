-- The reply of `questions gate`, from what its request is and whether the list has room.
use Rattle.std.proofs.Common.{◌≡◌, ◌<◌, ◌≤◌, ◌+◌, ◌∙◌, ℕ, List, length, inl, inr, Option, Some, None, Result, IfOk, ap, arith, refl, subst, sym}
use Rattle.std.proofs.lemmas.Result.{IfOk-weaker}
use Rattle.sig_base.specs.declared.checker.AcceptedRow.{AcceptedRow}
use Rattle.sig_base.specs.declared.memory.OutOfMemory.{OutOfMemory}
use Rattle.sig_gate_command.proofs.AskedRows.{all-rows-one}
use Rattle.sig_gate_command.proofs.Replies.{long-manifest, no-manifest}
use Rattle.sig_gate_command.proofs.Requests.{one_manifest}
use Rattle.sig_gate_command.specs.Questions.{AreGateRows, AreWithin, Fit, HasQuestions, IsAskedOf}
use Rattle.sig_gate_command.specs.Questions.{IsGateQuestionsReply, IsQuestionsDocument, IsUnasked, each_once, gate_inputs}
use Rattle.sig_gate_command.specs.Request.{IsGateText, IsReadFrom}
use Rattle.sig_gate_command.specs.Suffice.{GateListsAreGivenBack}
use Rattle.sig_gate_command.specs.declared.request.GateRequest.{GateRequest}
use Rattle.sig_manifest.specs.Read.{Parts}
use Rattle.sig_questions.specs.Questions.{QuestionsAreOneList}
use Rattle.sig_reply.proofs.FittingLists.{wherever_put}
use Rattle.sig_reply.proofs.RowsTexts.{fits-beside}
use Rattle.sig_reply.specs.Reply.{listed, no_request}
use Rattle.sig_reply.specs.RowsText.{IsReadBack, room_beside, rows_text}
use Rattle.sig_reply.specs.declared.reply.Reply.{Reply}
use Rattle.sig_request.specs.Limit.{most_bytes}

-- ---- a text is asked of in one way

never : (text : List ℕ) → HasQuestions text → IsUnasked text → ⊥
never text has (inl unread) = unread has.parts has.of.is
never text has (inr none) =
    let same : has.parts ≡ none.parts = one_manifest text has.parts none.parts has.of.is none.is in
    none.past has.rows (subst (λ (p : Parts). AreGateRows p.0 has.rows) same has.of.are) has.fit

asked : QuestionsAreOneList → (P : List AcceptedRow → Type 0) (text : List ℕ) (a b : Parts) (xs ys : List AcceptedRow)
    → IsAskedOf text a xs → IsAskedOf text b ys → P xs → P ys
asked one P text a b xs ys is other holds =
    let same : a ≡ b = one_manifest text a b is.is other.is in
    let are : AreGateRows b.0 xs = subst (λ (p : Parts). AreGateRows p.0 xs) same is.are in
    subst P (all-rows-one one (gate_inputs b.0) xs ys are other.are) holds

-- ---- the replies

unasked : (text : List ℕ) (reply : Reply) → IsUnasked text → reply ≡ no_request → IsGateQuestionsReply text reply
unasked text reply none same = record {
  decided = inr none;
  succeeds = (
    λ zero. absurd (let e : no_request.status ≡ 0 = sym (ap (λ (r : Reply). r.status) same) ∙ zero in cc),
    λ has. absurd (never text has none),
  );
  lists = λ parts rows of has. absurd (never text has none);
  refused = λ _. same;
}

listing : QuestionsAreOneList → (text : List ℕ) (parts : Parts) (rows : List AcceptedRow) (reply : Reply)
    → IsAskedOf text parts rows → Fit text rows → IsReadBack (each_once rows)
    → reply ≡ listed (rows_text (each_once rows)) → IsGateQuestionsReply text reply
listing one text parts rows reply of fit back made =
    let has : HasQuestions text = record { parts = parts; rows = rows; of = of; fit = fit } in
    record {
      decided = inl has;
      succeeds = (λ _. has, λ _. ap (λ (r : Reply). r.status) made);
      lists = λ other all other_of _.
          asked one (λ xs. IsReadBack (each_once xs) × (reply ≡ listed (rows_text (each_once xs)))) text parts other rows
          all of other_of (back, made);
      refused = λ none. absurd (never text has none);
    }

module _ (one : QuestionsAreOneList) (text : List ℕ) (parts : Parts) (most : ℕ) (room : most ≡ room_beside text)
    (is : IsGateText text parts) where
  pub document-listed : (document : List ℕ) (found : Option (List ℕ)) (r : Result Reply OutOfMemory)
      → found ≡ Some document → IsQuestionsDocument most parts.0 found → IfOk r (λ reply. reply ≡ listed document)
      → IfOk r (IsGateQuestionsReply text)
  document-listed document found r which found_is =
      let is_document : IsQuestionsDocument most parts.0 (Some document) =
      subst (IsQuestionsDocument most parts.0) which found_is in
      let (rows, are, few, written) = is_document in
      let short : length (rows_text (each_once rows)) ≤ room_beside text =
      omega (arith, written.1, ap length written.0, room) in
      let fit : Fit text rows = record { few = few; beside = fits-beside text (each_once rows) short } in
      IfOk-weaker r (λ reply. reply ≡ listed document) (IsGateQuestionsReply text)
      (λ reply same. listing one text parts rows reply (record { is = is; are = are }) fit written.2
      (same ∙ ap listed written.0))

  within : (rows : List AcceptedRow) → Fit text rows → AreWithin most rows
  within rows fit = record { few = fit.few; short = omega (arith, fit.beside, room) }

  pub document-past : (found : Option (List ℕ)) (r : Result Reply OutOfMemory) → found ≡ None
      → IsQuestionsDocument most parts.0 found → IfOk r (λ reply. reply ≡ no_request)
      → IfOk r (IsGateQuestionsReply text)
  document-past found r which found_is =
      let none : IsQuestionsDocument most parts.0 None = subst (IsQuestionsDocument most parts.0) which found_is in
      IfOk-weaker r (λ reply. reply ≡ no_request) (IsGateQuestionsReply text)
      (λ reply. unasked text reply
      (inr (record { parts = parts; is = is; past = λ rows are fit. none rows are (within rows fit) })))

pub no-manifest-asked : (text : List ℕ) (found : Option GateRequest) (r : Result Reply OutOfMemory)
    → IfOk r (λ reply. reply ≡ no_request) → found ≡ None → IsReadFrom text found → IfOk r (IsGateQuestionsReply text)
no-manifest-asked text found r made none read =
    IfOk-weaker r (λ reply. reply ≡ no_request) (IsGateQuestionsReply text)
    (λ reply. unasked text reply (inl (no-manifest text found none read))) made

pub long-questions : (text : List ℕ) → most_bytes + 1 ≤ length text → IsGateQuestionsReply text no_request
long-questions text long = unasked text no_request (inl (long-manifest text long)) refl

-- ---- a list that is written can be given back

pub lists_given_back : GateListsAreGivenBack
lists_given_back front after list reply is lists =
    let has = is.succeeds.0 (ap (λ (r : Reply). r.status) lists) in
    let made = is.lists has.parts has.rows has.of has in
    wherever_put front after list (each_once has.rows) (sym lists ∙ made.1) has.fit.beside

-- ---- the status is small

pub questions-small : (text : List ℕ) (reply : Reply) → IsGateQuestionsReply text reply → reply.status < 3
questions-small text reply is =
    elim is.decided [
      | inl has ↦ let zero = is.succeeds.1 has in omega (arith, zero)
      | inr none ↦ let two = ap (λ (r : Reply). r.status) (is.refused none) in omega (arith, two)
    ]
