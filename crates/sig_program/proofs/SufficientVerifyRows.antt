-- Nothing but the listed signatures decides the reply of `verify`.
use Rattle.std.proofs.Common.{◌≡◌, ◌↔◌, ℕ, List, [], subst}
use Rattle.std.specs.Cmp.{both_ways}
use Rattle.std.specs.Prelude.{Contains}
use Rattle.sig_base.proofs.AcceptedRows.{accepted-rows}
use Rattle.sig_base.specs.Checker.{accepted}
use Rattle.sig_base.specs.Scheme.{name_of}
use Rattle.sig_base.specs.declared.checker.AcceptedRow.{AcceptedRow}
use Rattle.sig_base.specs.declared.checker.Operation.{Operation}
use Rattle.sig_base.specs.declared.checker.Operation.TheVariants.{Message, Prehash, Point, Certificate}
use Rattle.sig_questions.specs.Asked.{IsAskedBy}
use Rattle.sig_questions.specs.Questions.{AgreeWhere, QuestionsSuffice}
use Rattle.sig_questions.specs.Rows.{certificate_row, message_row, point_row, prehash_row}
use Rattle.sig_verify.specs.declared.link.Link.{Link}
use Rattle.sig_verify.specs.declared.logged_entry.LoggedEntry.{LoggedEntry}
use Rattle.sig_base.proofs.AcceptedRows.{as_row}
use Rattle.sig_program.proofs.SufficientLogRows.{AreAlike, alike-other, alike-reply}
use Rattle.sig_request.proofs.RequestTexts.{one_request}
use Rattle.sig_program.specs.Reply.{IsEntryIn, IsVerifiedReply}
use Rattle.sig_program.specs.Suffice.{AgreeOnAsked, VerifyQuestionsSuffice, verify_with_accepted}
use Rattle.sig_program.specs.VerifyLink.{HoldsOfVerify, checker, inputs, policy}
use Rattle.sig_request.specs.VerifyRequest.{verify_request}
use Rattle.sig_program.specs.declared.command.Command.TheVariants.{Verify}
use Rattle.sig_reply.specs.declared.reply.Reply.{Reply}
use Rattle.sig_request.specs.declared.verify_request.VerifyRequest.{VerifyRequest}
use Rattle.sig_request.specs.ReadFrom.{IsRequestOf}

-- ---- the checkers of two lists that agree on what is asked

same-accepted : (one other : List AcceptedRow) (o : Operation) (s k m g : List ℕ)
    → Contains one (as_row o s k m g) ↔ Contains other (as_row o s k m g)
    → accepted one o s k m g ≡ accepted other o s k m g
same-accepted one other o s k m g same =
    let here = accepted-rows one o s k m g in
    let there = accepted-rows other o s k m g in
    both_ways (accepted one o s k m g) (accepted other o s k m g) (λ e. there.1 (same.0 (here.0 e)))
    (λ e. here.1 (same.1 (there.0 e)))

agree : (request : VerifyRequest) (rows : List AcceptedRow) → AgreeOnAsked request rows
    → AgreeWhere (IsAskedBy (inputs request)) (checker request) (checker (verify_with_accepted request rows))
agree request rows same = record {
  message = λ scheme spki message signature asks.
      same-accepted request.accepted rows Message (name_of scheme) spki message signature
      (same (message_row scheme spki message signature) asks);
  prehash = λ scheme spki digest signature asks.
      same-accepted request.accepted rows Prehash (name_of scheme) spki digest signature
      (same (prehash_row scheme spki digest signature) asks);
  point = λ point message signature asks.
      same-accepted request.accepted rows Point [] point message signature
      (same (point_row point message signature) asks);
  certificate = λ issuer algorithm tbs signature asks.
      same-accepted request.accepted rows Certificate algorithm issuer tbs signature
      (same (certificate_row issuer algorithm tbs signature) asks);
}

-- ---- texts of the same links

holds-same : (request : VerifyRequest) (rows : List AcceptedRow) → QuestionsSuffice → AgreeOnAsked request rows
    → (link : Link) → HoldsOfVerify request link ↔ HoldsOfVerify (verify_with_accepted request rows) link
holds-same request rows suffice same =
    (suffice (inputs request) (checker request) (checker (verify_with_accepted request rows)) (policy request)
    (agree request rows same)).each

-- what the reply shows of a request
abbrev Shows : Reply → VerifyRequest → Type 0
Shows reply request = (offline : LoggedEntry) × IsEntryIn request offline × IsVerifiedReply request offline reply

verify-alike : (text other : List ℕ) (request : VerifyRequest) (rows : List AcceptedRow) → QuestionsSuffice
    → IsRequestOf verify_request text request → IsRequestOf verify_request other (verify_with_accepted request rows)
    → AgreeOnAsked request rows → AreAlike Verify text other
verify-alike text other request rows suffice is other_is same =
    let changed : VerifyRequest = verify_with_accepted request rows in
    record {
      holds = λ link. (
        λ h. (
          changed,
          other_is,
          (holds-same request rows suffice same link).0
              (subst (λ (r : VerifyRequest). HoldsOfVerify r link)
              (one_request verify_request text h.0 request h.1 is) h.2),
        ),
        λ h. (
          request,
          is,
          (holds-same request rows suffice same link).1
              (subst (λ (r : VerifyRequest). HoldsOfVerify r link)
              (one_request verify_request other h.0 changed h.1 other_is) h.2),
        ),
      );
      succeeds = λ reply. (
        λ s. λ r r_is. subst (Shows reply) (one_request verify_request other changed r other_is r_is) (s request is),
        λ s. λ r r_is. subst (Shows reply) (one_request verify_request text request r is r_is) (s changed other_is),
      );
    }

pub verify_questions_suffice : QuestionsSuffice → VerifyQuestionsSuffice
verify_questions_suffice suffice text other request rows is other_is same reply =
    let alike = verify-alike text other request rows suffice is other_is same in (
      alike-reply Verify text other alike reply,
      alike-reply Verify other text (alike-other Verify text other alike) reply,
    )
