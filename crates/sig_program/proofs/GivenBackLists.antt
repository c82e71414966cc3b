-- A list that is written fits one request with the request that it is of.
use Rattle.std.proofs.Common.{◌≡◌, ◌∙◌, ℕ, List, ◌++◌, ap, subst, sym}
use Rattle.sig_questions.specs.Questions.{question_links}
use Rattle.sig_verify.proofs.JudgedLaws.{all_as, alike_each}
use Rattle.sig_program.proofs.VerifyQuestionReplies.{of-request}
use Rattle.sig_program.specs.GivenBack.{ListsAreGivenBack}
use Rattle.sig_program.specs.Link.{EveryLinkHolds}
use Rattle.sig_program.specs.Reply.{IsReplyByLinks}
use Rattle.sig_reply.specs.Reply.{listed}
use Rattle.sig_reply.proofs.FittingLists.{wherever_put}
use Rattle.sig_reply.specs.RowsText.{FitsBeside}
use Rattle.sig_program.specs.VerifyQuestions.{HoldsOfVerifyQuestions, HoldsVerifyQuestions}
use Rattle.sig_program.specs.declared.command.Command.{Command}
use Rattle.sig_program.specs.declared.command.Command.TheVariants.{LogQuestions, VerifyQuestions, ConsistencyQuestions}
use Rattle.sig_reply.specs.declared.reply.Reply.{Reply}

-- a reply that lists is that of a text of which every link holds
every : (command : Command) (text list : List ℕ) (reply : Reply) → IsReplyByLinks command text reply → reply ≡ listed list
    → EveryLinkHolds command text
every command text list reply is lists = is.succeeds.0 (ap (λ (r : Reply). r.status) lists)

pub log_lists : ListsAreGivenBack LogQuestions
log_lists front after list reply is lists =
    let hold = every LogQuestions (front ++ after) list reply is lists in
    let its = is.vouched hold hold.0.0 hold.0.1 in
    let fits : FitsBeside (front ++ after) its.0 =
    subst (FitsBeside (front ++ after)) (sym its.1.2) (hold.0.2 its.1.0 its.1.1) in
    wherever_put front after list its.0 (sym lists ∙ its.3) fits

pub consistency_lists : ListsAreGivenBack ConsistencyQuestions
consistency_lists front after list reply is lists =
    let hold = every ConsistencyQuestions (front ++ after) list reply is lists in
    let its = is.vouched hold hold.0.0 hold.0.1 in
    let fits : FitsBeside (front ++ after) its.0 =
    subst (FitsBeside (front ++ after)) (sym its.1.2) (hold.0.2 its.1.0 its.1.1) in
    wherever_put front after list its.0 (sym lists ∙ its.3) fits

pub verify_lists : ListsAreGivenBack VerifyQuestions
verify_lists front after list reply is lists =
    let text = front ++ after in
    let hold = every VerifyQuestions text list reply is lists in
    let its = is.vouched hold hold.0.0 hold.0.1 in
    let none_fail = all_as (HoldsVerifyQuestions text) (HoldsOfVerifyQuestions text hold.0.0) question_links
    (alike_each (HoldsVerifyQuestions text) (HoldsOfVerifyQuestions text hold.0.0) question_links
    (λ l. of-request text hold.0.0 l hold.0.1)) hold.1 in
    wherever_put front after list its.0 (sym lists ∙ its.5) (hold.0.2 none_fail its.0 its.1)
