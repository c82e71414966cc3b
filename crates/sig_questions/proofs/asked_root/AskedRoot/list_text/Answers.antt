use Rattle.std.proofs.Common.{Err, subst, sym}
use Rattle.sig_questions.proofs.Calls.{bundle_unread, none_told}
use Rattle.sig_questions.specs.Questions.{IsDecided}
use Rattle.sig_questions.specs.declared.listing.NoQuestions.{NoQuestions}
use Rattle.sig_verify.specs.Links.{Inputs}
use Rattle.sig_verify.specs.Outcome.{inputs_of}
use Rattle.sig_questions.proofs.asked_root.AskedRoot.list_text.Goals as goal

pub returns-in-Ok : goal.returns-in-Ok
returns-in-Ok c = λ root now is. c.list_bundle-listed.ensures root now c.args.bundle.now is c.in-Ok.ensures

pub returns-in-Err : goal.returns-in-Err
returns-in-Err c = λ root now is.
    let i : Inputs = inputs_of root now c.args.digest.now c.args.bundle.now in
    none_told i c.args.most c.unread.result
    (subst (λ (e : NoQuestions). IsDecided i c.args.most (Err e)) (sym c.unread.ensures)
    (bundle_unread i c.args.most is.root c.in-Err.error is.read c.in-Err.ensures))
