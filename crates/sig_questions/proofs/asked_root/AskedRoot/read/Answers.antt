use Rattle.std.proofs.Common.{Err, subst, sym}
use Rattle.std.proofs.Math.Facts.{to_z-of_z}
use Rattle.sig_questions.proofs.AskedRoots.{asked_of, unread_of}
use Rattle.sig_questions.specs.AskedRoot.{IsAskedRootIn}
use Rattle.sig_questions.specs.declared.listing.NoQuestions.{NoQuestions}
use Rattle.sig_questions.proofs.asked_root.AskedRoot.read.Goals as goal

pub returns-in_ok-asked-in-Ok : goal.returns-in_ok-asked-in-Ok
returns-in_ok-asked-in-Ok c =
    asked_of c.args.text.now c.in-Ok.root _ c.args.now _ c.in_ok-asked-in-Ok.asked (to_z-of_z c.ranges.now)
    c.of-root.ensures c.in-Ok.ensures c.in_ok-asked-in-Ok.ensures

pub returns-in-Err : goal.returns-in-Err
returns-in-Err c =
    subst (λ (e : NoQuestions). IsAskedRootIn c.args.text.now c.args.now (Err e)) (sym c.unread.ensures)
    (unread_of c.args.text.now c.args.now c.in-Err.error c.in-Err.ensures)
