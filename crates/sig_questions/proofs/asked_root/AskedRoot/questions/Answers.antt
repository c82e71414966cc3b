use Rattle.sig_questions.proofs.Calls.{told_asked, told_few, told_order, told_places, told_suffice}
use Rattle.sig_verify.specs.Outcome.{inputs_of}
use Rattle.sig_questions.proofs.asked_root.AskedRoot.questions.Goals as goal

pub returns-clause-asked : goal.returns-clause-asked
returns-clause-asked c = λ root now is.
    told_asked (inputs_of root now c.args.digest.now c.args.bundle.now) c.args.most c.list_text.result
    (c.list_text.ensures root now is)

pub returns-clause-suffice : goal.returns-clause-suffice
returns-clause-suffice c = λ root now is.
    told_suffice (inputs_of root now c.args.digest.now c.args.bundle.now) c.args.most c.list_text.result
    (c.list_text.ensures root now is) c.questions_suffice.ensures

pub returns-clause-order : goal.returns-clause-order
returns-clause-order c = λ root now is.
    told_order (inputs_of root now c.args.digest.now c.args.bundle.now) c.args.most c.list_text.result
    (c.list_text.ensures root now is)

pub returns-clause-places : goal.returns-clause-places
returns-clause-places c = λ root now is.
    told_places (inputs_of root now c.args.digest.now c.args.bundle.now) c.args.most c.list_text.result
    (c.list_text.ensures root now is)

pub returns-clause-few : goal.returns-clause-few
returns-clause-few c = λ root now is.
    told_few (inputs_of root now c.args.digest.now c.args.bundle.now) c.args.most c.list_text.result
    (c.list_text.ensures root now is)

pub returns-clause-decided : goal.returns-clause-decided
returns-clause-decided c = λ root now is. (c.list_text.ensures root now is).decided
