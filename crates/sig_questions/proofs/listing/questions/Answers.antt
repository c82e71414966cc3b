use Rattle.std.proofs.Common.{Ok, Err}
use Rattle.std.proofs.Math.Facts.{to_z-of_z}
use Rattle.sig_questions.proofs.AskedRoots.{asked_there, root_refused}
use Rattle.sig_questions.specs.AskedRoot.{IsAskedRootOf}
use Rattle.sig_questions.proofs.listing.questions.Goals as goal

there : (c : goal.After-drop) → IsAskedRootOf c.args.trusted_root.now c.args.now c.in-Ok.root
there c =
    asked_there c.args.trusted_root.now c.args.now _ (Ok c.in-Ok.root) (to_z-of_z c.ranges.now) c.in-Ok.ensures

pub returns-in-Ok-clause-asked : goal.returns-in-Ok-clause-asked
returns-in-Ok-clause-asked c = c.questions-listed.ensures.asked c.args.trusted_root.now c.args.now (there c)

pub returns-in-Ok-clause-suffice : goal.returns-in-Ok-clause-suffice
returns-in-Ok-clause-suffice c = c.questions-listed.ensures.suffice c.args.trusted_root.now c.args.now (there c)

pub returns-in-Ok-clause-order : goal.returns-in-Ok-clause-order
returns-in-Ok-clause-order c = c.questions-listed.ensures.order c.args.trusted_root.now c.args.now (there c)

pub returns-in-Ok-clause-places : goal.returns-in-Ok-clause-places
returns-in-Ok-clause-places c = c.questions-listed.ensures.places c.args.trusted_root.now c.args.now (there c)

pub returns-in-Ok-clause-few : goal.returns-in-Ok-clause-few
returns-in-Ok-clause-few c = c.questions-listed.ensures.few c.args.trusted_root.now c.args.now (there c)

pub returns-in-Ok-clause-decided : goal.returns-in-Ok-clause-decided
returns-in-Ok-clause-decided c = c.questions-listed.ensures.decided c.args.trusted_root.now c.args.now (there c)

pub returns-in-Err-clause-decided : goal.returns-in-Err-clause-decided
returns-in-Err-clause-decided c =
    root_refused c.args.trusted_root.now c.args.bundle.now c.args.now c.args.digest.now c.args.most c.in-Err.error
    (asked_there c.args.trusted_root.now c.args.now _ (Err c.in-Err.error) (to_z-of_z c.ranges.now) c.in-Err.ensures)
