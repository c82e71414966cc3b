use Rattle.std.proofs.Common.{sym}
use Rattle.sig_questions.proofs.AskedRoots.{link_told, under_told}
use Rattle.sig_questions.proofs.asked_root.AskedRoot.list_bundle.Goals as goal

pub returns-in-Ok : goal.returns-in-Ok
returns-in-Ok c =
    under_told c.args.self.now c.args.digest.now c.args.bundle.now c.args.most c.in-Ok.trust c.list_under.result
    c.in-Ok.is c.list_under.ensures

pub returns-in-Err : goal.returns-in-Err
returns-in-Err c =
    link_told c.args.self.now c.args.digest.now c.args.bundle.now c.args.most c.in-Err.link c.in-Err.is
