use Rattle.sig_questions.proofs.AskedRoots.{front_refused, list_told, passed_front}
use Rattle.sig_questions.proofs.listing.list_under.Goals as goal

pub list_checked-requires : goal.list_checked-requires
list_checked-requires c =
    passed_front c.args.trust.now.verifier c.args.digest.now c.args.bundle.now c.in-Ok.field-0 c.in-Ok.ensures

pub returns-in-Ok : goal.returns-in-Ok
returns-in-Ok c =
    list_told c.certificates.ensures c.args.trust.now c.args.digest.now c.args.bundle.now c.args.most
    c.listed_texts.ensures c.in-Ok.field-0 c.list_checked.result c.in-Ok.ensures c.list_checked.ensures

pub returns-in-Err : goal.returns-in-Err
returns-in-Err c =
    front_refused c.certificates.ensures c.args.trust.now c.args.digest.now c.args.bundle.now c.args.most
    c.in-Err.error c.in-Err.ensures
