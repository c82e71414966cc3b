use Rattle.sig_questions.proofs.Calls.{checked_listed, passed_refused}
use Rattle.sig_questions.proofs.listing.list_checked.Goals as goal

pub returns-in-Ok : goal.returns-in-Ok
returns-in-Ok c =
    checked_listed c.passed_bundles.ensures c.args.digest.now c.args.bundle.now c.args.most c.args.trust.now
    c.in-Ok.checked c.list.result c.in-Ok.ensures.answer.0 c.list.ensures.listed c.list.ensures.read
    c.list.ensures.bytes

pub memory_of-requires : goal.memory_of-requires
memory_of-requires c = passed_refused c.args.bundle.now c.in-Err.error c.in-Err.ensures.passed c.requires
