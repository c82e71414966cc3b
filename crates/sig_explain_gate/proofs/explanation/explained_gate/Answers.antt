-- The reply and the document of what was read.
use Rattle.sig_explain_gate.proofs.Explanations.{manifest-explained, manifest-replied, unread-explained, unread-replied}
use Rattle.sig_gate_command.proofs.Replies.{its-manifest}
use Rattle.sig_explain_gate.proofs.explanation.explained_gate.Goals as goal

pub explain_read-requires : goal.explain_read-requires
explain_read-requires c =
    (its-manifest c.args.text.now c.in_ok-request.field-0 c.in-Some.request c.in-Some.is c.in_ok-request.ensures).is.named

pub returns-in_default-clause-reply : goal.returns-in_default-clause-reply
returns-in_default-clause-reply c =
    unread-replied c.args.text.now c.in_ok-request.field-0 c.explain_unread.result c.in_default.is c.in_ok-request.ensures
    c.explain_unread.ensures.reply

pub returns-in_default-clause-explanation : goal.returns-in_default-clause-explanation
returns-in_default-clause-explanation c =
    unread-explained c.args.text.now c.in_ok-request.field-0 c.explain_unread.result c.in_default.is c.in_ok-request.ensures
    c.explain_unread.ensures.tree

pub returns-clause-reply : goal.returns-clause-reply
returns-clause-reply c =
    manifest-replied c.args.text.now c.in_ok-request.field-0 c.in-Some.request c.explain_read.result c.in-Some.is
    c.in_ok-request.ensures c.explain_read.ensures.reply

pub returns-clause-explanation : goal.returns-clause-explanation
returns-clause-explanation c =
    manifest-explained c.args.text.now c.in_ok-request.field-0 c.in-Some.request c.explain_read.result
    c.in-Some.is c.in_ok-request.ensures c.explain_read.ensures.tree
