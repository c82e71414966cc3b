-- The report of the verdicts, and the object of what is shown.
use Rattle.std.proofs.Common.{Ok}
use Rattle.sig_explain_gate.proofs.FoundArtifacts.{gate-shown}
use Rattle.sig_gate_command.proofs.Replies.{report-made}
use Rattle.sig_gate_command.specs.Request.{parts_of}
use Rattle.sig_json.specs.Tree.{document_tree}
use Rattle.sig_explain_gate.proofs.explanation.explain_manifest.Goals as goal

pub returns-clause-reply : goal.returns-clause-reply
returns-clause-reply c =
    report-made c.args.request.now c.in_ok-found.found.verdicts (Ok c.in_ok-reply.reply) c.in_ok-found.ensures.found.verdicts
    c.in_ok-reply.ensures

pub returns-clause-tree : goal.returns-clause-tree
returns-clause-tree c =
    gate-shown (parts_of c.args.request.now) (document_tree c.in_ok-found.found.list)
    (document_tree c.in_ok-document.document) c.in_ok-found.ensures.found.shown c.in_ok-document.ensures
