-- What was written so far is the front of the list.
use Rattle.std.proofs.Common.{arith}
use Rattle.sig_json.specs.Tree.{document_tree}
use Rattle.sig_evidence.specs.Authorities.{authority_tree}
use Rattle.sig_shown.proofs.Lists.{list_more}
use Rattle.sig_evidence.proofs.authorities.authorities_document.Goals as goal

pub authorities-preserved : goal.authorities-preserved
authorities-preserved c =
    list_more (authority_tree c.args.now.now) c.args.authorities.now c.authorities.authority-index
    c.authority-item.result (document_tree c.authorities.list) (document_tree c.in_ok-authority_document.field-0)
    (document_tree c.push.new.self) (omega (arith, c.authorities-test.true)) c.authority-item.is
    c.authorities.invariant c.in_ok-authority_document.ensures c.in_ok-push.ensures.ok
