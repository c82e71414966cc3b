use Rattle.std.proofs.Common.{arith, ap, ◌∙◌}
use Rattle.sig_json.proofs.WrittenLists.{list_back-none, list_more}
use Rattle.sig_json.specs.Writing.{bytes_tree}
use Rattle.sig_json.specs.Builders.{with_last}
use Rattle.sig_json.specs.Kinds.{bytes_of}
use Rattle.sig_json.specs.Tree.{document_tree}
use Rattle.sig_demo.specs.Request.{hash_tree}
use Rattle.sig_demo.proofs.written.entries_document.Goals as goal

pub entries-init : goal.entries-init
entries-init c = (c.list-list.ensures, list_back-none bytes_of bytes_tree)

pub entries-preserved : goal.entries-preserved
entries-preserved c =
    list_more bytes_of bytes_tree c.args.entries.now c.entries.entry-index c.entry-item.result
    (document_tree c.entries.list) (document_tree c.push.new.self)
    (omega (arith, c.entries-test.true)) c.entry-item.is c.entries.invariant c.in_ok-bytes_document.ensures.back
    (c.in_ok-push.ensures.ok ∙ ap (λ d. with_last d (document_tree c.entries.list)) c.in_ok-bytes_document.ensures.tree)
