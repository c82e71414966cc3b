use Rattle.std.proofs.Common.{arith, ap, ◌∙◌}
use Rattle.std.proofs.lemmas.List.{get_or_default}
use Rattle.sig_json.proofs.WrittenLists.{list_back-none, list_more}
use Rattle.sig_json.specs.Builders.{with_last}
use Rattle.sig_json.specs.Kinds.{hash_of}
use Rattle.sig_json.specs.Tree.{document_tree}
use Rattle.sig_demo.specs.Request.{hash_tree}
use Rattle.sig_demo.proofs.written.hashes_document.Goals as goal

pub hashes-init : goal.hashes-init
hashes-init c = (c.list-list.ensures, list_back-none hash_of hash_tree)

pub hashes-preserved : goal.hashes-preserved
hashes-preserved c =
    list_more hash_of hash_tree c.args.hashes.now c.hashes.hash-index _ (document_tree c.hashes.list)
    (document_tree c.push.new.self) (omega (arith, c.hashes-test.true))
    (get_or_default c.args.hashes.now c.hashes.hash-index _ _ (omega (arith, c.hashes-test.true))) c.hashes.invariant
    c.in_ok-hash_document.ensures.back
    (c.in_ok-push.ensures.ok ∙ ap (λ d. with_last d (document_tree c.hashes.list)) c.in_ok-hash_document.ensures.tree)
