-- The document is written member by member, and means the request.
use Rattle.std.proofs.Common.{◌∙◌}
use Rattle.sig_demo.proofs.RequestReadings.{request_back, request_written}
use Rattle.sig_demo.proofs.log.DemoLog.document.Goals as goal

pub returns-clause-tree : goal.returns-clause-tree
returns-clause-tree c =
    request_written c.args.self.now _ _ _ _ _ _ _ _ _ _ _ _ c.new.ensures
    (rw (c.as_bytes.ensures.value ∙ c.as_str.ensures ∙ c.in_ok-entry.ensures) at c.in_ok-with_bytes.ensures.tree)
    (rw c.natural_document.ensures at c.in_ok-with.ensures) (rw c.natural_document-2.ensures at c.in_ok-object.ensures)
    c.in_ok-object-2.ensures.tree c.in_ok-with_hashes.ensures.tree
    (rw (c.as_str-2.ensures ∙ c.requires.checkpoint) at c.in_ok-with_text.ensures) c.in_ok-with_text-2.ensures
    c.in_ok-object-3.ensures.tree (rw c.requires.note at c.in_ok-object-4.ensures.tree) c.in_ok-object-5.ensures.tree
    c.into_document.ensures

pub returns-clause-back : goal.returns-clause-back
returns-clause-back c =
    request_back c.args.self.now c.requires.count
    (rw (c.as_bytes.ensures.value ∙ c.as_str.ensures ∙ c.in_ok-entry.ensures) at c.in_ok-with_bytes.ensures.back)
    c.in_ok-object-2.ensures.back c.in_ok-with_hashes.ensures.back c.in_ok-object-3.ensures.back
    (rw c.requires.note at c.in_ok-object-4.ensures.back) c.in_ok-object-5.ensures.back
