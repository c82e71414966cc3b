-- The row is written, and read back.
use Rattle.std.proofs.Common.{◌∙◌}
use Rattle.sig_demo.proofs.RequestReadings.{row_back, row_written}
use Rattle.sig_demo.proofs.request.row_document.Goals as goal

pub returns-clause-tree : goal.returns-clause-tree
returns-clause-tree c =
    row_written c.args.message.now _ _ _ _ _ _ _ c.new.ensures c.in_ok-with_text.ensures c.in_ok-with_text-2.ensures
    c.in_ok-with_bytes.ensures.tree
    (rw (c.as_bytes.ensures.value ∙ c.as_str.ensures) at c.in_ok-with_bytes-2.ensures.tree)
    c.in_ok-object.ensures.tree c.into_document.ensures

pub returns-clause-back : goal.returns-clause-back
returns-clause-back c =
    row_back c.args.message.now c.in_ok-with_bytes.ensures.back
    (rw (c.as_bytes.ensures.value ∙ c.as_str.ensures) at c.in_ok-with_bytes-2.ensures.back)
    c.in_ok-object.ensures.back
