use Rattle.sig_bundle.proofs.EntryReadings.{entry_back}
use Rattle.sig_bundle.proofs.EntryTrees.{entry_written}
use Rattle.sig_bundle.proofs.write_entry.EntryWriterElementWriter.write.Goals as goal

pub returns-clause-tree : goal.returns-clause-tree
returns-clause-tree c =
    entry_written c.args.item.now _ _ _ _ _ _ _ _ _
    c.new.ensures c.in_ok-with_integer.ensures.tree c.in_ok-with_option.ensures.tree
    c.in_ok-with_option-2.ensures.tree c.in_ok-with_integer-2.ensures.tree c.in_ok-with_option-3.ensures.tree
    c.in_ok-with_option-4.ensures.tree (rw c.as_slice.ensures at c.in_ok-object.ensures.tree)
    c.into_document.ensures

pub returns-clause-back : goal.returns-clause-back
returns-clause-back c =
    entry_back c.args.item.now c.in_ok-with_integer.ensures.back c.in_ok-with_option.ensures.back
    c.in_ok-with_option-2.ensures.back c.in_ok-with_integer-2.ensures.back c.in_ok-with_option-3.ensures.back
    c.in_ok-with_option-4.ensures.back (rw c.as_slice.ensures at c.in_ok-object.ensures.back)
