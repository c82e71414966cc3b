use Rattle.sig_bundle.proofs.EntryReadings.{proof_back}
use Rattle.sig_bundle.proofs.EntryTrees.{proof_written}
use Rattle.sig_bundle.proofs.write_entry.ProofWriterElementWriter.write.Goals as goal

pub returns-clause-tree : goal.returns-clause-tree
returns-clause-tree c =
    proof_written c.args.item.now _ _ _ _ _ _ _
    c.new.ensures c.in_ok-with_integer.ensures.tree (rw c.as_slice.ensures at c.in_ok-with_bytes.ensures.tree)
    c.in_ok-with_integer-2.ensures.tree (rw c.as_slice-2.ensures at c.in_ok-with_list.ensures.tree)
    c.in_ok-object.ensures.tree c.into_document.ensures

pub returns-clause-back : goal.returns-clause-back
returns-clause-back c =
    proof_back c.args.item.now c.in_ok-with_integer.ensures.back
    (rw c.as_slice.ensures at c.in_ok-with_bytes.ensures.back)
    c.in_ok-with_integer-2.ensures.back
    (rw c.as_slice-2.ensures at c.in_ok-with_list.ensures.back) c.in_ok-object.ensures.back
