use Rattle.sig_document_fault.proofs.RootTables.{root_is}
use Rattle.sig_root.specs.RootRecord.{trusted_root_of}
use Rattle.sig_document_fault.specs.RootTable.{root_table}
use Rattle.sig_table.proofs.TextFaults.{beside_reader}
use Rattle.sig_document_fault.proofs.root.root_fault.Goals as goal

pub returns-clause-reader : goal.returns-clause-reader
returns-clause-reader c =
    beside_reader trusted_root_of root_table root_is c.args.text.now c.document_fault.result
    c.document_fault.ensures.value
