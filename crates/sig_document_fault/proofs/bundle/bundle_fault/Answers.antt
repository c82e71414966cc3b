use Rattle.sig_document_fault.proofs.BundleTables.{bundle_is}
use Rattle.sig_document_fault.specs.BundleTable.{bundle_table}
use Rattle.sig_bundle.specs.BundleRecord.{bundle_of}
use Rattle.sig_table.proofs.TextFaults.{beside_reader}
use Rattle.sig_document_fault.proofs.bundle.bundle_fault.Goals as goal

pub returns-clause-reader : goal.returns-clause-reader
returns-clause-reader c =
    beside_reader bundle_of bundle_table bundle_is c.args.text.now c.document_fault.result c.document_fault.ensures.value
