use Rattle.sig_document_fault.proofs.BundleTables.{bundle_is}
use Rattle.sig_document_fault.proofs.RootTables.{root_is}
use Rattle.sig_document_fault.proofs.laws.tables.Goals as goal

pub returns : goal.returns
returns c = record { bundle = bundle_is; root = root_is }
