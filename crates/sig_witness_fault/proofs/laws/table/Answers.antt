use Rattle.sig_witness_fault.proofs.WitnessTables.{witness_is}
use Rattle.sig_witness_fault.proofs.laws.table.Goals as goal

pub returns : goal.returns
returns c = witness_is
