use Rattle.sig_request_fault.proofs.RequestFaults.{none_if_request}
use Rattle.sig_witness_command.specs.Request.{witness_request}
use Rattle.sig_witness_fault.proofs.WitnessTables.{witness_is}
use Rattle.sig_witness_fault.specs.WitnessTable.{witness_table}
use Rattle.sig_witness_fault.proofs.witness.witness_request_fault.Goals as goal

pub returns-clause-request : goal.returns-clause-request
returns-clause-request c =
    none_if_request witness_request witness_table witness_is c.args.text.now c.request_fault.result c.request_fault.ensures.value
