use Rattle.sig_request.specs.ConsistencyRequest.{consistency_request}
use Rattle.sig_request_fault.proofs.RequestFaults.{none_if_request}
use Rattle.sig_request_fault.proofs.RequestTables.{consistency_is}
use Rattle.sig_request_fault.specs.RequestTable.{consistency_table}
use Rattle.sig_request_fault.proofs.consistency.consistency_request_fault.Goals as goal

pub returns-clause-request : goal.returns-clause-request
returns-clause-request c =
    none_if_request consistency_request consistency_table consistency_is c.args.text.now c.request_fault.result
    c.request_fault.ensures.value
