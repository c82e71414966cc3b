use Rattle.sig_request.specs.Request.{log_request}
use Rattle.sig_request_fault.proofs.RequestFaults.{none_if_request}
use Rattle.sig_request_fault.proofs.RequestTables.{log_is}
use Rattle.sig_request_fault.specs.RequestTable.{log_table}
use Rattle.sig_request_fault.proofs.log.log_request_fault.Goals as goal

pub returns-clause-request : goal.returns-clause-request
returns-clause-request c =
    none_if_request log_request log_table log_is c.args.text.now c.request_fault.result c.request_fault.ensures.value
