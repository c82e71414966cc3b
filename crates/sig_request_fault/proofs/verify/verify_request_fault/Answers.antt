use Rattle.sig_request.specs.VerifyRequest.{verify_request}
use Rattle.sig_request_fault.proofs.RequestFaults.{none_if_request}
use Rattle.sig_request_fault.proofs.RequestTables.{verify_is}
use Rattle.sig_request_fault.specs.RequestTable.{verify_table}
use Rattle.sig_request_fault.proofs.verify.verify_request_fault.Goals as goal

pub returns-clause-request : goal.returns-clause-request
returns-clause-request c =
    none_if_request verify_request verify_table verify_is c.args.text.now c.request_fault.result
    c.request_fault.ensures.value
