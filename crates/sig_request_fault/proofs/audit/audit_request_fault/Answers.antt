use Rattle.sig_request.specs.AuditRequest.{audit_request}
use Rattle.sig_request_fault.proofs.RequestFaults.{none_if_request}
use Rattle.sig_request_fault.proofs.AuditTables.{audit_is}
use Rattle.sig_request_fault.specs.AuditTable.{audit_table}
use Rattle.sig_request_fault.proofs.audit.audit_request_fault.Goals as goal

pub returns-clause-request : goal.returns-clause-request
returns-clause-request c =
    none_if_request audit_request audit_table audit_is c.args.text.now c.request_fault.result
    c.request_fault.ensures.value
