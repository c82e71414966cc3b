use Rattle.sig_request_fault.proofs.AuditTables.{audit_is}
use Rattle.sig_request_fault.proofs.PolicyTables.{policy_is}
use Rattle.sig_request_fault.proofs.RequestTables.{consistency_is, log_is, verify_is}
use Rattle.sig_request_fault.proofs.RowTables.{accepted_is}
use Rattle.sig_request_fault.proofs.laws.tables.Goals as goal

pub returns : goal.returns
returns c =
    record {
      log = log_is;
      verify = verify_is;
      consistency = consistency_is;
      audit = audit_is;
      policy = policy_is;
      accepted = accepted_is;
    }
