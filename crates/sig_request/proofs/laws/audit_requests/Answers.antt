use Rattle.sig_request.proofs.AuditRequests.{within}
use Rattle.sig_request.proofs.laws.audit_requests.Goals as goal

pub returns : goal.returns
returns c = within
