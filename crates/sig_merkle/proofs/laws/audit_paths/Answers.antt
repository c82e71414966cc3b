use Rattle.sig_merkle.proofs.AuditPathLaws.{audit_path-entry, audit_path-left, audit_path-right, audit_path-accepted}
use Rattle.sig_merkle.proofs.laws.audit_paths.Goals as goal

pub returns : goal.returns
returns c = record {
  one = audit_path-entry;
  left = audit_path-left;
  right = audit_path-right;
  accepted = audit_path-accepted;
}
