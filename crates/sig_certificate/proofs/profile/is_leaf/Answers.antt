use Rattle.sig_certificate.specs.Faults.{IsLeaf, IsLeafFault}
use Rattle.sig_certificate.proofs.Clauses.{passes, fails}
use Rattle.sig_certificate.proofs.ProfileFaults.{leaf_is, leaf_again, leaf_fault_is, leaf_fault_again}
use Rattle.sig_certificate.proofs.profile.is_leaf.Goals as goal

pub returns-clause-leaf : goal.returns-clause-leaf
returns-clause-leaf c =
    passes c.judge_leaf.result _ (IsLeaf c.args.certificate.now) c.judge_leaf.ensures (leaf_is c.args.certificate.now) (leaf_again c.args.certificate.now)

pub returns-clause-faults : goal.returns-clause-faults
returns-clause-faults c =
    fails c.judge_leaf.result _ (IsLeafFault c.args.certificate.now) c.judge_leaf.ensures (leaf_fault_is c.args.certificate.now) (leaf_fault_again c.args.certificate.now)
