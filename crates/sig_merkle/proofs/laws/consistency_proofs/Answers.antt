use Rattle.std.proofs.Common.{true, false}
use Rattle.sig_merkle.proofs.SubproofLaws.{subproof-shared, subproof-left, subproof-right}
use Rattle.sig_merkle.proofs.AcceptedSubproofs.{consistency_proof-accepted, same_tree-accepted, from_empty-accepted}
use Rattle.sig_merkle.proofs.laws.consistency_proofs.Goals as goal

pub returns : goal.returns
returns c = record {
  asked = λ entries. subproof-shared entries true;
  repeated = λ entries. subproof-shared entries false;
  left = subproof-left;
  right = subproof-right;
  accepted = consistency_proof-accepted;
  same = same_tree-accepted;
  from_empty = from_empty-accepted;
}
