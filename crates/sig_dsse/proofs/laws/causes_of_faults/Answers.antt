use Rattle.sig_dsse.proofs.FaultCauses.{digits_are_of_the_hash, faults_have_their_cause}
use Rattle.sig_dsse.proofs.PayloadCauses.{payload_faults_have_their_cause, cosign_faults_have_their_cause}
use Rattle.sig_dsse.proofs.laws.causes_of_faults.Goals as goal

pub returns : goal.returns
returns c = record {
  digits = digits_are_of_the_hash;
  subjects = faults_have_their_cause;
  payloads = payload_faults_have_their_cause;
  cosign = cosign_faults_have_their_cause;
}
