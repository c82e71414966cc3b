use Rattle.sig_certificate.proofs.ProfileFaults.{authority_is, authority_again, authority_fault_is}
use Rattle.sig_certificate.proofs.ProfileFaults.{authority_fault_again, root_fault_is, root_fault_again, leaf_fault_is}
use Rattle.sig_certificate.proofs.ProfileFaults.{leaf_fault_again}
use Rattle.sig_certificate.proofs.laws.profile_faults.Goals as goal

pub returns : goal.returns
returns c =
    record {
      authority = λ cert. (authority_is cert, authority_again cert);
      no_authority = λ cert e. (authority_fault_is cert e, authority_fault_again cert e);
      no_root = λ cert e. (root_fault_is cert e, root_fault_again cert e);
      no_leaf = λ cert e. (leaf_fault_is cert e, leaf_fault_again cert e);
    }
