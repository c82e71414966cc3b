use Rattle.sig_certificate.proofs.TrustFaults.{usages_fault_is, usages_fault_again, names_fault_is, names_fault_again}
use Rattle.sig_certificate.proofs.TrustFaults.{validity_fault_is, validity_fault_again, expiration_fault_is}
use Rattle.sig_certificate.proofs.TrustFaults.{expiration_fault_again, trust_fault_is, trust_fault_again}
use Rattle.sig_certificate.proofs.laws.trust_faults.Goals as goal

pub returns : goal.returns
returns c =
    record {
      usages = λ cert e. (usages_fault_is cert e, usages_fault_again cert e);
      names = λ cert e. (names_fault_is cert e, names_fault_again cert e);
      validity = λ cert now e. (validity_fault_is cert now e, validity_fault_again cert now e);
      expiration = λ cert at e. (expiration_fault_is cert at e, expiration_fault_again cert at e);
      all = λ cert at now e. (trust_fault_is cert at now e, trust_fault_again cert at now e);
    }
