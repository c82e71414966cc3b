use Rattle.std.proofs.Common.{arith}
use Rattle.sig_certificate.proofs.ValueLaws.{purposes_takes, purposes_again}
use Rattle.sig_certificate.proofs.laws.extended_key_usages.Goals as goal

pub returns : goal.returns
returns c =
    record {
      takes = λ said e. purposes_takes c.args.value.now (λ i. omega (arith, c.type_inv.value i)) said e;
      again = λ said is. purposes_again c.args.value.now said is;
    }
