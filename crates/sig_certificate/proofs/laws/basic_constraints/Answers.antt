use Rattle.std.proofs.Common.{arith}
use Rattle.sig_certificate.proofs.ValueLaws.{constraints_takes, constraints_again}
use Rattle.sig_certificate.proofs.laws.basic_constraints.Goals as goal

pub returns : goal.returns
returns c =
    record {
      takes = λ said e. constraints_takes c.args.value.now (λ i. omega (arith, c.type_inv.value i)) said e;
      again = λ said is. constraints_again c.args.value.now said is;
    }
