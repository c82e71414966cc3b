use Rattle.std.proofs.Common.{arith}
use Rattle.sig_certificate.proofs.ValueLaws.{key_usage_takes, key_usage_again}
use Rattle.sig_certificate.proofs.laws.key_usages.Goals as goal

pub returns : goal.returns
returns c =
    record {
      takes = λ said e. key_usage_takes c.args.value.now (λ i. omega (arith, c.type_inv.value i)) said e;
      again = λ said is. key_usage_again c.args.value.now said is;
    }
