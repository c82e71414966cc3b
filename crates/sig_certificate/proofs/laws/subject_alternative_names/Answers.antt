use Rattle.std.proofs.Common.{arith}
use Rattle.sig_certificate.proofs.NameLaws.{names_takes, names_again}
use Rattle.sig_certificate.proofs.laws.subject_alternative_names.Goals as goal

pub returns : goal.returns
returns c =
    record {
      takes = λ said e. names_takes c.args.value.now (λ i. omega (arith, c.type_inv.value i)) said e;
      again = λ said is. names_again c.args.value.now said is;
    }
