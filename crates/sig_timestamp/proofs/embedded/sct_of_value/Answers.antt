-- What is read is what the relations say of the value.
use Rattle.std.proofs.Common.{Result, arith, sym, subst}
use Rattle.sig_timestamp.specs.declared.sct_error.CertificateErrorKind.{CertificateErrorKind}
use Rattle.sig_timestamp.specs.SctList.{Sct}
use Rattle.sig_timestamp.specs.Embedded.{IsSaidOfValue}
use Rattle.sig_timestamp.proofs.EmbeddedLaws.{value_said}
use Rattle.sig_timestamp.proofs.embedded.sct_of_value.Goals as goal

pub returns-clause-said : goal.returns-clause-said
returns-clause-said c =
    subst (λ (r : Result Sct CertificateErrorKind). IsSaidOfValue c.args.value.now r) (sym c.read_value.ensures)
    (value_said c.args.value.now (λ i. omega (arith, c.type_inv.value i)))
