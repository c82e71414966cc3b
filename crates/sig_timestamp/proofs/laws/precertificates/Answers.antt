use Rattle.std.proofs.Common.{ℕ, List, sym, subst}
use Rattle.sig_timestamp.specs.KeptExtensions.{IsPrecertificate}
use Rattle.sig_timestamp.proofs.KeptLaws.{is_precertificate, precertificate_is}
use Rattle.sig_timestamp.proofs.laws.precertificates.Goals as goal

pub returns : goal.returns
returns c = λ tbs. (
  precertificate_is c.args.leaf.now c.is_certificate.ensures.tbs tbs,
  λ e. subst (λ (w : List ℕ). IsPrecertificate c.args.leaf.now w) (sym e)
      (is_precertificate c.args.leaf.now c.is_certificate.ensures.tbs),
)
