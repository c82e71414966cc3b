use Rattle.std.proofs.Common.{◌≡◌, List, ℕ, sym, subst}
use Rattle.sig_der.proofs.StampSeconds.{second_exact}
use Rattle.sig_der.specs.Stamp.{IsInstantOf}
use Rattle.sig_der.specs.StampSecond.{second_in}
use Rattle.sig_der.proofs.stamp.rfc3339_second.Goals as goal

pub returns-clause-only : goal.returns-clause-only
returns-clause-only c = λ s is.
    c.read_instant.ensures.only s (subst (λ (w : List ℕ). IsInstantOf w s) (sym c.as_bytes.ensures.value) is)

pub returns-clause-exact : goal.returns-clause-exact
returns-clause-exact c =
    subst (λ (w : List ℕ). c.read_instant.result ≡ second_in w) c.as_bytes.ensures.value
    (second_exact c.as_bytes.result.now c.read_instant.result c.read_instant.ensures.found c.read_instant.ensures.only)
