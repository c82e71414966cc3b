-- What the trusted root gives, at the given time.
use Rattle.std.proofs.Common.{ℤ, Option, Some, refl, subst, sym}
use Rattle.std.proofs.Math.Facts.{to_z-of_z}
use Rattle.sig_explain_verify.specs.ShownRoot.{IsGivenAt, IsTrustIn}
use Rattle.sig_root.specs.declared.record.TrustedRoot.{TrustedRoot}
use Rattle.sig_explain_verify.proofs.trust.trust_in.Goals as goal

pub returns-in_ok-parts-in-Some : goal.returns-in_ok-parts-in-Some
returns-in_ok-parts-in-Some c =
    subst (λ (r : Option TrustedRoot). IsTrustIn r c.args.now (Some c.in_ok-parts-in-Some.parts)) (sym c.in-Some.is) (
      c.in_ok-parts-in-Some.parts,
      refl,
      subst (λ (t : ℤ). IsGivenAt c.in-Some.root t c.in_ok-parts-in-Some.parts) (to_z-of_z c.ranges.now)
          c.in_ok-parts-in-Some.ensures,
    )
