-- Each refusal of a bundle's own checks comes if and only if it has its cause.
use Rattle.std.proofs.Common.{refl}
use Rattle.sig_checked_bundle.specs.Refusals.{RefusalsHaveTheirCause}
use Rattle.sig_checked_bundle.proofs.CausedRefusals.{material-caused}
use Rattle.sig_checked_bundle.proofs.RefusedBundles.{told}

pub refusals_have_their_cause : RefusalsHaveTheirCause
refusals_have_their_cause b kind = (material-caused b kind b.verification_material refl, told b kind)
