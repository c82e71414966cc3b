-- What is held of the policies of a manifest, each prepared once.
use Rattle.std.specs.Prelude.{◌≡◌, ℕ, List, Some}
use Rattle.sig_base.specs.ByText.{text_lookup}
use Rattle.sig_manifest.specs.Manifest.{Gate}
use Rattle.sig_manifest.specs.Policies.{ByName}
use Rattle.sig_policy.specs.declared.request.RequestPolicy.{RequestPolicy}

-- these are held of policies of the manifest, by their names
pub record AreHeldPolicies (gate : Gate) (held : ByName) : Type 0 where
  pub each : (name : List ℕ) (policy : RequestPolicy) → text_lookup name held ≡ Some policy
      → text_lookup name gate.policies ≡ Some policy
