-- For private clauses: the verdict on a bundle under a trusted root that is held.
use Rattle.std.specs.Prelude.{◌≡◌, ℕ, ℤ, List, Option, Some, None}
use Rattle.sig_dsse.specs.declared.artifact_digest.ArtifactDigest.{ArtifactDigest}
use Rattle.sig_gate.specs.BundleVerdict.{IsJudged, IsOfflineVerdict, outside}
use Rattle.sig_gate.specs.NamedRoots.{IsRootOf}
use Rattle.sig_gate.specs.declared.named_roots.NamedRoot.{NamedRoot}
use Rattle.sig_gate.specs.declared.verdict.BundleVerdict.{BundleVerdict}
use Rattle.sig_gate.specs.declared.verdict.BundleVerdict.TheVariants.{Refused}
use Rattle.sig_policy.specs.declared.request.RequestPolicy.{RequestPolicy}
use Rattle.sig_verify.specs.Links.{Inputs, Outside}
use Rattle.sig_verify.specs.Verdict.{Checker}
use Rattle.sig_verify.specs.declared.link.Link.{Link}

-- the verdict on these inputs, by the links and by the steps of offline verification
pub record IsFound (o : Outside) (i : Inputs) (verdict : BundleVerdict) : Type 0 where
  pub links : IsJudged o i verdict
  pub offline : IsOfflineVerdict o i verdict

-- the verdict on a bundle, whatever trusted root and time give what is held
abbrev pub IsFoundUnder : Checker → RequestPolicy → NamedRoot → ArtifactDigest → List ℕ → BundleVerdict → Type 0
IsFoundUnder k policy held digest bundle verdict =
    (root : List ℕ) (now : ℤ) → IsRootOf root now held
    → IsFound (outside k policy) (record { root = root; now = now; digest = digest; bundle = bundle }) verdict

-- the verdict where this link is the first that fails; without one memory ran out
abbrev pub IsRefusedBy : Option Link → BundleVerdict → Type 0
IsRefusedBy None verdict = ⊥
IsRefusedBy (Some link) verdict = verdict ≡ Refused link
