-- *Manifest*: what a manifest means.
use Rattle.std.specs.Prelude.{ℕ, ◌-◌, ℤ, List, [], ◌∷◌, codes, length, map, Bool, true, false, ◌&&◌, nat_lt}
use Rattle.std.specs.Prelude.{if◌then◌else◌, Option, Some, None}
use Rattle.sig_base.specs.OptionSteps.{◌>>=◌}
use Rattle.sig_base.specs.declared.checker.AcceptedRow.{AcceptedRow}
use Rattle.sig_json.specs.Data.{Data}
use Rattle.sig_json.specs.Kinds.{text_map_of}
use Rattle.sig_json.specs.Member.{required, required_i64, required_list}
use Rattle.sig_manifest.specs.Artifact.{Asked, artifact_of, artifact_view}
use Rattle.sig_manifest.specs.Policies.{ByName, policies_of}
use Rattle.sig_manifest.specs.declared.artifact.Artifact.{Artifact}
use Rattle.sig_manifest.specs.declared.manifest.Manifest.{Manifest}

-- a manifest as contracts see it
pub record Gate : Type 0 where
  pub now : ℤ
  pub roots : List (List ℕ × List ℕ)
  pub policies : ByName
  pub artifacts : List Asked

abbrev pub artifacts_view : List Artifact → List Asked
artifacts_view artifacts = map artifact_view artifacts

abbrev pub manifest_view : Manifest → Gate
manifest_view m =
    record { now = m.now; roots = m.roots; policies = m.policies; artifacts = artifacts_view m.artifacts }

-- the artifacts have at most this many bundles together
abbrev pub are_few_bundles : ℕ → List Asked → Bool
are_few_bundles most [] = true
are_few_bundles most (x ∷ xs) =
    if nat_lt most (length x.bundles) then false else are_few_bundles (most - length x.bundles) xs

-- from 1 to 256 artifacts, with at most 256 bundles together
abbrev pub is_within : List Asked → Bool
is_within artifacts =
    nat_lt 0 (length artifacts) && (nat_lt (length artifacts) 257 && are_few_bundles 256 artifacts)

abbrev pub kept_within : Gate → Option Gate
kept_within gate = if is_within gate.artifacts then Some gate else None

-- the members of a manifest, except for `accepted`
unfoldable pub manifest_members : Data → Option Gate
manifest_members d = do
  now ← required_i64 (codes "now") d
  roots ← required text_map_of (codes "roots") d
  policies ← required policies_of (codes "policies") d
  artifacts ← required_list artifact_of (codes "artifacts") d
  kept_within (record { now = now; roots = roots; policies = policies; artifacts = artifacts })

-- those, with the rows of `accepted`
abbrev pub with_accepted : List AcceptedRow → Data → Option (Gate × List AcceptedRow)
with_accepted accepted d = manifest_members d >>= λ gate. Some (gate, accepted)
