-- *Unknown names*: the first artifact of a manifest that names a trusted root or a policy that is not there.
use Rattle.std.specs.Prelude.{◌≡◌, ℕ, ◌+◌, List, [], ◌∷◌, ◌++◌, length, IsSome, Option, Some, None}
use Rattle.std.specs.List.{AllByRecursion}
use Rattle.std.specs.Option.{option_or}
use Rattle.sig_base.specs.ByText.{text_lookup}
use Rattle.sig_manifest.specs.Artifact.{Asked}
use Rattle.sig_manifest.specs.Manifest.{Gate}
use Rattle.sig_manifest.specs.declared.error.ManifestError.{ManifestError}
use Rattle.sig_manifest.specs.declared.error.ManifestError.TheVariants.{UnknownRoot, UnknownPolicy}
use Rattle.sig_policy.specs.declared.request.RequestPolicy.{RequestPolicy}

-- why the artifact at this place is refused: its trusted root is not there, or else its policy
abbrev pub unknown_by : ℕ → Option (List ℕ) → Option RequestPolicy → Option ManifestError
unknown_by place None policy = Some (UnknownRoot place)
unknown_by place (Some root) None = Some (UnknownPolicy place)
unknown_by place (Some root) (Some policy) = None

abbrev pub unknown_at : Gate → ℕ → Asked → Option ManifestError
unknown_at gate place x = unknown_by place (text_lookup x.root gate.roots) (text_lookup x.policy gate.policies)

-- why the first refused artifact of these is refused; the first of these is at this place
abbrev pub unknown_from : Gate → ℕ → List Asked → Option ManifestError
unknown_from gate place [] = None
unknown_from gate place (x ∷ xs) = option_or (unknown_at gate place x) (unknown_from gate (place + 1) xs)

abbrev pub unknown_in : Gate → Option ManifestError
unknown_in gate = unknown_from gate 0 gate.artifacts

-- the trusted root and the policy of an artifact are there
pub record IsNamedIn (gate : Gate) (x : Asked) : Type 0 where
  pub root : IsSome (text_lookup x.root gate.roots)
  pub policy : IsSome (text_lookup x.policy gate.policies)

-- the trusted root and the policy of each artifact are there
abbrev pub AreNamed : Gate → Type 0
AreNamed gate = AllByRecursion (IsNamedIn gate) gate.artifacts

-- ---- the same in the words of the manifest

-- a list of artifacts has this one after `count` others whose trusted roots and policies are there
pub record IsAfterNamed (gate : Gate) (xs : List Asked) (count : ℕ) (x : Asked) : Type 0 where
  pub before : List Asked
  pub after : List Asked
  pub whole : xs ≡ before ++ x ∷ after
  pub index : length before ≡ count
  pub named : AllByRecursion (IsNamedIn gate) before

-- the artifact at this place is the first that names something that is not there, and it is the trusted root
pub record IsUnknownRoot (gate : Gate) (place : ℕ) : Type 0 where
  pub artifact : Asked
  pub first : IsAfterNamed gate gate.artifacts place artifact
  pub root : text_lookup artifact.root gate.roots ≡ None

-- the same for the policy, if the trusted root is there
pub record IsUnknownPolicy (gate : Gate) (place : ℕ) : Type 0 where
  pub artifact : Asked
  pub first : IsAfterNamed gate gate.artifacts place artifact
  pub root : IsSome (text_lookup artifact.root gate.roots)
  pub policy : text_lookup artifact.policy gate.policies ≡ None
