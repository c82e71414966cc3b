-- For private clauses: what is held of the trusted roots of a manifest, each read once.
use Rattle.std.specs.Prelude.{◌≡◌, ℕ, ℤ, List, map, Some, Err}
use Rattle.sig_base.specs.ByText.{text_lookup}
use Rattle.sig_dsse.specs.declared.artifact_digest.ArtifactDigest.{ArtifactDigest}
use Rattle.sig_gate_command.specs.declared.asked_roots.NamedRoot.{NamedRoot}
use Rattle.sig_gate_command.specs.declared.asked_roots.NamedRoot.TheVariants.{Asked, NotRoot}
use Rattle.sig_manifest.specs.Manifest.{Gate}
use Rattle.sig_questions.specs.AskedRoot.{IsAskedRootIn, IsAskedRootOf}
use Rattle.sig_questions.specs.declared.listing.NoQuestions.TheVariants.{Link}
use Rattle.sig_verify.specs.Links.{Inputs}
use Rattle.sig_verify.specs.Outcome.{inputs_of}
use Rattle.sig_verify.specs.declared.link.Link.TheVariants.{RootJson}

-- what is held of this text at a time
abbrev pub IsRootOf : List ℕ → ℤ → NamedRoot → Type 0
IsRootOf text now (Asked root) = IsAskedRootOf text now root
IsRootOf text now NotRoot = IsAskedRootIn text now (Err (Link RootJson))

-- it is held of some text
abbrev pub IsOfSomeText : NamedRoot → Type 0
IsOfSomeText root = (text : List ℕ) × (now : ℤ) × IsRootOf text now root

-- what the chain of trust of each of these bundles of an artifact is about, under a trusted root's text at a time
abbrev pub inputs_at : List ℕ → ℤ → ArtifactDigest → List (List ℕ) → List Inputs
inputs_at text now d bundles = map (inputs_of text now d) bundles

-- what is held of the trusted root of this name
pub record IsRootNamed (gate : Gate) (name : List ℕ) (root : NamedRoot) : Type 0 where
  pub text : List ℕ
  pub there : text_lookup name gate.roots ≡ Some text
  pub of_text : IsRootOf text gate.now root

-- these are held of trusted roots of the manifest, by their names
pub record AreAsked (gate : Gate) (held : List (List ℕ × NamedRoot)) : Type 0 where
  pub each : (name : List ℕ) (root : NamedRoot) → text_lookup name held ≡ Some root → IsRootNamed gate name root
