-- For private clauses: what is read of the trusted roots of a manifest, each once.
use Rattle.std.specs.Prelude.{◌≡◌, ℕ, ℤ, List, Some, Result}
use Rattle.sig_base.specs.ByText.{text_lookup}
use Rattle.sig_explain_gate.specs.declared.roots.ReadRoot.{ReadRoot}
use Rattle.sig_explain_verify.specs.ShownRoot.{IsShownRoot}
use Rattle.sig_manifest.specs.Manifest.{Gate}
use Rattle.sig_verify.specs.HeldRoot.{IsHeldIn}
use Rattle.sig_verify.specs.declared.held_root.HeldRoot.{HeldRoot}
use Rattle.sig_verify.specs.declared.offline_error.OfflineError.{OfflineError}

-- what bundles are verified against under this text at a time, or why it is not a trusted root
abbrev pub IsTried : List ℕ → ℤ → Result HeldRoot OfflineError → Type 0
IsTried text now held = IsHeldIn text now held

-- what is read of this text at a time
pub record IsReadRoot (text : List ℕ) (now : ℤ) (root : ReadRoot) : Type 0 where
  pub held : IsHeldIn text now root.held
  pub shown : IsShownRoot text now root.shown

-- what is read of the trusted root of this name
pub record IsReadNamed (gate : Gate) (name : List ℕ) (root : ReadRoot) : Type 0 where
  pub text : List ℕ
  pub there : text_lookup name gate.roots ≡ Some text
  pub of_text : IsReadRoot text gate.now root

-- these are read of trusted roots of the manifest, by their names
pub record AreRead (gate : Gate) (roots : List (List ℕ × ReadRoot)) : Type 0 where
  pub each : (name : List ℕ) (root : ReadRoot) → text_lookup name roots ≡ Some root → IsReadNamed gate name root
