-- For private clauses: what is held of the trusted roots of a manifest, each read once.
use Rattle.std.specs.Prelude.{◌≡◌, ℕ, ℤ, List, Some, Err}
use Rattle.sig_base.specs.ByText.{text_lookup}
use Rattle.sig_gate.specs.declared.named_roots.NamedRoot.{NamedRoot}
use Rattle.sig_gate.specs.declared.named_roots.NamedRoot.TheVariants.{Held, NotRoot}
use Rattle.sig_json.specs.declared.error.JsonError.{JsonError}
use Rattle.sig_manifest.specs.Manifest.{Gate}
use Rattle.sig_root.specs.RootRecord.{trusted_root_in}
use Rattle.sig_verify.specs.HeldRoot.{IsHeldOf}

-- what is held of this text at a time
abbrev pub IsRootOf : List ℕ → ℤ → NamedRoot → Type 0
IsRootOf text now (Held root) = IsHeldOf text now root
IsRootOf text now NotRoot = (why : JsonError) × (trusted_root_in text ≡ Err why)

-- what is held of the trusted root of this name
pub record IsRootNamed (gate : Gate) (name : List ℕ) (root : NamedRoot) : Type 0 where
  pub text : List ℕ
  pub there : text_lookup name gate.roots ≡ Some text
  pub of_text : IsRootOf text gate.now root

-- these are held of trusted roots of the manifest, by their names
pub record AreHeld (gate : Gate) (held : List (List ℕ × NamedRoot)) : Type 0 where
  pub each : (name : List ℕ) (root : NamedRoot) → text_lookup name held ≡ Some root → IsRootNamed gate name root
