-- *Signer of a layer*: the signer that its certificate names, if it has a trusted certificate.
use Rattle.std.specs.Prelude.{◌≡◌, ⊤, ℕ, ℤ, List, Option, Some, None, Ok, Err}
use Rattle.sig_base.specs.declared.error.SigstoreError.{SigstoreError}
use Rattle.sig_base.specs.declared.error.SigstoreError.TheVariants.{OutOfMemory}
use Rattle.sig_signer.specs.Signer.{IsSignerOf, Signer}
use Rattle.sig_x509.specs.Issuance.{Accepts}
use Rattle.sig_x509.specs.Pool.{Pool}
use Rattle.sig_cosign.specs.Layer.{time_of}
use Rattle.sig_cosign.specs.declared.bundle_content.BundleContent.{BundleContent}

-- the signer that the certificate that the bytes are names, or `None` if that has an error
abbrev pub IsSignerIf : Accepts → Pool → List ℕ → ℤ → ℤ → Option Signer → Type 0
IsSignerIf accepts pool der at now (Some signer) = IsSignerOf accepts pool der at now (Ok signer)
IsSignerIf accepts pool der at now None = (e : SigstoreError) × IsSignerOf accepts pool der at now (Err e)

-- the same, or `None` without a pool
abbrev pub IsSignerIn : Accepts → Option Pool → List ℕ → ℤ → ℤ → Option Signer → Type 0
IsSignerIn accepts None der at now signer = signer ≡ None
IsSignerIn accepts (Some pool) der at now signer = IsSignerIf accepts pool der at now signer

-- the same, or `None` without a certificate, or without anything that says when a log took the signature
abbrev pub IsSignerAmong : Accepts → Option Pool → Option (List ℕ) → Option BundleContent → ℤ → Option Signer → Type 0
IsSignerAmong accepts pool None bundle now signer = signer ≡ None
IsSignerAmong accepts pool (Some der) None now signer = signer ≡ None
IsSignerAmong accepts pool (Some der) (Some bundle) now signer = IsSignerIn accepts pool der (time_of bundle) now signer

-- for private clauses: no signer, and the error is not out of memory
abbrev pub IsNoMemory : SigstoreError → Type 0
IsNoMemory OutOfMemory = ⊥
IsNoMemory other = ⊤

abbrev pub IsNoneUnless : {X : Type 0} → SigstoreError → Option X → Type 0
IsNoneUnless e x = (x ≡ None) × IsNoMemory e
