-- *Compared claims*: that what a signer's claims show is what the policies on a certificate compare.
use Rattle.std.specs.Prelude.{◌≡◌, ⊤, ℕ, ◌≤◌, List, [], ◌∷◌}
use Rattle.sig_certificate.specs.Certificate.{Extension, Cert}
use Rattle.sig_certificate.specs.Lookups.{with_oid}
use Rattle.sig_der.specs.ObjectIdentifiers.{fulcio}
use Rattle.sig_policy.specs.Said.{Values}
use Rattle.sig_signer.specs.Signer.{Signer}

abbrev pub IsSingle : List Extension → Type 0
IsSingle [] = ⊤
IsSingle (e ∷ []) = ⊤
IsSingle (e ∷ f ∷ es) = ⊥

-- there is at most one extension of each of Fulcio's six identifiers
abbrev pub HasSingleClaims : Cert → Type 0
HasSingleClaims c = (number : ℕ) → 1 ≤ number → number ≤ 6 → IsSingle (with_oid (fulcio number) c.extensions)

-- each claim of the signer is the text that a policy compares
pub record IsAsCompared (s : Signer) (v : Values) : Type 0 where
  pub issuer : s.issuer ≡ v.issuer
  pub trigger : s.trigger ≡ v.trigger
  pub sha : s.sha ≡ v.sha
  pub name : s.name ≡ v.name
  pub repository : s.repository ≡ v.repository
  pub reference : s.reference ≡ v.git_ref
