-- Which extensions the TBSCertificate of the precertificate keeps: RFC 6962 section 3.2. This definition has no walk
-- that leaves some out: the extensions of the certificate are two lists merged, and the one is kept.
use Rattle.std.specs.Prelude.{◌≡◌, ◌≢◌, ◌⊎◌, ℕ, List, [], ◌∷◌}
use Rattle.std.specs.List.{AllByRecursion}
use Rattle.sig_der.specs.ObjectIdentifiers.{sct_list}
use Rattle.sig_certificate.specs.Certificate.{Extension, Cert, IsTbsCertificate}

-- Two lists merged are the third: each of its elements is of one of the two, and in each their order is kept.
abbrev pub AreMerged : {A : Type 0} → List A → List A → List A → Type 0
AreMerged left right [] = (left ≡ []) × (right ≡ [])
AreMerged {A} left right (x ∷ xs) =
    ((rest : List A) × ((left ≡ x ∷ rest) × AreMerged rest right xs))
    ⊎ ((rest : List A) × ((right ≡ x ∷ rest) × AreMerged left rest xs))

-- The certificate's extensions are those that are kept and those that list SCTs, each in their order.
pub record AreKept (extensions kept : List Extension) : Type 0 where
  pub lists : List Extension
  pub merged : AreMerged kept lists extensions
  pub others : AllByRecursion (λ e. e.oid ≢ sct_list) kept
  pub scts : AllByRecursion (λ e. e.oid ≡ sct_list) lists

-- The bytes are the TBSCertificate of a certificate that has every part of this one, and its extensions except those
-- that list SCTs, each with its bytes.
pub record IsPrecertificate (c : Cert) (tbs : List ℕ) : Type 0 where
  pub extensions : List Extension
  pub kept : AreKept c.extensions extensions
  pub is : IsTbsCertificate (record c { tbs = tbs; extensions = extensions })
