-- The signing certificate of a bundle, the first of its certificates, and the further ones (sigstore_bundle.proto, the
-- comments on verification_material).
use Rattle.std.specs.Prelude.{◌≡◌, ◌≢◌, ℕ, zero, suc, List, [], ◌∷◌, Bool, Option, Some, None, is_none, Result}
use Rattle.std.specs.Prelude.{true, false, length, nat_lt, Ok, Err, if◌then◌else◌}
use Rattle.std.specs.List.{list_any}
use Rattle.sig_base.specs.ResultSteps.{◌>>=◌}
use Rattle.sig_certificate.specs.Certificate.{Cert, IsCertificate}
use Rattle.sig_certificate.specs.Certificates.{AreCertificates}
use Rattle.sig_certificate.specs.Profile.{leaf_refusal, root_refusal}
use Rattle.sig_certificate.specs.declared.profile_error.CertificateValidationError.{CertificateValidationError}
use Rattle.sig_checked_bundle.specs.declared.bundle_error.BundleErrorKind.{BundleErrorKind}
use Rattle.sig_checked_bundle.specs.declared.bundle_error.BundleErrorKind.TheVariants.{
  VerificationMaterialContentUnsupported,
}
use Rattle.sig_checked_bundle.specs.declared.bundle_error.BundleErrorKind.TheVariants.{CertificateMalformed}
use Rattle.sig_checked_bundle.specs.declared.bundle_error.BundleErrorKind.TheVariants.{CertificatesMissing, NoLeaf}
use Rattle.sig_checked_bundle.specs.declared.bundle_error.BundleErrorKind.TheVariants.{RootInChain}
use Rattle.sig_checked_bundle.specs.declared.bundle_error.BundleErrorKind.TheVariants.{TooManyCertificates}
use Rattle.sig_checked_bundle.specs.declared.signing_certificate.SigningChain.{SigningChain}
use Rattle.sig_bundle.specs.declared.material.MaterialContent.{MaterialContent}
use Rattle.sig_bundle.specs.declared.material.MaterialContent.TheVariants.{Certificate, X509CertificateChain}
use Rattle.sig_bundle.specs.declared.material.MaterialContent.TheVariants.{PublicKey}

-- the encodings (DER) of the certificates, the signing one first; a hint at a key has none
abbrev pub encodings_in : Option MaterialContent → Option (List (List ℕ))
encodings_in None = None
encodings_in (Some PublicKey) = None
encodings_in (Some (Certificate der)) = Some (der ∷ [])
encodings_in (Some (X509CertificateChain ders)) = Some ders

-- ---- what the encodings are

abbrev pub IsNoCertificate : List ℕ → Type 0
IsNoCertificate der = (c : Cert) → ¬ IsCertificate der c

-- the encoding at this index, counted from 0, is not a certificate, and all before it are
abbrev pub IsFirstMalformed : List (List ℕ) → ℕ → Type 0
IsFirstMalformed [] index = ⊥
IsFirstMalformed (der ∷ ders) zero = IsNoCertificate der
IsFirstMalformed (der ∷ ders) (suc index) = (c : Cert) × IsCertificate der c × IsFirstMalformed ders index

-- the certificates, or the index of the first encoding that is not one
abbrev pub AreRead : List (List ℕ) → Result (List Cert) BundleErrorKind → Type 0
AreRead ders (Ok certificates) = AreCertificates ders certificates
AreRead ders (Err e) = (index : ℕ) × (e ≡ CertificateMalformed index) × IsFirstMalformed ders index

-- ---- which of them signs

abbrev pub is_root : Cert → Bool
is_root c = is_none (root_refusal c)

abbrev pub IsRoot : Cert → Type 0
IsRoot c = root_refusal c ≡ None

abbrev pub IsNoRoot : Cert → Type 0
IsNoRoot c = root_refusal c ≢ None

abbrev pub leaf_or_refusal : Cert → List Cert → Option CertificateValidationError
    → Result SigningChain BundleErrorKind
leaf_or_refusal c further (Some e) = Err (NoLeaf e)
leaf_or_refusal c further None = if list_any is_root further then Err RootInChain
    else Ok (record { certificate = c; further = further })

-- the first certificate, which has to be a leaf, and the further ones, none of which may be a root
abbrev pub leaf_among : List Cert → Result SigningChain BundleErrorKind
leaf_among [] = Err CertificatesMissing
leaf_among (c ∷ further) = leaf_or_refusal c further (leaf_refusal c)

abbrev pub IsLeafOf : List (List ℕ) → Result SigningChain BundleErrorKind → Type 0
IsLeafOf ders answer =
    (read : Result (List Cert) BundleErrorKind) × AreRead ders read × (answer ≡ (read >>= leaf_among))

-- ---- how many there may be: the signing one, and 16 further ones

abbrev pub most_certificates : ℕ
most_certificates = 17

abbrev pub IsLeafUnlessMany : Bool → List (List ℕ) → Result SigningChain BundleErrorKind → Type 0
IsLeafUnlessMany true ders answer = answer ≡ Err (TooManyCertificates (length ders))
IsLeafUnlessMany false ders answer = IsLeafOf ders answer

abbrev pub IsLeafAmong : Option (List (List ℕ)) → Result SigningChain BundleErrorKind → Type 0
IsLeafAmong None answer = answer ≡ Err VerificationMaterialContentUnsupported
IsLeafAmong (Some ders) answer = IsLeafUnlessMany (nat_lt most_certificates (length ders)) ders answer

-- the signing certificate with the further ones, or the first cause against the certificates
abbrev pub IsSigningCertificate : Option MaterialContent → Result SigningChain BundleErrorKind → Type 0
IsSigningCertificate content answer = IsLeafAmong (encodings_in content) answer
