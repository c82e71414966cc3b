-- What the texts are read as is one: the certificates of authorities, and a bundle as its own checks leave it.
use Rattle.std.proofs.Common.{◌≡◌, ℕ, zero, suc, ℤ, Bool, true, false, List, [], ◌∷◌, length, Option, Some, None}
use Rattle.std.proofs.Common.{Result, refl, sym, ap, subst, ◌∙◌}
use Rattle.std.specs.List.{AllZip}
use Rattle.std.specs.Prelude.{nat_lt, slice_get}
use Rattle.std.specs.Result.{result_ok}
use Rattle.sig_base.proofs.PairedLists.{zip_one}
use Rattle.sig_base.specs.ResultSteps.{◌>>=◌}
use Rattle.sig_bundle.specs.declared.bundle.Bundle.{Bundle}
use Rattle.sig_bundle.specs.declared.material.VerificationMaterial.{VerificationMaterial}
use Rattle.sig_certificate.specs.Certificate.{Cert}
use Rattle.sig_checked_bundle.proofs.Certificates.{OneCertificate, read_one}
use Rattle.sig_checked_bundle.specs.Checked.{Checked, IsChecked, IsCheckedWith, checked}
use Rattle.sig_checked_bundle.specs.SigningCertificate.{IsLeafAmong, IsLeafUnlessMany, encodings_in, leaf_among}
use Rattle.sig_checked_bundle.specs.SigningCertificate.{most_certificates}
use Rattle.sig_checked_bundle.specs.declared.bundle_error.BundleErrorKind.{BundleErrorKind}
use Rattle.sig_explain_verify.specs.Parts.{AreAuthorities, AreReadAll, IsCheckedOf}
use Rattle.sig_root.specs.declared.record.TrustedRoot.{TrustedRoot}
use Rattle.sig_verify.specs.RootLinks.{authorities}

-- ---- certificates of a kind of which a DER is one at most

-- of DERs that are certificates of the kind, each is one
pub is_among : (Is : List ℕ → Cert → Type 0) (ders : List (List ℕ)) (cs : List Cert) (index : ℕ) (der : List ℕ)
    → AllZip Is ders cs → slice_get ders index ≡ Some der → ((c : Cert) → ¬ Is der c) → ⊥
is_among Is [] cs index der are got none = absurd cc
is_among Is (first ∷ ders) [] index der are got none = are
is_among Is (first ∷ ders) (c ∷ cs) zero der are got none =
    let same : first ≡ der = cc in none c (subst (λ (text : List ℕ). Is text c) same are.0)
is_among Is (first ∷ ders) (c ∷ cs) (suc index) der are got none = is_among Is ders cs index der are.1 got none

module _ (Is : List ℕ → Cert → Type 0) (only : (der : List ℕ) (c d : Cert) → Is der c → Is der d → c ≡ d) where
  one_reading : (ders : List (List ℕ)) (a b : Option (List Cert)) → AreReadAll Is ders a → AreReadAll Is ders b → a ≡ b
  one_reading ders None None p q = refl
  one_reading ders None (Some ds) (index, der, there, none) q = absurd (is_among Is ders ds index der q there none)
  one_reading ders (Some cs) None p (index, der, there, none) = absurd (is_among Is ders cs index der p there none)
  one_reading ders (Some cs) (Some ds) p q = ap (λ (xs : List Cert). Some xs) (zip_one Is Is only ders cs ds p q)

  pub one_authorities : (root : Option TrustedRoot) (now : ℤ) (a b : Option (List Cert)) → AreAuthorities Is root now a
      → AreAuthorities Is root now b → a ≡ b
  one_authorities None now a b p q = p ∙ sym q
  one_authorities (Some root) now a b p q = one_reading (authorities root now) a b p q

-- ---- a bundle

-- at most one meets the definition
abbrev Unique : {X : Type 0} → (X → Type 0) → Type 0
Unique {X} P = (a b : X) → P a → P b → a ≡ b

module _ (one : OneCertificate) where
  one_unless_many : (many : Bool) (ders : List (List ℕ)) → Unique (IsLeafUnlessMany many ders)
  one_unless_many true ders a b p q = p ∙ sym q
  one_unless_many false ders a b (read, are, is) (other, were, was) =
      is ∙ ap (λ (r : Result (List Cert) BundleErrorKind). r >>= leaf_among) (read_one one ders read other are were)
      ∙ sym was

  one_leaf : (encodings : Option (List (List ℕ))) → Unique (IsLeafAmong encodings)
  one_leaf None a b p q = p ∙ sym q
  one_leaf (Some ders) a b p q = one_unless_many (nat_lt most_certificates (length ders)) ders a b p q

  one_with : (bundle : Bundle) (material : Option VerificationMaterial) (a b : Result Checked BundleErrorKind)
      → IsCheckedWith bundle material a → IsCheckedWith bundle material b → a ≡ b
  one_with bundle None a b p q = p ∙ sym q
  one_with bundle (Some material) a b (chain, is, made) (other, was, said) =
      made
      ∙ ap (checked bundle material) (one_leaf (encodings_in material.content) chain other is was)
      ∙ sym said

  -- its own checks have one result
  pub one_check : (bundle : Bundle) (a b : Result Checked BundleErrorKind) → IsChecked bundle a → IsChecked bundle b
      → a ≡ b
  one_check bundle a b p q = one_with bundle bundle.verification_material a b p q

  pub one_checked : (bundle : Option Bundle) (a b : Option Checked) → IsCheckedOf bundle a → IsCheckedOf bundle b
      → a ≡ b
  one_checked None a b p q = p ∙ sym q
  one_checked (Some bundle) a b (answer, is, made) (other, was, said) =
      made ∙ ap result_ok (one_check bundle answer other is was) ∙ sym said
