-- Encodings are read as certificates in one way, and roots among certificates are found.
use Rattle.std.proofs.Common.{◌≡◌, ◌≢◌, ◌≤◌, ℕ, zero, suc, List, [], ◌∷◌, length, true, false, Option, Some, None}
use Rattle.std.proofs.Common.{Result, Ok, Err, refl, ap, arith}
use Rattle.std.proofs.lemmas.Bool.{or_from, or_parts}
use Rattle.std.proofs.lemmas.List.Folds.{Any-from_list_any, list_any-from_Any}
use Rattle.std.specs.Prelude.{Any, is_none}
use Rattle.std.specs.List.{AllByRecursion, list_any}
use Rattle.sig_base.proofs.PairedLists.{zip_one}
use Rattle.sig_certificate.specs.Certificate.{Cert, IsCertificate}
use Rattle.sig_certificate.specs.Certificates.{AreCertificates}
use Rattle.sig_certificate.specs.Profile.{root_refusal}
use Rattle.sig_certificate.specs.declared.profile_error.CertificateValidationError.{CertificateValidationError}
use Rattle.sig_checked_bundle.specs.SigningCertificate.{AreRead, IsFirstMalformed, IsNoRoot, IsRoot, is_root}
use Rattle.sig_checked_bundle.specs.declared.bundle_error.BundleErrorKind.{BundleErrorKind}

-- no DER is that of two certificates
abbrev pub OneCertificate : Type 0
OneCertificate = (der : List ℕ) (c d : Cert) → IsCertificate der c → IsCertificate der d → c ≡ d

-- ---- what the encodings are

pub certificates_one : OneCertificate → (ders : List (List ℕ)) (cs ds : List Cert) → AreCertificates ders cs
    → AreCertificates ders ds → cs ≡ ds
certificates_one one = zip_one IsCertificate IsCertificate one

-- there are as many certificates as encodings
pub certificates-count : (ders : List (List ℕ)) (cs : List Cert) → AreCertificates ders cs → length ders ≡ length cs
certificates-count [] [] are = refl
certificates-count [] (c ∷ cs) are = absurd are
certificates-count (der ∷ ders) [] are = absurd are
certificates-count (der ∷ ders) (c ∷ cs) are = ap suc (certificates-count ders cs are.1)

-- of at most 17 there are at most 16 further ones, and the other way round
pub further-few : (ders : List (List ℕ)) (c : Cert) (further : List Cert) → AreCertificates ders (c ∷ further)
    → length ders ≤ 17 → length further ≤ 16
further-few ders c further are few =
    let count : length ders ≡ suc (length further) = certificates-count ders (c ∷ further) are in
    omega (arith, count, few)

pub encodings-few : (ders : List (List ℕ)) (c : Cert) (further : List Cert) → AreCertificates ders (c ∷ further)
    → length further ≤ 16 → length ders ≤ 17
encodings-few ders c further are few =
    let count : length ders ≡ suc (length further) = certificates-count ders (c ∷ further) are in
    omega (arith, count, few)

-- where all are certificates, none is the first that is not
pub none_malformed : (ders : List (List ℕ)) (cs : List Cert) (index : ℕ) → AreCertificates ders cs
    → IsFirstMalformed ders index → ⊥
none_malformed [] cs index are is = is
none_malformed (der ∷ ders) [] index are is = are
none_malformed (der ∷ ders) (c ∷ cs) zero are is = is c are.0
none_malformed (der ∷ ders) (c ∷ cs) (suc index) are is = none_malformed ders cs index are.1 is.2

malformed_one : (ders : List (List ℕ)) (p q : ℕ) → IsFirstMalformed ders p → IsFirstMalformed ders q → p ≡ q
malformed_one [] p q a b = absurd a
malformed_one (der ∷ ders) zero zero a b = refl
malformed_one (der ∷ ders) zero (suc q) a b = absurd (a b.0 b.1)
malformed_one (der ∷ ders) (suc p) zero a b = absurd (b a.0 a.1)
malformed_one (der ∷ ders) (suc p) (suc q) a b = ap suc (malformed_one ders p q a.2 b.2)

pub read_one : OneCertificate → (ders : List (List ℕ)) (a b : Result (List Cert) BundleErrorKind) → AreRead ders a
    → AreRead ders b → a ≡ b
read_one one ders (Ok cs) (Ok ds) a b = ap Ok (certificates_one one ders cs ds a b)
read_one one ders (Ok cs) (Err e) a b = absurd (none_malformed ders cs b.0 a b.2)
read_one one ders (Err e) (Ok cs) a b = absurd (none_malformed ders cs a.0 b a.2)
read_one one ders (Err e) (Err f) a b = rw (a.1, b.1, malformed_one ders a.0 b.0 a.2 b.2) refl

-- ---- roots

root-told : (refusal : Option CertificateValidationError) → is_none refusal ≡ true → refusal ≡ None
root-told None is = refl
root-told (Some e) is = absurd cc

no_root-told : (refusal : Option CertificateValidationError) → is_none refusal ≡ false → refusal ≢ None
no_root-told None is = absurd cc
no_root-told (Some e) is = λ same. cc

root-tells : (refusal : Option CertificateValidationError) → refusal ≡ None → is_none refusal ≡ true
root-tells refusal is = rw is refl

no_root-tells : (refusal : Option CertificateValidationError) → refusal ≢ None → is_none refusal ≡ false
no_root-tells None other = absurd (other refl)
no_root-tells (Some e) other = refl

pub rootless-told : (cs : List Cert) → list_any is_root cs ≡ false → AllByRecursion IsNoRoot cs
rootless-told [] is = tt
rootless-told (c ∷ cs) is =
    let parts = or_parts (is_root c) (list_any is_root cs) is in
    (no_root-told (root_refusal c) parts.0, rootless-told cs parts.1)

pub rootless-tells : (cs : List Cert) → AllByRecursion IsNoRoot cs → list_any is_root cs ≡ false
rootless-tells [] all = refl
rootless-tells (c ∷ cs) all =
    or_from (is_root c) (list_any is_root cs) (no_root-tells (root_refusal c) all.0) (rootless-tells cs all.1)

pub a_root-told : (cs : List Cert) → list_any is_root cs ≡ true → Any IsRoot cs
a_root-told cs is =
    let found = Any-from_list_any is_root cs is in
    (found.0, found.1, found.2, found.3, root-told (root_refusal found.1) found.4)

pub a_root-tells : (cs : List Cert) → Any IsRoot cs → list_any is_root cs ≡ true
a_root-tells cs found =
    list_any-from_Any is_root cs
    (found.0, found.1, found.2, found.3, root-tells (root_refusal found.1) found.4)

-- where none is a root, there is no root among them
pub rootless-none : (cs : List Cert) → AllByRecursion IsNoRoot cs → ¬ Any IsRoot cs
rootless-none cs all found =
    let one : list_any is_root cs ≡ true = a_root-tells cs found in
    let none : list_any is_root cs ≡ false = rootless-tells cs all in cc
