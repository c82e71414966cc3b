-- A signing certificate is found if and only if the material holds one.
use Rattle.std.proofs.Common.{◌≡◌, ◌≤◌, ℕ, List, [], ◌∷◌, length, Option, Some, None, Result, Ok, Err}
use Rattle.std.proofs.Common.{Bool, true, false, refl, sym, subst}
use Rattle.std.proofs.lemmas.Bool.{le-ltb, ltb-false}
use Rattle.std.specs.Prelude.{nat_lt}
use Rattle.std.specs.List.{list_any}
use Rattle.sig_base.proofs.ResultSteps.{guard_ok, ok_is}
use Rattle.sig_base.specs.ResultSteps.{◌>>=◌}
use Rattle.sig_certificate.specs.Certificate.{Cert}
use Rattle.sig_certificate.specs.Profile.{leaf_refusal}
use Rattle.sig_certificate.specs.declared.profile_error.CertificateValidationError.{CertificateValidationError}
use Rattle.sig_checked_bundle.specs.Passed.{HoldsLeaf}
use Rattle.sig_checked_bundle.specs.SigningCertificate.{AreRead, IsLeafAmong, IsLeafOf, IsLeafUnlessMany}
use Rattle.sig_checked_bundle.specs.SigningCertificate.{IsSigningCertificate, encodings_in}
use Rattle.sig_checked_bundle.specs.SigningCertificate.{is_root, leaf_among, leaf_or_refusal}
use Rattle.sig_checked_bundle.specs.declared.bundle_error.BundleErrorKind.{BundleErrorKind}
use Rattle.sig_checked_bundle.specs.declared.bundle_error.BundleErrorKind.TheVariants.{RootInChain}
use Rattle.sig_checked_bundle.specs.declared.signing_certificate.SigningChain.{SigningChain}
use Rattle.sig_bundle.specs.declared.material.MaterialContent.{MaterialContent}
use Rattle.sig_checked_bundle.proofs.Certificates.{rootless-told, rootless-tells}

abbrev chain : Cert → List Cert → SigningChain
chain c further = record { certificate = c; further = further }

led : (c : Cert) (found : SigningChain) (further : List Cert) (refusal : Option CertificateValidationError)
    → leaf_or_refusal c further refusal ≡ Ok found
    → (chain c further ≡ found) × (refusal ≡ None) × (list_any is_root further ≡ false)
led c found further (Some e) is = absurd cc
led c found further None is =
    let parts = guard_ok (list_any is_root further) RootInChain (Ok (chain c further)) found is in
    (ok_is (chain c further) found parts.1, refl, parts.0)

read-held : (content : Option MaterialContent) (ders : List (List ℕ)) (found : SigningChain)
    (read : Result (List Cert) BundleErrorKind) → encodings_in content ≡ Some ders → length ders ≤ 17
    → AreRead ders read → Ok found ≡ (read >>= leaf_among)
    → HoldsLeaf content found.certificate found.further
read-held content ders found (Err e) held few are is = absurd cc
read-held content ders found (Ok []) held few are is = absurd cc
read-held content ders found (Ok (d ∷ further)) held few are is =
    let parts = led d found further (leaf_refusal d) (sym is) in
    subst (λ (x : SigningChain). HoldsLeaf content x.certificate x.further) parts.0 (record {
      encodings = ders;
      held = held;
      few = few;
      read = are;
      may_sign = parts.1;
      rootless = rootless-told further parts.2;
    })

counted-held : (content : Option MaterialContent) (ders : List (List ℕ)) (found : SigningChain) (many : Bool)
    → encodings_in content ≡ Some ders → nat_lt 17 (length ders) ≡ many → IsLeafUnlessMany many ders (Ok found)
    → HoldsLeaf content found.certificate found.further
counted-held content ders found true is count answer = absurd cc
counted-held content ders found false is count answer =
    read-held content ders found answer.0 is (ltb-false 17 (length ders) count) answer.1 answer.2

among-held : (content : Option MaterialContent) (held : Option (List (List ℕ))) (found : SigningChain)
    → encodings_in content ≡ held → IsLeafAmong held (Ok found)
    → HoldsLeaf content found.certificate found.further
among-held content None found is answer = absurd cc
among-held content (Some ders) found is answer =
    counted-held content ders found (nat_lt 17 (length ders)) is refl answer

pub certificate-held : (content : Option MaterialContent) (found : SigningChain) → IsSigningCertificate content (Ok found)
    → HoldsLeaf content found.certificate found.further
certificate-held content found is = among-held content (encodings_in content) found refl is

leads : (c : Cert) (further : List Cert) → leaf_refusal c ≡ None → list_any is_root further ≡ false
    → Ok (chain c further) ≡ leaf_among (c ∷ further)
leads c further may_sign rootless = rw (may_sign, rootless) refl

-- what is made of at most 17 encodings
pub few-meant : (ders : List (List ℕ)) (answer : Result SigningChain BundleErrorKind) → length ders ≤ 17
    → IsLeafOf ders answer → IsLeafAmong (Some ders) answer
few-meant ders answer few is = rw (le-ltb 17 (length ders) few) is

pub certificate-meant : (content : Option MaterialContent) (c : Cert) (further : List Cert)
    → HoldsLeaf content c further → IsSigningCertificate content (Ok (chain c further))
certificate-meant content c further s =
    subst (λ (o : Option (List (List ℕ))). IsLeafAmong o (Ok (chain c further))) (sym s.held)
    (few-meant s.encodings (Ok (chain c further)) s.few
    (Ok (c ∷ further), s.read, leads c further s.may_sign (rootless-tells further s.rootless)))
