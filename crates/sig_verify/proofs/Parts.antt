-- The parts of inputs that links speak of, apart from what they say of them.
use Rattle.std.proofs.Common.{◌≡◌, ℕ, List, [], ◌∷◌, Ok, sym, subst, ◌∙◌}
use Rattle.sig_base.proofs.ResultSteps.{ok_is}
use Rattle.sig_base.proofs.PairedLists.{zip_one}
use Rattle.sig_checked_bundle.proofs.Certificates.{OneCertificate}
use Rattle.sig_bundle.specs.BundleRecord.{bundle_in}
use Rattle.sig_checked_bundle.specs.Checked.{Checked}
use Rattle.sig_checked_bundle.specs.Passed.{IsPassed}
use Rattle.sig_bundle.specs.declared.bundle.Bundle.{Bundle}
use Rattle.sig_bundle.specs.declared.material.TransparencyLogEntry.{TransparencyLogEntry}
use Rattle.sig_certificate.specs.Certificate.{Cert, IsCertificate}
use Rattle.sig_certificate.specs.Certificates.{AreCertificates}
use Rattle.sig_root.specs.RootRecord.{trusted_root_in}
use Rattle.sig_root.specs.declared.record.TrustedRoot.{TrustedRoot}
use Rattle.sig_timestamp.specs.Keyring.{key_of}
use Rattle.sig_verify.proofs.VerifiedBundles.{one_checked}
use Rattle.sig_verify.specs.CertificateLinks.{Trust}
use Rattle.sig_verify.specs.EntryLinks.{LogKeys}
use Rattle.sig_verify.specs.Links.{Inputs, OfBundle, OfChecked, OfLogged, OfPassed, OfRoot}
use Rattle.sig_verify.specs.RootLinks.{OfTrust, authorities, ct_keys, rekor_keys}
use Rattle.sig_verify.specs.Verifier.{values_of}
use Rattle.sig_x509.specs.Issuance.{AreAnchors, IsAnchor}

-- a trusted root, and a bundle with what its own checks leave of it
pub record Parts (i : Inputs) : Type 0 where
  pub root : TrustedRoot
  pub root_is : trusted_root_in i.root ≡ Ok root
  pub bundle : Bundle
  pub bundle_is : bundle_in i.bundle ≡ Ok bundle
  pub checked : Checked
  pub passed : IsPassed bundle checked

-- with the trust anchors that the root gives
pub record AnchoredParts (i : Inputs) : Type 0 where
  pub parts : Parts i
  pub anchors : List Cert
  pub given : AreAnchors (authorities parts.root i.now) anchors

abbrev pub log_keys_of : {i : Inputs} → Parts i → LogKeys
log_keys_of {i} p = rekor_keys p.root i.now

abbrev pub trust_with : {i : Inputs} → AnchoredParts i → Trust
trust_with {i} p = record { anchors = p.anchors; points = key_of (values_of (ct_keys p.parts.root i.now)) }

-- of all parts this holds
abbrev pub OfParts : Inputs → (Trust → LogKeys → Checked → Type 0) → Type 0
OfParts i X = OfRoot i (λ root. OfTrust root i.now (λ trust. OfPassed i (X trust (rekor_keys root i.now))))

-- ---- what is said of inputs holds of their parts, and the other way round

-- to use what is said of inputs: take the parts that it holds of
pub of_parts : (i : Inputs) (X : Trust → LogKeys → Checked → Type 0) (Y : Type 0)
    → ((p : AnchoredParts i) → X (trust_with p) (log_keys_of p.parts) p.parts.checked → Y) → OfParts i X → Y
of_parts i X Y each (root, root_is, (anchors, given, (bundle, bundle_is, (checked, passed, x)))) =
    each (record {
      parts = record {
        root = root;
        root_is = root_is;
        bundle = bundle;
        bundle_is = bundle_is;
        checked = checked;
        passed = passed;
      };
      anchors = anchors;
      given = given;
    }) x

pub of_checked : (i : Inputs) (X : Trust → Checked → Type 0) (Y : Type 0)
    → ((p : AnchoredParts i) → X (trust_with p) p.parts.checked → Y) → OfChecked i X → Y
of_checked i X Y each of = of_parts i (λ trust keys. X trust) Y each of

pub of_logged : (i : Inputs) (X : LogKeys → TransparencyLogEntry → Type 0) (Y : Type 0)
    → ((p : Parts i) → X (log_keys_of p) p.checked.entry → Y) → OfLogged i X → Y
of_logged i X Y each (root, root_is, (bundle, bundle_is, (checked, passed, x))) =
    each (record {
      root = root;
      root_is = root_is;
      bundle = bundle;
      bundle_is = bundle_is;
      checked = checked;
      passed = passed;
    }) x

-- to say it of inputs: it holds of these parts
pub parts_to : {i : Inputs} (p : AnchoredParts i) (X : Trust → LogKeys → Checked → Type 0)
    → X (trust_with p) (log_keys_of p.parts) p.parts.checked → OfParts i X
parts_to p X x =
    let q = p.parts in
    (q.root, q.root_is, (p.anchors, p.given, (q.bundle, q.bundle_is, (q.checked, q.passed, x))))

pub checked_to : {i : Inputs} (p : AnchoredParts i) (X : Trust → Checked → Type 0)
    → X (trust_with p) p.parts.checked → OfChecked i X
checked_to p X x = parts_to p (λ trust keys. X trust) x

pub logged_to : {i : Inputs} (p : Parts i) (X : LogKeys → TransparencyLogEntry → Type 0)
    → X (log_keys_of p) p.checked.entry → OfLogged i X
logged_to p X x = (p.root, p.root_is, (p.bundle, p.bundle_is, (p.checked, p.passed, x)))

-- what follows of the same parts
pub checked_as : (i : Inputs) (X Y : Trust → Checked → Type 0)
    → ((p : AnchoredParts i) → X (trust_with p) p.parts.checked → Y (trust_with p) p.parts.checked)
    → OfChecked i X → OfChecked i Y
checked_as i X Y step = of_checked i X (OfChecked i Y) (λ p x. checked_to p Y (step p x))

pub logged_as : (i : Inputs) (X Y : LogKeys → TransparencyLogEntry → Type 0)
    → ((p : Parts i) → X (log_keys_of p) p.checked.entry → Y (log_keys_of p) p.checked.entry)
    → OfLogged i X → OfLogged i Y
logged_as i X Y step = of_logged i X (OfLogged i Y) (λ p x. logged_to p Y (step p x))

-- ---- what is said of inputs holds of each of their parts, since there is one of each

-- the anchors of bytes are the certificates that these are
pub one_list : OneCertificate → (ders : List (List ℕ)) (cs ds : List Cert) → AreAnchors ders cs
    → AreCertificates ders ds → cs ≡ ds
one_list one = zip_one IsAnchor IsCertificate (λ t c d anchor is. one t c d anchor.certificate is)

are_read : (ders : List (List ℕ)) (cs : List Cert) → AreAnchors ders cs → AreCertificates ders cs
are_read [] [] are = tt
are_read [] (c ∷ cs) are = absurd are
are_read (t ∷ ts) [] are = absurd are
are_read (t ∷ ts) (c ∷ cs) are = (are.0.certificate, are_read ts cs are.1)

pub root_from : (i : Inputs) (root : TrustedRoot) → trusted_root_in i.root ≡ Ok root → (P : TrustedRoot → Type 0)
    → OfRoot i P → P root
root_from i root root_is P of = subst P (ok_is of.0 root (sym of.1 ∙ root_is)) of.2

pub bundle_from : (i : Inputs) (b : Bundle) → bundle_in i.bundle ≡ Ok b → (P : Bundle → Type 0) → OfBundle i P → P b
bundle_from i b bundle_is P of = subst P (ok_is of.0 b (sym of.1 ∙ bundle_is)) of.2

passed_from : OneCertificate → {i : Inputs} (p : Parts i) (P : Checked → Type 0) → OfPassed i P → P p.checked
passed_from one {i} p P of =
    let there = bundle_from i p.bundle p.bundle_is (λ b. (c : Checked) × IsPassed b c × P c) of in
    subst P (one_checked one p.bundle p.checked there.0 p.passed there.1) there.2

pub parts_from : OneCertificate → {i : Inputs} (p : AnchoredParts i) (X : Trust → LogKeys → Checked → Type 0)
    → OfParts i X → X (trust_with p) (log_keys_of p.parts) p.parts.checked
parts_from one {i} p X of =
    let ders = authorities p.parts.root i.now in
    let points = key_of (values_of (ct_keys p.parts.root i.now)) in
    let keys = log_keys_of p.parts in
    let there = root_from i p.parts.root p.parts.root_is
    (λ r. OfTrust r i.now (λ trust. OfPassed i (X trust (rekor_keys r i.now)))) of in
    let same : there.0 ≡ p.anchors = one_list one ders there.0 p.anchors there.1 (are_read ders p.anchors p.given) in
    passed_from one p.parts (X (trust_with p) keys)
    (subst (λ (cs : List Cert). OfPassed i (X (record { anchors = cs; points = points }) keys)) same there.2)

pub checked_from : OneCertificate → {i : Inputs} (p : AnchoredParts i) (X : Trust → Checked → Type 0)
    → OfChecked i X → X (trust_with p) p.parts.checked
checked_from one p X of = parts_from one p (λ trust keys. X trust) of

pub logged_from : OneCertificate → {i : Inputs} (p : Parts i) (X : LogKeys → TransparencyLogEntry → Type 0)
    → OfLogged i X → X (log_keys_of p) p.checked.entry
logged_from one {i} p X of =
    passed_from one p (λ c. X (log_keys_of p) c.entry)
    (root_from i p.root p.root_is (λ r. OfPassed i (λ c. X (rekor_keys r i.now) c.entry)) of)
