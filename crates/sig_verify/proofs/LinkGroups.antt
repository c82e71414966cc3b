-- What a link asks of the inputs is what it asks of the root, of the bundle and of the log entry that these are.
use Rattle.std.proofs.Common.{◌≡◌, ◌↔◌, ◌≢◌, ℕ, true, List, [], ◌++◌, Option, None, Ok, sym, ap, subst, ◌∙◌}
use Rattle.std.proofs.Math.Path.{fun_ext}
use Rattle.std.specs.List.{AllByRecursion}
use Rattle.sig_base.specs.declared.fault.TrustPart.TheVariants as part
use Rattle.sig_checked_bundle.proofs.Certificates.{OneCertificate}
use Rattle.sig_bundle.specs.BundleRecord.{bundle_in}
use Rattle.sig_checked_bundle.specs.Checked.{Checked}
use Rattle.sig_checked_bundle.specs.Passed.{IsMet, IsPassed}
use Rattle.sig_checked_bundle.specs.SigningCertificate.{IsNoRoot}
use Rattle.sig_bundle.specs.declared.bundle.Bundle.{Bundle}
use Rattle.sig_bundle.specs.declared.material.TransparencyLogEntry.{TransparencyLogEntry}
use Rattle.sig_certificate.specs.Profile.{leaf_refusal}
use Rattle.sig_root.specs.RootRecord.{trusted_root_in}
use Rattle.sig_root.specs.declared.record.TrustedRoot.{TrustedRoot}
use Rattle.sig_timestamp.specs.Keyring.{key_of}
use Rattle.sig_timestamp.specs.RingKey.{point_at}
use Rattle.sig_x509.specs.Issuance.{AreAnchors}
use Rattle.sig_x509.specs.Issued.{HasProfile}
use Rattle.sig_verify.proofs.JudgedLaws.{Alike, alike_joined, both_alike}
use Rattle.sig_verify.proofs.Parts.{AnchoredParts, Parts, bundle_from, checked_from, checked_to, logged_from, logged_to}
use Rattle.sig_verify.proofs.Parts.{of_checked, root_from}
use Rattle.sig_verify.proofs.RootVerdicts.{some_given}
use Rattle.sig_verify.proofs.VerifiedBundles.{one_checked}
use Rattle.sig_verify.specs.BundleLinks.{AreFew, IsContentRead, OfCertificates, OfContent, OfEncodings, OfEntry}
use Rattle.sig_verify.specs.BundleLinks.{OfVersion, bundle_links}
use Rattle.sig_verify.specs.CertificateLinks.{HasIssuer, HasSignedBytes, IsAbout, IsSignedContent, IsTimely}
use Rattle.sig_verify.specs.CertificateLinks.{IsVouchedFor, OfScheme, Trust, certificate_links}
use Rattle.sig_verify.specs.EntryLinks.{HasCanonicalPromise, HoldsOfEntry, IsLed, IsNoteOf, IsNoteSignedBy, IsPlaced}
use Rattle.sig_verify.specs.EntryLinks.{IsPromisedBy, IsProofRead, LogKeys, OfCheckpoint, OfLogKey, OfProof}
use Rattle.sig_verify.specs.EntryLinks.{entry_links}
use Rattle.sig_verify.specs.LinkLaws.{HoldsOfVerified, trust_of}
use Rattle.sig_verify.specs.Links.{HoldsOf, Inputs, OfBundle, OfChecked, OfLogged, OfRoot, Outside}
use Rattle.sig_verify.specs.OfflineVerdict.{authorities_of, ct_keys_of}
use Rattle.sig_verify.specs.RootLinks.{HoldsOfRoot, IsSomeAnchor, authorities, ct_keys, rekor_keys}
use Rattle.sig_verify.specs.RootLinks.{root_links}
use Rattle.sig_verify.specs.Verdict.{HasBody}
use Rattle.sig_verify.specs.Verifier.{IsVerifierOf, Trusted, values_of}
use Rattle.sig_verify.specs.declared.link.Link.{Link}

module _ (o : Outside) (i : Inputs) (root : TrustedRoot) (root_is : trusted_root_in i.root ≡ Ok root) where
  root_as : (P : TrustedRoot → Type 0) → P root ↔ OfRoot i P
  root_as P = ((λ p. (root, root_is, p)), root_from i root root_is P)

  pub roots_alike : Alike (HoldsOfRoot root i.now) (HoldsOf o i) root_links
  roots_alike = (
    root_as (λ r. authorities r i.now ≢ []),
    (
      root_as (λ r. AllByRecursion IsSomeAnchor (authorities r i.now)),
      (root_as (λ r. ct_keys r i.now ≢ []), tt),
    ),
  )

  module _ (b : Bundle) (bundle_is : bundle_in i.bundle ≡ Ok b) where
    bundle_as : (P : Bundle → Type 0) → P b ↔ OfBundle i P
    bundle_as P = ((λ p. (b, bundle_is, p)), bundle_from i b bundle_is P)

    -- the parts, with what the bundle's checks leave of it
    abbrev parts_with : (c : Checked) → IsPassed b c → Parts i
    parts_with c passed = record {
      root = root;
      root_is = root_is;
      bundle = b;
      bundle_is = bundle_is;
      checked = c;
      passed = passed;
    }

    -- ---- the log entry

    module _ (one : OneCertificate) (c : Checked) (is : IsPassed b c) where
      entry_as : (X : LogKeys → TransparencyLogEntry → Type 0) → X (rekor_keys root i.now) c.entry ↔ OfLogged i X
      entry_as X = (logged_to (parts_with c is) X, logged_from one (parts_with c is) X)

      pub entries_alike : Alike (HoldsOfEntry o.checker.spki (rekor_keys root i.now) c.entry) (HoldsOf o i) entry_links
      entries_alike = (
        entry_as (λ keys e. OfLogKey keys e (λ key. Unit {0})),
        (
          both_alike (entry_as (λ keys e. HasCanonicalPromise e))
              (entry_as (λ keys e. IsPromisedBy o.checker.spki keys e)),
          (
            entry_as (λ keys e. OfProof e IsProofRead),
            (
              entry_as (λ keys e. OfCheckpoint e (λ p n. Unit {0})),
              (
                entry_as (λ keys e. IsNoteSignedBy o.checker.spki keys e),
                (
                  entry_as (λ keys e. OfCheckpoint e IsNoteOf),
                  (
                    both_alike (entry_as (λ keys e. OfProof e IsPlaced))
                        (entry_as (λ keys e. OfProof e (IsLed e))),
                    tt,
                  ),
                ),
              ),
            ),
          ),
        ),
      )

    -- ---- the bundle and its certificate

    module _ (one : OneCertificate) (trusted : Trusted)
        (is : IsVerifierOf (authorities_of root i.now) (ct_keys_of root i.now) trusted) where
      abbrev Verified : Link → Type 0
      Verified = HoldsOfVerified o.checker o.policy (trust_of trusted) i.digest true b

      are_anchors : AreAnchors (authorities root i.now) trusted.anchors
      are_anchors =
          subst (λ (ders : List (List ℕ)). AreAnchors ders trusted.anchors)
          (sym (some_given part.Fulcio (authorities root i.now) is.certificates is.given).1) is.anchors

      same_points : key_of (values_of (ct_keys root i.now)) ≡ point_at trusted.ring
      same_points = fun_ext (λ id. sym (is.ring id ∙ ap (λ (keys : LogKeys). key_of (values_of keys) id)
          (sym (some_given part.Ctfe (ct_keys root i.now) is.keys is.logs).1)))

      abbrev given_trust : Trust
      given_trust = record { anchors = trusted.anchors; points = key_of (values_of (ct_keys root i.now)) }

      same_trust : given_trust ≡ trust_of trusted
      same_trust =
          ap (λ (points : List ℕ → Option (List ℕ)). record { anchors = trusted.anchors; points = points })
          same_points

      abbrev Found : (Trust → Checked → Type 0) → Type 0
      Found X = (c : Checked) × IsPassed b c × X (trust_of trusted) c

      abbrev anchored_with : (c : Checked) → IsPassed b c → AnchoredParts i
      anchored_with c passed =
          record { parts = parts_with c passed; anchors = trusted.anchors; given = are_anchors }

      pub found_to : (X : Trust → Checked → Type 0) → Found X → OfChecked i X
      found_to X (c, passed, x) =
          checked_to (anchored_with c passed) X (subst (λ (t : Trust). X t c) (sym same_trust) x)

      found_from : (X : Trust → Checked → Type 0) → OfChecked i X → Found X
      found_from X of =
          of_checked i X (Found X) (λ p x.
          let there : (c : Checked) × IsPassed b c =
          bundle_from i b bundle_is (λ y. (c : Checked) × IsPassed y c)
          (p.parts.bundle, p.parts.bundle_is, (p.parts.checked, p.parts.passed)) in (
            there.0,
            there.1,
            subst (λ (t : Trust). X t there.0) same_trust
                (checked_from one (anchored_with there.0 there.1) X of),
          )) of

      checked_as : (X : Trust → Checked → Type 0) → Found X ↔ OfChecked i X
      checked_as X = (found_to X, found_from X)

      -- two that hold of one bundle hold of one checked bundle
      both_from : (X Y : Trust → Checked → Type 0) → Found X → Found Y → Found (λ trust c. X trust c × Y trust c)
      both_from X Y (c, passed, x) (e, other, y) = (
        c,
        passed,
        (x, subst (λ (z : Checked). Y (trust_of trusted) z) (one_checked one b c e passed other) y),
      )

      both_as : (X Y : Trust → Checked → Type 0)
          → Found (λ trust c. X trust c × Y trust c) ↔ (OfChecked i X × OfChecked i Y)
      both_as X Y = (
        (λ (c, passed, (x, y)). ((checked_as X).0 (c, passed, x), (checked_as Y).0 (c, passed, y))),
        (λ both. both_from X Y ((checked_as X).1 both.0) ((checked_as Y).1 both.1)),
      )

      bundles_alike : Alike Verified (HoldsOf o i) bundle_links
      bundles_alike = (
        bundle_as (λ x. OfEncodings x (λ ders. Unit {0})),
        (
          bundle_as (λ x. OfCertificates x (λ c further. AreFew further)),
          (
            bundle_as (λ x. OfCertificates x (λ c further. leaf_refusal c ≡ None)),
            (
              bundle_as (λ x. OfCertificates x (λ c further. AllByRecursion IsNoRoot further)),
              (
                bundle_as (λ x. OfContent x (λ content. Unit {0})),
                (
                  bundle_as (λ x. OfContent x IsContentRead),
                  (
                    bundle_as (λ x. OfEntry x (λ e. Unit {0})),
                    (bundle_as (λ x. OfVersion x (λ version. OfEntry x (IsMet version))), tt),
                  ),
                ),
              ),
            ),
          ),
        ),
      )

      certificates_alike : Alike Verified (HoldsOf o i) certificate_links
      certificates_alike = (
        checked_as (λ trust c. HasProfile c.certificate),
        (
          checked_as (λ trust c. HasIssuer o.checker trust c),
          (
            both_as (λ trust c. HasSignedBytes c.certificate)
                (λ trust c. IsVouchedFor o.checker trust c),
            (
              checked_as (λ trust c. o.policy.holds c.certificate ≡ true),
              (
                checked_as (λ trust c. OfScheme c.certificate (λ scheme. Unit {0})),
                (
                  checked_as (λ trust c. IsSignedContent o.checker i.digest c),
                  (
                    checked_as (λ trust c. IsAbout c.content i.digest),
                    (
                      checked_as (λ trust c. HasBody c i.digest true),
                      (checked_as (λ trust c. IsTimely c), tt),
                    ),
                  ),
                ),
              ),
            ),
          ),
        ),
      )

      pub verified_alike : Alike Verified (HoldsOf o i) (bundle_links ++ certificate_links)
      verified_alike = alike_joined Verified (HoldsOf o i) bundle_links certificate_links bundles_alike
          certificates_alike
