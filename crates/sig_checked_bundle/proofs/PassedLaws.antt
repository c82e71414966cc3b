-- A bundle passes its checks if and only if it holds what the format demands.
use Rattle.std.proofs.Common.{◌≡◌, Option, Some, None, Result, Ok, Err, refl, sym, subst}
use Rattle.std.specs.Prelude.{◌↔◌}
use Rattle.sig_base.proofs.ResultSteps.{ok_is, bind_ok}
use Rattle.sig_checked_bundle.specs.Checked.{Checked, checked, IsChecked, IsCheckedWith}
use Rattle.sig_checked_bundle.specs.Content.{content_with_signature}
use Rattle.sig_checked_bundle.specs.Passed.{IsPassed}
use Rattle.sig_checked_bundle.specs.Profile.{entry_among, meets_profile}
use Rattle.sig_checked_bundle.specs.SigningCertificate.{IsSigningCertificate}
use Rattle.sig_checked_bundle.specs.Version.{version_of}
use Rattle.sig_bundle.specs.declared.bundle.Bundle.{Bundle}
use Rattle.sig_checked_bundle.specs.declared.bundle_error.BundleErrorKind.{BundleErrorKind}
use Rattle.sig_checked_bundle.specs.declared.signing_certificate.SigningChain.{SigningChain}
use Rattle.sig_bundle.specs.declared.material.VerificationMaterial.{VerificationMaterial}
use Rattle.sig_checked_bundle.proofs.ContentLaws.{content-held, content-meant}
use Rattle.sig_checked_bundle.proofs.LeafLaws.{certificate-held, certificate-meant}
use Rattle.sig_checked_bundle.proofs.ProfileLaws.{profile-held, profile-meant, sole_entry}

passed : (bundle : Bundle) → (c : Checked) → (material : VerificationMaterial)
    → bundle.verification_material ≡ Some material
    → (signer : Result SigningChain BundleErrorKind) → IsSigningCertificate material.content signer
    → checked bundle material signer ≡ Ok c → IsPassed bundle c
passed bundle c material brought (Err e) signer is = absurd cc
passed bundle c material brought (Ok chain) signer is =
    let content = bind_ok (content_with_signature bundle.content) _ c is in
    let entry = bind_ok (entry_among material.tlog_entries) _ c content.2 in
    let met = bind_ok (meets_profile bundle.media_type entry.0) _ c entry.2 in
    let profile =
    profile-held bundle.media_type (version_of bundle.media_type) entry.0 met.0 refl met.1 in
    subst (IsPassed bundle) (ok_is _ c met.2) (record {
      material = material;
      brought = brought;
      certificate = certificate-held material.content chain signer;
      content = content-held bundle.content content.0 content.1;
      logged = sole_entry material.tlog_entries entry.0 entry.1;
      version = profile.0;
      named = profile.1;
      met = profile.2;
    })

passed-with : (bundle : Bundle) → (c : Checked) → (material : Option VerificationMaterial)
    → bundle.verification_material ≡ material
    → IsCheckedWith bundle material (Ok c) → IsPassed bundle c
passed-with bundle c None brought is = absurd cc
passed-with bundle c (Some material) brought is = passed bundle c material brought is.0 is.1 (sym is.2)

passes : (bundle : Bundle) → (c : Checked) → IsPassed bundle c → IsChecked bundle (Ok c)
passes bundle c p =
    let P : Option VerificationMaterial → Type 0 = λ o. IsCheckedWith bundle o (Ok c) in
    subst P (sym p.brought) (
      Ok (record { certificate = c.certificate; further = c.further }),
      certificate-meant p.material.content c.certificate c.further p.certificate,
      (
          rw (
            content-meant bundle.content c.signature c.content p.content,
            p.logged,
            profile-meant bundle.media_type p.version c.entry p.named p.met,
          ) refl),
    )

pub passed-iff : (bundle : Bundle) → (c : Checked) → IsChecked bundle (Ok c) ↔ IsPassed bundle c
passed-iff bundle c = (passed-with bundle c bundle.verification_material refl, passes bundle c)
