-- The derived `==` of what Rekor promised is equality of all parts.
-- An equality is a path from one side to the other; the path of a record is the record of the paths of its parts.
use Rattle.std.proofs.Common.{◌≡◌, refl}
use Rattle.std.proofs.lemmas.Bool.Decides.{Decides-and, Decides-int_eq}
use Rattle.std.specs.Bool.{Decides}
use Rattle.sig_base.proofs.Decisions.{decides_same, decides_bytes}
use Rattle.sig_payload.specs.contracts.bundle.BundlePartialEq.TheImpl as bundle_eq
use Rattle.sig_payload.specs.contracts.bundle.PayloadPartialEq.TheImpl as payload_eq
use Rattle.sig_payload.specs.contracts.bundle.SignedArtifactBundlePartialEq.TheImpl as artifact_eq
use Rattle.sig_payload.specs.declared.bundle.Bundle.{Bundle}
use Rattle.sig_payload.specs.declared.bundle.Payload.{Payload}
use Rattle.sig_payload.specs.declared.bundle.SignedArtifactBundle.{SignedArtifactBundle}

pub payload_eq-tells : (a b : Payload) → Decides ((payload_eq.ghosts).eq a b) (a ≡ b)
payload_eq-tells a b =
    decides_same _ (λ e i. record { body = e.0 i; integrated_time = e.1.0 i; log_index = e.1.1.0 i; log_id = e.1.1.1 i })
    (λ e. rw e (refl, (refl, (refl, refl))))
    (Decides-and _ _ (decides_bytes a.body b.body)
    (Decides-and _ _ (Decides-int_eq a.integrated_time b.integrated_time)
    (Decides-and _ _ (Decides-int_eq a.log_index b.log_index) (decides_bytes a.log_id b.log_id))))

pub bundle_eq-tells : (a b : Bundle) → Decides ((bundle_eq.ghosts).eq a b) (a ≡ b)
bundle_eq-tells a b =
    decides_same _ (λ e i. record { signed_entry_timestamp = e.0 i; payload = e.1 i }) (λ e. rw e (refl, refl))
    (Decides-and _ _ (decides_bytes a.signed_entry_timestamp b.signed_entry_timestamp)
    (payload_eq-tells a.payload b.payload))

pub artifact_eq-tells : (a b : SignedArtifactBundle) → Decides ((artifact_eq.ghosts).eq a b) (a ≡ b)
artifact_eq-tells a b =
    decides_same _ (λ e i. record { base64_signature = e.0 i; cert = e.1.0 i; rekor_bundle = e.1.1 i })
    (λ e. rw e (refl, (refl, refl)))
    (Decides-and _ _ (decides_bytes a.base64_signature b.base64_signature)
    (Decides-and _ _ (decides_bytes a.cert b.cert) (bundle_eq-tells a.rekor_bundle b.rekor_bundle)))
