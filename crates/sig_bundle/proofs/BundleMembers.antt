-- Of a bundle's object no member but these is looked at.
use Rattle.std.proofs.Common.{◌≡◌, ℕ, List, [], ◌∷◌, codes, None, Some, option_map, refl}
use Rattle.sig_json.proofs.NamedMembers.{optional_or-only}
use Rattle.sig_json.proofs.Records.{record_with-same}
use Rattle.sig_json.specs.Data.{Data}
use Rattle.sig_json.specs.Kinds.{text_of}
use Rattle.sig_json.specs.Only.{only}
use Rattle.sig_json.specs.Record.{record_with}
use Rattle.sig_bundle.specs.BundleRecord.{bundle_in, bundle_of, content_of, envelope_of, material_of}
use Rattle.sig_bundle.specs.BundleRecord.{message_signature_of}

abbrev pub bundle_names : List (List ℕ)
bundle_names =
    codes "mediaType" ∷ codes "verificationMaterial" ∷ codes "messageSignature" ∷ codes "dsseEnvelope" ∷ []

bundle-only : (d : Data) → bundle_of (only bundle_names d) ≡ bundle_of d
unfolding bundle_of content_of
bundle-only d =
    rw (
      optional_or-only [] text_of bundle_names (codes "mediaType") d refl,
      optional_or-only None (λ e. option_map Some (material_of e)) bundle_names (codes "verificationMaterial") d refl,
      optional_or-only None (λ e. option_map Some (message_signature_of e)) bundle_names (codes "messageSignature") d
          refl,
      optional_or-only None (λ e. option_map Some (envelope_of e)) bundle_names (codes "dsseEnvelope") d refl,
    ) refl

pub bundle-listed : (text : List ℕ) → record_with bundle_names bundle_of text ≡ bundle_in text
bundle-listed text = record_with-same bundle_names bundle_of text bundle-only
