-- The derived `==` of envelopes and their signatures is equality of all parts.
-- An equality is a path from one side to the other; the path of a record is the record of the paths of its parts.
use Rattle.std.proofs.Common.{◌≡◌, IsTrue, refl}
use Rattle.std.proofs.lemmas.Bool.Decides.{Decides-and}
use Rattle.std.proofs.lemmas.Slice.Eq.{slice_eq-Decides}
use Rattle.std.specs.Bool.{Decides}
use Rattle.sig_base.proofs.Decisions.{decides_same, decides_bytes}
use Rattle.sig_dsse.specs.SignatureEqualityProofs.{signature_eq-tells}
use Rattle.sig_dsse.specs.contracts.envelope.DsseEnvelopePartialEq.TheImpl as envelope_eq
use Rattle.sig_dsse.specs.contracts.envelope.DsseSignaturePartialEq.TheImpl as signature_eq
use Rattle.sig_dsse.specs.declared.envelope.DsseEnvelope.{DsseEnvelope}
use Rattle.sig_dsse.specs.declared.envelope.DsseSignature.{DsseSignature}

-- ---- envelopes

-- a signature that is equal to another by its `==` is that signature
pub signature_same-held : (a b : DsseSignature) → IsTrue ((signature_eq.ghosts).eq a b) → a ≡ b
signature_same-held a b = (signature_eq-tells a b).0

pub ruleset signature_same = (signature_same-held)

pub envelope_eq-tells : (a b : DsseEnvelope) → Decides ((envelope_eq.ghosts).eq a b) (a ≡ b)
envelope_eq-tells a b =
    decides_same _ (λ e i. record { payload = e.0 i; payload_type = e.1.0 i; signatures = e.1.1 i })
    (λ e. rw e (refl, (refl, refl)))
    (Decides-and _ _ (decides_bytes a.payload b.payload) (Decides-and _ _ (decides_bytes a.payload_type b.payload_type)
    (slice_eq-Decides signature_eq-tells a.signatures b.signatures _ refl)))
