-- The derived `==` of signatures is equality of both parts: so it is an equivalence.
-- An equality is a path from one side to the other; the path of a record is the record of the paths of its parts.
use Rattle.std.proofs.Common.{◌≡◌, refl}
use Rattle.std.proofs.lemmas.Bool.Decides.{Decides-and}
use Rattle.std.specs.Bool.{Decides}
use Rattle.std.specs.Cmp.{IsEquivalence, decided}
use Rattle.sig_base.proofs.Decisions.{decides_same, decides_bytes}
use Rattle.sig_dsse.specs.contracts.envelope.DsseSignaturePartialEq.TheImpl as signature_eq
use Rattle.sig_dsse.specs.declared.envelope.DsseSignature.{DsseSignature}

pub signature_eq-tells : (a b : DsseSignature) → Decides ((signature_eq.ghosts).eq a b) (a ≡ b)
signature_eq-tells a b =
    decides_same _ (λ e i. record { sig = e.0 i; keyid = e.1 i }) (λ e. rw e (refl, refl))
    (Decides-and _ _ (decides_bytes a.sig b.sig) (decides_bytes a.keyid b.keyid))

pub signatures_equiv : IsEquivalence ((signature_eq.ghosts).eq)
signatures_equiv = decided (signature_eq.ghosts).eq signature_eq-tells
