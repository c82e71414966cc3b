-- The parts of a bundle that are bytes.
use Rattle.std.specs.Prelude.{◌≡◌, ℕ, List, [], ◌∷◌, Some}
use Rattle.sig_base.specs.ByteLists.{AreBytes}
use Rattle.sig_checked_bundle.specs.SigningCertificate.{encodings_in}
use Rattle.sig_bundle.specs.declared.bundle.Bundle.{Bundle}
use Rattle.sig_bundle.specs.declared.material.VerificationMaterial.{VerificationMaterial}

abbrev pub IsFirstOfBytes : List (List ℕ) → Type 0
IsFirstOfBytes [] = Unit {0}
IsFirstOfBytes (der ∷ ders) = AreBytes der

-- the DER of a bundle's first certificate is bytes
abbrev pub HasCertificateOfBytes : Bundle → Type 0
HasCertificateOfBytes b =
    (material : VerificationMaterial) (ders : List (List ℕ)) → b.verification_material ≡ Some material
    → encodings_in material.content ≡ Some ders → IsFirstOfBytes ders
