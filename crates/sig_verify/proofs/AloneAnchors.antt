-- A pool that is made of trust anchors alone has no intermediates, and too many of these cannot be its error.
use Rattle.std.proofs.Common.{◌≡◌, ℕ, List, [], ◌∷◌, Option, refl}
use Rattle.sig_certificate.specs.Certificate.{Cert}
use Rattle.sig_x509.specs.Pool.{AreReadAs}

-- none were read
pub none_read : (ders : List (List ℕ)) (intermediates : List (Option Cert)) → ders ≡ [] → AreReadAs ders intermediates
    → intermediates ≡ []
none_read [] [] e are = refl
none_read [] (o ∷ os) e are = absurd are
none_read (d ∷ ds) os e are = absurd cc

pub ruleset alone_anchors = none_read
