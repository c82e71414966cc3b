-- A certificate that comes twice in a path.
use Rattle.std.proofs.Common.{◌≡◌, ℕ, suc, ◌+◌, ◌<◌, ◌≤◌, ℤ, List, [], ◌∷◌, ◌++◌, length}
use Rattle.std.proofs.Common.{Some, slice_get, ap, subst, arith}
use Rattle.std.proofs.lemmas.List.{length-append}
use Rattle.sig_certificate.specs.Certificate.{Cert}
use Rattle.sig_x509.specs.Issuance.{Accepts}
use Rattle.sig_x509.specs.Issued.{IsSignedBy}
use Rattle.sig_x509.specs.Path.{AllowsBetween, AreSignedUp, IsIssuerIn, IsPath}
use Rattle.sig_x509.specs.PathPlaces.{HasRoomFor}
use Rattle.sig_x509.specs.Pool.{Pool}
use Rattle.sig_x509.specs.declared.issuer.Issuer.{Issuer}
use Rattle.sig_x509.specs.declared.issuer.Issuer.TheVariants.{Anchor, Intermediate}
use Rattle.sig_x509.proofs.PathTable.{AreStanding, standing_at, standing_from}
use Rattle.sig_x509.proofs.PlaceLaws.{IsGiven, all_joined, all_parts, given_of, path_by, room_is}
use Rattle.sig_x509.proofs.PlaceLaws.{standing_joined, standing_of, standing_parts}

-- ---- with fewer before them

fewer : (t : ℤ) (xs : List Cert) (m n : ℕ) → m ≤ n → AreStanding t n xs → AreStanding t m xs
fewer t [] m n le are = tt
fewer t (x ∷ xs) m n le are = (
  (are.0.0, allowed are.0.1),
  fewer t xs (suc m) (suc n) (omega (arith, le)) are.1,
)
  where
    allowed : AllowsBetween x n → AllowsBetween x m
    allowed allows b most said limit = let at_most = allows b most said limit in omega (arith, le, at_most)

-- ---- what leads from the first to the second is left out

-- those after x are signed as they were
signed_after : (accepts : Accepts) (c : Cert) (between : List Cert) (x : Cert) (above : List Cert) (anchor : Cert)
    → AreSignedUp accepts c (between ++ x ∷ above) anchor → AreSignedUp accepts x above anchor
signed_after accepts c [] x above anchor signed = signed.1
signed_after accepts c (y ∷ between) x above anchor signed = signed_after accepts y between x above anchor signed.1

signed_without : (accepts : Accepts) (c : Cert) (before : List Cert) (x : Cert) (between above : List Cert)
    (anchor : Cert) → AreSignedUp accepts c (before ++ x ∷ (between ++ x ∷ above)) anchor
    → AreSignedUp accepts c (before ++ x ∷ above) anchor
signed_without accepts c [] x between above anchor signed =
    (signed.0, signed_after accepts x between x above anchor signed.1)
signed_without accepts c (y ∷ before) x between above anchor signed =
    (signed.0, signed_without accepts y before x between above anchor signed.1)

signed_twice : (accepts : Accepts) (c : Cert) (before : List Cert) (x : Cert) (above : List Cert) (anchor : Cert)
    → IsSignedBy accepts x x → AreSignedUp accepts c (before ++ x ∷ above) anchor
    → AreSignedUp accepts c (before ++ x ∷ x ∷ above) anchor
signed_twice accepts c [] x above anchor itself signed = (signed.0, (itself, signed.1))
signed_twice accepts c (y ∷ before) x above anchor itself signed =
    (signed.0, signed_twice accepts y before x above anchor itself signed.1)

module _ (accepts : Accepts) (pool : Pool) (c : Cert) (t : ℤ) (before : List Cert) (x : Cert) where
  pub without : (between above : List Cert) (anchor : Cert)
      → IsPath accepts pool c t (before ++ x ∷ (between ++ x ∷ above)) anchor
      → IsPath accepts pool c t (before ++ x ∷ above) anchor
  without between above anchor path =
      let all = before ++ x ∷ (between ++ x ∷ above) in
      let standing =
      standing_parts t 0 before (x ∷ (between ++ x ∷ above)) (standing_of accepts pool c t all anchor path) in
      let after = standing_parts t (suc (0 + length before)) between (x ∷ above) standing.1.1 in
      let given =
      all_parts (IsGiven pool) before (x ∷ (between ++ x ∷ above)) (given_of accepts pool c t all anchor path) in
      let given_after = all_parts (IsGiven pool) between (x ∷ above) given.1.1 in
      let at_most : length all ≤ 6 = path.few in
      let longer : length all ≡ length before + suc (length (between ++ x ∷ above)) =
      length-append before (x ∷ (between ++ x ∷ above)) in
      let inner : length (between ++ x ∷ above) ≡ length between + suc (length above) =
      length-append between (x ∷ above) in
      let shorter : length (before ++ x ∷ above) ≡ length before + suc (length above) =
      length-append before (x ∷ above) in
      path_by accepts pool c t (before ++ x ∷ above) anchor path.begun path.lasting path.purpose
      (omega (arith, at_most, longer, inner, shorter)) path.trusted
      (standing_joined t 0 before (x ∷ above) standing.0 (
        standing.1.0,
        fewer t above (suc (0 + length before)) (suc (suc (0 + length before) + length between))
            (omega arith) after.1.1,
      ))
      (all_joined (IsGiven pool) before (x ∷ above) given.0 (given.1.0, given_after.1.1))
      (signed_without accepts c before x between above anchor path.signed)

  pub twice : (above : List Cert) (anchor : Cert) → IsPath accepts pool c t (before ++ x ∷ above) anchor
      → IsSignedBy accepts x x → length (before ++ x ∷ above) < 6
      → ((k : ℕ) (y : Cert) → slice_get (x ∷ above) k ≡ Some y → HasRoomFor y (length before + suc k))
      → IsPath accepts pool c t (before ++ x ∷ x ∷ above) anchor
  twice above anchor path itself under room =
      let all = before ++ x ∷ above in
      let standing = standing_parts t 0 before (x ∷ above) (standing_of accepts pool c t all anchor path) in
      let given = all_parts (IsGiven pool) before (x ∷ above) (given_of accepts pool c t all anchor path) in
      let shorter : length all ≡ length before + suc (length above) = length-append before (x ∷ above) in
      let longer : length (before ++ x ∷ x ∷ above) ≡ length before + suc (suc (length above)) =
      length-append before (x ∷ x ∷ above) in
      let moved : AreStanding t (suc (0 + length before)) (x ∷ above) =
      standing_from t (suc (0 + length before)) (x ∷ above)
      (λ k y at. (standing_at t (0 + length before) (x ∷ above) standing.1 k y at).0)
      (λ k y at. subst (λ (n : ℕ). AllowsBetween y n) (omega arith) (room_is y (length before + suc k) (room k y at))) in
      path_by accepts pool c t (before ++ x ∷ x ∷ above) anchor path.begun path.lasting path.purpose
      (omega (arith, under, longer, shorter)) path.trusted
      (standing_joined t 0 before (x ∷ x ∷ above) standing.0 (standing.1.0, moved))
      (all_joined (IsGiven pool) before (x ∷ x ∷ above) given.0 (given.1.0, given.1))
      (signed_twice accepts c before x above anchor itself path.signed)

-- ---- the issuer

pub same_issuer : (before : List Cert) (x : Cert) (between above : List Cert) (anchor : Cert) (issuer : Issuer)
    (y : Cert) → IsIssuerIn issuer y (before ++ x ∷ (between ++ x ∷ above)) anchor
    → IsIssuerIn issuer y (before ++ x ∷ above) anchor
same_issuer [] x between above anchor (Anchor index) y is = let wrong = is.0 in absurd cc
same_issuer (z ∷ before) x between above anchor (Anchor index) y is = let wrong = is.0 in absurd cc
same_issuer [] x between above anchor (Intermediate index) y is =
    let all = is.1 in let same : x ≡ y = cc in (above, ap (λ (w : Cert). w ∷ above) same)
same_issuer (z ∷ before) x between above anchor (Intermediate index) y is =
    let all = is.1 in let same : z ≡ y = cc in
    (before ++ x ∷ above, ap (λ (w : Cert). w ∷ (before ++ x ∷ above)) same)
