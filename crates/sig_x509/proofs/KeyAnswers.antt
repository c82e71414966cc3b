-- What a checker's list of keys says of who signed a certificate.
use Rattle.std.proofs.Common.{◌≡◌, ℕ, Bool, true, false, ◌&&◌, ◌∙◌, List, [], ◌∷◌, length, refl, sym, ap, subst}
use Rattle.std.proofs.Common.{arith, ◌==◌}
use Rattle.std.specs.Prelude.{Contains, bytes_eq, position}
use Rattle.std.specs.List.{list_any}
use Rattle.std.proofs.lemmas.Bool.{eqb-true}
use Rattle.std.proofs.lemmas.Slice.Eq.{bytes_eq-Decides}
use Rattle.sig_base.specs.Checker.{AreKeysOf}
use Rattle.sig_certificate.specs.Certificate.{Cert}
use Rattle.sig_x509.specs.Issuance.{Accepts, IsSignedByNone, is_genuine_under, is_signed_by}
use Rattle.sig_x509.specs.KeyOrder.{has_some_key}
use Rattle.sig_x509.proofs.Elements.{any_from, any_is, at_contained, contains_at, same_position}
use Rattle.sig_x509.proofs.RowLaws.{same_bool}

module _ (accepts : Accepts) (c : Cert) (keys : List (List ℕ)) (are : AreKeysOf (is_genuine_under accepts c) keys) where
  listed : (key : List ℕ) → list_any (λ k. bytes_eq k key) keys ≡ is_genuine_under accepts c key
  listed key =
      same_bool (list_any (λ k. bytes_eq k key) keys) (is_genuine_under accepts c key)
      (λ any. let found = any_from (λ k. bytes_eq k key) keys any in
      (are key).1 (subst (λ (k : List ℕ). Contains keys k) ((bytes_eq-Decides found.1 key).0 found.3)
      (contains_at keys found.0 found.1 found.2)))
      (λ genuine. let has = (are key).0 genuine in
      any_is (λ k. bytes_eq k key) keys has.0 key (at_contained keys key has) ((bytes_eq-Decides key key).1 refl))

  -- the first trust anchor with the name of the issuer and a key of the list is the first that signed
  pub first_signed : (anchors : List Cert)
      → position (has_some_key c.issuer keys) anchors ≡ position (is_signed_by accepts c) anchors
  first_signed anchors =
      same_position (has_some_key c.issuer keys) (is_signed_by accepts c) anchors
      (λ x. ap (λ (b : Bool). bytes_eq c.issuer x.subject && b) (listed x.spki))

  -- an empty list is nobody's signature
  pub signed_by_none : (length keys == 0) ≡ true → IsSignedByNone accepts c
  signed_by_none empty x = by keys empty (listed x.spki)
    where
      never : (b : Bool) → (b && false) ≡ false
      never true = refl
      never false = refl

      by : (ks : List (List ℕ)) → (length ks == 0) ≡ true
          → list_any (λ k. bytes_eq k x.spki) ks ≡ is_genuine_under accepts c x.spki → is_signed_by accepts c x ≡ false
      by [] e none = ap (λ (b : Bool). bytes_eq c.issuer x.subject && b) (sym none) ∙ never (bytes_eq c.issuer x.subject)
      by (k ∷ ks) e none = let more = eqb-true (length (k ∷ ks)) 0 e in absurd (omega (arith, more))
