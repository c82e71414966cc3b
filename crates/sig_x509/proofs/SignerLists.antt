-- Those who may have signed a certificate: the trust anchors of its issuer's name, and then of the intermediates.
use Rattle.std.proofs.Common.{◌≡◌, ℕ, ◌+◌, ◌<◌, ℤ, Bool, true, false, ◌&&◌, ◌||◌, cond, List, [], ◌∷◌, ◌++◌, map, take}
use Rattle.std.proofs.Common.{get_or, length, refl, sym, ap, ◌∙◌}
use Rattle.std.specs.Borrow.{Bor}
use Rattle.std.specs.List.{filter, list_any}
use Rattle.std.specs.Str.{bytes_eq}
use Rattle.std.proofs.lemmas.List.{append-nil, append_assoc, map-append, take_more}
use Rattle.std.proofs.lemmas.List.Elements.{filter-append}
use Rattle.sig_certificate.specs.Certificate.{Cert}
use Rattle.sig_x509.proofs.Bits.{mapped_twice}
use Rattle.sig_x509.specs.NamedAnchors.{has_name, named}
use Rattle.sig_x509.specs.Possible.{SignedOne, SignerOne, anchor_signer, any_below, count, further_signed}
use Rattle.sig_x509.specs.Possible.{further_signer, is_named, may_sign, meets_at, seen_signed, seen_signer, seen_under}
use Rattle.sig_x509.specs.Possible.{signed_under, signers_with, under_all}
use Rattle.sig_x509.specs.declared.possible.PossibleSigners.{PossibleSigners}
use Rattle.sig_x509.specs.declared.possible.Signed.{Signed}
use Rattle.sig_x509.specs.declared.possible.Signer.{Signer}

-- ---- by name

and_true : (b : Bool) → (b && true) ≡ b
and_true true = refl
and_true false = refl

and_false : (b : Bool) → (b && false) ≡ false
and_false true = refl
and_false false = refl

named_is : (c x : Cert) → is_named c x ≡ has_name c.issuer x
named_is c x = and_true (bytes_eq c.issuer x.subject)

pub any_named : (c : Cert) (xs : List Cert) → list_any (has_name c.issuer) xs ≡ list_any (is_named c) xs
any_named c [] = refl
any_named c (x ∷ xs) =
    ap (λ (b : Bool). b || list_any (has_name c.issuer) xs) (sym (named_is c x))
    ∙ ap (λ (b : Bool). is_named c x || b) (any_named c xs)

-- ---- the trust anchors

module _ (y : SignedOne) where
  abbrev pub who : List SignerOne → List Cert
  who xs = (signed_under xs y).signers

  abbrev pub reached : Bool
  reached = any_below count (meets_at y.next true [])

  pub reached_named : reached ≡ true → (xs : List Cert) → named y.certificate.issuer xs ≡ who (map anchor_signer xs)
  reached_named is [] = refl
  reached_named is (x ∷ xs) =
      by (has_name y.certificate.issuer x) (reached_named is xs)
      ∙ sym (ap (λ (b : Bool). map (λ s. s.certificate) (cond b (anchor_signer x ∷ filter (may_sign y) (map anchor_signer xs))
      (filter (may_sign y) (map anchor_signer xs))))
      (ap (λ (b : Bool). is_named y.certificate x && b) is ∙ and_true (is_named y.certificate x)
      ∙ named_is y.certificate x))
    where
      by : (b : Bool) → named y.certificate.issuer xs ≡ who (map anchor_signer xs)
          → cond b (x ∷ named y.certificate.issuer xs) (named y.certificate.issuer xs)
          ≡ map (λ (s : SignerOne). s.certificate)
          (cond b (anchor_signer x ∷ filter (may_sign y) (map anchor_signer xs))
          (filter (may_sign y) (map anchor_signer xs)))
      by true rest = ap (λ (zs : List Cert). x ∷ zs) rest
      by false rest = rest

  pub unreached_none : reached ≡ false → (xs : List Cert) → [] ≡ who (map anchor_signer xs)
  unreached_none is [] = refl
  unreached_none is (x ∷ xs) =
      unreached_none is xs
      ∙ sym (ap (λ (b : Bool). map (λ s. s.certificate) (cond b (anchor_signer x ∷ filter (may_sign y) (map anchor_signer xs))
      (filter (may_sign y) (map anchor_signer xs))))
      (ap (λ (b : Bool). is_named y.certificate x && b) is ∙ and_false (is_named y.certificate x)))

  -- ---- one after the other

  both_who : (xs ys : List SignerOne) → who (xs ++ ys) ≡ who xs ++ who ys
  both_who xs ys =
      ap (map (λ s. s.certificate)) (filter-append (may_sign y) xs ys)
      ∙ map-append (λ s. s.certificate) (filter (may_sign y) xs) (filter (may_sign y) ys)

  module _ (anchors : List Cert) (signers : List Signer) (k : ℕ) (s : Signer) (lt : k < length signers)
      (there : s ≡ get_or signers k s) where
    with_next : who (signers_with anchors (take (k + 1) signers))
        ≡ who (signers_with anchors (take k signers)) ++ who (seen_signer s ∷ [])
    with_next =
        ap (λ (xs : List SignerOne). who (map anchor_signer anchors ++ xs))
        (ap (map seen_signer) (take_more signers k s lt)
        ∙ map-append seen_signer (take k signers) (get_or signers k s ∷ [])
        ∙ ap (λ (x : Signer). map seen_signer (take k signers) ++ seen_signer x ∷ []) (sym there))
        ∙ ap who (sym (append_assoc (map anchor_signer anchors) (map seen_signer (take k signers)) (seen_signer s ∷ [])))
        ∙ both_who (signers_with anchors (take k signers)) (seen_signer s ∷ [])

    pub one_more : (found more : List (Bor Cert)) (x : Bor Cert) → x.now ≡ s.certificate.now
        → map (λ z. z.now) found ≡ who (signers_with anchors (take k signers)) → more ≡ found ++ x ∷ []
        → may_sign y (seen_signer s) ≡ true → map (λ z. z.now) more ≡ who (signers_with anchors (take (k + 1) signers))
    one_more found more x is so_far grown may =
        ap (map (λ z. z.now)) grown ∙ map-append (λ z. z.now) found (x ∷ [])
        ∙ ap (λ (zs : List Cert). zs ++ x.now ∷ []) so_far
        ∙ ap (λ (z : Cert). who (signers_with anchors (take k signers)) ++ z ∷ []) is
        ∙ sym (with_next ∙ ap (λ (b : Bool). who (signers_with anchors (take k signers))
        ++ map (λ z. z.certificate) (cond b (seen_signer s ∷ []) [])) may)

    pub no_more : (found : List (Bor Cert)) → map (λ z. z.now) found ≡ who (signers_with anchors (take k signers))
        → may_sign y (seen_signer s) ≡ false → map (λ z. z.now) found ≡ who (signers_with anchors (take (k + 1) signers))
    no_more found so_far may =
        so_far
        ∙ sym (with_next ∙ ap (λ (b : Bool). who (signers_with anchors (take k signers))
        ++ map (λ z. z.certificate) (cond b (seen_signer s ∷ []) [])) may
        ∙ append-nil (who (signers_with anchors (take k signers))))

-- ---- of all

module _ (anchors further : List Cert) (c : Cert) (t s : ℤ) (same : s ≡ t) (signers : List Signer)
    (are : map seen_signer signers ≡ map (further_signer anchors further s) further) where
  pub further_under : (all : List PossibleSigners) (signed : List Signed)
      → map seen_signed signed ≡ map (further_signed further c s) further
      → map seen_under all ≡ map (λ y. signed_under (signers_with anchors signers) (seen_signed y)) signed
      → map seen_under all ≡ map (λ z. under_all anchors further t (further_signed further c t z)) further
  further_under all signed is under =
      under
      ∙ ap (λ (xs : List SignerOne). map (λ (y : Signed). signed_under (map anchor_signer anchors ++ xs) (seen_signed y))
      signed) are
      ∙ sym (mapped_twice seen_signed (under_all anchors further s)
      (λ y. under_all anchors further s (seen_signed y)) signed (λ y. refl))
      ∙ ap (map (under_all anchors further s)) is
      ∙ mapped_twice (further_signed further c s) (under_all anchors further s)
      (λ z. under_all anchors further s (further_signed further c s z)) further (λ z. refl)
      ∙ ap (λ (u : ℤ). map (λ z. under_all anchors further u (further_signed further c u z)) further) same
