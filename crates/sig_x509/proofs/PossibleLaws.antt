-- What the tables say of two certificates is that a path that would hold has the one after the other.
use Rattle.std.proofs.Common.{◌≡◌, ◌⊎◌, ℕ, zero, suc, ◌+◌, ◌-◌, ◌<◌, ℤ, Bool, true, false, ◌&&◌, ◌||◌, List, [], ◌∷◌}
use Rattle.std.proofs.Common.{length, map, Option, Some, None, slice_get, inl, inr, refl, sym, ap, subst, ◌∙◌, arith}
use Rattle.std.specs.Prelude.{◌↔◌, Contains, option_map}
use Rattle.std.specs.List.{AllByRecursion}
use Rattle.std.proofs.lemmas.Bool.{and_parts, and_from}
use Rattle.std.proofs.lemmas.Option.{slice_get-map}
use Rattle.sig_certificate.specs.Certificate.{Cert}
use Rattle.sig_x509.proofs.Bits.{below_from, below_is, bit_at, level_at}
use Rattle.sig_x509.proofs.Elements.{all_at, all_from, any_from, any_is, at_contained, contains_at}
use Rattle.sig_x509.proofs.IssuedLaws.{issued_from, issued_is}
use Rattle.sig_x509.proofs.PathConditions.{signed_from, signed_is, stands_from, stands_is}
use Rattle.sig_x509.proofs.PathTable.{IsAbove, allows_as_many, leads_from, leads_is, standing_at, standing_from}
use Rattle.sig_x509.specs.Issuance.{is_issued, signs_code_at}
use Rattle.sig_x509.specs.Path.{AllowsBetween, IsNext, IsPath, MayIssue, every_signature}
use Rattle.sig_x509.specs.PathSearch.{can_stand, leads}
use Rattle.sig_x509.specs.Pool.{Pool, pool_over, present}
use Rattle.sig_x509.specs.Possible.{IsFirstStep, IsLaterStep, OfPossiblePath, SignedOne, anchor_signer}
use Rattle.sig_x509.specs.Possible.{below, bit, count, further_signed, further_signer, is_named, is_reached, may_sign}
use Rattle.sig_x509.specs.Possible.{next_of, the_leaf, up_of}

-- ---- bits of levels

bit_level : (f : ℕ → Bool) (k : ℕ) → k < count → bit (map f (below count)) k ≡ f k
bit_level f k lt = bit_at f (below count) k k (level_at count k lt)

pub in_present : (xs : List Cert) (x : Cert) → Contains xs x → Contains (present xs) (Some x)
in_present xs x has =
    contains_at (present xs) has.0 (Some x)
    (slice_get-map (λ y. Some y) xs has.0
    ∙ ap (λ (o : Option Cert). option_map (λ y. Some y) o) (at_contained xs x has))

pub from_present : (xs : List Cert) (x : Cert) → Contains (present xs) (Some x) → Contains xs x
from_present xs x has =
    by (slice_get xs has.0) refl
    (sym (slice_get-map (λ y. Some y) xs has.0) ∙ at_contained (present xs) (Some x) has)
  where
    by : (o : Option Cert) → slice_get xs has.0 ≡ o → option_map (λ y. Some y) (slice_get xs has.0) ≡ Some (Some x)
        → Contains xs x
    by None e is =
        let wrong : ◌≡◌ {A = Option (Option Cert)} None (Some (Some x)) =
        sym (ap (λ (o : Option Cert). option_map (λ y. Some y) o) e) ∙ is in absurd cc
    by (Some y) e is =
        let both : ◌≡◌ {A = Option (Option Cert)} (Some (Some y)) (Some (Some x)) =
        sym (ap (λ (o : Option Cert). option_map (λ y. Some y) o) e) ∙ is in
        let same : y ≡ x = cc in
        contains_at xs has.0 x (e ∙ ap (λ (z : Cert). Some z) same)

-- ---- paths

module _ (anchors further : List Cert) (c : Cert) (t : ℤ) where
  abbrev P : Pool
  P = pool_over anchors further

  abbrev Above : ℕ → ℕ → Cert → List Cert → Cert → Type 0
  Above left others x above anchor = IsAbove every_signature P t left others x above anchor

  abbrev Reached : ℕ → Cert → Type 0
  Reached others x = is_reached further c t others x ≡ true

  direct_path : (x : Cert) → is_issued every_signature c t x ≡ true → Contains anchors x
      → IsPath every_signature P c t [] x
  direct_path x issues has =
      let is = issued_from every_signature c t x issues in
      record {
        begun = is.begun;
        lasting = is.lasting;
        purpose = is.purpose;
        few = omega arith;
        trusted = has;
        given = λ others y at. absurd cc;
        may_issue = λ others y at. absurd cc;
        path_length = λ others y at. absurd cc;
        signed = is.signed;
      }

  whole_path : (x : Cert) (above : List Cert) (anchor : Cert) → is_issued every_signature c t x ≡ true
      → Contains further x → Above 6 zero x above anchor → IsPath every_signature P c t (x ∷ above) anchor
  whole_path x above anchor issues has on =
      let is = issued_from every_signature c t x issues in
      record {
        begun = is.begun;
        lasting = is.lasting;
        purpose = is.purpose;
        few = omega (arith, on.few);
        trusted = on.trusted;
        given = all_at (λ y. Contains P.intermediates (Some y)) (x ∷ above) (in_present further x has, on.given);
        may_issue = λ others y at. (standing_at t zero (x ∷ above) on.standing others y at).0;
        path_length = λ others y at. allows_as_many y (0 + others) others (omega arith)
            (standing_at t zero (x ∷ above) on.standing others y at).1;
        signed = (is.signed, on.signed);
      }

  issued_in : (x : Cert) (above : List Cert) (anchor : Cert) → IsPath every_signature P c t (x ∷ above) anchor
      → is_issued every_signature c t x ≡ true
  issued_in x above anchor path =
      issued_is every_signature c t x
      (record { begun = path.begun; lasting = path.lasting; purpose = path.purpose; signed = path.signed.0 })

  above_in : (x : Cert) (above : List Cert) (anchor : Cert) → IsPath every_signature P c t (x ∷ above) anchor
      → Above 6 zero x above anchor
  above_in x above anchor path = record {
    few = omega (arith, path.few);
    trusted = path.trusted;
    standing = standing_from t zero (x ∷ above) path.may_issue
        (λ k y at. allows_as_many y k (0 + k) (omega arith) (path.path_length k y at));
    given = all_from (λ y. Contains P.intermediates (Some y)) above (λ k y at. path.given (suc k) y at);
    signed = path.signed.1;
  }

  stands : (left others : ℕ) (x : Cert) (above : List Cert) (anchor : Cert) → Above left others x above anchor
      → can_stand t others x ≡ true
  stands left others x above anchor on = stands_is t others x on.standing.0.0 on.standing.0.1

  reached_stands : (others : ℕ) (x : Cert) → Reached others x → MayIssue t x × AllowsBetween x others
  unfolding is_reached
  reached_stands zero x is = stands_from t zero x (and_parts _ _ is).0
  reached_stands (suc others) x is = stands_from t (suc others) x (and_parts _ _ is).0

  -- one more below
  put_below : (left others : ℕ) (y x : Cert) (above : List Cert) (anchor : Cert) → Reached others y
      → Contains further x → is_named y x ≡ true → Above left (suc others) x above anchor
      → Above (suc left) others y (x ∷ above) anchor
  put_below left others y x above anchor reached has named on = record {
    few = omega (arith, on.few);
    trusted = on.trusted;
    standing = (reached_stands others y reached, on.standing);
    given = (in_present further x has, on.given);
    signed = (signed_from every_signature y x named, on.signed);
  }

  -- ---- a path through what the tables say

  abbrev Extends : Cert → List Cert → Cert → Type 0
  Extends z above anchor = (path : List Cert) × IsPath every_signature P c t path anchor
      × ((trusted : Bool) (y x : Cert) → IsLaterStep (z ∷ above) anchor trusted y x
      → IsLaterStep path anchor trusted y x)

  extends : (others left : ℕ) → left + others ≡ 6 → (z : Cert) → Reached others z → Contains further z
      → (above : List Cert) (anchor : Cert) → Above left others z above anchor → Extends z above anchor
  unfolding is_reached
  extends zero left sum z is has above anchor on =
      let six : left ≡ 6 = omega (arith, sum) in (
        z ∷ above,
        whole_path z above anchor (and_parts _ _ is).1 has (subst (λ (n : ℕ). Above n zero z above anchor) six on),
        λ trusted y x step. step,
      )
  extends (suc others) left sum z is has above anchor on =
      let found = any_from (λ y. is_named y z && is_reached further c t others y) further (and_parts _ _ is).1 in
      let both = and_parts _ _ found.3 in
      let rest = extends others (suc left) (omega (arith, sum)) found.1 both.1
      (contains_at further found.0 found.1 found.2) (z ∷ above) anchor
      (put_below left others found.1 z above anchor both.1 has both.0 on) in
      (rest.0, rest.1, λ trusted y x step. rest.2 trusted y x (inr step))

  -- ---- what the tables say of a path

  -- at this level, x can be the signer
  abbrev Follows : ℕ → Bool → Cert → Type 0
  Follows others true x = Contains anchors x
  Follows others false x = leads every_signature P t (5 - others) (suc others) x ≡ true

  abbrev IsSeen : Bool → Cert → Cert → Type 0
  IsSeen trusted y x = (others : ℕ) × (others < 6) × Reached others y × (is_named y x ≡ true) × Follows others trusted x

  seen_first : (left others : ℕ) → left + others ≡ 6 → (w : Cert) (ws : List Cert) (anchor : Cert)
      → Reached others w → Above left others w ws anchor → (trusted : Bool) (x : Cert)
      → IsFirstStep ws anchor trusted x → IsSeen trusted w x
  seen_first left others sum w [] anchor is on true x step = (
    others,
    omega (arith, sum, on.few),
    is,
    ap (is_named w) step ∙ signed_is every_signature w anchor on.signed,
    subst (λ (z : Cert). Contains anchors z) (sym step) on.trusted,
  )
  seen_first left others sum w [] anchor is on false x step = absurd step
  seen_first left others sum w (v ∷ vs) anchor is on true x step = absurd step
  seen_first left others sum w (v ∷ vs) anchor is on false x step =
      let four : length vs < 5 - others = omega (arith, sum, on.few) in (
        others,
        omega (arith, sum, on.few),
        is,
        ap (is_named w) step ∙ signed_is every_signature w v on.signed.0,
        ap (leads every_signature P t (5 - others) (suc others)) step
            ∙ leads_is every_signature P t (5 - others) (suc others) v vs anchor (record {
              few = four;
              trusted = on.trusted;
              standing = on.standing.1;
              given = on.given.1;
              signed = on.signed.1;
            }),
      )

  seen_later : (left others : ℕ) → left + others ≡ 6 → (w : Cert) (ws : List Cert) (anchor : Cert)
      → Reached others w → Contains further w → Above left others w ws anchor → (trusted : Bool) (y x : Cert)
      → IsLaterStep (w ∷ ws) anchor trusted y x → IsSeen trusted y x
  unfolding is_reached
  seen_later left others sum w ws anchor is has on trusted y x (inl step) =
      subst (λ (z : Cert). IsSeen trusted z x) (sym step.0)
      (seen_first left others sum w ws anchor is on trusted x step.1)
  seen_later left others sum w [] anchor is has on trusted y x (inr step) = absurd step
  seen_later zero others sum w (v ∷ vs) anchor is has on trusted y x (inr step) = absurd (omega (arith, on.few))
  seen_later (suc left) others sum w (v ∷ vs) anchor is has on trusted y x (inr step) =
      let there = at_contained further w has in
      let next : Above left (suc others) v vs anchor = record {
        few = omega (arith, on.few);
        trusted = on.trusted;
        standing = on.standing.1;
        given = on.given.1;
        signed = on.signed.1;
      } in
      let reached : Reached (suc others) v = and_from _ _ (stands left (suc others) v vs anchor next)
      (any_is (λ z. is_named z v && is_reached further c t others z) further has.0 w there
      (and_from _ _ (signed_is every_signature w v on.signed.0) is)) in
      seen_later left (suc others) (omega (arith, sum)) v vs anchor reached (from_present further v on.given.0) next
      trusted y x step

  -- ---- the four kinds

  abbrev Leaf : SignedOne
  Leaf = the_leaf c t

  abbrev Possible : (List Cert → Cert → Type 0) → Type 0
  Possible Q = OfPossiblePath P c t Q

  pub leaf_under_anchor : (x : Cert) → Contains anchors x
      → (may_sign Leaf (anchor_signer x) ≡ true) ↔ Possible (λ path anchor. IsFirstStep path anchor true x)
  leaf_under_anchor x has = (to, from)
    where
      at : ℕ → Bool
      at others = bit (signs_code_at c t ∷ []) others && (true || bit [] (6 - others))

      by : (k : ℕ) → at k ≡ true → is_named c x ≡ true → is_issued every_signature c t x ≡ true
      by zero is named = and_from _ _ (and_parts _ _ is).0 named
      by (suc k) is named = absurd cc

      to : may_sign Leaf (anchor_signer x) ≡ true → Possible (λ path anchor. IsFirstStep path anchor true x)
      to is =
          let both = and_parts _ _ is in
          let found = below_from count at both.1 in
          ([], x, direct_path x (by found.0 found.2 both.0) has, refl)

      from : Possible (λ path anchor. IsFirstStep path anchor true x) → may_sign Leaf (anchor_signer x) ≡ true
      from ([], anchor, path, step) =
          let issues = and_parts _ _ (issued_is every_signature c t anchor
          (record { begun = path.begun; lasting = path.lasting; purpose = path.purpose; signed = path.signed })) in
          and_from _ _ (ap (is_named c) step ∙ issues.1)
          (below_is count at zero (omega arith) (and_from _ _ issues.0 refl))
      from (z ∷ zs, anchor, path, step) = absurd step

  pub leaf_under_further : (x : Cert) → Contains further x
      → (may_sign Leaf (further_signer anchors further t x) ≡ true)
      ↔ Possible (λ path anchor. IsFirstStep path anchor false x)
  leaf_under_further x has = (to, from)
    where
      up : List Bool
      up = map (up_of anchors further t x) (below count)

      at : ℕ → Bool
      at others = bit (signs_code_at c t ∷ []) others && (false || bit up (6 - others))

      by : (k : ℕ) → at k ≡ true → (signs_code_at c t ≡ true) × (leads every_signature P t 6 zero x ≡ true)
      by zero is =
          let both = and_parts _ _ is in
          (both.0, sym (bit_level (up_of anchors further t x) 6 (omega arith)) ∙ both.1)
      by (suc k) is = absurd cc

      to : may_sign Leaf (further_signer anchors further t x) ≡ true
          → Possible (λ path anchor. IsFirstStep path anchor false x)
      to is =
          let both = and_parts _ _ is in
          let found = below_from count at both.1 in
          let parts = by found.0 found.2 in
          let on = leads_from every_signature P t 6 zero x parts.1 in
          (x ∷ on.0, on.1, whole_path x on.0 on.1 (and_from _ _ parts.0 both.0) has on.2, refl)

      from : Possible (λ path anchor. IsFirstStep path anchor false x)
          → may_sign Leaf (further_signer anchors further t x) ≡ true
      from ([], anchor, path, step) = absurd step
      from (z ∷ zs, anchor, path, step) =
          let issues = and_parts _ _ (issued_in z zs anchor path) in
          let led : leads every_signature P t 6 zero x ≡ true =
          ap (leads every_signature P t 6 zero) step
          ∙ leads_is every_signature P t 6 zero z zs anchor (above_in z zs anchor path) in
          and_from _ _ (ap (is_named c) step ∙ issues.1)
          (below_is count at zero (omega arith)
          (and_from _ _ issues.0 (bit_level (up_of anchors further t x) 6 (omega arith) ∙ led)))

  module _ (z : Cert) (in_further : Contains further z) where
    abbrev next : List Bool
    next = map (next_of further c t z) (below count)

    -- the level of a signer
    reached_at : (k : ℕ) → k < count → bit next k ≡ true → (others : ℕ) × (k ≡ suc others) × Reached others z
    reached_at zero lt is =
        let wrong : false ≡ true = sym (bit_level (next_of further c t z) zero lt) ∙ is in absurd cc
    reached_at (suc others) lt is = (others, refl, sym (bit_level (next_of further c t z) (suc others) lt) ∙ is)

    first_reached : (y : Cert) → can_stand t zero y ≡ true → is_issued every_signature c t y ≡ true → Reached zero y
    unfolding is_reached
    first_reached y stand issues = and_from _ _ stand issues

    seen_in : (trusted : Bool) (x : Cert) → Possible (λ path anchor. IsLaterStep path anchor trusted z x)
        → IsSeen trusted z x
    seen_in trusted x ([], anchor, path, step) = absurd step
    seen_in trusted x (w ∷ ws, anchor, path, step) =
        let on = above_in w ws anchor path in
        let reached : Reached zero w = first_reached w (stands 6 zero w ws anchor on) (issued_in w ws anchor path) in
        seen_later 6 zero (omega arith) w ws anchor reached
        (from_present further w (path.given zero w refl)) on trusted z x step

    pub further_under_anchor : (x : Cert) → Contains anchors x
        → (may_sign (further_signed further c t z) (anchor_signer x) ≡ true)
        ↔ Possible (λ path anchor. IsLaterStep path anchor true z x)
    further_under_anchor x has = (to, from)
      where
        at : ℕ → Bool
        at others = bit next others && (true || bit [] (6 - others))

        to : may_sign (further_signed further c t z) (anchor_signer x) ≡ true
            → Possible (λ path anchor. IsLaterStep path anchor true z x)
        to is =
            let both = and_parts _ _ is in
            let found = below_from count at both.1 in
            let level = reached_at found.0 found.1 (and_parts _ _ found.2).0 in
            let small : level.0 < 6 = omega (arith, found.1, level.1) in
            let on : Above (6 - level.0) level.0 z [] x = record {
              few = omega (arith, small);
              trusted = has;
              standing = (reached_stands level.0 z level.2, tt);
              given = tt;
              signed = signed_from every_signature z x both.0;
            } in
            let whole = extends level.0 (6 - level.0) (omega (arith, small)) z level.2 in_further [] x on in
            (whole.0, x, whole.1, whole.2 true z x (inl (refl, refl)))

        from : Possible (λ path anchor. IsLaterStep path anchor true z x)
            → may_sign (further_signed further c t z) (anchor_signer x) ≡ true
        from of =
            let seen = seen_in true x of in
            and_from _ _ seen.3
            (below_is count at (suc seen.0) (omega (arith, seen.1))
            (and_from _ _ (bit_level (next_of further c t z) (suc seen.0) (omega (arith, seen.1)) ∙ seen.2) refl))

    pub further_under_further : (x : Cert) → Contains further x
        → (may_sign (further_signed further c t z) (further_signer anchors further t x) ≡ true)
        ↔ Possible (λ path anchor. IsLaterStep path anchor false z x)
    further_under_further x has = (to, from)
      where
        up : List Bool
        up = map (up_of anchors further t x) (below count)

        at : ℕ → Bool
        at others = bit next others && (false || bit up (6 - others))

        -- from the next level on
        up_is : (others : ℕ) → others < 6 → bit up (6 - suc others)
            ≡ leads every_signature P t (5 - others) (suc others) x
        up_is others lt =
            let one : 6 - suc others ≡ 5 - others = omega arith in
            let two : 6 - (5 - others) ≡ suc others = omega (arith, lt) in
            ap (bit up) one ∙ bit_level (up_of anchors further t x) (5 - others) (omega arith)
            ∙ ap (λ (n : ℕ). leads every_signature P t (5 - others) n x) two

        to : may_sign (further_signed further c t z) (further_signer anchors further t x) ≡ true
            → Possible (λ path anchor. IsLaterStep path anchor false z x)
        to is =
            let both = and_parts _ _ is in
            let found = below_from count at both.1 in
            let bits = and_parts _ _ found.2 in
            let level = reached_at found.0 found.1 bits.0 in
            let small : level.0 < 6 = omega (arith, found.1, level.1) in
            let led : leads every_signature P t (5 - level.0) (suc level.0) x ≡ true =
            sym (up_is level.0 small) ∙ ap (λ (n : ℕ). bit up (6 - n)) (sym level.1) ∙ bits.1 in
            let on = leads_from every_signature P t (5 - level.0) (suc level.0) x led in
            let below_it = put_below (5 - level.0) level.0 z x on.0 on.1 level.2 has both.0 on.2 in
            let whole = extends level.0 (suc (5 - level.0)) (omega (arith, small)) z level.2 in_further (x ∷ on.0) on.1
            below_it in
            (whole.0, on.1, whole.1, whole.2 false z x (inl (refl, refl)))

        from : Possible (λ path anchor. IsLaterStep path anchor false z x)
            → may_sign (further_signed further c t z) (further_signer anchors further t x) ≡ true
        from of =
            let seen = seen_in false x of in
            and_from _ _ seen.3
            (below_is count at (suc seen.0) (omega (arith, seen.1))
            (and_from _ _ (bit_level (next_of further c t z) (suc seen.0) (omega (arith, seen.1)) ∙ seen.2)
            (up_is seen.0 seen.1 ∙ seen.4)))

  -- ---- the certificates of a path are given

  pub path_given : (path : List Cert) (anchor : Cert) → IsPath every_signature P c t path anchor
      → AllByRecursion (Contains further) path
  path_given path anchor is = all_from (Contains further) path (λ k y at. from_present further y (is.given k y at))

  -- where a signer is
  abbrev pub IsSigner : Bool → Cert → Type 0
  IsSigner true x = Contains anchors x
  IsSigner false x = Contains further x

  pub first_given : (path : List Cert) (anchor : Cert) → AllByRecursion (Contains further) path
      → Contains anchors anchor → (trusted : Bool) (x : Cert) → IsFirstStep path anchor trusted x → IsSigner trusted x
  first_given [] anchor all has true x step = subst (λ (y : Cert). Contains anchors y) (sym step) has
  first_given [] anchor all has false x step = absurd step
  first_given (z ∷ zs) anchor all has true x step = absurd step
  first_given (z ∷ zs) anchor all has false x step = subst (λ (y : Cert). Contains further y) (sym step) all.0

  pub later_given : (path : List Cert) (anchor : Cert) → AllByRecursion (Contains further) path
      → Contains anchors anchor → (trusted : Bool) (y x : Cert) → IsLaterStep path anchor trusted y x
      → Contains further y × IsSigner trusted x
  later_given [] anchor all has trusted y x step = absurd step
  later_given (z ∷ zs) anchor all has trusted y x (inl step) = (
    subst (λ (w : Cert). Contains further w) (sym step.0) all.0,
    first_given zs anchor all.1 has trusted x step.1,
  )
  later_given (z ∷ zs) anchor all has trusted y x (inr step) = later_given zs anchor all.1 has trusted y x step

-- ---- the certificates that come one after the other

pub first_next : (c : Cert) (path : List Cert) (anchor : Cert) (trusted : Bool) (x : Cert)
    → IsFirstStep path anchor trusted x → IsNext c path anchor c x
first_next c [] anchor true x step = (refl, step)
first_next c [] anchor false x step = absurd step
first_next c (z ∷ zs) anchor true x step = absurd step
first_next c (z ∷ zs) anchor false x step = inl (refl, step)

pub later_next : (c : Cert) (path : List Cert) (anchor : Cert) (trusted : Bool) (y x : Cert)
    → IsLaterStep path anchor trusted y x → IsNext c path anchor y x
later_next c [] anchor trusted y x step = absurd step
later_next c (z ∷ zs) anchor trusted y x (inl step) =
    inr (subst (λ (w : Cert). IsNext z zs anchor w x) (sym step.0) (first_next z zs anchor trusted x step.1))
later_next c (z ∷ zs) anchor trusted y x (inr step) = inr (later_next z zs anchor trusted y x step)

abbrev pub Steps : Cert → List Cert → Cert → Cert → Cert → Type 0
Steps c path anchor y x = ((y ≡ c) × (trusted : Bool) × IsFirstStep path anchor trusted x)
    ⊎ ((trusted : Bool) × IsLaterStep path anchor trusted y x)

pub next_steps : (c : Cert) (path : List Cert) (anchor y x : Cert) → IsNext c path anchor y x → Steps c path anchor y x
next_steps c [] anchor y x next = inl (next.0, true, next.1)
next_steps c (z ∷ zs) anchor y x (inl next) = inl (next.0, false, next.1)
next_steps c (z ∷ zs) anchor y x (inr next) = by (next_steps z zs anchor y x next)
  where
    by : Steps z zs anchor y x → Steps c (z ∷ zs) anchor y x
    by (inl first) = inr (first.1, inl (first.0, first.2))
    by (inr later) = inr (later.0, inr later.1)
