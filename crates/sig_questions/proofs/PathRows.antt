-- The certificates' rows are those of the signatures of paths that would hold.
use Rattle.std.proofs.Common.{◌≡◌, ◌↔◌, ℕ, zero, suc, ℤ, Bool, true, false, cond, List, [], ◌∷◌, map, Option}
use Rattle.std.proofs.Common.{Some, None, slice_get, inl, inr, refl, sym, ap, subst, ◌∙◌}
use Rattle.std.specs.List.{AllByRecursion}
use Rattle.std.specs.Prelude.{Contains, option_map}
use Rattle.std.proofs.lemmas.Option.{slice_get-map}
use Rattle.sig_base.proofs.OptionSteps.{some_is}
use Rattle.sig_base.specs.declared.checker.AcceptedRow.{AcceptedRow}
use Rattle.sig_certificate.specs.Certificate.{Cert}
use Rattle.sig_checked_bundle.specs.Checked.{Checked}
use Rattle.sig_verify.specs.CertificateLinks.{Trust}
use Rattle.sig_x509.proofs.Elements.{at_contained, contains_at}
use Rattle.sig_x509.proofs.PossibleLaws.{IsSigner, first_given, first_next, from_present, further_under_anchor, in_present}
use Rattle.sig_x509.proofs.PossibleLaws.{further_under_further, later_given, later_next, leaf_under_anchor}
use Rattle.sig_x509.proofs.PossibleLaws.{leaf_under_further, next_steps, path_given}
use Rattle.sig_x509.specs.Path.{IsNext, IsPath, every_signature}
use Rattle.sig_x509.specs.Pool.{pool_over, present}
use Rattle.sig_x509.specs.Possible.{IsFirstStep, may_sign}
use Rattle.sig_questions.proofs.RowLaws.{OfSome, empty_has, has_both, has_each, has_one}
use Rattle.sig_questions.specs.Asked.{IsCertificateRow, OfPath, issuer_in, signature_row}
use Rattle.sig_questions.specs.Lists.{Pair, Side, certificate_questions, pair_questions, pairs, pairs_with, signed_side}
use Rattle.sig_questions.specs.Lists.{signer_as, signers}
use Rattle.sig_questions.specs.Order.{IsStepOf, signed_in}

-- ---- lists

pub same_of : {A : Type 0} → A ↔ A
same_of = ((λ x. x), (λ x. x))

mapped_from : {X Y : Type 0} (f : X → Y) (xs : List X) (y : Y) → Contains (map f xs) y
    → (x : X) × Contains xs x × (f x ≡ y)
mapped_from {X = X} {Y = Y} f xs y has =
    by (slice_get xs has.0) refl (sym (slice_get-map f xs has.0) ∙ at_contained (map f xs) y has)
  where
    by : (o : Option X) → slice_get xs has.0 ≡ o → option_map f (slice_get xs has.0) ≡ Some y
        → (x : X) × Contains xs x × (f x ≡ y)
    by None e is =
        let wrong : ◌≡◌ {A = Option Y} None (Some y) = sym (ap (λ (o : Option X). option_map f o) e) ∙ is in absurd cc
    by (Some x) e is =
        let both : ◌≡◌ {A = Option Y} (Some (f x)) (Some y) = sym (ap (λ (o : Option X). option_map f o) e) ∙ is in
        (x, contains_at xs has.0 x e, some_is (f x) y both)

mapped_to : {X Y : Type 0} (f : X → Y) (xs : List X) (x : X) → Contains xs x → Contains (map f xs) (f x)
mapped_to f xs x has =
    contains_at (map f xs) has.0 (f x)
    (slice_get-map f xs has.0 ∙ ap (λ (o : Option _). option_map f o) (at_contained xs x has))

-- rows that are there only where it holds
pub if_rows : (b : Bool) (rows : List AcceptedRow) (row : AcceptedRow)
    → Contains (cond b rows []) row ↔ ((b ≡ true) × Contains rows row)
if_rows true rows row = ((λ has. (refl, has)), (λ both. both.1))
if_rows false rows row = ((λ has. absurd (empty_has row has)), (λ both. absurd (let wrong = both.0 in cc)))

-- ---- the first certificate above

pub issuer_step : (path : List Cert) (anchor : Cert) → (trusted : Bool) × IsFirstStep path anchor trusted (issuer_in path anchor)
issuer_step [] anchor = (true, refl)
issuer_step (x ∷ xs) anchor = (false, refl)

pub step_issuer : (path : List Cert) (anchor : Cert) (trusted : Bool) (x : Cert) → IsFirstStep path anchor trusted x
    → x ≡ issuer_in path anchor
step_issuer [] anchor true x step = step
step_issuer [] anchor false x step = absurd step
step_issuer (z ∷ zs) anchor true x step = absurd step
step_issuer (z ∷ zs) anchor false x step = step

module _ (trust : Trust) (c : Checked) where
  abbrev t : ℤ
  t = c.certificate.not_before

  abbrev Signs : Bool → Cert → Type 0
  Signs trusted x = IsSigner trust.anchors c.further c.certificate t trusted x

  -- ---- the sides

  pub side_fits : (trusted : Bool) (x : Cert) → Contains (signers trust c) (trusted, x) → Signs trusted x
  side_fits trusted x has = elim ((has_both Anchored Given (trusted, x)).0 has) [
    | inl anchored ↦ from_anchor (mapped_from (λ y. (true, y)) trust.anchors (trusted, x) anchored)
    | inr given ↦ from_further (mapped_from (λ y. (false, y)) c.further (trusted, x) given)
  ]
    where
      Anchored : List Side
      Anchored = map (λ y. (true, y)) trust.anchors

      Given : List Side
      Given = map (λ y. (false, y)) c.further

      from_anchor : (y : Cert) × Contains trust.anchors y × (◌≡◌ {A = Side} (true, y) (trusted, x)) → Signs trusted x
      from_anchor found =
          let Q : Side → Type 0 = λ s. Signs s.0 s.1 in subst Q found.2 found.1

      from_further : (y : Cert) × Contains c.further y × (◌≡◌ {A = Side} (false, y) (trusted, x)) → Signs trusted x
      from_further found =
          let Q : Side → Type 0 = λ s. Signs s.0 s.1 in subst Q found.2 found.1

  pub side_there : (trusted : Bool) (x : Cert) → Signs trusted x → Contains (signers trust c) (trusted, x)
  side_there true x has =
      (has_both (map (λ y. (true, y)) trust.anchors) (map (λ y. (false, y)) c.further) (true, x)).1
      (inl (mapped_to (λ y. (true, y)) trust.anchors x has))
  side_there false x has =
      (has_both (map (λ y. (true, y)) trust.anchors) (map (λ y. (false, y)) c.further) (false, x)).1
      (inr (mapped_to (λ y. (false, y)) c.further x has))

  -- ---- the pairs

  abbrev pub Fits : Option Cert → Bool → Cert → Type 0
  Fits None trusted x = Signs trusted x
  Fits (Some y) trusted x = Contains c.further y × Signs trusted x

  given_at : (index : ℕ) (y : Cert) → slice_get (None ∷ present c.further) index ≡ Some (Some y) → Contains c.further y
  given_at zero y there = absurd cc
  given_at (suc k) y there = from_present c.further y (contains_at (present c.further) k (Some y) there)

  fits_at : (index : ℕ) (y : Option Cert) → slice_get (None ∷ present c.further) index ≡ Some y → (trusted : Bool)
      (x : Cert) → Signs trusted x → Fits y trusted x
  fits_at index None there trusted x signs = signs
  fits_at index (Some y) there trusted x signs = (given_at index y there, signs)

  pub pair_fits : (y : Option Cert) (trusted : Bool) (x : Cert) → Contains (pairs trust c) (y, (trusted, x))
      → Fits y trusted x
  pair_fits y trusted x has =
      let of = (has_each (pairs_with trust c) (λ z p. Contains (pairs_with trust c z) p) (None ∷ present c.further)
      (y, (trusted, x)) (λ z. same_of)).0 has in
      let found = mapped_from (λ (side : Side). (of.1, side)) (signers trust c) (y, (trusted, x)) of.3 in
      let first : of.1 ≡ y = ap (λ (p : Pair). p.0) found.2 in
      let second : found.0 ≡ (trusted, x) = ap (λ (p : Pair). p.1) found.2 in
      fits_at of.0 y (of.2 ∙ ap (λ (o : Option Cert). Some o) first) trusted x
      (side_fits trusted x (subst (Contains (signers trust c)) second found.1))

  pub pair_there : (y : Option Cert) (trusted : Bool) (x : Cert) → Fits y trusted x
      → Contains (pairs trust c) (y, (trusted, x))
  pair_there None trusted x fits =
      (has_each (pairs_with trust c) (λ z p. Contains (pairs_with trust c z) p) (None ∷ present c.further)
      (None, (trusted, x)) (λ z. same_of)).1 (
        zero,
        None,
        refl,
        mapped_to (λ (side : Side). (None, side)) (signers trust c) (trusted, x) (side_there trusted x fits),
      )
  pair_there (Some y) trusted x fits =
      let has = in_present c.further y fits.0 in
      (has_each (pairs_with trust c) (λ z p. Contains (pairs_with trust c z) p) (None ∷ present c.further)
      (Some y, (trusted, x)) (λ z. same_of)).1 (
        suc has.0,
        Some y,
        at_contained (present c.further) (Some y) has,
        mapped_to (λ (side : Side). (Some y, side)) (signers trust c) (trusted, x) (side_there trusted x fits.1),
      )

  -- ---- what the tables say

  abbrev pub MaySign : Option Cert → Bool → Cert → Type 0
  MaySign y trusted x = may_sign (signed_side c y) (signer_as trust c trusted x) ≡ true

  pub pair_law : (y : Option Cert) (trusted : Bool) (x : Cert) → Fits y trusted x
      → MaySign y trusted x ↔ OfPath trust c (IsStepOf (y, (trusted, x)))
  pair_law None true x fits = leaf_under_anchor trust.anchors c.further c.certificate t x fits
  pair_law None false x fits = leaf_under_further trust.anchors c.further c.certificate t x fits
  pair_law (Some y) true x fits = further_under_anchor trust.anchors c.further c.certificate t y fits.0 x fits.1
  pair_law (Some y) false x fits = further_under_further trust.anchors c.further c.certificate t y fits.0 x fits.1

  row_same : (y : Option Cert) (trusted : Bool) (x : Cert)
      → signature_row (signed_side c y).certificate (signer_as trust c trusted x).certificate
      ≡ signature_row (signed_in c y) x
  row_same None true x = refl
  row_same None false x = refl
  row_same (Some y) true x = refl
  row_same (Some y) false x = refl

  pub has_pair : (y : Option Cert) (trusted : Bool) (x : Cert) → Fits y trusted x → (row : AcceptedRow)
      → Contains (pair_questions trust c (y, (trusted, x))) row
      ↔ (OfPath trust c (IsStepOf (y, (trusted, x))) × (row ≡ signature_row (signed_in c y) x))
  has_pair y trusted x fits row =
      let its : AcceptedRow = signature_row (signed_side c y).certificate (signer_as trust c trusted x).certificate in
      let there = if_rows (may_sign (signed_side c y) (signer_as trust c trusted x)) (its ∷ []) row in
      let law = pair_law y trusted x fits in (
        (λ has. let both = there.0 has in (law.0 both.0, (has_one its row).0 both.1 ∙ row_same y trusted x)),
        (λ both. there.1 (law.1 both.0, (has_one its row).1 (both.1 ∙ sym (row_same y trusted x)))),
      )

  -- ---- all of them

  next_of : (y : Option Cert) (trusted : Bool) (x : Cert) (path : List Cert) (anchor : Cert)
      → IsStepOf (y, (trusted, x)) path anchor → IsNext c.certificate path anchor (signed_in c y) x
  next_of None trusted x path anchor step = first_next c.certificate path anchor trusted x step
  next_of (Some y) trusted x path anchor step = later_next c.certificate path anchor trusted y x step

  -- the pair of two certificates of a path
  abbrev pub StepTo : List Cert → Cert → Cert → Cert → Type 0
  StepTo path anchor y x = (signed : Option Cert) × (trusted : Bool) × Fits signed trusted x
      × IsStepOf (signed, (trusted, x)) path anchor × (signed_in c signed ≡ y)

  pub step_to : (path : List Cert) (anchor : Cert)
      → IsPath every_signature (pool_over trust.anchors c.further) c.certificate t path anchor → (y x : Cert)
      → IsNext c.certificate path anchor y x → StepTo path anchor y x
  step_to path anchor is y x next = elim (next_steps c.certificate path anchor y x next) [
    | inl first ↦ (
      None,
      first.1,
      first_given trust.anchors c.further c.certificate t path anchor given is.trusted first.1 x first.2,
      first.2,
      sym first.0,
    )
    | inr later ↦ (
      Some y,
      later.0,
      later_given trust.anchors c.further c.certificate t path anchor given is.trusted later.0 y x later.1,
      later.1,
      refl,
    )
  ]
    where
      given : AllByRecursion (Contains c.further) path
      given = path_given trust.anchors c.further c.certificate t path anchor is

  row_from : (y : Option Cert) (trusted : Bool) (x : Cert) → Fits y trusted x → (row : AcceptedRow)
      → Contains (pair_questions trust c (y, (trusted, x))) row → IsCertificateRow trust c row
  row_from y trusted x fits row has =
      let of = (has_pair y trusted x fits row).0 has in
      let path = of.0 in
      (path.0, path.1, path.2, (signed_in c y, x, next_of y trusted x path.0 path.1 path.3, of.1))

  pub has_certificate : (row : AcceptedRow) → Contains (certificate_questions trust c) row ↔ IsCertificateRow trust c row
  has_certificate row = (to, back)
    where
      each : Contains (certificate_questions trust c) row
          ↔ OfSome (pairs trust c) (λ p r. Contains (pair_questions trust c p) r) row
      each = has_each (pair_questions trust c) (λ p r. Contains (pair_questions trust c p) r) (pairs trust c) row
          (λ p. same_of)

      to : Contains (certificate_questions trust c) row → IsCertificateRow trust c row
      to has =
          let of = each.0 has in
          let p : Pair = of.1 in
          row_from p.0 p.1.0 p.1.1 (pair_fits p.0 p.1.0 p.1.1 (contains_at (pairs trust c) of.0 p of.2)) row of.3

      back : IsCertificateRow trust c row → Contains (certificate_questions trust c) row
      back (path, anchor, is, (y, x, next, same)) =
          let step = step_to path anchor is y x next in
          let there = pair_there step.0 step.1 x step.2 in
          each.1 (
            there.0,
            (step.0, (step.1, x)),
            at_contained (pairs trust c) (step.0, (step.1, x)) there,
            (has_pair step.0 step.1 x step.2 row).1 (
              (path, anchor, is, step.3),
              same ∙ ap (λ (z : Cert). signature_row z x) (sym step.4),
            ),
          )
