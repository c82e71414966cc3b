-- Where a shortcut goes past a step of a path, a shorter path leads to a trust anchor over its signatures: so `issuer`
-- rests on a signature only in a step past which none goes.
use Rattle.std.proofs.Common.{◌≡◌, ◌⊎◌, ℕ, zero, suc, ◌<◌, ◌≤◌, ℤ, List, [], ◌∷◌, ◌++◌, length, Some, slice_get, inl, inr}
use Rattle.std.proofs.Common.{◌+◌, true, refl, sym, ap, subst, ◌∙◌, arith}
use Rattle.std.specs.List.{AllByRecursion}
use Rattle.std.specs.Prelude.{Contains}
use Rattle.std.proofs.lemmas.List.Elements.{Contains-append_cases, Contains-append_right}
use Rattle.sig_base.proofs.AcceptedRows.{accepted-rows}
use Rattle.sig_base.specs.declared.checker.AcceptedRow.{AcceptedRow}
use Rattle.sig_base.specs.declared.checker.Operation.TheVariants as kinds
use Rattle.sig_certificate.specs.Certificate.{Cert}
use Rattle.sig_checked_bundle.proofs.Certificates.{OneCertificate}
use Rattle.sig_verify.proofs.Parts.{AnchoredParts, checked_to, of_checked, trust_with}
use Rattle.sig_verify.specs.CertificateLinks.{HasIssuer}
use Rattle.sig_verify.specs.Links.{Inputs}
use Rattle.sig_verify.specs.declared.link.Link.TheVariants.{Issuer}
use Rattle.sig_x509.proofs.Elements.{all_at, all_from, at_contained}
use Rattle.sig_x509.proofs.PathTable.{AreStanding, allows_as_many, standing_at, standing_from}
use Rattle.sig_x509.specs.AskedAnchors.{IsSameSigner}
use Rattle.sig_x509.specs.Issuance.{Accepts}
use Rattle.sig_x509.specs.Issued.{IsSignedBy}
use Rattle.sig_x509.specs.Path.{AreSignedUp, IsPath, every_signature}
use Rattle.sig_x509.specs.Pool.{Pool, pool_over}
use Rattle.sig_questions.proofs.Issuers.{some_issuer, with_signatures, would_hold}
use Rattle.sig_questions.proofs.RowLaws.{has_one}
use Rattle.sig_questions.proofs.Shortcuts.{IsSplit, shortcut_or_none, step_matters}
use Rattle.sig_questions.specs.Asked.{OfPath, issuer_in, signature_row}
use Rattle.sig_questions.specs.Matters.{HasShortcut, IssuerRestsOnSteps, OfStep, RestsOn, checker_with, last_of}
use Rattle.sig_questions.specs.Questions.{accepting}

-- ---- the way on from a certificate

lower_standing : (t : ℤ) (m n : ℕ) → m ≤ n → (xs : List Cert) → AreStanding t n xs → AreStanding t m xs
lower_standing t m n le [] are = tt
lower_standing t m n le (x ∷ xs) are = (
  (are.0.0, λ b most is is_most. omega (arith, le, are.0.1 b most is is_most)),
  lower_standing t (suc m) (suc n) (omega (arith, le)) xs are.1,
)

module _ (accepts : Accepts) (pool : Pool) (t : ℤ) where
  -- from v a way goes on over these to a trust anchor, with so many others before it
  record IsOnward (others : ℕ) (v : Cert) (path : List Cert) (anchor : Cert) : Type 0 where
    pub standing : AreStanding t others path
    pub given : AllByRecursion (λ x. Contains pool.intermediates (Some x)) path
    pub trusted : Contains pool.anchors anchor
    pub signed : AreSignedUp accepts v path anchor

  after_one : (others : ℕ) (v x : Cert) (xs : List Cert) (anchor : Cert) → IsOnward others v (x ∷ xs) anchor
      → IsOnward (suc others) x xs anchor
  after_one others v x xs anchor on =
      record { standing = on.standing.1; given = on.given.1; trusted = on.trusted; signed = on.signed.1 }

  onward_of : (c : Cert) (path : List Cert) (anchor : Cert) → IsPath accepts pool c t path anchor
      → IsOnward zero c path anchor
  onward_of c path anchor is = record {
    standing = standing_from t zero path is.may_issue
        (λ k y at. allows_as_many y k (0 + k) (omega arith) (is.path_length k y at));
    given = all_from (λ y. Contains pool.intermediates (Some y)) path is.given;
    trusted = is.trusted;
    signed = is.signed;
  }

  -- a shorter way is a path too
  shorter_path : (c : Cert) (path other : List Cert) (anchor top : Cert) → IsPath accepts pool c t path anchor
      → length other ≤ length path → IsOnward zero c other top → IsPath accepts pool c t other top
  shorter_path c path other anchor top is less on = record {
    begun = is.begun;
    lasting = is.lasting;
    purpose = is.purpose;
    few = omega (arith, less, is.few);
    trusted = on.trusted;
    given = all_at (λ y. Contains pool.intermediates (Some y)) other on.given;
    may_issue = λ k y at. (standing_at t zero other on.standing k y at).0;
    path_length = λ k y at. allows_as_many y (0 + k) k (omega arith) (standing_at t zero other on.standing k y at).1;
    signed = on.signed;
  }

  -- ---- the shortcut

  module _ (below above : Cert) (same : IsSameSigner below above) where
    -- whom this one signed, a way goes on from
    record IsEntered (others : ℕ) (path : List Cert) (anchor : Cert) : Type 0 where
      pub over : List Cert
      pub few : length over ≤ length path
      pub onward : (m : ℕ) → m ≤ others → (v : Cert) → IsSignedBy accepts v above → IsOnward m v over anchor

    entered : (path : List Cert) (anchor : Cert) (others : ℕ) (v : Cert) → IsOnward others v path anchor → (k : ℕ)
        → slice_get path k ≡ Some above → IsEntered others path anchor
    entered [] anchor others v on k at = absurd cc
    entered (x ∷ xs) anchor others v on zero at =
        let is : x ≡ above = cc in record {
          over = x ∷ xs;
          few = omega arith;
          onward = λ m le w signed. record {
            standing = lower_standing t m others le (x ∷ xs) on.standing;
            given = on.given;
            trusted = on.trusted;
            signed = (subst (λ (z : Cert). IsSignedBy accepts w z) (sym is) signed, on.signed.1);
          };
        }
    entered (x ∷ xs) anchor others v on (suc k) at =
        let rest = entered xs anchor (suc others) x (after_one others v x xs anchor on) k at in record {
          over = rest.over;
          few = omega (arith, rest.few);
          onward = λ m le w signed. rest.onward m (omega (arith, le)) w signed;
        }

    record IsShorter (others : ℕ) (v : Cert) (path : List Cert) : Type 0 where
      pub over : List Cert
      pub top : Cert
      pub less : length over < length path
      pub onward : IsOnward others v over top

    also_signed : (v x : Cert) → x ≡ below → IsSignedBy accepts v x → IsSignedBy accepts v above
    also_signed v x is signed =
        let by_below = subst (λ (z : Cert). IsSignedBy accepts v z) is signed in record {
          issuer = by_below.issuer ∙ same.subject;
          genuine = subst (λ (key : List ℕ). accepts key v.algorithm v.tbs v.signature ≡ true) same.spki by_below.genuine;
        }

    cut : (lower upper : List Cert) (anchor : Cert) (others : ℕ) (v : Cert) (k : ℕ)
        → slice_get lower k ≡ Some below → Contains upper above ⊎ Contains pool.anchors above
        → IsOnward others v (lower ++ upper) anchor → IsShorter others v (lower ++ upper)
    cut [] upper anchor others v k at to on = absurd cc
    cut (x ∷ xs) upper anchor others v zero at (inl has) on =
        let is : x ≡ below = cc in
        let there = Contains-append_right xs upper above has in
        let found = entered (xs ++ upper) anchor (suc others) x (after_one others v x (xs ++ upper) anchor on) there.0
        (at_contained (xs ++ upper) above there) in record {
          over = found.over;
          top = anchor;
          less = omega (arith, found.few);
          onward = found.onward others (omega arith) v (also_signed v x is on.signed.0);
        }
    cut (x ∷ xs) upper anchor others v zero at (inr trusted) on =
        let is : x ≡ below = cc in record {
          over = [];
          top = above;
          less = omega arith;
          onward = record {
            standing = tt;
            given = tt;
            trusted = trusted;
            signed = also_signed v x is on.signed.0;
          };
        }
    cut (x ∷ xs) upper anchor others v (suc k) at to on =
        let rest = cut xs upper anchor (suc others) x k at to (after_one others v x (xs ++ upper) anchor on) in record {
          over = x ∷ rest.over;
          top = rest.top;
          less = omega (arith, rest.less);
          onward = record {
            standing = (on.standing.0, rest.onward.standing);
            given = (on.given.0, rest.onward.given);
            trusted = rest.onward.trusted;
            signed = (on.signed.0, rest.onward.signed);
          };
        }

-- ---- a table with and without a row

module _ (row : AcceptedRow) (rows : List AcceptedRow) where
  abbrev with_row : Accepts
  with_row = (checker_with (row ∷ rows)).cert

  abbrev without : Accepts
  without = (checker_with rows).cert

  also_without : (c x : Cert) → IsSignedBy with_row c x → (row ≡ signature_row c x) ⊎ IsSignedBy without c x
  also_without c x signed =
      by (Contains-append_cases (row ∷ []) rows (signature_row c x)
      ((accepted-rows (row ∷ rows) kinds.Certificate c.algorithm x.spki c.tbs c.signature).0 signed.genuine))
    where
      by : Contains (row ∷ []) (signature_row c x) ⊎ Contains rows (signature_row c x)
          → (row ≡ signature_row c x) ⊎ IsSignedBy without c x
      by (inl here) = inl (sym ((has_one row (signature_row c x)).0 here))
      by (inr there) =
          inr (record {
            issuer = signed.issuer;
            genuine = (accepted-rows rows kinds.Certificate c.algorithm x.spki c.tbs c.signature).1 there;
          })

  -- a path is one without the row, or has it
  has_row : (c : Cert) (path : List Cert) (anchor : Cert) → AreSignedUp with_row c path anchor
      → AreSignedUp without c path anchor ⊎ IsSplit c path anchor row
  has_row c [] anchor signed = elim (also_without c anchor signed) [
    | inl is ↦ inr (record { lower = []; upper = []; whole = refl; is = is })
    | inr still ↦ inl still
  ]
  has_row c (x ∷ xs) anchor signed = by (also_without c x signed.0) (has_row x xs anchor signed.1)
    where
      by : (row ≡ signature_row c x) ⊎ IsSignedBy without c x
          → AreSignedUp without x xs anchor ⊎ IsSplit x xs anchor row
          → AreSignedUp without c (x ∷ xs) anchor ⊎ IsSplit c (x ∷ xs) anchor row
      by (inl is) rest = inr (record { lower = []; upper = x ∷ xs; whole = refl; is = is })
      by (inr still) (inl signed) = inl (still, signed)
      by (inr still) (inr split) =
          inr (record {
            lower = x ∷ split.lower;
            upper = split.upper;
            whole = ap (λ (ws : List Cert). x ∷ ws) split.whole;
            is = split.is;
          })

-- ---- what `issuer` rests on

module _ {i : Inputs} (p : AnchoredParts i) (row : AcceptedRow) (rows : List AcceptedRow)
    (none : ¬ HasIssuer (checker_with rows) (trust_with p) p.parts.checked) where
  abbrev c : Cert
  c = p.parts.checked.certificate

  abbrev pool : Pool
  pool = pool_over p.anchors p.parts.checked.further

  abbrev Path : List Cert → Cert → Type 0
  Path path anchor = IsPath (with_row row rows) pool c c.not_before path anchor

  abbrev Plain : Type 0
  Plain = OfPath (trust_with p) p.parts.checked (λ path anchor. (lower : List Cert) × (upper : List Cert)
      × (path ≡ lower ++ upper) × (row ≡ signature_row (last_of c lower) (issuer_in upper anchor))
      × (¬ HasShortcut (trust_with p) lower upper))

  plain_step : (n : ℕ) (path : List Cert) (anchor : Cert) → length path < n → Path path anchor → Plain
  plain_step zero path anchor few is = absurd (omega (arith, few))
  plain_step (suc n) path anchor few is =
      by (has_row row rows c path anchor is.signed) (λ other top less on. plain_step n other top less on)
    where
      Rest : Type 0
      Rest = (other : List Cert) (top : Cert) → length other < n → Path other top → Plain

      split_by : (split : IsSplit c path anchor row) → Rest
          → HasShortcut (trust_with p) split.lower split.upper ⊎ (¬ HasShortcut (trust_with p) split.lower split.upper)
          → Plain
      split_by split rest (inr plain) = (
        path,
        anchor,
        would_hold pool c c.not_before (with_row row rows) path anchor is,
        (split.lower, split.upper, split.whole, split.is, plain),
      )
      split_by split rest (inl s) =
          let is_whole = subst (λ (ws : List Cert). Path ws anchor) split.whole is in
          let few_whole = subst (λ (ws : List Cert). length ws < suc n) split.whole few in
          let found = cut (with_row row rows) pool c.not_before s.below s.above s.same split.lower split.upper anchor
          zero c s.from.0 (at_contained split.lower s.below s.from)
          (Contains-append_cases split.upper p.anchors s.above s.to)
          (onward_of (with_row row rows) pool c.not_before c (split.lower ++ split.upper) anchor is_whole) in
          rest found.over found.top (omega (arith, found.less, few_whole))
          (shorter_path (with_row row rows) pool c.not_before c (split.lower ++ split.upper) found.over anchor found.top
          is_whole (omega (arith, found.less)) found.onward)

      by : AreSignedUp (checker_with rows).cert c path anchor ⊎ IsSplit c path anchor row → Rest → Plain
      by (inl signed) rest =
          absurd (none (some_issuer (checker_with rows).cert pool c path anchor
          (with_signatures pool c c.not_before (with_row row rows) (checker_with rows).cert path anchor is signed)))
      by (inr split) rest = split_by split rest (shortcut_or_none (trust_with p) split.lower split.upper)

  plain_of : HasIssuer (checker_with (row ∷ rows)) (trust_with p) p.parts.checked → Plain
  plain_of of =
      let found = of.first.path in
      plain_step (suc (length found.over)) found.over found.anchor (omega arith) found.path

pub issuer_rests : OneCertificate → IssuerRestsOnSteps
issuer_rests one i row = (to, from)
  where
    to : RestsOn i Issuer row → OfStep i row (λ trust lower upper. ¬ HasShortcut trust lower upper)
    to (rows, rests) =
        let both = rests accepting.policy in
        of_checked i (λ trust d. HasIssuer (checker_with (row ∷ rows)) trust d)
        (OfStep i row (λ trust lower upper. ¬ HasShortcut trust lower upper))
        (λ p of. checked_to p (λ trust d. OfPath trust d (λ path anchor. (lower : List Cert) × (upper : List Cert)
        × (path ≡ lower ++ upper) × (row ≡ signature_row (last_of d.certificate lower) (issuer_in upper anchor))
        × (¬ HasShortcut trust lower upper)))
        (plain_of p row rows
        (λ has. both.1 (checked_to p (λ trust d. HasIssuer (checker_with rows) trust d) has)) of)) both.0

    from : OfStep i row (λ trust lower upper. ¬ HasShortcut trust lower upper) → RestsOn i Issuer row
    from of =
        of_checked i (λ trust d. OfPath trust d (λ path anchor. (lower : List Cert) × (upper : List Cert)
        × (path ≡ lower ++ upper) × (row ≡ signature_row (last_of d.certificate lower) (issuer_in upper anchor))
        × (¬ HasShortcut trust lower upper))) (RestsOn i Issuer row)
        (λ p (path, anchor, is, (lower, upper, whole, same, plain)).
        subst (RestsOn i Issuer) (sym same)
        (step_matters one p lower upper anchor
        (subst (λ (ws : List Cert). IsPath every_signature (pool_over p.anchors p.parts.checked.further)
        p.parts.checked.certificate p.parts.checked.certificate.not_before ws anchor) whole is) plain)) of
