-- What leads to a trust anchor by the table is on a path to one, and what is on a path leads to one.
use Rattle.std.proofs.Common.{◌≡◌, ◌⊎◌, ℕ, zero, suc, ◌+◌, ◌<◌, ℤ, Bool, true, ◌&&◌, ◌||◌, List, [], ◌∷◌}
use Rattle.std.proofs.Common.{length, Option, Some, None, slice_get, inl, inr, refl, ap, subst, ◌∙◌, arith}
use Rattle.std.specs.Prelude.{Contains}
use Rattle.std.specs.List.{AllByRecursion, list_any}
use Rattle.std.proofs.lemmas.Bool.{and_parts, and_from, or_cases, or_right}
use Rattle.sig_certificate.specs.Certificate.{Cert}
use Rattle.sig_x509.specs.Issuance.{Accepts, is_signed_by}
use Rattle.sig_x509.specs.Path.{MayIssue, AllowsBetween, AreSignedUp}
use Rattle.sig_x509.specs.PathSearch.{is_rooted, leads, of_read}
use Rattle.sig_x509.specs.Pool.{Pool}
use Rattle.sig_x509.proofs.Elements.{any_from, any_is, at_contained, contains_at}
use Rattle.sig_x509.proofs.PathConditions.{signed_from, signed_is, stands_from, stands_is}

-- ---- certificates that can be in a path, from the place with so many others before it on

abbrev pub AreStanding : ℤ → ℕ → List Cert → Type 0
AreStanding t others [] = Unit {0}
AreStanding t others (x ∷ xs) = (MayIssue t x × AllowsBetween x others) × AreStanding t (suc others) xs

pub allows_as_many : (x : Cert) (m n : ℕ) → m ≡ n → AllowsBetween x m → AllowsBetween x n
allows_as_many x m n same allows = subst (λ (k : ℕ). AllowsBetween x k) same allows

pub standing_at : (t : ℤ) (others : ℕ) (xs : List Cert) → AreStanding t others xs → (k : ℕ) (x : Cert)
    → slice_get xs k ≡ Some x → MayIssue t x × AllowsBetween x (others + k)
standing_at t others [] are k x got = absurd cc
standing_at t others (y ∷ xs) are zero x got =
    let same : y ≡ x = cc in
    subst (λ (z : Cert). MayIssue t z × AllowsBetween z (others + 0)) same
    (are.0.0, allows_as_many y others (others + 0) (omega arith) are.0.1)
standing_at t others (y ∷ xs) are (suc k) x got =
    let found = standing_at t (suc others) xs are.1 k x got in
    (found.0, allows_as_many x (suc others + k) (others + suc k) (omega arith) found.1)

pub standing_from : (t : ℤ) (others : ℕ) (xs : List Cert)
    → ((k : ℕ) (x : Cert) → slice_get xs k ≡ Some x → MayIssue t x)
    → ((k : ℕ) (x : Cert) → slice_get xs k ≡ Some x → AllowsBetween x (others + k)) → AreStanding t others xs
standing_from t others [] may allow = tt
standing_from t others (x ∷ xs) may allow = (
  (may zero x refl, allows_as_many x (others + 0) others (omega arith) (allow zero x refl)),
  standing_from t (suc others) xs (λ k y got. may (suc k) y got)
      (λ k y got. allows_as_many y (others + suc k) (suc others + k) (omega arith) (allow (suc k) y got)),
)

-- ---- the table

module _ (accepts : Accepts) (pool : Pool) (t : ℤ) where
  -- a path of fewer than `left` intermediates goes on from x, which has so many others before it
  pub record IsAbove (left others : ℕ) (x : Cert) (above : List Cert) (anchor : Cert) : Type 0 where
    pub few : length above < left
    pub trusted : Contains pool.anchors anchor
    pub standing : AreStanding t others (x ∷ above)
    pub given : AllByRecursion (λ y. Contains pool.intermediates (Some y)) above
    pub signed : AreSignedUp accepts x above anchor

  pub of_read_from : (p : Cert → Bool) (o : Option Cert) → of_read p o ≡ true → (y : Cert) × (o ≡ Some y) × (p y ≡ true)
  of_read_from p None is = absurd cc
  of_read_from p (Some y) is = (y, refl, is)

  pub leads_from : (left others : ℕ) (x : Cert) → leads accepts pool t left others x ≡ true
      → (above : List Cert) × (anchor : Cert) × IsAbove left others x above anchor
  unfolding leads
  leads_from zero others x is = absurd cc
  leads_from (suc left) others x is =
      let parts = and_parts _ _ is in
      by (stands_from t others x parts.0) (λ y on. leads_from left (suc others) y on) (or_cases _ _ parts.1)
    where
      by : MayIssue t x × AllowsBetween x others
          → ((y : Cert) → leads accepts pool t left (suc others) y ≡ true
          → (above : List Cert) × (anchor : Cert) × IsAbove left (suc others) y above anchor)
          → (is_rooted accepts pool x ≡ true)
          ⊎ (list_any (of_read (λ y. is_signed_by accepts x y && leads accepts pool t left (suc others) y))
          pool.intermediates ≡ true)
          → (above : List Cert) × (anchor : Cert) × IsAbove (suc left) others x above anchor
      by stands on (inl rooted) =
          let found = any_from (is_signed_by accepts x) pool.anchors rooted in (
            [],
            found.1,
            record {
              few = omega arith;
              trusted = contains_at pool.anchors found.0 found.1 found.2;
              standing = (stands, tt);
              given = tt;
              signed = signed_from accepts x found.1 found.3;
            },
          )
      by stands on (inr through) =
          let found =
          any_from (of_read (λ y. is_signed_by accepts x y && leads accepts pool t left (suc others) y))
          pool.intermediates through in
          let next =
          of_read_from (λ y. is_signed_by accepts x y && leads accepts pool t left (suc others) y) found.1 found.3 in
          let both = and_parts _ _ next.2 in
          let rest = on next.0 both.1 in (
            next.0 ∷ rest.0,
            rest.1,
            record {
              few = omega (arith, rest.2.few);
              trusted = rest.2.trusted;
              standing = (stands, rest.2.standing);
              given = (
                contains_at pool.intermediates found.0 (Some next.0) (found.2 ∙ ap (λ (o : Option Cert). Some o) next.1),
                rest.2.given,
              );
              signed = (signed_from accepts x next.0 both.0, rest.2.signed);
            },
          )

  pub leads_is : (left others : ℕ) (x : Cert) (above : List Cert) (anchor : Cert)
      → IsAbove left others x above anchor → leads accepts pool t left others x ≡ true
  unfolding leads
  leads_is zero others x above anchor is = absurd (omega (arith, is.few))
  leads_is (suc left) others x [] anchor is =
      and_from _ _ (stands_is t others x is.standing.0.0 is.standing.0.1)
      (ap (λ (b : Bool). b || list_any (of_read (λ y. is_signed_by accepts x y && leads accepts pool t left (suc others) y)) pool.intermediates)
      (any_is (is_signed_by accepts x) pool.anchors is.trusted.0 anchor (at_contained pool.anchors anchor is.trusted)
      (signed_is accepts x anchor is.signed)))
  leads_is (suc left) others x (y ∷ above) anchor is =
      and_from _ _ (stands_is t others x is.standing.0.0 is.standing.0.1)
      (or_right _ _ (any_is (of_read (λ y. is_signed_by accepts x y && leads accepts pool t left (suc others) y))
      pool.intermediates is.given.0.0 (Some y) (at_contained pool.intermediates (Some y) is.given.0)
      (and_from _ _ (signed_is accepts x y is.signed.0) (leads_is left (suc others) y above anchor (record {
        few = omega (arith, is.few);
        trusted = is.trusted;
        standing = is.standing.1;
        given = is.given.1;
        signed = is.signed.1;
      })))))
