-- Texts of anchors: the first that is none is refused, and no other.
use Rattle.std.proofs.Common.{◌≡◌, ◌⊎◌, ℕ, zero, suc, ◌<◌, List, [], ◌∷◌, take, Some, Result, Ok, Err}
use Rattle.std.proofs.Common.{length, ◌≤◌, refl, sym, ap, subst, ◌∙◌, inl, inr, arith}
use Rattle.std.specs.Prelude.{slice_get, IfOk, IfErr}
use Rattle.std.proofs.lemmas.Bool.{cases_order}
use Rattle.sig_base.specs.declared.fault.PoolError.{PoolError}
use Rattle.sig_base.specs.declared.fault.PoolError.TheVariants.{TooMany, Anchor, Malformed, VerificationFailed}
use Rattle.sig_base.specs.declared.fault.PoolError.TheVariants.{OutOfMemory}
use Rattle.sig_base.specs.Answers.{ComesWhere}
use Rattle.sig_certificate.specs.Certificate.{Cert}
use Rattle.sig_x509.specs.Issuance.{IsAnchor, IsNoAnchor, AreAnchors, IsFirstNoAnchor}
use Rattle.sig_x509.specs.Pool.{IsPoolRefusal, Pool, most_intermediates}

at_front : (u t : List ℕ) (c : Cert) → IsAnchor u c → Some u ≡ Some t → IsNoAnchor t → ⊥
at_front u t c is got none =
    let same : u ≡ t = cc in
    none c (subst (λ (w : List ℕ). IsAnchor w c) same is)

-- a text among those of anchors is one
among : (ts : List (List ℕ)) (cs : List Cert) (index : ℕ) (t : List ℕ) → AreAnchors ts cs → slice_get ts index ≡ Some t
    → IsNoAnchor t → ⊥
among [] cs index t are got none = absurd cc
among (u ∷ ts) [] index t are got none = are
among (u ∷ ts) (c ∷ cs) zero t are got none = at_front u t c are.0 got none
among (u ∷ ts) (c ∷ cs) (suc n) t are got none = among ts cs n t are.1 got none

-- and so is one among the first n
among_first : (n : ℕ) (ts : List (List ℕ)) (cs : List Cert) (index : ℕ) (t : List ℕ) → AreAnchors (take n ts) cs
    → index < n
    → slice_get ts index ≡ Some t → IsNoAnchor t → ⊥
among_first zero ts cs index t are lt got none = absurd (omega (arith, lt))
among_first (suc n) [] cs index t are lt got none = absurd cc
among_first (suc n) (u ∷ ts) [] index t are lt got none = are
among_first (suc n) (u ∷ ts) (c ∷ cs) zero t are lt got none = at_front u t c are.0 got none
among_first (suc n) (u ∷ ts) (c ∷ cs) (suc index) t are lt got none =
    among_first n ts cs index t are.1 (omega (arith, lt)) got none

only_first : (texts : List (List ℕ)) (p q : ℕ) → IsFirstNoAnchor texts p → IsFirstNoAnchor texts q → p ≡ q
only_first texts p q a b = by_order (cases_order p q)
  where
    by_order : (p ≡ q) ⊎ ((p < q) ⊎ (q < p)) → p ≡ q
    by_order (inl same) = same
    by_order (inr (inl lt)) = absurd (among_first q texts b.anchors p a.der b.before lt a.there a.no)
    by_order (inr (inr lt)) = absurd (among_first p texts a.anchors q b.der a.before lt b.there b.no)

module _ (roots ders : List (List ℕ)) where
  pub first_refused : (r : Result Pool PoolError) → IfOk r (λ p. AreAnchors roots p.anchors)
      → IfErr r (IsPoolRefusal roots ders)
      → (index : ℕ)
      → ComesWhere OutOfMemory r (Err (Anchor index))
      ((length ders ≤ most_intermediates) × IsFirstNoAnchor roots index)
  first_refused (Ok p) are refused index =
      ((λ e. absurd cc), (λ is. absurd (among roots p.anchors index is.1.der are is.1.there is.1.no)))
  first_refused (Err (Anchor found)) are refused index = (
    (λ e. let same : found ≡ index = cc in
        (refused.0, subst (λ (n : ℕ). IsFirstNoAnchor roots n) same refused.1)),
    (λ is. inr (ap (λ (n : ℕ). Err (Anchor n)) (only_first roots found index refused.1 is.1))),
  )
  first_refused (Err OutOfMemory) are refused index = ((λ e. absurd cc), (λ is. inl refl))
  first_refused (Err (TooMany count)) are refused index =
      ((λ e. absurd cc), (λ is. absurd (omega (arith, refused.1, is.0))))
  first_refused (Err Malformed) are refused index = absurd refused
  first_refused (Err VerificationFailed) are refused index = absurd refused

  pub too_many : (r : Result Pool PoolError) → IfOk r (λ p. length ders ≤ most_intermediates)
      → IfErr r (IsPoolRefusal roots ders)
      → (count : ℕ)
      → ComesWhere OutOfMemory r (Err (TooMany count))
      ((count ≡ length ders) × (most_intermediates < length ders))
  too_many (Ok p) few refused count = ((λ e. absurd cc), (λ is. absurd (omega (arith, few, is.1))))
  too_many (Err (TooMany found)) few refused count = (
    (λ e. let same : found ≡ count = cc in (sym same ∙ refused.0, refused.1)),
    (λ is. inr (ap (λ (n : ℕ). Err (TooMany n)) (refused.0 ∙ sym is.0))),
  )
  too_many (Err OutOfMemory) few refused count = ((λ e. absurd cc), (λ is. inl refl))
  too_many (Err (Anchor found)) few refused count =
      ((λ e. absurd cc), (λ is. absurd (omega (arith, refused.0, is.1))))
  too_many (Err Malformed) few refused count = absurd refused
  too_many (Err VerificationFailed) few refused count = absurd refused
