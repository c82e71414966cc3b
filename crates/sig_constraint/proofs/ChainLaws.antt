-- What a chain says of a certificate.
use Rattle.std.proofs.Common.{◌≡◌, ◌⊎◌, ℕ, zero, suc, ◌≤◌, ◌<◌, ℤ, List, [], ◌∷◌, length, Option, Some, None, Result, Ok, Err}
use Rattle.std.proofs.Common.{refl, sym, ap, subst, ◌∙◌, arith, inl, inr}
use Rattle.std.specs.Prelude.{IfOk, IfErr, slice_get}
use Rattle.sig_base.specs.Answers.{Answers, ComesWhere, OrMemory}
use Rattle.sig_base.specs.declared.error.SigstoreError.{SigstoreError}
use Rattle.sig_base.specs.declared.error.SigstoreError.TheVariants.{CertificatePoolError, OutOfMemory}
use Rattle.sig_base.specs.declared.fault.PoolError.{PoolError}
use Rattle.sig_base.specs.declared.fault.PoolError.TheVariants as pool_error
use Rattle.sig_base.proofs.PairedLists.{zip_one}
use Rattle.sig_certificate.specs.Certificate.{Cert, IsCertificate}
use Rattle.sig_x509.specs.Issuance.{Accepts, AreAnchors, IsAnchor, IsFirstNoAnchor}
use Rattle.sig_x509.specs.PathSearch.{path_issuer}
use Rattle.sig_x509.specs.Pool.{AreReadAs, IsPoolRefusal, Pool, most_intermediates}
use Rattle.sig_signer.specs.Signer.{from_pool, of_pool}
use Rattle.sig_constraint.specs.Certified.{IsChainAnswer, IsChainResult, issued_answer, pool_of}
use Rattle.sig_x509.specs.declared.issuer.Issuer.{Issuer}

-- bytes are at most one certificate
abbrev pub OneCertificate : Type 0
OneCertificate = (text : List ℕ) (c d : Cert) → IsCertificate text c → IsCertificate text d → c ≡ d

-- ---- trust anchors

one_list : OneCertificate → (ders : List (List ℕ)) (cs ds : List Cert) → AreAnchors ders cs → AreAnchors ders ds
    → cs ≡ ds
one_list one = zip_one IsAnchor IsAnchor (λ t c d a b. one t c d a.certificate b.certificate)

anchor_at : (ders : List (List ℕ)) (cs : List Cert) (index : ℕ) (der : List ℕ) → AreAnchors ders cs
    → slice_get ders index ≡ Some der → (c : Cert) × IsAnchor der c
anchor_at [] [] index der are there = absurd cc
anchor_at [] (c ∷ cs) index der are there = absurd are
anchor_at (d ∷ ds) [] index der are there = absurd are
anchor_at (d ∷ ds) (c ∷ cs) zero der are there =
    let same : d ≡ der = cc in (c, subst (λ (t : List ℕ). IsAnchor t c) same are.0)
anchor_at (d ∷ ds) (c ∷ cs) (suc index) der are there = anchor_at ds cs index der are.1 there

no_first : (ders : List (List ℕ)) (cs : List Cert) (index : ℕ) → AreAnchors ders cs → IsFirstNoAnchor ders index → ⊥
no_first ders cs index are first =
    let at = anchor_at ders cs index first.der are first.there in first.no at.0 at.1

-- ---- the pool

pub no_intermediates : (ders : List (List ℕ)) (intermediates : List (Option Cert)) → ders ≡ []
    → AreReadAs ders intermediates
    → intermediates ≡ []
no_intermediates [] [] e are = refl
no_intermediates [] (o ∷ os) e are = absurd are
no_intermediates (d ∷ ds) os e are = absurd cc

-- at the same second
module _ (accepts : Accepts) (p : Pool) (c : Cert) (time now : ℤ) (same : time ≡ now) where
  then_is : from_pool (path_issuer accepts p c now) ≡ from_pool (path_issuer accepts p c time)
  then_is = ap (λ (t : ℤ). from_pool (path_issuer accepts p c t)) (sym same)

  pub issued_ok : (issuer : Issuer) → path_issuer accepts p c time ≡ Ok issuer
      → from_pool (path_issuer accepts p c now) ≡ Ok tt
  issued_ok issuer is = then_is ∙ ap (λ (r : Result Issuer PoolError). from_pool r) is

  pub issued_err : (e : PoolError) (d : SigstoreError) → d ≡ of_pool e
      → OrMemory pool_error.OutOfMemory e (path_issuer accepts p c time ≡ Err e)
      → OrMemory OutOfMemory d (from_pool (path_issuer accepts p c now) ≡ Err d)
  issued_err e d told (inl memory) = inl (told ∙ ap (λ (x : PoolError). of_pool x) memory)
  issued_err e d told (inr is) =
      inr (then_is ∙ ap (λ (r : Result Issuer PoolError). from_pool r) is ∙ ap (λ (x : SigstoreError). Err x) (sym told))

  pub issued_at : (r : Result (Unit {0}) SigstoreError)
      → Answers OutOfMemory (λ done. done) r (from_pool (path_issuer accepts p c time))
      → Answers OutOfMemory (λ done. done) r (from_pool (path_issuer accepts p c now))
  issued_at r is =
      subst (λ (m : Result (Unit {0}) SigstoreError). Answers OutOfMemory (λ done. done) r m) (sym then_is) is

pub chain_at : (accepts : Accepts) (chain : Option (List (List ℕ))) (c : Cert) (time now : ℤ) → time ≡ now
    → (r : Result (Unit {0}) SigstoreError) → IsChainResult accepts chain c time r → IsChainResult accepts chain c now r
chain_at accepts chain c time now same r is = subst (λ (t : ℤ). IsChainResult accepts chain c t r) same is

abbrev refused : PoolError → Result Pool PoolError
refused e = Err e

-- ---- the results

module _ (accepts : Accepts) (c : Cert) (now : ℤ) where
  pub no_chain : IsChainResult accepts None c now (Ok tt)
  no_chain = record { found = refl; err = tt; only = λ meant is. is }

  pub no_memory : (chain : Option (List (List ℕ))) → IsChainResult accepts chain c now (Err OutOfMemory)
  no_memory chain = record { found = tt; err = inl refl; only = λ meant is. inl refl }

  issued_is : (ders : List (List ℕ)) (anchors : List Cert) (result : Result (Unit {0}) SigstoreError)
      → AreAnchors ders anchors → Answers OutOfMemory (λ done. done) result (issued_answer accepts anchors c now)
      → IfOk result (λ done. IsChainAnswer accepts (Some ders) c now (Ok done))
      × IfErr result (λ e. OrMemory OutOfMemory e (IsChainAnswer accepts (Some ders) c now (Err e)))
  issued_is ders anchors (Ok done) are is = (inl (anchors, (are, sym is)), tt)
  issued_is ders anchors (Err e) are (inl memory) = (tt, inl memory)
  issued_is ders anchors (Err e) are (inr is) = (tt, inr (inl (anchors, (are, sym is))))

  pub by_pool : OneCertificate → (ders : List (List ℕ)) (pool : Pool) (result : Result (Unit {0}) SigstoreError)
      → AreAnchors ders pool.anchors → pool.intermediates ≡ []
      → Answers OutOfMemory (λ done. done) result (from_pool (path_issuer accepts pool c now))
      → IsChainResult accepts (Some ders) c now result
  by_pool one ders pool result are alone is =
      let same : pool ≡ pool_of pool.anchors =
      ap (λ (os : List (Option Cert)). record { anchors = pool.anchors; intermediates = os }) alone in
      let issued : Answers OutOfMemory (λ done. done) result (issued_answer accepts pool.anchors c now) =
      subst (λ (p : Pool). Answers OutOfMemory (λ done. done) result (from_pool (path_issuer accepts p c now))) same is
      in
      let there = issued_is ders pool.anchors result are issued in
      record { found = there.0; err = there.1; only = only issued }
    where
      only : Answers OutOfMemory (λ done. done) result (issued_answer accepts pool.anchors c now)
          → (meant : Result (Unit {0}) SigstoreError) → IsChainAnswer accepts (Some ders) c now meant
          → Answers OutOfMemory (λ done. done) result meant
      only issued meant (inl (others, (these, said))) =
          subst (λ (m : Result (Unit {0}) SigstoreError). Answers OutOfMemory (λ done. done) result m)
          (ap (λ (cs : List Cert). issued_answer accepts cs c now) (one_list one ders pool.anchors others are these)
          ∙ sym said)
          issued
      only issued meant (inr (index, (first, said))) = absurd (no_first ders pool.anchors index are first)

  pub by_anchor : (ders none : List (List ℕ)) (index : ℕ) (why : PoolError) → none ≡ [] → why ≡ pool_error.Anchor index
      → ((at : ℕ) → ComesWhere {X = Pool} pool_error.OutOfMemory (Err why) (Err (pool_error.Anchor at))
      ((length none ≤ most_intermediates) × IsFirstNoAnchor ders at))
      → IsChainResult accepts (Some ders) c now (Err (CertificatePoolError (pool_error.Anchor index)))
  by_anchor ders none index why empty is comes =
      record { found = tt; err = inr (inr (index, (first, refl))); only = only } where
        few : length none ≤ most_intermediates
        few = subst (λ (xs : List (List ℕ)). length xs ≤ most_intermediates) (sym empty) (omega arith)

        first : IsFirstNoAnchor ders index
        first = ((comes index).0 (ap refused is)).1

        same : (at : ℕ) → (refused why ≡ refused pool_error.OutOfMemory) ⊎ (refused why ≡ refused (pool_error.Anchor at))
            → at ≡ index
        same at (inl e) = let clash : refused (pool_error.Anchor index) ≡ refused pool_error.OutOfMemory = sym (ap refused is) ∙ e in absurd cc
        same at (inr e) = let equal : refused (pool_error.Anchor index) ≡ refused (pool_error.Anchor at) = sym (ap refused is) ∙ e in cc

        only : (meant : Result (Unit {0}) SigstoreError) → IsChainAnswer accepts (Some ders) c now meant
            → Answers OutOfMemory (λ done. done) (Err (CertificatePoolError (pool_error.Anchor index))) meant
        only meant (inl (others, (these, said))) = absurd (no_first ders others index these first)
        only meant (inr (at, (there, said))) =
            inr (said ∙ ap (λ (i : ℕ). Err (CertificatePoolError (pool_error.Anchor i)))
            (same at ((comes at).1 (few, there))))

  -- why there is no pool: there are no intermediates, so they are not too many
  pub by_error : (ders none : List (List ℕ)) (why : PoolError) (d : SigstoreError) → none ≡ [] → d ≡ of_pool why
      → IsPoolRefusal ders none why
      → ((at : ℕ) → ComesWhere {X = Pool} pool_error.OutOfMemory (Err why) (Err (pool_error.Anchor at))
      ((length none ≤ most_intermediates) × IsFirstNoAnchor ders at))
      → IsChainResult accepts (Some ders) c now (Err d)
  by_error ders none (pool_error.Anchor index) d empty told cause comes =
      subst (λ (x : SigstoreError). IsChainResult accepts (Some ders) c now (Err x)) (sym told)
      (by_anchor ders none index (pool_error.Anchor index) empty refl comes)
  by_error ders none pool_error.OutOfMemory d empty told cause comes =
      subst (λ (x : SigstoreError). IsChainResult accepts (Some ders) c now (Err x)) (sym told) (no_memory (Some ders))
  by_error ders none (pool_error.TooMany count) d empty told cause comes =
      let none_too_many : most_intermediates < length {A = List ℕ} [] =
      subst (λ (xs : List (List ℕ)). most_intermediates < length xs) empty cause.1 in
      absurd (omega (arith, none_too_many))
  by_error ders none pool_error.Malformed d empty told cause comes = absurd cause
  by_error ders none pool_error.VerificationFailed d empty told cause comes = absurd cause
