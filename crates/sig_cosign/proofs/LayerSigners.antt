-- Who signed a layer: what is returned is what is meant.
use Rattle.std.proofs.Common.{◌≡◌, ◌⊎◌, ℕ, ℤ, List, Option, Some, None, Result, Ok, Err, IfOk, refl, sym, ap, subst}
use Rattle.std.proofs.Common.{◌∙◌, inl, inr, option_map}
use Rattle.sig_base.specs.Answers.{Answers, OrMemory}
use Rattle.sig_base.specs.declared.error.SigstoreError.{SigstoreError}
use Rattle.sig_base.specs.declared.error.SigstoreError.TheVariants.{OutOfMemory}
use Rattle.sig_base.specs.declared.memory.OutOfMemory.{OutOfMemory as RanOut}
use Rattle.sig_signer.specs.Signer.{IsSignerOf, Signer, seen_signer}
use Rattle.sig_signer.specs.declared.certificate_signature.CertificateSignature.{CertificateSignature}
use Rattle.sig_x509.specs.Issuance.{Accepts}
use Rattle.sig_x509.specs.Pool.{Pool}
use Rattle.sig_cosign.specs.Signers.{IsNoMemory, IsNoneUnless, IsSignerIf, IsSignerIn}

abbrev Returned : Type 0
Returned = Result (Option CertificateSignature) RanOut

no_memory : (e : SigstoreError) → IsNoMemory e → e ≡ OutOfMemory → ⊥
no_memory e not is = subst (λ (x : SigstoreError). IsNoMemory x) is not

module _ (accepts : Accepts) (pool : Pool) (der : List ℕ) (a n at now : ℤ) (same_at : a ≡ at) (same_now : n ≡ now) where
  there : (m : Result Signer SigstoreError) → IsSignerOf accepts pool der a n m → IsSignerOf accepts pool der at now m
  there m is =
      subst (λ (t : ℤ). IsSignerOf accepts pool der at t m) same_now
      (subst (λ (t : ℤ). IsSignerOf accepts pool der t n m) same_at is)

  back : (m : Result Signer SigstoreError) → IsSignerOf accepts pool der at now m → IsSignerOf accepts pool der a n m
  back m is =
      subst (λ (t : ℤ). IsSignerOf accepts pool der t n m) (sym same_at)
      (subst (λ (t : ℤ). IsSignerOf accepts pool der at t m) (sym same_now) is)

  pub ok_found : (x : CertificateSignature) → IsSignerOf accepts pool der a n (Ok (seen_signer x))
      → IsSignerOf accepts pool der at now (Ok (seen_signer x))
  ok_found x is = there (Ok (seen_signer x)) is

  pub ok_only : (x : CertificateSignature)
      → ((m : Result Signer SigstoreError) → IsSignerOf accepts pool der a n m → Answers OutOfMemory seen_signer (Ok x) m)
      → (meant : Option Signer) → IsSignerIf accepts pool der at now meant → Some (seen_signer x) ≡ meant
  ok_only x only (Some s) is = let same = only (Ok s) (back (Ok s) is) in cc
  ok_only x only None is = let wrong = only (Err is.0) (back (Err is.0) is.1) in absurd cc

  module _ (e : SigstoreError) (r : Returned) (none : IfOk r (IsNoneUnless e)) where
    pub err_found : OrMemory OutOfMemory e (IsSignerOf accepts pool der a n (Err e))
        → IfOk r (λ s. IsSignerIf accepts pool der at now (option_map seen_signer s))
    err_found err = by r none err
      where
        by : (r : Returned) → IfOk r (IsNoneUnless e) → OrMemory OutOfMemory e (IsSignerOf accepts pool der a n (Err e))
            → IfOk r (λ s. IsSignerIf accepts pool der at now (option_map seen_signer s))
        by (Err ran) none err = tt
        by (Ok s) none (inl memory) = absurd (no_memory e none.1 memory)
        by (Ok None) none (inr is) = (e, there (Err e) is)
        by (Ok (Some s)) none (inr is) = let wrong = none.0 in absurd cc

    pub err_only : ((m : Result Signer SigstoreError) → IsSignerOf accepts pool der a n m
        → Answers OutOfMemory seen_signer (Err e) m)
        → (meant : Option Signer) → IsSignerIf accepts pool der at now meant
        → IfOk r (λ s. option_map seen_signer s ≡ meant)
    err_only only meant is = by r none meant is
      where
        by : (r : Returned) → IfOk r (IsNoneUnless e) → (meant : Option Signer) → IsSignerIf accepts pool der at now meant
            → IfOk r (λ s. option_map seen_signer s ≡ meant)
        by (Err ran) none meant is = tt
        by (Ok s) none None is = ap (λ (o : Option CertificateSignature). option_map seen_signer o) none.0
        by (Ok s) none (Some x) is = by_told (only (Ok x) (back (Ok x) is))
          where
            by_told : OrMemory OutOfMemory e (◌≡◌ {A = Result Signer SigstoreError} (Ok x) (Err e))
                → option_map seen_signer s ≡ Some x
            by_told (inl memory) = absurd (no_memory e none.1 memory)
            by_told (inr wrong) = absurd cc

  -- ---- with a pool

  module _ (o : Option Pool) (is_pool : o ≡ Some pool) (r : Returned) where
    pub in_found : IfOk r (λ s. IsSignerIf accepts pool der a n (option_map seen_signer s))
        → IfOk r (λ s. IsSignerIn accepts o der at now (option_map seen_signer s))
    in_found found = by r found
      where
        moved : (m : Option Signer) → IsSignerIf accepts pool der a n m → IsSignerIn accepts o der at now m
        moved m is =
            subst (λ (p : Option Pool). IsSignerIn accepts p der at now m) (sym is_pool)
            (subst (λ (t : ℤ). IsSignerIf accepts pool der at t m) same_now
            (subst (λ (t : ℤ). IsSignerIf accepts pool der t n m) same_at is))

        by : (r : Returned) → IfOk r (λ s. IsSignerIf accepts pool der a n (option_map seen_signer s))
            → IfOk r (λ s. IsSignerIn accepts o der at now (option_map seen_signer s))
        by (Ok s) is = moved (option_map seen_signer s) is
        by (Err e) is = tt

    pub in_only : ((m : Option Signer) → IsSignerIf accepts pool der a n m → IfOk r (λ s. option_map seen_signer s ≡ m))
        → (m : Option Signer) → IsSignerIn accepts o der at now m → IfOk r (λ s. option_map seen_signer s ≡ m)
    in_only only m is =
        only m (subst (λ (t : ℤ). IsSignerIf accepts pool der t n m) (sym same_at)
        (subst (λ (t : ℤ). IsSignerIf accepts pool der at t m) (sym same_now)
        (subst (λ (p : Option Pool). IsSignerIn accepts p der at now m) is_pool is)))
