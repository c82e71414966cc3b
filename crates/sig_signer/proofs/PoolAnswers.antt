-- What a pool returns of a certificate, as this crate's result.
use Rattle.std.proofs.Common.{◌≡◌, ℤ, Result, Ok, Err, refl, sym, ap, ◌∙◌, inl, inr}
use Rattle.sig_base.specs.Answers.{OrMemory}
use Rattle.sig_base.specs.declared.error.SigstoreError.{SigstoreError}
use Rattle.sig_base.specs.declared.error.SigstoreError.TheVariants.{OutOfMemory}
use Rattle.sig_base.specs.declared.fault.PoolError.{PoolError}
use Rattle.sig_base.specs.declared.fault.PoolError.TheVariants as pool
use Rattle.sig_certificate.specs.Certificate.{Cert}
use Rattle.sig_x509.specs.Issuance.{Accepts}
use Rattle.sig_x509.specs.PathSearch.{path_issuer}
use Rattle.sig_x509.specs.Pool.{Pool}
use Rattle.sig_x509.specs.declared.issuer.Issuer.{Issuer}
use Rattle.sig_signer.specs.Signer.{from_pool, issued_answer, of_pool}

module _ (accepts : Accepts) (p : Pool) (c : Cert) (time : ℤ) (same : time ≡ c.not_before) where
  issued : issued_answer accepts p c ≡ from_pool (path_issuer accepts p c time)
  issued = ap (λ (t : ℤ). from_pool (path_issuer accepts p c t)) (sym same)

  pub issued_ok : (issuer : Issuer) → path_issuer accepts p c time ≡ Ok issuer → issued_answer accepts p c ≡ Ok tt
  issued_ok issuer is = issued ∙ ap (λ (r : Result Issuer PoolError). from_pool r) is

  pub issued_err : (e : PoolError) (d : SigstoreError) → d ≡ of_pool e
      → OrMemory pool.OutOfMemory e (path_issuer accepts p c time ≡ Err e)
      → OrMemory OutOfMemory d (issued_answer accepts p c ≡ Err d)
  issued_err e d told (inl memory) = inl (told ∙ ap (λ (x : PoolError). of_pool x) memory)
  issued_err e d told (inr is) =
      inr (issued ∙ ap (λ (r : Result Issuer PoolError). from_pool r) is ∙ ap (λ (x : SigstoreError). Err x) (sym told))
