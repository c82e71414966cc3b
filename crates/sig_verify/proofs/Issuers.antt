-- What the pool of a verifier returns, which has no intermediates of its own, is the issuer in the first path at the first
-- second of the certificate's validity.
use Rattle.std.proofs.Common.{◌≡◌, inl, inr, ℕ, ℤ, List, [], ◌++◌, Option, Some, None, Result, Ok, Err, option_map}
use Rattle.std.proofs.Common.{refl, slice_get, sym, ap, ◌∙◌}
use Rattle.std.proofs.lemmas.Option.{slice_get-map}
use Rattle.sig_base.specs.Answers.{OrMemory}
use Rattle.sig_base.specs.Sha256.{sha256}
use Rattle.sig_base.specs.declared.fault.PoolError.{PoolError}
use Rattle.sig_base.specs.declared.fault.PoolError.TheVariants as pool
use Rattle.sig_certificate.specs.Certificate.{Cert}
use Rattle.sig_x509.proofs.PathAnswers.{issued_is_first}
use Rattle.sig_x509.specs.Issuance.{Accepts}
use Rattle.sig_x509.specs.PathSearch.{path_issuer}
use Rattle.sig_x509.specs.Pool.{Pool, intermediate_in, present, with_further, pool_over}
use Rattle.sig_x509.specs.declared.issuer.Issuer.{Issuer}
use Rattle.sig_x509.specs.declared.issuer.Issuer.TheVariants.{Anchor, Intermediate}
use Rattle.sig_verify.specs.Errors.{of_pool}
use Rattle.sig_verify.specs.IssuerCheck.{from_pool, key_hash_of, path_start, spki_of}
use Rattle.sig_verify.specs.Verifier.{key_hashes_of}
use Rattle.sig_verify.specs.declared.error.VerificationError.TheVariants.{OutOfMemory}

module _ (accepts : Accepts) (p : Pool) (further : List Cert) (c : Cert) (time : ℤ) (same : time ≡ c.not_before)
    (none : p.intermediates ≡ []) where
  abbrev over : Pool
  over = pool_over p.anchors further

  is_of : path_issuer accepts (with_further p further) c time ≡ path_issuer accepts over c c.not_before
  is_of =
      ap (λ (os : List (Option Cert)).
      path_issuer accepts (record { anchors = p.anchors; intermediates = os ++ present further }) c time) none
      ∙ ap (λ (t : ℤ). path_issuer accepts over c t) same

  pub issuer_found : (issuer : Issuer) → path_issuer accepts (with_further p further) c time ≡ Ok issuer
      → path_start accepts over c ≡ Ok issuer
  issuer_found issuer e = ap from_pool (sym is_of ∙ e)

  pub issuer_refused : (error : PoolError)
      → OrMemory pool.OutOfMemory error (path_issuer accepts (with_further p further) c time ≡ Err error)
      → OrMemory OutOfMemory (of_pool error) (path_start accepts over c ≡ Err (of_pool error))
  issuer_refused error (inl memory) = inl (ap of_pool memory)
  issuer_refused error (inr e) = inr (ap from_pool (sym is_of ∙ e))

-- the issuer is there, with its key
started : (accepts : Accepts) (p : Pool) (c : Cert) (issuer : Issuer) → path_start accepts p c ≡ Ok issuer
    → path_issuer accepts p c c.not_before ≡ Ok issuer
started accepts p c issuer e = by (path_issuer accepts p c c.not_before) e
  where
    by : (r : Result Issuer PoolError) → from_pool r ≡ Ok issuer → r ≡ Ok issuer
    by (Ok found) is = cc
    by (Err error) is = absurd cc

key_there : (accepts : Accepts) (p : Pool) (c : Cert) (issuer : Issuer) → path_start accepts p c ≡ Ok issuer
    → spki_of p issuer ≡ None → ⊥
key_there accepts p c issuer e none =
    let first = (issued_is_first accepts p c c.not_before issuer (started accepts p c issuer e)).1 in
    let there : ◌≡◌ {A = Option (List ℕ)} (Some first.path.certificate.spki) None =
    sym (ap (option_map (λ (x : Cert). x.spki)) first.path.there) ∙ none in cc

-- ---- its hash

module _ (accepts : Accepts) (p : Pool) (hashes : List (List ℕ)) (same : hashes ≡ key_hashes_of p.anchors)
    (further : List Cert) (c : Cert) where
  abbrev issuers : Pool
  issuers = pool_over p.anchors further

  hash_of_key : (issuer : Issuer) → key_hash_of hashes further issuer ≡ option_map sha256 (spki_of issuers issuer)
  hash_of_key (Anchor index) =
      ap (λ (hs : List (List ℕ)). slice_get hs index) same ∙ slice_get-map (λ (x : Cert). sha256 x.spki) p.anchors index
      ∙ by (slice_get p.anchors index)
    where
      by : (o : Option Cert) → option_map (λ x. sha256 x.spki) o ≡ option_map sha256 (option_map (λ x. x.spki) o)
      by (Some x) = refl
      by None = refl
  hash_of_key (Intermediate index) =
      by (slice_get further index)
      ∙ ap (λ (o : Option (Option Cert)). option_map sha256 (option_map (λ x. x.spki) (intermediate_in o)))
      (sym (slice_get-map (λ (x : Cert). Some x) further index))
    where
      by : (o : Option Cert) → option_map (λ x. sha256 x.spki) o
          ≡ option_map sha256 (option_map (λ x. x.spki) (intermediate_in (option_map (λ x. Some x) o)))
      by (Some x) = refl
      by None = refl

  pub hash_there : (issuer : Issuer) → path_start accepts issuers c ≡ Ok issuer
      → key_hash_of hashes further issuer ≡ None → ⊥
  hash_there issuer e none =
      key_there accepts issuers c issuer e (by (spki_of issuers issuer) (sym (hash_of_key issuer) ∙ none))
    where
      by : (o : Option (List ℕ)) → option_map sha256 o ≡ None → o ≡ None
      by (Some spki) is = absurd cc
      by None is = refl
