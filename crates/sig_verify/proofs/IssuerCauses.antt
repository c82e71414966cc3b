-- Each error of the links `issuance`, `issuer` and `sct` has its cause.
use Rattle.std.proofs.Common.{◌≡◌, ℕ, true, List, Option, Some, None, Result, Ok, Err, inl, inr, refl, subst}
use Rattle.sig_base.proofs.ResultSteps.{bind_err, err_is}
use Rattle.sig_base.specs.ResultSteps.{◌>>=◌}
use Rattle.sig_base.specs.declared.fault.PoolError.{PoolError}
use Rattle.sig_base.specs.declared.fault.PoolError.TheVariants as pool
use Rattle.sig_bundle.specs.BundleRecord.{bundle_in}
use Rattle.sig_bundle.specs.declared.bundle.Bundle.{Bundle as BundleType}
use Rattle.sig_checked_bundle.proofs.Certificates.{OneCertificate}
use Rattle.sig_checked_bundle.specs.Checked.{Checked}
use Rattle.sig_checked_bundle.specs.Passed.{IsPassed}
use Rattle.sig_root.specs.RootRecord.{trusted_root_in}
use Rattle.sig_root.specs.declared.record.TrustedRoot.{TrustedRoot}
use Rattle.sig_timestamp.specs.declared.sct_error.SCTError.{SCTError}
use Rattle.sig_timestamp.specs.declared.sct_error.SCTError.TheVariants as sct
use Rattle.sig_x509.specs.PathSearch.{path_issuer}
use Rattle.sig_x509.specs.Pool.{Pool, pool_over}
use Rattle.sig_x509.specs.declared.issuer.Issuer.{Issuer}
use Rattle.sig_verify.proofs.IssuerVerdicts.{sct_cause}
use Rattle.sig_verify.proofs.LinkGroups.{found_to}
use Rattle.sig_verify.specs.Errors.{of_pool, of_sct}
use Rattle.sig_verify.specs.IssuerCheck.{from_pool, from_sct, issued_answer, issuer_spki, path_start, sct_answer}
use Rattle.sig_verify.specs.IssuerCheck.{spki_of, spki_or_none}
use Rattle.sig_verify.specs.LinkLaws.{trust_of}
use Rattle.sig_verify.specs.Links.{Inputs, OfChecked, Outside}
use Rattle.sig_verify.specs.OfflineCauses.{IsOfflineCause}
use Rattle.sig_verify.specs.OfflineErrors.{of_verification}
use Rattle.sig_verify.specs.OfflineLaws.{AreReadInputs}
use Rattle.sig_verify.specs.OfflineVerdict.{authorities_of, ct_keys_of}
use Rattle.sig_verify.specs.SctCauses.{IsSctCause}
use Rattle.sig_verify.specs.Verifier.{IsVerifierOf, Trusted}
use Rattle.sig_verify.specs.declared.error.CertificateErrorKind.TheVariants as certificate
use Rattle.sig_verify.specs.declared.error.VerificationError.{VerificationError}
use Rattle.sig_verify.specs.declared.error.VerificationError.TheVariants as verification

module _ (one : OneCertificate) (o : Outside) (i : Inputs) (read : AreReadInputs i) (root : TrustedRoot)
    (root_is : trusted_root_in i.root ≡ Ok root) (b : BundleType) (bundle_is : bundle_in i.bundle ≡ Ok b)
    (trusted : Trusted) (is : IsVerifierOf (authorities_of root i.now) (ct_keys_of root i.now) trusted) (c : Checked)
    (passed : IsPassed b c) where
  abbrev Is : VerificationError → Type 0
  Is x = IsOfflineCause o i (of_verification x)

  abbrev over : Pool
  over = pool_over trusted.anchors c.further

  -- ---- no issuer

  of_pool_error : (e : PoolError) → Is (of_pool e)
  of_pool_error pool.Malformed = tt
  of_pool_error pool.VerificationFailed = tt
  of_pool_error (pool.TooMany count) = tt
  of_pool_error (pool.Anchor place) = tt
  of_pool_error pool.OutOfMemory = tt

  placed : (r : Result Issuer PoolError) (x : VerificationError) → from_pool r ≡ Err x → Is x
  placed (Ok issuer) x told = absurd cc
  placed (Err e) x told = subst Is (err_is (of_pool e) x told) (of_pool_error e)

  keyed : (spki : Option (List ℕ)) (x : VerificationError) → spki_or_none spki ≡ Err x → Is x
  keyed None x told = subst Is (err_is (verification.Certificate certificate.VerificationFailed) x told) tt
  keyed (Some spki) x told = absurd cc

  unissued : (x : VerificationError) → issuer_spki o.checker.cert over c.certificate ≡ Err x → Is x
  unissued x none =
      elim (bind_err (path_start o.checker.cert over c.certificate) _ x none) [
        | inl unplaced ↦ placed (path_issuer o.checker.cert over c.certificate c.certificate.not_before) x unplaced
        | inr some ↦ keyed _ x some.2
      ]

  -- ---- the SCT

  of_inputs : (e : SCTError) → IsSctCause o.checker (trust_of trusted) c e
      → OfChecked i (λ trust x. IsSctCause o.checker trust x e)
  of_inputs e cause =
      found_to o i root root_is b bundle_is one trusted is (λ trust x. IsSctCause o.checker trust x e)
      (c, passed, cause)

  of_sct_error : (e : SCTError) → IsSctCause o.checker (trust_of trusted) c e → Is (of_sct e)
  of_sct_error (sct.Parsing kind) cause = of_inputs (sct.Parsing kind) cause
  of_sct_error sct.Serialization cause = of_inputs sct.Serialization cause
  of_sct_error (sct.Verification e) cause = of_inputs (sct.Verification e) cause
  of_sct_error sct.OutOfMemory cause = tt

  vouched : (issuer : Issuer) → path_issuer o.checker.cert over c.certificate c.certificate.not_before ≡ Ok issuer
      → (spki : List ℕ) → spki_or_none (spki_of over issuer) ≡ Ok spki → (r : Result (Unit {0}) SCTError)
      → sct_answer o.checker.point trusted.ring c.certificate spki ≡ r → (x : VerificationError)
      → from_sct r ≡ Err x → Is x
  vouched issuer found spki key (Ok done) judged x told = absurd cc
  vouched issuer found spki key (Err e) judged x told =
      subst Is (err_is (of_sct e) x told)
      (of_sct_error e (sct_cause o.checker o.policy trusted i.digest true c
      (read.checked root b c root_is bundle_is passed).sct issuer found spki key e judged))

  under_issuer : (r : Result Issuer PoolError)
      → path_issuer o.checker.cert over c.certificate c.certificate.not_before ≡ r → (spki : List ℕ)
      → (from_pool r >>= λ issuer. spki_or_none (spki_of over issuer)) ≡ Ok spki → (x : VerificationError)
      → from_sct (sct_answer o.checker.point trusted.ring c.certificate spki) ≡ Err x → Is x
  under_issuer (Ok issuer) found spki key x told =
      vouched issuer found spki key (sct_answer o.checker.point trusted.ring c.certificate spki) refl x told
  under_issuer (Err e) found spki key x told = absurd cc

  -- ---- both

  pub issued : (x : VerificationError) → issued_answer o.checker.cert o.checker.point trusted c ≡ Err x → Is x
  issued x told =
      elim (bind_err (issuer_spki o.checker.cert over c.certificate) _ x told) [
        | inl none ↦ unissued x none
        | inr some ↦ under_issuer (path_issuer o.checker.cert over c.certificate c.certificate.not_before) refl
            some.0 some.1 x some.2
      ]
