-- The clauses of a search, from the equation of its result.
use Rattle.std.proofs.lemmas.List.{append-nil}
use Rattle.std.proofs.Common.{◌≡◌, ℕ, ℤ, List, [], Option, Result, Ok, Err, inl, inr, sym, ap, subst, ◌∙◌}
use Rattle.sig_base.specs.Answers.{ComesWhere}
use Rattle.sig_base.specs.declared.fault.PoolError.{PoolError}
use Rattle.sig_base.specs.declared.fault.PoolError.TheVariants.{Malformed, VerificationFailed, OutOfMemory}
use Rattle.sig_certificate.specs.Certificate.{Cert, IsCertificate}
use Rattle.sig_x509.specs.Issuance.{Accepts}
use Rattle.sig_x509.specs.Issued.{HasProfile}
use Rattle.sig_x509.specs.Path.{AgreeOnPaths, HasNoPath, IsFirstInPath}
use Rattle.sig_x509.specs.PathSearch.{path_issuer}
use Rattle.sig_x509.specs.PathText.{HasNoProfile, IsIssuedText, IsJudgedText, IsUnissuedText, Meant}
use Rattle.sig_x509.specs.Pool.{Pool, with_further}
use Rattle.sig_x509.specs.declared.issuer.Issuer.{Issuer}
use Rattle.sig_x509.proofs.PathAnswers.{failed_has_none, first_is_issued, issued_is_first, malformed_has_none}
use Rattle.sig_x509.proofs.PathAnswers.{none_is_failed, unprofiled}
use Rattle.sig_x509.proofs.PathSignatures.{asked_alone}

comes : (r m target : Result Issuer PoolError) (P : Type 0) → Meant r m → (target ≡ Err OutOfMemory → ⊥)
    → (m ≡ target → P) → (P → m ≡ target) → ComesWhere OutOfMemory r target P
comes (Ok issuer) m target P is other to from = ((λ e. to (is ∙ e)), (λ p. inr (sym is ∙ from p)))
comes (Err e) m target P (inl memory) other to from =
    let same : Err e ≡ Err OutOfMemory = ap (λ (x : PoolError). Err x) memory in
    ((λ f. absurd (other (sym f ∙ same))), (λ p. inl same))
comes (Err e) m target P (inr is) other to from = ((λ f. to (is ∙ f)), (λ p. inr (sym is ∙ from p)))

module _ (accepts : Accepts) (pool : Pool) (c : Cert) (t : ℤ) (r : Result Issuer PoolError)
    (is : Meant r (path_issuer accepts pool c t)) where
  pub says_issued : (issuer : Issuer)
      → ComesWhere OutOfMemory r (Ok issuer) (HasProfile c × IsFirstInPath accepts pool c t issuer)
  says_issued issuer =
      comes r (path_issuer accepts pool c t) (Ok issuer) (HasProfile c × IsFirstInPath accepts pool c t issuer) is
      (λ e. absurd cc) (issued_is_first accepts pool c t issuer)
      (λ p. first_is_issued accepts pool c t issuer p.0 p.1)

  pub says_malformed : ComesWhere OutOfMemory r (Err Malformed) (HasProfile c → ⊥)
  says_malformed =
      comes r (path_issuer accepts pool c t) (Err Malformed) (HasProfile c → ⊥) is
      (λ e. absurd cc) (malformed_has_none accepts pool c t) (unprofiled accepts pool c t)

  pub says_none : ComesWhere OutOfMemory r (Err VerificationFailed) (HasProfile c × HasNoPath accepts pool c t)
  says_none =
      comes r (path_issuer accepts pool c t) (Err VerificationFailed) (HasProfile c × HasNoPath accepts pool c t) is
      (λ e. absurd cc) (failed_has_none accepts pool c t) (λ p. none_is_failed accepts pool c t p.0 p.1)

  pub says_asked : (other : Accepts) → AgreeOnPaths accepts other pool c t → Meant r (path_issuer other pool c t)
  says_asked other agree =
      subst (λ (m : Result Issuer PoolError). Meant r m) (asked_alone accepts other pool c t agree) is

-- ---- of bytes

memory_meant : (r m : Result Issuer PoolError) → r ≡ Err OutOfMemory → Meant r m
memory_meant (Ok issuer) m e = absurd cc
memory_meant (Err x) m e = inl cc

module _ (accepts : Accepts) (pool : Pool) (der : List ℕ) (t : ℤ) (r : Result Issuer PoolError) where
  other_comes : (target : Result Issuer PoolError) (P : Type 0) → r ≡ Err Malformed
      → (Err Malformed ≡ target → ⊥) → (P → ⊥) → ComesWhere OutOfMemory r target P
  other_comes target P e other none = ((λ f. absurd (other (sym e ∙ f))), (λ p. absurd (none p)))

  memory_comes : (target : Result Issuer PoolError) (P : Type 0) → r ≡ Err OutOfMemory
      → (Err OutOfMemory ≡ target → ⊥) → ComesWhere OutOfMemory r target P
  memory_comes target P e other = ((λ f. absurd (other (sym e ∙ f))), (λ p. inl e))

  pub text_issued : IsJudgedText accepts pool der t r → (issuer : Issuer)
      → ComesWhere OutOfMemory r (Ok issuer) (IsIssuedText accepts pool der t issuer)
  text_issued (inl (c, only, is)) issuer =
      let comes = says_issued accepts pool c t r is issuer in (
        (λ e. (c, only.is, comes.0 e)),
        (λ text. comes.1 (subst (λ (d : Cert). HasProfile d × IsFirstInPath accepts pool d t issuer)
            (only.only text.0 text.1) text.2)),
      )
  text_issued (inr (inl (none, e))) issuer =
      other_comes (Ok issuer) (IsIssuedText accepts pool der t issuer) e (λ f. absurd cc) (λ text. none text.0 text.1)
  text_issued (inr (inr e)) issuer =
      memory_comes (Ok issuer) (IsIssuedText accepts pool der t issuer) e (λ f. absurd cc)

  pub text_malformed : IsJudgedText accepts pool der t r → ComesWhere OutOfMemory r (Err Malformed) (HasNoProfile der)
  text_malformed (inl (c, only, is)) =
      let comes = says_malformed accepts pool c t r is in (
        (λ e d is_der has. comes.0 e (subst (λ (w : Cert). HasProfile w) (only.only d is_der) has)),
        (λ none. comes.1 (none c only.is)),
      )
  text_malformed (inr (inl (none, e))) = ((λ f d is_der has. none d is_der), (λ no. inr e))
  text_malformed (inr (inr e)) = memory_comes (Err Malformed) (HasNoProfile der) e (λ f. absurd cc)

  pub text_unissued : IsJudgedText accepts pool der t r
      → ComesWhere OutOfMemory r (Err VerificationFailed) (IsUnissuedText accepts pool der t)
  text_unissued (inl (c, only, is)) =
      let comes = says_none accepts pool c t r is in (
        (λ e. (c, only.is, comes.0 e)),
        (λ text. comes.1 (subst (λ (d : Cert). HasProfile d × HasNoPath accepts pool d t)
            (only.only text.0 text.1) text.2)),
      )
  text_unissued (inr (inl (none, e))) =
      other_comes (Err VerificationFailed) (IsUnissuedText accepts pool der t) e (λ f. absurd cc)
      (λ text. none text.0 text.1)
  text_unissued (inr (inr e)) =
      memory_comes (Err VerificationFailed) (IsUnissuedText accepts pool der t) e (λ f. absurd cc)

  -- of a certificate, the result is that of its record
  pub text_certificate : IsJudgedText accepts pool der t r → (c : Cert) → IsCertificate der c
      → Meant r (path_issuer accepts pool c t)
  text_certificate (inl (d, only, is)) c is_der =
      subst (λ (w : Cert). Meant r (path_issuer accepts pool w t)) (sym (only.only c is_der)) is
  text_certificate (inr (inl (none, e))) c is_der = absurd (none c is_der)
  text_certificate (inr (inr e)) c is_der = memory_meant r (path_issuer accepts pool c t) e

  pub text_asked : IsJudgedText accepts pool der t r → (other : Accepts) (c : Cert) → IsCertificate der c
      → AgreeOnPaths accepts other pool c t → Meant r (path_issuer other pool c t)
  text_asked is other c is_der agree =
      says_asked accepts pool c t r (text_certificate is c is_der) other agree

-- ---- a leaf that comes alone

pub none_further : (pool : Pool) → with_further pool [] ≡ pool
none_further pool =
    ap (λ (os : List (Option Cert)). record { anchors = pool.anchors; intermediates = os })
    (append-nil pool.intermediates)
