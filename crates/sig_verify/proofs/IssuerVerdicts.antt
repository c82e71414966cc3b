-- The links `issuance`, `issuer` and `sct`: the result says which of them fails first.
use Rattle.std.proofs.Common.{◌≡◌, ℕ, ◌<◌, ◌-◌, ◌^◌, Bool, true, false, cond, nat_lt, List, [], ◌∷◌, length}
use Rattle.std.proofs.Common.{Option, Some, None, Result, Ok, Err, inl, inr, refl, sym, ap, subst, arith, ◌∙◌}
use Rattle.std.specs.Prelude.{IsSome, option_map}
use Rattle.std.proofs.lemmas.Bool.{ltb-false, le-ltb}
use Rattle.sig_base.proofs.OptionSteps.{some_is}
use Rattle.sig_base.proofs.ResultSteps.{ok_is}
use Rattle.sig_base.specs.Answers.{Answers}
use Rattle.sig_base.specs.ResultSteps.{◌>>=◌}
use Rattle.sig_base.specs.declared.fault.PoolError.{PoolError}
use Rattle.sig_base.specs.declared.fault.PoolError.TheVariants as pool
use Rattle.sig_checked_bundle.specs.Checked.{Checked}
use Rattle.sig_certificate.specs.Certificate.{Cert}
use Rattle.sig_dsse.specs.declared.artifact_digest.ArtifactDigest.{ArtifactDigest}
use Rattle.sig_base.specs.Sha256.{sha256}
use Rattle.sig_timestamp.proofs.EmbeddedLaws.{embedded}
use Rattle.sig_timestamp.specs.Embedded.{IsSaidOf, ready}
use Rattle.sig_timestamp.specs.Keyring.{vouch}
use Rattle.sig_timestamp.specs.Precert.{precertificate}
use Rattle.sig_timestamp.specs.RingKey.{point_at}
use Rattle.sig_timestamp.specs.SctBytes.{judged, signed_bytes, signed_of, as_sct_result}
use Rattle.sig_timestamp.specs.SctList.{Sct as SctType}
use Rattle.sig_timestamp.specs.Timestamps.{HasSct, sct_of}
use Rattle.sig_timestamp.specs.declared.keyring_error.KeyringError.TheVariants as keyring
use Rattle.sig_timestamp.specs.declared.sct_error.CertificateErrorKind.{CertificateErrorKind}
use Rattle.sig_timestamp.specs.declared.sct_error.CertificateErrorKind.TheVariants as parsing
use Rattle.sig_timestamp.specs.declared.sct_error.SCTError.{SCTError}
use Rattle.sig_timestamp.specs.declared.sct_error.SCTError.TheVariants.{OutOfMemory, Parsing, Serialization}
use Rattle.sig_timestamp.specs.declared.signed.DigitallySigned.{DigitallySigned}
use Rattle.sig_x509.proofs.PathAnswers.{failed_has_none, first_is_issued, issued_is_first, malformed_has_none}
use Rattle.sig_x509.specs.Issuance.{is_profiled}
use Rattle.sig_x509.specs.Issued.{HasProfile}
use Rattle.sig_x509.specs.Path.{IsFirstInPath}
use Rattle.sig_x509.specs.PathSearch.{first_issuer, found_issuer, path_issuer}
use Rattle.sig_x509.specs.Pool.{Pool, certificate_of, pool_over}
use Rattle.sig_x509.specs.declared.issuer.Issuer.{Issuer as IssuerType}
use Rattle.sig_verify.proofs.JudgedLaws.{not_first, judged_tells}
use Rattle.sig_verify.specs.CertificateLinks.{HoldsOfChecked, IsVouchedFor, OfIssuer}
use Rattle.sig_verify.specs.Errors.{of_sct}
use Rattle.sig_verify.specs.IssuerCheck.{from_pool, from_sct, issued_answer, sct_answer, spki_of, spki_or_none}
use Rattle.sig_verify.specs.Judged.{Judged, Tells}
use Rattle.sig_verify.specs.LinkLaws.{renamed, trust_of}
use Rattle.sig_verify.specs.OfflineErrors.{link_of, of_verification}
use Rattle.sig_verify.specs.SctCauses.{IsSctCause}
use Rattle.sig_verify.specs.Verdict.{Checker, PolicyOf}
use Rattle.sig_verify.specs.Verifier.{Trusted}
use Rattle.sig_verify.specs.declared.error.CertificateErrorKind.TheVariants as certificate
use Rattle.sig_verify.specs.declared.error.VerificationError.{VerificationError}
use Rattle.sig_verify.specs.declared.error.VerificationError.TheVariants.{Certificate as Refused}
use Rattle.sig_verify.specs.declared.link.Link.{Link}
use Rattle.sig_verify.specs.declared.link.Link.TheVariants.{Issuance, Issuer, Sct}
use Rattle.sig_verify.specs.declared.offline_error.OfflineError.TheVariants as error

-- ---- a pool returns no other errors

no_anchor : (b : Bool) (o : Option IssuerType) (n : ℕ)
    → cond b (found_issuer o) (Err pool.Malformed) ≡ Err (pool.Anchor n) → ⊥
no_anchor true None n e = cc
no_anchor true (Some issuer) n e = cc
no_anchor false o n e = cc

never_many : (b : Bool) (o : Option IssuerType) (n : ℕ)
    → cond b (found_issuer o) (Err pool.Malformed) ≡ Err (pool.TooMany n) → ⊥
never_many true None n e = cc
never_many true (Some issuer) n e = cc
never_many false o n e = cc

no_memory : (b : Bool) (o : Option IssuerType)
    → cond b (found_issuer o) (Err pool.Malformed) ≡ Err pool.OutOfMemory → ⊥
no_memory true None e = cc
no_memory true (Some issuer) e = cc
no_memory false o e = cc

-- what is read is read
pub itself : (r : Result DigitallySigned SCTError) → Answers OutOfMemory (λ (x : DigitallySigned). x) r r
itself (Ok x) = refl
itself (Err e) = inr refl

-- one SCT is the other, by what it signs
has_told : (c : Cert) (spki : List ℕ) (s t : SctType) → sct_of c ≡ Ok s
    → Answers OutOfMemory (λ (x : DigitallySigned). x) (ready c spki (sct_of c)) (Ok (signed_of c spki t))
    → signed_of c spki t ≡ signed_of c spki s
has_told c spki s t is told =
    let at : Answers OutOfMemory (λ (x : DigitallySigned). x) (Ok (signed_of c spki s)) (Ok (signed_of c spki t)) =
    subst (λ r. Answers OutOfMemory (λ (x : DigitallySigned). x) (ready c spki r) (Ok (signed_of c spki t))) is told in
    ok_is (signed_of c spki t) (signed_of c spki s) at

has_none : (c : Cert) (spki : List ℕ) (t : SctType) (kind : CertificateErrorKind) → sct_of c ≡ Err kind
    → Answers OutOfMemory (λ (x : DigitallySigned). x) (ready c spki (sct_of c)) (Ok (signed_of c spki t)) → ⊥
has_none c spki t kind is told =
    by (subst (λ r. Answers OutOfMemory (λ (x : DigitallySigned). x) (ready c spki r) (Ok (signed_of c spki t))) is
    told)
  where
    by : Answers OutOfMemory (λ (x : DigitallySigned). x) (Err (Parsing kind)) (Ok (signed_of c spki t)) → ⊥
    by (inl memory) = cc
    by (inr other) = cc

-- ---- the three

module _ (k : Checker) (policy : PolicyOf) (trusted : Trusted) (d : ArtifactDigest) (offline : Bool)
    (checked : Checked)
    (said : IsSaidOf checked.certificate (sct_of checked.certificate)) where
  abbrev Holds : Link → Type 0
  Holds = HoldsOfChecked k policy (trust_of trusted) d offline checked

  abbrev c : Cert
  c = checked.certificate

  -- the certificate has an SCT: this is what it signs
  has_read : (spki : List ℕ) (t : SctType) → HasSct c t
      → Answers OutOfMemory (λ (x : DigitallySigned). x) (ready c spki (sct_of c)) (Ok (signed_of c spki t))
  has_read spki t has = (embedded c (sha256 spki) (ready c spki (sct_of c)) (itself (ready c spki (sct_of c))) said).has t has

  -- the check of the SCT says whether its link holds
  abbrev SaysSct : Result (Unit {0}) SCTError → Type 0
  SaysSct (Ok done) = Holds Sct
  SaysSct (Err e) = ¬ Holds Sct × (of_sct e ≡ Refused (certificate.Sct e)) × IsSctCause k (trust_of trusted) checked e

  abbrev over : Pool
  over = pool_over trusted.anchors checked.further

  abbrev found : Result IssuerType PoolError
  found = path_issuer k.cert over c c.not_before

  module _ (issuer : IssuerType) (profile : HasProfile c) (first : IsFirstInPath k.cert over c c.not_before issuer)
    where
      abbrev spki : List ℕ
      spki = first.path.certificate.spki

      -- the issuer that a link speaks of is this one
      one_issuer : (P : Cert → Type 0) → OfIssuer k.cert over c P → P first.path.certificate
      one_issuer P of =
          let same : of.issuer ≡ issuer =
          ok_is of.issuer issuer (sym (first_is_issued k.cert over c c.not_before of.issuer profile of.first)
          ∙ first_is_issued k.cert over c c.not_before issuer profile first) in
          subst P (some_is of.first.path.certificate first.path.certificate
          (sym of.first.path.there ∙ ap (certificate_of over) same ∙ first.path.there)) of.holds

      module _ (s : SctType) (has : HasSct c s) (is : sct_of c ≡ Ok s) where
        one_sct : (t : SctType) → HasSct c t → signed_of c spki t ≡ signed_of c spki s
        one_sct t other = has_told c spki s t is (has_read spki t other)

        says_point : (long : length (precertificate c) < 2 ^ 24) → (length s.extensions < 2 ^ 16)
            → (point : List ℕ) → point_at trusted.ring s.log_id ≡ Some point
            → (b : Bool) → k.point point (signed_bytes (signed_of c spki s)) s.signature ≡ b
            → SaysSct (as_sct_result (cond b (Ok tt) (Err keyring.VerificationFailed)))
        says_point long short point at true accepted =
            ((s, has, (long, short)), (s, has, record { issuer = issuer; first = first; holds = (point, at, accepted) }))
        says_point long short point at false accepted = (
          (λ holds. unvouched holds.1),
          refl,
          (
            (s, has, (long, short)),
            (s, has, subst (λ (o : Option (List ℕ)). IsSome o) (sym at) refl),
            unvouched,
          ),
        )
          where
            unvouched : IsVouchedFor k (trust_of trusted) checked → ⊥
            unvouched vouched =
                let t = vouched.0 in
                let P : Cert → Type 0 = λ x. (p : List ℕ) × (point_at trusted.ring t.log_id ≡ Some p)
                × (k.point p (signed_bytes (signed_of c x.spki t)) t.signature ≡ true) in
                let there : P first.path.certificate = one_issuer P vouched.2 in
                let same : signed_of c spki t ≡ signed_of c spki s = one_sct t vouched.1 in
                let log : t.log_id ≡ s.log_id = ap (λ (x : DigitallySigned). x.log_id) same in
                let one : there.0 ≡ point =
                some_is there.0 point (sym there.1 ∙ ap (λ (id : List ℕ). point_at trusted.ring id) log ∙ at) in
                let moved : k.point there.0 (signed_bytes (signed_of c spki s)) s.signature ≡ true =
                subst (λ (x : DigitallySigned). k.point there.0 (signed_bytes x) x.signature ≡ true) same there.2 in
                let right : k.point point (signed_bytes (signed_of c spki s)) s.signature ≡ true =
                subst (λ (p : List ℕ). k.point p (signed_bytes (signed_of c spki s)) s.signature ≡ true) one moved in
                let wrong : true ≡ false = sym right ∙ accepted in cc

        says_log : (long : length (precertificate c) < 2 ^ 24) → (length s.extensions < 2 ^ 16)
            → (o : Option (List ℕ)) → point_at trusted.ring s.log_id ≡ o
            → SaysSct (as_sct_result (vouch k.point o (signed_bytes (signed_of c spki s)) s.signature))
        says_log long short None at = (
          (λ holds.
              let t = holds.1.0 in
              let same : signed_of c spki t ≡ signed_of c spki s = one_sct t holds.1.1 in
              let log : t.log_id ≡ s.log_id = ap (λ (x : DigitallySigned). x.log_id) same in
              let there = holds.1.2.holds in
              let wrong : ◌≡◌ {A = Option (List ℕ)} (Some there.0) None =
              sym there.1 ∙ ap (λ (id : List ℕ). point_at trusted.ring id) log ∙ at in absurd cc),
          refl,
          ((s, has, (long, short)), (s, has, at)),
        )
        says_log long short (Some point) at =
            says_point long short point at (k.point point (signed_bytes (signed_of c spki s)) s.signature) refl

        says_lengths : (x y : Bool) → nat_lt (2 ^ 24 - 1) (length (precertificate c)) ≡ x
            → nat_lt (2 ^ 16 - 1) (length s.extensions) ≡ y
            → SaysSct (cond x (Err Serialization) (cond y (Err Serialization)
            (as_sct_result (vouch k.point (point_at trusted.ring s.log_id)
            (signed_bytes (signed_of c spki s)) s.signature))))
        says_lengths true y body extensions = (
          (λ holds.
              let long : length (precertificate c) < 2 ^ 24 = holds.0.2.0 in
              let fits : nat_lt (2 ^ 24 - 1) (length (precertificate c)) ≡ false =
              le-ltb (2 ^ 24 - 1) (length (precertificate c)) (omega (arith, long)) in
              let wrong : true ≡ false = sym body ∙ fits in absurd cc),
          refl,
          (
            s,
            has,
            (λ both.
                let long : length (precertificate c) < 2 ^ 24 = both.0 in
                let fits : nat_lt (2 ^ 24 - 1) (length (precertificate c)) ≡ false =
                le-ltb (2 ^ 24 - 1) (length (precertificate c)) (omega (arith, long)) in
                let wrong : true ≡ false = sym body ∙ fits in absurd cc),
          ),
        )
        says_lengths false true body extensions = (
          (λ holds.
              let same : signed_of c spki holds.0.0 ≡ signed_of c spki s = one_sct holds.0.0 holds.0.1 in
              let short : length s.extensions < 2 ^ 16 =
              subst (λ (x : DigitallySigned). length x.extensions < 2 ^ 16) same holds.0.2.1 in
              let fits : nat_lt (2 ^ 16 - 1) (length s.extensions) ≡ false =
              le-ltb (2 ^ 16 - 1) (length s.extensions) (omega (arith, short)) in
              let wrong : true ≡ false = sym extensions ∙ fits in absurd cc),
          refl,
          (
            s,
            has,
            (λ both.
                let short : length s.extensions < 2 ^ 16 = both.1 in
                let fits : nat_lt (2 ^ 16 - 1) (length s.extensions) ≡ false =
                le-ltb (2 ^ 16 - 1) (length s.extensions) (omega (arith, short)) in
                let wrong : true ≡ false = sym extensions ∙ fits in absurd cc),
          ),
        )
        says_lengths false false body extensions =
            let long = ltb-false (2 ^ 24 - 1) (length (precertificate c)) body in
            let short = ltb-false (2 ^ 16 - 1) (length s.extensions) extensions in
            says_log (omega (arith, long)) (omega (arith, short)) (point_at trusted.ring s.log_id) refl

      unread : (kind : CertificateErrorKind) → IsSaidOf c (Err kind)
          → IsSctCause k (trust_of trusted) checked (Parsing kind)
      unread parsing.LeafSCTMissing of = of
      unread parsing.LeafSCTMalformed of = of
      unread parsing.IssuerMissing of = of

      says_sct : (r : Result SctType CertificateErrorKind) → sct_of c ≡ r → IsSaidOf c r
          → SaysSct (ready c spki r >>= λ signed. judged k.point signed trusted.ring)
      says_sct (Ok s) is of =
          says_lengths s of is (nat_lt (2 ^ 24 - 1) (length (precertificate c)))
          (nat_lt (2 ^ 16 - 1) (length s.extensions)) refl refl
      says_sct (Err kind) is of = (
        (λ holds. has_none c spki holds.0.0 kind is (has_read spki holds.0.0 holds.0.1)),
        refl,
        unread kind of,
      )

      judged_sct : (r : Result (Unit {0}) SCTError) → SaysSct r
          → Judged Holds (Issuance ∷ Issuer ∷ Sct ∷ []) (renamed (from_sct r))
      judged_sct (Ok done) says =
          (profile, (record { issuer = issuer; first = first; holds = tt }, (says, tt)))
      judged_sct (Err e) says = (
        Sct,
        ap (λ (x : VerificationError). link_of (of_verification x)) says.1,
        inr (profile, inr (record { issuer = issuer; first = first; holds = tt }, inl (says.0, refl))),
      )

      -- the key of the issuer
      key_found : spki_or_none (spki_of over issuer) ≡ Ok spki
      key_found = ap (λ (o : Option Cert). spki_or_none (option_map (λ (x : Cert). x.spki) o)) first.path.there

      judged_after : Judged Holds (Issuance ∷ Issuer ∷ Sct ∷ [])
          (renamed (spki_or_none (spki_of over issuer) >>= λ key. from_sct (sct_answer k.point trusted.ring c key)))
      judged_after =
          subst (λ (r : Result (List ℕ) VerificationError). Judged Holds (Issuance ∷ Issuer ∷ Sct ∷ [])
          (renamed (r >>= λ key. from_sct (sct_answer k.point trusted.ring c key)))) (sym key_found)
          (judged_sct (sct_answer k.point trusted.ring c spki) (says_sct (sct_of c) refl said))

  -- an error of the check of the SCT has its cause
  pub sct_cause : (issuer : IssuerType) → found ≡ Ok issuer → (key : List ℕ)
      → spki_or_none (spki_of over issuer) ≡ Ok key → (e : SCTError)
      → sct_answer k.point trusted.ring c key ≡ Err e → IsSctCause k (trust_of trusted) checked e
  sct_cause issuer is key keyed e failed =
      let both = issued_is_first k.cert over c c.not_before issuer is in
      let same : spki issuer both.0 both.1 ≡ key =
      ok_is (spki issuer both.0 both.1) key (sym (key_found issuer both.0 both.1) ∙ keyed) in
      let says : SaysSct (sct_answer k.point trusted.ring c key) =
      subst (λ (x : List ℕ). SaysSct (sct_answer k.point trusted.ring c x)) same
      (says_sct issuer both.0 both.1 (sct_of c) refl said) in
      let its : SaysSct (Err e) = subst SaysSct failed says in its.2

  by_pool : (r : Result IssuerType PoolError) → found ≡ r → Judged Holds (Issuance ∷ Issuer ∷ Sct ∷ [])
      (renamed (from_pool r >>= (λ issuer. spki_or_none (spki_of over issuer))
      >>= λ key. from_sct (sct_answer k.point trusted.ring c key)))
  by_pool (Ok issuer) is =
      let both = issued_is_first k.cert over c c.not_before issuer is in
      judged_after issuer both.0 both.1
  by_pool (Err pool.Malformed) is =
      not_first Holds Issuance (Issuer ∷ Sct ∷ []) (error.Certificate certificate.Malformed)
      (malformed_has_none k.cert over c c.not_before is) refl
  by_pool (Err pool.VerificationFailed) is =
      let both = failed_has_none k.cert over c c.not_before is in
      (Issuer, refl, inr (both.0, inl ((λ of. both.1 of.issuer of.first.path), refl)))
  by_pool (Err (pool.Anchor n)) is =
      absurd (no_anchor (is_profiled c) (first_issuer k.cert over c c.not_before) n is)
  by_pool (Err (pool.TooMany n)) is =
      absurd (never_many (is_profiled c) (first_issuer k.cert over c c.not_before) n is)
  by_pool (Err pool.OutOfMemory) is =
      absurd (no_memory (is_profiled c) (first_issuer k.cert over c c.not_before) is)

  pub judged_issued : Judged Holds (Issuance ∷ Issuer ∷ Sct ∷ []) (renamed (issued_answer k.cert k.point trusted checked))
  judged_issued = by_pool found refl

  pub issued_told : Tells Holds (Issuance ∷ Issuer ∷ Sct ∷ []) (renamed (issued_answer k.cert k.point trusted checked))
  issued_told =
      judged_tells Holds (Issuance ∷ Issuer ∷ Sct ∷ []) (renamed (issued_answer k.cert k.point trusted checked))
      judged_issued
