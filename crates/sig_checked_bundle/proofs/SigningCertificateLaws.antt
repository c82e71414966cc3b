-- The signing certificate among the certificates of a bundle.
use Rattle.std.proofs.Common.{◌≡◌, inl, inr, ℕ, zero, suc, ◌+◌, ◌<◌, ◌≤◌, List, [], ◌∷◌, take, length, get_or}
use Rattle.std.proofs.Common.{true, false, Option, Some, None, Result, Ok, Err, refl, sym, ap, subst, ◌∙◌, arith}
use Rattle.std.proofs.Common.{add-one}
use Rattle.std.proofs.lemmas.Bool.{lt-ltb, le-ltb}
use Rattle.std.specs.List.{list_any}
use Rattle.std.specs.Prelude.{IfErr}
use Rattle.sig_base.specs.Answers.{ComesWhere}
use Rattle.sig_bundle.specs.AnswersOnly.{AnswersOnly}
use Rattle.sig_base.specs.ResultSteps.{◌>>=◌}
use Rattle.sig_certificate.proofs.Readings.{der_only, not_read}
use Rattle.sig_certificate.specs.Certificate.{Cert, IsCertificate}
use Rattle.sig_certificate.specs.Certificates.{AreCertificates}
use Rattle.sig_certificate.specs.Profile.{leaf_refusal}
use Rattle.sig_certificate.specs.declared.error.X509ReadError.{X509ReadError}
use Rattle.sig_certificate.specs.declared.error.X509ReadError.TheVariants.{Der, OutOfMemory as NoMemory}
use Rattle.sig_checked_bundle.specs.SeenValues.{AreUnreadAfter, IsUnreadAt}
use Rattle.sig_checked_bundle.specs.SigningCertificate.{AreRead, IsFirstMalformed, IsLeafAmong, IsLeafOf}
use Rattle.sig_checked_bundle.specs.SigningCertificate.{IsNoCertificate, IsSigningCertificate, encodings_in, is_root}
use Rattle.sig_checked_bundle.specs.SigningCertificate.{leaf_among}
use Rattle.sig_checked_bundle.specs.declared.bundle_error.BundleErrorKind.{BundleErrorKind}
use Rattle.sig_checked_bundle.specs.declared.bundle_error.BundleErrorKind.TheVariants.{OutOfMemory}
use Rattle.sig_checked_bundle.specs.declared.bundle_error.BundleErrorKind.TheVariants.{CertificateMalformed}
use Rattle.sig_checked_bundle.specs.declared.bundle_error.BundleErrorKind.TheVariants.{CertificatesMissing, NoLeaf, RootInChain}
use Rattle.sig_checked_bundle.specs.declared.bundle_error.BundleErrorKind.TheVariants.{
  VerificationMaterialContentUnsupported,
}
use Rattle.sig_checked_bundle.specs.declared.bundle_error.BundleErrorKind.TheVariants.{TooManyCertificates}
use Rattle.sig_checked_bundle.specs.declared.signing_certificate.SigningChain.{SigningChain}
use Rattle.sig_bundle.specs.declared.material.MaterialContent.{MaterialContent}
use Rattle.sig_certificate.specs.declared.profile_error.CertificateValidationError.{CertificateValidationError}
use Rattle.sig_checked_bundle.proofs.Certificates.{OneCertificate, read_one}

-- ---- the first that is none

pub malformed_told : (index : ℕ) (der : List ℕ) (e : X509ReadError) → e ≡ Der
    → ComesWhere NoMemory (not_read e) (not_read Der) (IsNoCertificate der)
    → IsUnreadAt index der (CertificateMalformed index)
malformed_told index der e is comes = inr (refl, der_only der e is comes)

malformed_there : (ders : List (List ℕ)) (index : ℕ) (der : List ℕ) (cs : List Cert) → index < length ders
    → der ≡ get_or ders index der → IsNoCertificate der → AreCertificates (take index ders) cs
    → IsFirstMalformed ders index
malformed_there [] index der cs below there none are = absurd (omega (arith, below))
malformed_there (d ∷ ders) zero der cs below there none are =
    subst (λ (t : List ℕ). IsNoCertificate t) there none
malformed_there (d ∷ ders) (suc index) der [] below there none are = absurd are
malformed_there (d ∷ ders) (suc index) der (c ∷ cs) below there none are =
    (c, are.0, malformed_there ders index der cs (omega (arith, below)) there none are.1)

unread_after : (ders : List (List ℕ)) (index : ℕ) (der item : List ℕ) (cs : List Cert) (e : BundleErrorKind)
    → index < length ders → item ≡ get_or ders index item → der ≡ item → AreCertificates (take index ders) cs
    → IsUnreadAt (index + 1) der e
    → AreUnreadAfter ders e
unread_after ders index der item cs e below there seen are (inl memory) = inl memory
unread_after ders index der item cs e below there seen are (inr why) =
    let got : der ≡ get_or ders index der = rw seen there in
    inr (index, why.0, malformed_there ders index der cs below got why.1 are)

pub after_refused : (ders : List (List ℕ)) (index : ℕ) (der item : List ℕ) (cs : List Cert) (e : BundleErrorKind)
    (answer : Result (List Cert) BundleErrorKind) → answer ≡ Err e
    → index < length ders → item ≡ get_or ders index item → der ≡ item → AreCertificates (take index ders) cs
    → IsUnreadAt (index + 1) der e
    → IfErr answer (AreUnreadAfter ders)
after_refused ders index der item cs e answer is below there seen are why =
    rw is (unread_after ders index der item cs e below there seen are why)

-- ---- what the certificates' reading returns

-- the result that the certificates give
pub read_answers : OneCertificate → (ders : List (List ℕ)) (read : Result (List Cert) BundleErrorKind)
    (answer : Result SigningChain BundleErrorKind)
    → AreRead ders read → answer ≡ (read >>= leaf_among) → AnswersOnly OutOfMemory (IsLeafOf ders) answer
read_answers one ders read answer are is = (
  inr (read, are, is),
  λ other of.
      inr (is ∙ ap (λ (r : Result (List Cert) BundleErrorKind). r >>= leaf_among) (read_one one ders read of.0 are of.1)
      ∙ sym of.2),
)

memory_answers : (ders : List (List ℕ)) (e : BundleErrorKind) → e ≡ OutOfMemory
    → AnswersOnly {X = SigningChain} OutOfMemory (IsLeafOf ders) (Err e)
memory_answers ders e is = (inl (ap Err is), λ other of. inl (ap Err is))

-- there is none
pub missing_answers : OneCertificate → (ders : List (List ℕ)) → length ders ≡ 0
    → AnswersOnly {X = SigningChain} OutOfMemory (IsLeafOf ders) (Err CertificatesMissing)
missing_answers one [] is = read_answers one [] (Ok []) (Err CertificatesMissing) tt refl
missing_answers one (der ∷ ders) is = absurd (omega (arith, is))

module _ (one : OneCertificate) (ders : List (List ℕ)) (item : List ℕ) (later : List (List ℕ))
    (parts : ders ≡ item ∷ later)
    (first : List ℕ) (seen : first ≡ item) where
  whole : ders ≡ first ∷ later
  whole = rw seen parts

  -- the first is none
  unread_first : (e : BundleErrorKind) → IsUnreadAt 0 first e
      → AnswersOnly {X = SigningChain} OutOfMemory (IsLeafOf ders) (Err e)
  unread_first e (inl memory) = memory_answers ders e memory
  unread_first e (inr why) =
      rw whole (read_answers one (first ∷ later) (Err e) (Err e) (0, why.0, why.1) refl)

  -- a later one is none
  unread_later : (c : Cert) (e : BundleErrorKind) → IsCertificate first c → AreUnreadAfter later e
      → AnswersOnly {X = SigningChain} OutOfMemory (IsLeafOf ders) (Err e)
  unread_later c e is (inl memory) = memory_answers ders e memory
  unread_later c e is (inr why) =
      rw whole (read_answers one (first ∷ later) (Err e) (Err e)
      (suc why.0, why.1 ∙ ap CertificateMalformed (add-one why.0), (c, is, why.2)) refl)

  pub first_answers : (e : BundleErrorKind) (answer : Result SigningChain BundleErrorKind) → answer ≡ Err e
      → IsUnreadAt 0 first e
      → AnswersOnly OutOfMemory (IsLeafOf ders) answer
  first_answers e answer is why = rw is (unread_first e why)

  pub later_answers : (e : BundleErrorKind) (answer : Result SigningChain BundleErrorKind) → answer ≡ Err e → (c : Cert)
      → IsCertificate first c → AreUnreadAfter later e
      → AnswersOnly OutOfMemory (IsLeafOf ders) answer
  later_answers e answer is c read why = rw is (unread_later c e read why)

  -- all are certificates
  pub judged_answers : (c : Cert) (cs : List Cert) (answer : Result SigningChain BundleErrorKind)
      → IsCertificate first c → AreCertificates later cs → answer ≡ leaf_among (c ∷ cs)
      → AnswersOnly OutOfMemory (IsLeafOf ders) answer
  judged_answers c cs answer is are judged =
      rw whole (read_answers one (first ∷ later) (Ok (c ∷ cs)) answer (is, are) judged)

-- ---- the judgement of the certificates

pub unfit : (c : Cert) (later : List Cert) (e : CertificateValidationError) → Some e ≡ leaf_refusal c
    → Err (NoLeaf e) ≡ leaf_among (c ∷ later)
unfit c later e refused = rw (sym refused) refl

pub rooted : (c : Cert) (later : List Cert) → None ≡ leaf_refusal c → list_any is_root later ≡ true
    → Err RootInChain ≡ leaf_among (c ∷ later)
rooted c later may_sign found = rw (sym may_sign, found) refl

pub rootless : (c : Cert) (later : List Cert) → None ≡ leaf_refusal c → list_any is_root later ≡ false
    → Ok (record { certificate = c; further = later }) ≡ leaf_among (c ∷ later)
rootless c later may_sign none = rw (sym may_sign, none) refl

-- ---- how many there are

many_answers : (ders : List (List ℕ)) (n : ℕ) → 17 < n → n ≡ length ders
    → AnswersOnly {X = SigningChain} OutOfMemory (IsLeafAmong (Some ders)) (Err (TooManyCertificates n))
many_answers ders n many count =
    let told : ◌≡◌ {A = Result SigningChain BundleErrorKind} (Err (TooManyCertificates n))
    (Err (TooManyCertificates (length ders))) = ap (λ k. Err (TooManyCertificates k)) count in
    rw (lt-ltb 17 (length ders) (subst (λ k. 17 < k) count many)) (inr told, λ other of. inr (told ∙ sym of))

few_answers : (ders : List (List ℕ)) (n : ℕ) (answer : Result SigningChain BundleErrorKind) → n ≤ 17
    → n ≡ length ders
    → AnswersOnly OutOfMemory (IsLeafOf ders) answer → AnswersOnly OutOfMemory (IsLeafAmong (Some ders)) answer
few_answers ders n answer few count is = rw (le-ltb 17 (length ders) (subst (λ k. k ≤ 17) count few)) is

-- ---- the encodings are those of the material's content

encodings_answer : (ders : List (List ℕ)) (held : Option (List (List ℕ))) (answer : Result SigningChain BundleErrorKind)
    → Some ders ≡ held
    → AnswersOnly OutOfMemory (IsLeafAmong (Some ders)) answer → AnswersOnly OutOfMemory (IsLeafAmong held) answer
encodings_answer ders held answer is answers =
    subst (λ (o : Option (List (List ℕ))). AnswersOnly OutOfMemory (IsLeafAmong o) answer) is answers

pub nothing_answers : (content : Option MaterialContent) → None ≡ encodings_in content
    → AnswersOnly {X = SigningChain} OutOfMemory (IsSigningCertificate content) (Err VerificationMaterialContentUnsupported)
nothing_answers content is =
    subst (λ (o : Option (List (List ℕ))). AnswersOnly {X = SigningChain} OutOfMemory (IsLeafAmong o)
    (Err VerificationMaterialContentUnsupported)) is (inr refl, λ other of. inr (sym of))

module _ (content : Option MaterialContent) (ders : List (List ℕ)) (held : Some ders ≡ encodings_in content) where
  pub many_told : (n : ℕ) → 17 < n → n ≡ length ders
      → AnswersOnly {X = SigningChain} OutOfMemory (IsSigningCertificate content) (Err (TooManyCertificates n))
  many_told n many count =
      encodings_answer ders (encodings_in content) (Err (TooManyCertificates n)) held (many_answers ders n many count)

  pub few_told : (answer : Result SigningChain BundleErrorKind) → length ders ≤ 17
      → AnswersOnly OutOfMemory (IsLeafOf ders) answer
      → AnswersOnly OutOfMemory (IsSigningCertificate content) answer
  few_told answer few is =
      encodings_answer ders (encodings_in content) answer held (few_answers ders (length ders) answer few refl is)
