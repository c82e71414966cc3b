-- What an envelope says of an image: values and errors.
use Rattle.std.proofs.Common.{◌≡◌, ◌⊎◌, ℕ, List, [], ◌∷◌, ◌++◌, codes, Option, Some, None, Result, Err}
use Rattle.std.proofs.Common.{inl, inr, refl, sym, ap, ◌∙◌, unwrap_or}
use Rattle.std.proofs.lemmas.Slice.Eq.{bytes_eq-Decides}
use Rattle.std.specs.Bool.{Decides}
use Rattle.std.specs.Prelude.{bytes_eq}
use Rattle.sig_base.proofs.Decisions.{decides_same}
use Rattle.sig_base.proofs.ResultSteps.{err_is}
use Rattle.sig_base.specs.declared.error.SigstoreError.{SigstoreError}
use Rattle.sig_base.specs.declared.error.SigstoreError.TheVariants.{UnexpectedError}
use Rattle.sig_base.specs.declared.unexpected.UnexpectedKind.{UnexpectedKind}
use Rattle.sig_base.specs.declared.unexpected.UnexpectedKind.TheVariants as kind
use Rattle.sig_dsse.proofs.Clauses.{cosign-accepted, cosign-refused}
use Rattle.sig_dsse.specs.CosignStatement.{cosign_fault, first_sha256, sha256_or_fault, statement_or_fault, unless_fault}
use Rattle.sig_dsse.specs.Faults.{FirstHasSha256, IsCosignCauseOf, IsCosignStatement}
use Rattle.sig_dsse.specs.Statement.{Statement, Subject, statement_of}
use Rattle.sig_dsse.specs.declared.envelope.DsseEnvelope.{DsseEnvelope}
use Rattle.sig_rekor.proofs.CutLaws.{after_separator-at, after_separator-some}
use Rattle.sig_rekor.specs.TextCuts.{after_separator}
use Rattle.sig_attestation.proofs.StepOutcomes.{Tells, tells_done, tells_ends, tells_some, tells_sure, tells_test}
use Rattle.sig_attestation.proofs.StepOutcomes.{tells_then}
use Rattle.sig_attestation.specs.Causes.{IsDigest, IsImageFault, IsImageOf, IsStatedFault, IsTyped, OfSha256, Told}
use Rattle.sig_attestation.specs.Image.{image_answer, of_source, stated_image, statement_type, typed, without_prefix}

-- ---- the digest

abbrev prefix : List ℕ
prefix = codes "sha256:"

some_is : (x y : List ℕ) → ◌≡◌ {A = Option (List ℕ)} (Some x) (Some y) → x ≡ y
some_is x y e = cc

digest_by : (source sha256 : List ℕ) (o : Option (List ℕ)) → after_separator prefix source ≡ o
    → Decides (bytes_eq sha256 (unwrap_or o source)) (IsDigest source sha256)
digest_by source sha256 None cut =
    decides_same (bytes_eq sha256 source)
    (λ same. inr ((λ rest is. let wrong = sym cut ∙ ap (after_separator prefix) is ∙ after_separator-at prefix rest in absurd cc), sym same))
    (λ is. elim is [
      | inl whole ↦ absurd (let wrong = sym cut ∙ ap (after_separator prefix) whole ∙ after_separator-at prefix sha256 in cc)
      | inr plain ↦ sym plain.1
    ])
    (bytes_eq-Decides sha256 source)
digest_by source sha256 (Some digits) cut =
    decides_same (bytes_eq sha256 digits)
    (λ same. inl (after_separator-some prefix source digits cut ∙ ap (λ (d : List ℕ). prefix ++ d) (sym same)))
    (λ is. elim is [
      | inl whole ↦
          some_is sha256 digits (sym (after_separator-at prefix sha256) ∙ sym (ap (after_separator prefix) whole) ∙ cut)
      | inr plain ↦ absurd (plain.0 digits (after_separator-some prefix source digits cut))
    ])
    (bytes_eq-Decides sha256 digits)

digest_tells : (source sha256 : List ℕ)
    → Tells (of_source sha256 source) (λ done. IsDigest source sha256)
    (λ e. Told e kind.SubjectDigest (¬ IsDigest source sha256))
digest_tells source sha256 =
    tells_test (bytes_eq sha256 (without_prefix source)) (UnexpectedError kind.SubjectDigest) (IsDigest source sha256)
    (digest_by source sha256 (after_separator prefix source) refl)

-- ---- the statement

abbrev Checked : Type 0
Checked = Result (Unit {0}) SigstoreError

unless_caused : (s : Statement) (o : Option UnexpectedKind) → cosign_fault s ≡ o → (e : SigstoreError)
    → unless_fault o ≡ Err e → (k : UnexpectedKind) × Told e k (IsCosignCauseOf k s)
unless_caused s None is e told = absurd cc
unless_caused s (Some k) is e told = (
  k,
  (
    sym (err_is (UnexpectedError k) e told),
    (cosign-refused s (unless_fault (cosign_fault s)) refl k).0 (ap unless_fault is),
  ),
)

cosign_tells : (s : Statement)
    → Tells (unless_fault (cosign_fault s)) (λ done. IsCosignStatement s) (λ e. (k : UnexpectedKind) × Told e k (IsCosignCauseOf k s))
cosign_tells s = record {
  ok = λ x. cosign-accepted s (unless_fault (cosign_fault s)) refl;
  err = λ e. (
    (λ is. unless_caused s (cosign_fault s) refl e is),
    (λ told. (cosign-refused s (unless_fault (cosign_fault s)) refl told.0).1 told.1.1
        ∙ ap (λ (x : SigstoreError). Err x) (sym told.1.0)),
  );
}

-- the first subject of a statement by `cosign` has a SHA-256
sha256_by : (s : Statement) (subjects : List Subject) → s.subject ≡ subjects → (o : Option (List ℕ))
    → first_sha256 subjects ≡ o
    → ((text : List ℕ) × FirstHasSha256 text s.subject)
    → (text : List ℕ) × (o ≡ Some text) × FirstHasSha256 text s.subject
sha256_by s subjects is o found (text, (first, others, listed, held)) =
    (text, sym found ∙ ap first_sha256 (sym is ∙ listed) ∙ held, (first, others, listed, held))

first_found : (s : Statement) (subjects : List Subject) → s.subject ≡ subjects → (text : List ℕ)
    → first_sha256 subjects ≡ Some text → FirstHasSha256 text s.subject
first_found s [] is text found = absurd cc
first_found s (first ∷ others) is text found = (first, others, is, found)

sha256_tells : (s : Statement) → IsCosignStatement s
    → Tells (sha256_or_fault s) (λ text. FirstHasSha256 text s.subject) (λ e. ⊥)
unfolding sha256_or_fault
sha256_tells s cosign =
    let has = sha256_by s s.subject refl (first_sha256 s.subject) refl cosign.2 in
    let told = tells_some (first_sha256 s.subject) (UnexpectedError kind.FirstSubjectWithoutSha256) in
    record {
      ok = λ text. (
        (λ is. first_found s s.subject refl text ((told.ok text).0 is)),
        (λ first. (told.ok text).1 (ap first_sha256 first.2 ∙ first.3)),
      );
      err = λ e. (
        (λ is. let none = ((told.err e).0 is).1 in let wrong = sym none ∙ has.1 in absurd cc),
        (λ bad. absurd bad),
      );
    }

stated_tells : (source : List ℕ) (s : Statement)
    → Tells (stated_image source s)
    (λ image. IsCosignStatement s × OfSha256 s (λ sha256.
    IsDigest source sha256 × (image ≡ record { predicate_type = s.predicate_type; sha256 = sha256 })))
    (IsStatedFault source s)
unfolding stated_image
stated_tells source s =
    tells_done (unless_fault (cosign_fault s)) _ (IsCosignStatement s)
    (λ e. (k : UnexpectedKind) × Told e k (IsCosignCauseOf k s))
    (λ image. OfSha256 s (λ sha256.
    IsDigest source sha256 × (image ≡ record { predicate_type = s.predicate_type; sha256 = sha256 })))
    (λ e. OfSha256 s (λ sha256. Told e kind.SubjectDigest (¬ IsDigest source sha256)))
    (cosign_tells s)
    (λ cosign. tells_sure (sha256_or_fault s) _ (λ text. FirstHasSha256 text s.subject)
    (λ sha256 image. IsDigest source sha256 × (image ≡ record { predicate_type = s.predicate_type; sha256 = sha256 }))
    (λ sha256 e. Told e kind.SubjectDigest (¬ IsDigest source sha256))
    (sha256_tells s cosign)
    (λ sha256 first. tells_ends (of_source sha256 source) _
    (record { predicate_type = s.predicate_type; sha256 = sha256 }) (IsDigest source sha256)
    (λ e. Told e kind.SubjectDigest (¬ IsDigest source sha256)) refl (digest_tells source sha256)))

pub image_tells : (source : List ℕ) (v : DsseEnvelope)
    → Tells (image_answer source v) (IsImageOf source v) (IsImageFault source v)
unfolding image_answer
image_tells source v =
    tells_done (typed v) _ (IsTyped v) (λ e. Told e kind.PayloadType (¬ IsTyped v))
    (λ image. (s : Statement) × (statement_of v.payload ≡ Some s) × (IsCosignStatement s × OfSha256 s (λ sha256.
    IsDigest source sha256 × (image ≡ record { predicate_type = s.predicate_type; sha256 = sha256 }))))
    (λ e. Told e kind.Statement (statement_of v.payload ≡ None)
    ⊎ ((s : Statement) × (statement_of v.payload ≡ Some s) × IsStatedFault source s e))
    (tells_test (bytes_eq v.payload_type statement_type) (UnexpectedError kind.PayloadType) (IsTyped v)
    (bytes_eq-Decides v.payload_type statement_type))
    (λ is. tells_then (statement_or_fault v.payload) (stated_image source) (λ s. statement_of v.payload ≡ Some s)
    (λ e. Told e kind.Statement (statement_of v.payload ≡ None))
    (λ s image. IsCosignStatement s × OfSha256 s (λ sha256.
    IsDigest source sha256 × (image ≡ record { predicate_type = s.predicate_type; sha256 = sha256 })))
    (λ s e. IsStatedFault source s e)
    (tells_some (statement_of v.payload) (UnexpectedError kind.Statement))
    (λ s found. stated_tells source s))
