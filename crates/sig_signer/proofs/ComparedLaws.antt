-- What a signer's claims show is what policies compare, where each identifier has one extension at most.
use Rattle.std.proofs.Common.{◌≡◌, ℕ, ℤ, List, [], ◌∷◌, Option, Some, None, Result, Ok, Err, refl, sym, ap, ◌∙◌, arith}
use Rattle.std.proofs.Common.{option_map}
use Rattle.std.specs.Option.{ok_or}
use Rattle.sig_base.specs.ResultSteps.{◌>>=◌}
use Rattle.sig_base.specs.declared.error.SigstoreError.{SigstoreError}
use Rattle.sig_base.specs.declared.error.SigstoreError.TheVariants.{X509Error}
use Rattle.sig_base.specs.declared.scheme.VerifyScheme.{VerifyScheme}
use Rattle.sig_certificate.specs.Certificate.{Extension, Cert}
use Rattle.sig_certificate.specs.Lookups.{with_oid}
use Rattle.sig_certificate.specs.Trust.{trust_refusal}
use Rattle.sig_der.specs.ObjectIdentifiers.{fulcio}
use Rattle.sig_policy.specs.Said.{extension_values_of}
use Rattle.sig_policy.specs.Single.{extension_text, only_text}
use Rattle.sig_policy.specs.Texts.{utf8_text}
use Rattle.sig_x509.specs.Issuance.{Accepts}
use Rattle.sig_x509.specs.Pool.{Pool}
use Rattle.sig_signer.specs.Claims.{claim_answer, claim_of, claims_answer, first_of, workflow_answer}
use Rattle.sig_signer.specs.Compared.{HasSingleClaims, IsAsCompared, IsSingle}
use Rattle.sig_signer.specs.Signer.{Signer, certified_answer, certified_key, issued_answer, signer_answer, unless_refused}
use Rattle.sig_signer.specs.Subject.{subject_answer}
use Rattle.sig_signer.specs.declared.claims.Claims.{Claims}
use Rattle.sig_signer.specs.declared.claims.Workflow.{Workflow}
use Rattle.sig_signer.specs.declared.subject.CertificateSubject.{CertificateSubject}

abbrev Claimed : Type 0
Claimed = Result (Option (List ℕ)) SigstoreError

-- ---- one claim

said : (found text : Option (List ℕ)) → ok_or (option_map (λ t. Some t) found) X509Error ≡ Ok text → text ≡ found
said None text is = absurd cc
said (Some t) text is = cc

single : (es : List Extension) (text : Option (List ℕ)) → IsSingle es → claim_of (first_of es) ≡ Ok text
    → text ≡ only_text es
single [] text one is = cc
single (e ∷ []) text one is = said (utf8_text e.value) text is
single (e ∷ f ∷ es) text one is = absurd one

claim_is : (oid : List ℕ) (c : Cert) (text : Option (List ℕ)) → IsSingle (with_oid oid c.extensions)
    → claim_answer oid c ≡ Ok text → text ≡ extension_text oid c
claim_is oid c text one is = single (with_oid oid c.extensions) text one is

-- ---- all claims

record OfWorkflow (c : Cert) (w : Workflow) : Type 0 where
  name : claim_answer (fulcio 4) c ≡ Ok w.name
  repository : claim_answer (fulcio 5) c ≡ Ok w.repository
  reference : claim_answer (fulcio 6) c ≡ Ok w.reference

record OfClaims (c : Cert) (found : Claims) : Type 0 where
  issuer : claim_answer (fulcio 1) c ≡ Ok found.issuer
  trigger : claim_answer (fulcio 2) c ≡ Ok found.trigger
  sha : claim_answer (fulcio 3) c ≡ Ok found.sha
  workflow : workflow_answer c ≡ Ok found.workflow

record OfSigner (c : Cert) (s : Signer) : Type 0 where
  found : Claims
  is : claims_answer c ≡ Ok found
  issuer : s.issuer ≡ found.issuer
  trigger : s.trigger ≡ found.trigger
  sha : s.sha ≡ found.sha
  name : s.name ≡ found.workflow.name
  repository : s.repository ≡ found.workflow.repository
  reference : s.reference ≡ found.workflow.reference

of_workflow : (c : Cert) (w : Workflow) → workflow_answer c ≡ Ok w → OfWorkflow c w
unfolding workflow_answer
of_workflow c w is = by (claim_answer (fulcio 4) c) (claim_answer (fulcio 5) c) (claim_answer (fulcio 6) c) refl refl refl is
  where
    by : (x y z : Claimed) → claim_answer (fulcio 4) c ≡ x → claim_answer (fulcio 5) c ≡ y
        → claim_answer (fulcio 6) c ≡ z
        → ◌≡◌ {A = Result Workflow SigstoreError}
        (x >>= λ n. y >>= λ r. z >>= λ f. Ok (record { name = n; repository = r; reference = f })) (Ok w) → OfWorkflow c w
    by (Err e) y z one two three is = absurd cc
    by (Ok n) (Err e) z one two three is = absurd cc
    by (Ok n) (Ok r) (Err e) one two three is = absurd cc
    by (Ok n) (Ok r) (Ok f) one two three is =
        let same : w ≡ record { name = n; repository = r; reference = f } = cc in
        record {
          name = one ∙ ap (λ (v : Workflow). Ok v.name) (sym same);
          repository = two ∙ ap (λ (v : Workflow). Ok v.repository) (sym same);
          reference = three ∙ ap (λ (v : Workflow). Ok v.reference) (sym same);
        }

of_claims : (c : Cert) (found : Claims) → claims_answer c ≡ Ok found → OfClaims c found
unfolding claims_answer
of_claims c found is =
    by (claim_answer (fulcio 1) c) (claim_answer (fulcio 2) c) (claim_answer (fulcio 3) c) (workflow_answer c)
    refl refl refl refl is
  where
    by : (x y z : Claimed) (w : Result Workflow SigstoreError) → claim_answer (fulcio 1) c ≡ x
        → claim_answer (fulcio 2) c ≡ y → claim_answer (fulcio 3) c ≡ z → workflow_answer c ≡ w
        → ◌≡◌ {A = Result Claims SigstoreError} (x >>= λ i. y >>= λ t. z >>= λ s. w >>= λ v.
        Ok (record { issuer = i; trigger = t; sha = s; workflow = v })) (Ok found) → OfClaims c found
    by (Err e) y z w one two three four is = absurd cc
    by (Ok i) (Err e) z w one two three four is = absurd cc
    by (Ok i) (Ok t) (Err e) w one two three four is = absurd cc
    by (Ok i) (Ok t) (Ok s) (Err e) one two three four is = absurd cc
    by (Ok i) (Ok t) (Ok s) (Ok v) one two three four is =
        let same : found ≡ record { issuer = i; trigger = t; sha = s; workflow = v } = cc in
        record {
          issuer = one ∙ ap (λ (x : Claims). Ok x.issuer) (sym same);
          trigger = two ∙ ap (λ (x : Claims). Ok x.trigger) (sym same);
          sha = three ∙ ap (λ (x : Claims). Ok x.sha) (sym same);
          workflow = four ∙ ap (λ (x : Claims). Ok x.workflow) (sym same);
        }

of_signer : (c : Cert) (s : Signer) → certified_answer c ≡ Ok s → OfSigner c s
unfolding certified_answer
of_signer c s is = by (subject_answer c) (certified_key c.spki) (claims_answer c) refl is
  where
    by : (x : Result CertificateSubject SigstoreError) (y : Result (VerifyScheme × List ℕ) SigstoreError)
        (z : Result Claims SigstoreError) → claims_answer c ≡ z
        → ◌≡◌ {A = Result Signer SigstoreError} (x >>= λ subject. y >>= λ key. z >>= λ claims. Ok (record {
          key = key;
          subject = subject;
          issuer = claims.issuer;
          trigger = claims.trigger;
          sha = claims.sha;
          name = claims.workflow.name;
          repository = claims.workflow.repository;
          reference = claims.workflow.reference;
        })) (Ok s) → OfSigner c s
    by (Err e) y z found is = absurd cc
    by (Ok x) (Err e) z found is = absurd cc
    by (Ok x) (Ok y) (Err e) found is = absurd cc
    by (Ok x) (Ok y) (Ok z) found is =
        let same : s ≡ record {
          key = y;
          subject = x;
          issuer = z.issuer;
          trigger = z.trigger;
          sha = z.sha;
          name = z.workflow.name;
          repository = z.workflow.repository;
          reference = z.workflow.reference;
        } = cc in
        record {
          found = z;
          is = found;
          issuer = ap (λ (v : Signer). v.issuer) same;
          trigger = ap (λ (v : Signer). v.trigger) same;
          sha = ap (λ (v : Signer). v.sha) same;
          name = ap (λ (v : Signer). v.name) same;
          repository = ap (λ (v : Signer). v.repository) same;
          reference = ap (λ (v : Signer). v.reference) same;
        }

-- ---- the law

certified : (c : Cert) (s : Signer) → HasSingleClaims c → certified_answer c ≡ Ok s
    → IsAsCompared s (extension_values_of c)
certified c s one is =
    let signer = of_signer c s is in
    let claims = of_claims c signer.found signer.is in
    let workflow = of_workflow c signer.found.workflow claims.workflow in
    record {
      issuer = signer.issuer ∙ claim_is (fulcio 1) c _ (one 1 (omega arith) (omega arith)) claims.issuer;
      trigger = signer.trigger ∙ claim_is (fulcio 2) c _ (one 2 (omega arith) (omega arith)) claims.trigger;
      sha = signer.sha ∙ claim_is (fulcio 3) c _ (one 3 (omega arith) (omega arith)) claims.sha;
      name = signer.name ∙ claim_is (fulcio 4) c _ (one 4 (omega arith) (omega arith)) workflow.name;
      repository = signer.repository ∙ claim_is (fulcio 5) c _ (one 5 (omega arith) (omega arith)) workflow.repository;
      reference = signer.reference ∙ claim_is (fulcio 6) c _ (one 6 (omega arith) (omega arith)) workflow.reference;
    }

pub as_compared : (accepts : Accepts) (pool : Pool) (c : Cert) (at now : ℤ) (s : Signer) → HasSingleClaims c
    → signer_answer accepts pool c at now ≡ Ok s → IsAsCompared s (extension_values_of c)
as_compared accepts pool c at now s one is = by (issued_answer accepts pool c) (unless_refused (trust_refusal c at now)) is
  where
    by : (x y : Result (Unit {0}) SigstoreError) → (x >>= λ _. y >>= λ _. certified_answer c) ≡ Ok s
        → IsAsCompared s (extension_values_of c)
    by (Err e) y is = absurd cc
    by (Ok a) (Err e) is = absurd cc
    by (Ok a) (Ok b) is = certified c s one is
