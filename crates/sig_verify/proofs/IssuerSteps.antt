-- What is judged is the SCT that the certificate carries; and what contracts see of verifiers and bundles.
use Rattle.std.proofs.Common.{◌≡◌, ℕ, List, Result, Ok, Err, inl, inr, sym, subst, ap, ◌∙◌}
use Rattle.sig_base.specs.Answers.{Answers, OrMemory}
use Rattle.sig_base.specs.ResultSteps.{◌>>=◌}
use Rattle.sig_certificate.specs.Certificate.{Cert}
use Rattle.sig_checked_bundle.specs.Checked.{Checked}
use Rattle.sig_timestamp.specs.Embedded.{ready_with}
use Rattle.sig_timestamp.specs.RingKey.{RingKey}
use Rattle.sig_timestamp.specs.SctBytes.{judged}
use Rattle.sig_timestamp.specs.Timestamps.{sct_of}
use Rattle.sig_timestamp.specs.declared.sct_error.SCTError.{SCTError}
use Rattle.sig_timestamp.specs.declared.sct_error.SCTError.TheVariants.{OutOfMemory}
use Rattle.sig_timestamp.specs.declared.signed.DigitallySigned.{DigitallySigned}
use Rattle.sig_timestamp.specs.Vouched.{AcceptsPoint}
use Rattle.sig_verify.specs.Errors.{of_sct}
use Rattle.sig_verify.specs.IssuerCheck.{from_sct, sct_answer_with}
use Rattle.sig_verify.specs.Verifier.{Trusted}
use Rattle.sig_verify.specs.declared.error.VerificationError.TheVariants as verification

pub sct_judged : (accepts : AcceptsPoint) (ring : List (List ℕ × RingKey)) (c : Cert) (hash : List ℕ)
    (embedded signed : DigitallySigned) (r : Result (Unit {0}) SCTError)
    → ready_with c hash (sct_of c) ≡ Ok embedded → signed ≡ embedded
    → Answers OutOfMemory (λ (done : Unit {0}). done) r (judged accepts signed ring)
    → Answers OutOfMemory (λ (done : Unit {0}). done) r (sct_answer_with accepts ring c hash)
sct_judged accepts ring c hash embedded signed r read same answer =
    let is : judged accepts signed ring ≡ sct_answer_with accepts ring c hash =
    sym (ap (λ (found : Result DigitallySigned SCTError). found >>= λ d. judged accepts d ring) read ∙ ap
    (λ (d : DigitallySigned). judged accepts d ring) (sym same)) in
    subst (λ (meant : Result (Unit {0}) SCTError). Answers OutOfMemory (λ (done : Unit {0}). done) r meant) is answer

-- the result as a verifier's
pub sct_renamed : (accepts : AcceptsPoint) (ring : List (List ℕ × RingKey)) (c : Cert) (hash : List ℕ) (e : SCTError)
    → OrMemory OutOfMemory e (sct_answer_with accepts ring c hash ≡ Err e)
    → OrMemory verification.OutOfMemory (of_sct e) (from_sct (sct_answer_with accepts ring c hash) ≡ Err (of_sct e))
sct_renamed accepts ring c hash e (inl memory) = inl (ap of_sct memory)
sct_renamed accepts ring c hash e (inr is) = inr (ap from_sct is)

-- ---- what contracts see

-- what holds of the verifier's own trust anchors and keys, and of the certificates that are borrowed of a bundle, holds
-- of what contracts see of both
pub seen : (anchors : List Cert) (ring : List (List ℕ × RingKey)) (trusted : Trusted)
    → ◌≡◌ {A = Trusted} (record { anchors = anchors; ring = ring }) trusted → (further : List Cert) (c : Cert)
    (checked : Checked) → c ≡ checked.certificate → further ≡ checked.further
    → (P : List Cert → List (List ℕ × RingKey) → List Cert → Cert → Type 0) → P anchors ring further c
    → P trusted.anchors trusted.ring checked.further checked.certificate
seen anchors ring trusted same further c checked of_leaf of_further P is =
    subst (λ (x : Cert). P trusted.anchors trusted.ring checked.further x) of_leaf
    (subst (λ (cs : List Cert). P trusted.anchors trusted.ring cs c) of_further
    (subst (λ (t : Trusted). P t.anchors t.ring further c) same is))

-- the same of the certificate alone
pub seen_leaf : (anchors : List Cert) (ring : List (List ℕ × RingKey)) (trusted : Trusted)
    → ◌≡◌ {A = Trusted} (record { anchors = anchors; ring = ring }) trusted → (c : Cert) (checked : Checked)
    → c ≡ checked.certificate → (P : List (List ℕ × RingKey) → Cert → Type 0) → P ring c
    → P trusted.ring checked.certificate
seen_leaf anchors ring trusted same c checked of_leaf P is =
    subst (λ (x : Cert). P trusted.ring x) of_leaf (subst (λ (t : Trusted). P t.ring c) same is)
