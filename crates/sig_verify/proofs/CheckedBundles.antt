-- The links `issuance` to `time`: the result of a verifier says which of them fails first.
use Rattle.std.proofs.Common.{◌≡◌, Bool, true, false, List, [], ◌∷◌, ◌++◌, Ok, Err, inl, inr, refl, sym, subst, ◌∙◌}
use Rattle.sig_checked_bundle.specs.Checked.{Checked}
use Rattle.sig_dsse.specs.declared.artifact_digest.ArtifactDigest.{ArtifactDigest}
use Rattle.sig_policy.specs.Refusals.{Refusal}
use Rattle.sig_verify.proofs.ContentVerdicts.{judged_content, judged_time}
use Rattle.sig_verify.proofs.IssuerVerdicts.{judged_issued}
use Rattle.sig_verify.proofs.JudgedLaws.{fails_front, judged_later, judged_tells, not_first}
use Rattle.sig_verify.specs.CertificateLinks.{HoldsOfChecked, certificate_links}
use Rattle.sig_verify.specs.ContentCheck.{content_answer, time_answer}
use Rattle.sig_verify.specs.IssuerCheck.{issued_answer}
use Rattle.sig_verify.specs.Judged.{Judged, Tells}
use Rattle.sig_verify.specs.LinkLaws.{IsReadCertificate, renamed, trust_of}
use Rattle.sig_verify.specs.Verdict.{After, AfterPolicy, Answer, Checker, IsVerdictFromPolicy, IsVerdictFromBody}
use Rattle.sig_verify.specs.Verdict.{IsVerdictFromKey, IsVerdictFromIssuance, PolicyOf}
use Rattle.sig_verify.specs.Verifier.{Trusted}
use Rattle.sig_verify.specs.declared.error.SignatureErrorKind.TheVariants.{Transparency}
use Rattle.sig_verify.specs.declared.link.Link.{Link}
use Rattle.sig_verify.specs.declared.link.Link.TheVariants.{Issuance, Issuer, Sct, Policy, Key, Signature, Subject}
use Rattle.sig_verify.specs.declared.link.Link.TheVariants.{Body, Time}
use Rattle.sig_verify.specs.declared.offline_error.OfflineError.TheVariants as error

module _ (k : Checker) (policy : PolicyOf) (trusted : Trusted) (d : ArtifactDigest) (offline : Bool) (c : Checked)
    (read : IsReadCertificate c) where
  abbrev Holds : Link → Type 0
  Holds = HoldsOfChecked k policy (trust_of trusted) d offline c

  -- one step after another
  after : (xs ys : List Link) (step result : Answer) (Next : Answer → Type 0) → Judged Holds xs (renamed step)
      → (Next result → Judged Holds ys (renamed result)) → After step Next result
      → Judged Holds (xs ++ ys) (renamed result)
  after xs ys (Ok done) result Next judged next is = judged_later Holds xs ys (renamed result) judged (next is)
  after xs ys (Err e) result Next judged next is =
      subst (λ (r : Answer). Judged Holds (xs ++ ys) (renamed r)) (sym is)
      (judged.0, judged.1, fails_front Holds xs ys judged.0 judged.2)

  judged_logged : (result : Answer) → IsVerdictFromBody d offline c result → Judged Holds (Body ∷ Time ∷ [])
      (renamed result)
  judged_logged result (inl both) =
      subst (λ (r : Answer). Judged Holds (Body ∷ Time ∷ []) (renamed r)) (sym both.1)
      (judged_later Holds (Body ∷ []) (Time ∷ []) (renamed (time_answer c)) (both.0, tt)
      (judged_time k policy (trust_of trusted) d offline c))
  judged_logged result (inr both) =
      subst (λ (r : Answer). Judged Holds (Body ∷ Time ∷ []) (renamed r)) (sym both.1)
      (not_first Holds Body (Time ∷ []) (error.Signature Transparency) both.0 refl)

  judged_signed : (result : Answer) → IsVerdictFromKey k d offline c result
      → Judged Holds (Key ∷ Signature ∷ Subject ∷ Body ∷ Time ∷ []) (renamed result)
  judged_signed result is =
      after (Key ∷ Signature ∷ Subject ∷ []) (Body ∷ Time ∷ []) (content_answer k.spki k.prehash d c) result
      (IsVerdictFromBody d offline c) (judged_content k policy (trust_of trusted) d offline c read.spki)
      (judged_logged result) is

  by_policy : (b : Bool) (refusal : Refusal) (result : Answer) → policy.holds c.certificate ≡ b
      → AfterPolicy b refusal (IsVerdictFromKey k d offline c) result
      → Judged Holds (Policy ∷ Key ∷ Signature ∷ Subject ∷ Body ∷ Time ∷ []) (renamed result)
  by_policy true refusal result holds is =
      judged_later Holds (Policy ∷ []) (Key ∷ Signature ∷ Subject ∷ Body ∷ Time ∷ []) (renamed result) (holds, tt)
      (judged_signed result is)
  by_policy false refusal result holds is =
      subst (λ (r : Answer). Judged Holds (Policy ∷ Key ∷ Signature ∷ Subject ∷ Body ∷ Time ∷ []) (renamed r))
      (sym is.1)
      (not_first Holds Policy (Key ∷ Signature ∷ Subject ∷ Body ∷ Time ∷ []) (error.Policy is.0)
      (λ other. let wrong : true ≡ false = sym other ∙ holds in absurd cc) refl)

  pub judged_trusted : (result : Answer) → IsVerdictFromIssuance k trusted policy d offline c result
      → Judged Holds certificate_links (renamed result)
  judged_trusted result is =
      after (Issuance ∷ Issuer ∷ Sct ∷ []) (Policy ∷ Key ∷ Signature ∷ Subject ∷ Body ∷ Time ∷ [])
      (issued_answer k.cert k.point trusted c) result (IsVerdictFromPolicy k policy d offline c)
      (judged_issued k policy trusted d offline c read.sct)
      (by_policy (policy.holds c.certificate) (policy.refusal c.certificate) result refl) is

  pub trusted_told : (result : Answer) → IsVerdictFromIssuance k trusted policy d offline c result
      → Tells Holds certificate_links (renamed result)
  trusted_told result is = judged_tells Holds certificate_links (renamed result) (judged_trusted result is)
