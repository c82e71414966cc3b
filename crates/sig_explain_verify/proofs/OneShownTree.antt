-- An error of offline verification has one tree, and what was verified has one.
use Rattle.std.proofs.Common.{◌≡◌, ℕ, List, ◌++◌, Option, Some, refl, sym, ap, subst, ◌∙◌}
use Rattle.std.specs.Result.{result_ok}
use Rattle.sig_base.specs.OptionSteps.{◌>>=◌}
use Rattle.sig_bundle.specs.BundleRecord.{bundle_in}
use Rattle.sig_json.specs.Writing.{TreeMember, object_of}
use Rattle.sig_bundle.specs.declared.bundle.Bundle.{Bundle}
use Rattle.sig_certificate.specs.Certificate.{Cert, IsCertificate}
use Rattle.sig_checked_bundle.proofs.Certificates.{OneCertificate}
use Rattle.sig_checked_bundle.specs.Checked.{Checked}
use Rattle.sig_explain_verify.proofs.OneReading.{one_authorities, one_checked}
use Rattle.sig_explain_verify.specs.Evidence.{IsEvidence, IsOfChecked, checked_rows, if_there}
use Rattle.sig_explain_verify.specs.Inputs.{Inputs}
use Rattle.sig_explain_verify.specs.Parts.{root_in}
use Rattle.sig_explain_verify.specs.RefusedTree.{IsRefusedTree, policy_refusal_rows, told_rows}
use Rattle.sig_explain_verify.specs.Verified.{IsRunOf, IsShownOf, IsVerifiedTree, issuer_among}
use Rattle.sig_json.specs.Data.{Data}
use Rattle.sig_policy.specs.declared.failure.PolicyError.{PolicyError}
use Rattle.sig_verified.specs.Verified.{verified_rows}
use Rattle.sig_verified.specs.declared.run.VerifiedRun.{VerifiedRun}
use Rattle.sig_verify.specs.OfflineErrors.{link_of}
use Rattle.sig_verify.specs.declared.link.Link.{Link}
use Rattle.sig_verify.specs.declared.link.Link.TheVariants as link
use Rattle.sig_verify.specs.declared.logged_entry.LoggedEntry.{LoggedEntry}
use Rattle.sig_verify.specs.declared.offline_error.OfflineError.{OfflineError}
use Rattle.sig_verify.specs.declared.offline_error.OfflineError.TheVariants.{Policy}
use Rattle.sig_x509.specs.Issuance.{IsAnchor}
use Rattle.sig_x509.specs.declared.issuer.Issuer.{Issuer}

-- what was verified is shown of these parts alone
one_run : (i : Inputs) (b : Bundle) (c : Checked) (issuer : Issuer) (entry : LoggedEntry) (run other : VerifiedRun)
    → IsRunOf i b c issuer entry run → IsRunOf i b c issuer entry other → verified_rows run ≡ verified_rows other
one_run i b c issuer entry run other is was =
    rw (
      is.bundle,
      is.checked,
      is.issuer,
      is.proof,
      is.digest,
      is.policy,
      was.bundle,
      was.checked,
      was.issuer,
      was.proof,
      was.digest,
      was.policy,
    ) refl

one_of : (i : Inputs) (entry : LoggedEntry) (bundle : Option Bundle) (found : Option Checked) (issuer : Option Issuer)
    (a b : Data) → IsShownOf i entry bundle found issuer a → IsShownOf i entry bundle found issuer b → a ≡ b
one_of i entry (Some bundle) (Some c) (Some issuer) a b (run, is, made) (other, was, said) =
    made ∙ ap object_of (one_run i bundle c issuer entry run other is was) ∙ sym said
one_of i entry bundle found issuer a b p q = p ∙ sym q

module _ (one : OneCertificate) (i : Inputs) where
  one_anchor : (der : List ℕ) (c d : Cert) → IsAnchor der c → IsAnchor der d → c ≡ d
  one_anchor der c d p q = one der c d p.certificate q.certificate

  -- ---- what a link compares

  one_of_checked : (named : Link) (a b : List TreeMember) → IsOfChecked i named a → IsOfChecked i named b → a ≡ b
  one_of_checked named a b (given, are, found, is, made) (others, were, second, was, said) =
      made
      ∙ ap (λ (cs : Option (List Cert)). if_there (checked_rows i cs named) found)
      (one_authorities IsCertificate one (root_in i.root) i.now given others are were)
      ∙ ap (λ (c : Option Checked). if_there (checked_rows i others named) c)
      (one_checked one (result_ok (bundle_in i.bundle)) found second is was)
      ∙ sym said

  one_evidence : (named : Option Link) (a b : List TreeMember) → IsEvidence i named a → IsEvidence i named b → a ≡ b
  one_evidence (Some link.Issuer) a b p q = one_of_checked link.Issuer a b p q
  one_evidence (Some link.Sct) a b p q = one_of_checked link.Sct a b p q
  one_evidence (Some link.Policy) a b p q = one_of_checked link.Policy a b p q
  one_evidence (Some link.Signature) a b p q = one_of_checked link.Signature a b p q
  one_evidence (Some link.Subject) a b p q = one_of_checked link.Subject a b p q
  one_evidence (Some link.Body) a b p q = one_of_checked link.Body a b p q
  one_evidence (Some link.Time) a b p q = one_of_checked link.Time a b p q
  one_evidence other a b p q = p ∙ sym q

  -- ---- the trees

  pub one_refused : (error : OfflineError) (a b : Data) → IsRefusedTree i error a → IsRefusedTree i error b → a ≡ b
  one_refused error a b (rows, is, made) (others, was, said) =
      made
      ∙ ap (λ (rs : List TreeMember). object_of (told_rows i error ++ rs))
      (one_evidence (link_of error) rows others is was)
      ∙ sym said

  -- of a policy the error shows nothing
  pub one_policy : (why other : PolicyError) (a b : Data) → IsRefusedTree i (Policy why) a
      → IsRefusedTree i (Policy other) b → a ≡ b
  one_policy why other a b (rows, is, made) (others, was, said) =
      made
      ∙ ap (λ (rs : List TreeMember). object_of (policy_refusal_rows i.policy ++ rs))
      (one_evidence (Some link.Policy) rows others is was)
      ∙ sym said

  pub one_verified : (entry : LoggedEntry) (a b : Data) → IsVerifiedTree i entry a → IsVerifiedTree i entry b → a ≡ b
  one_verified entry a b (anchors, are, (found, is, shown)) (others, were, (second, was, told)) =
      let bundle : Option Bundle = result_ok (bundle_in i.bundle) in
      let same = one_authorities IsAnchor one_anchor (root_in i.root) i.now anchors others are were in
      let under = subst (λ (cs : Option (List Cert)).
      IsShownOf i entry bundle found (found >>= issuer_among i.accepted cs) a) same shown in
      let kept = subst (λ (c : Option Checked).
      IsShownOf i entry bundle c (c >>= issuer_among i.accepted others) a)
      (one_checked one bundle found second is was) under in
      one_of i entry bundle second (second >>= issuer_among i.accepted others) a b kept told
