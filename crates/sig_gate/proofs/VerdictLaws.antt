-- What the verdicts on bundles mean.
use Rattle.std.proofs.Common.{◌≡◌, inl, inr, Option, Some, None, Result, Ok, Err, refl, sym, ap, subst, ◌∙◌}
use Rattle.std.specs.Prelude.{option_map}
use Rattle.sig_base.proofs.OptionSteps.{some_is}
use Rattle.sig_base.proofs.RuleLaws.{none_fails, one_fails}
use Rattle.sig_base.specs.Rules.{FailsFirst}
use Rattle.sig_bundle.specs.BundleRecord.{bundle_in}
use Rattle.sig_bundle.specs.declared.bundle.Bundle.{Bundle as BundleType}
use Rattle.sig_bundle.specs.declared.material.TransparencyLogEntry.{TransparencyLogEntry}
use Rattle.sig_gate.specs.BundleVerdict.{IsJudged, IsOfflineVerdict, verdict_of}
use Rattle.sig_gate.specs.Laws.{IsOfOffline, VerdictsAreExact, VerdictsAreOfOffline}
use Rattle.sig_gate.specs.declared.verdict.BundleVerdict.{BundleVerdict}
use Rattle.sig_gate.specs.declared.verdict.BundleVerdict.TheVariants.{Verified, Refused}
use Rattle.sig_json.specs.declared.error.JsonError.{JsonError}
use Rattle.sig_root.specs.RootRecord.{trusted_root_in}
use Rattle.sig_root.specs.declared.record.TrustedRoot.{TrustedRoot}
use Rattle.sig_verify.specs.Links.{EveryChainLinkHolds, HoldsOf, Inputs, Outside, chain_links}
use Rattle.sig_verify.specs.LogEntry.{log_entry_answer}
use Rattle.sig_verify.specs.OfflineErrors.{link_of, of_root, of_verification}
use Rattle.sig_verify.specs.OfflineVerdict.{AfterAnswer, AfterRead, IsOffline, IsOfflineIn, IsOfflineOf}
use Rattle.sig_verify.specs.OfflineVerdict.{IsVouchedIn, Outcome, only_entry_of}
use Rattle.sig_verify.specs.RootLinks.{rekor_keys}
use Rattle.sig_verify.specs.Verdict.{Answer}
use Rattle.sig_verify.specs.declared.link.Link.{Link}
use Rattle.sig_verify.specs.declared.logged_entry.LoggedEntry.{LoggedEntry}
use Rattle.sig_verify.specs.declared.offline_error.OfflineError.{OfflineError}
use Rattle.sig_verify.specs.declared.offline_error.Part.TheVariants.{Root, Bundle}

-- ---- exact both ways

not_both : (entry : LoggedEntry) (link : Link) → Refused link ≡ Verified entry → ⊥
not_both entry link e = cc

same_link : (a b : Link) → Refused a ≡ Refused b → a ≡ b
same_link a b e = cc

pub verdicts_are_exact : VerdictsAreExact
verdicts_are_exact o i (Verified entry) judged = record {
  verified = ((λ e. judged.0), (λ all. (entry, refl)));
  refused = λ link. (
    (λ e. absurd (not_both entry link (sym e))),
    (λ fails. absurd (none_fails (HoldsOf o i) chain_links link judged.0 fails)),
  );
}
verdicts_are_exact o i (Refused first) judged = record {
  verified = (
    (λ has. absurd (not_both has.0 first has.1)),
    (λ all. absurd (none_fails (HoldsOf o i) chain_links first all judged)),
  );
  refused = λ link. (
    (λ e. subst (λ (l : Link). FailsFirst (HoldsOf o i) chain_links l) (same_link first link e) judged),
    (λ fails. ap Refused (one_fails (HoldsOf o i) chain_links first link judged fails)),
  );
}

-- ---- the result of offline verification is one

same_entry : (a b : LoggedEntry) → ◌≡◌ {A = Outcome} (Ok a) (Ok b) → a ≡ b
same_entry a b e = cc

no_value : (a : LoggedEntry) (e : OfflineError) → ◌≡◌ {A = Outcome} (Ok a) (Err e) → ⊥
no_value a e is = cc

module _ (o : Outside) (i : Inputs) where
  -- a value is that of the bundle's only log entry, under the keys that the root has
  abbrev IsOfEntry : TrustedRoot → BundleType → LoggedEntry → Type 0
  IsOfEntry root bundle value =
      (entry : TransparencyLogEntry) × (only_entry_of bundle ≡ Some entry)
      × (◌≡◌ {A = Outcome} (Ok value) (log_entry_answer o.checker.spki (rekor_keys root i.now) entry))

  after_answer : (root : TrustedRoot) (bundle : BundleType) (value : LoggedEntry) (answer : Answer)
      → AfterAnswer answer (IsVouchedIn o.checker.spki (rekor_keys root i.now) bundle) (Ok value)
      → IsOfEntry root bundle value
  after_answer root bundle value (Ok done) steps = steps
  after_answer root bundle value (Err error) steps = absurd (no_value value (of_verification error) steps)

  of_entry : (root : TrustedRoot) (bundle : BundleType) (value : LoggedEntry)
      → IsOfflineOf o.checker o.policy root i.now i.digest bundle (Ok value) → IsOfEntry root bundle value
  of_entry root bundle value (inl (error, refused, is)) = absurd (no_value value (of_root error) is)
  of_entry root bundle value (inr (trusted, made, (answer, verdict, after))) =
      after_answer root bundle value answer after

  one_of : (root : TrustedRoot) (bundle : BundleType) (a b : LoggedEntry) → IsOfEntry root bundle a
      → IsOfEntry root bundle b → a ≡ b
  one_of root bundle a b (first, there, is) (second, also, other) =
      let same : first ≡ second = some_is first second (sym there ∙ also) in
      same_entry a b (is
      ∙ ap (λ (e : TransparencyLogEntry). log_entry_answer o.checker.spki (rekor_keys root i.now) e) same ∙ sym other)

  one_in : (root : TrustedRoot) (read : Result BundleType JsonError) (a b : LoggedEntry)
      → AfterRead Bundle read (IsOfflineOf o.checker o.policy root i.now i.digest) (Ok a)
      → AfterRead Bundle read (IsOfflineOf o.checker o.policy root i.now i.digest) (Ok b) → a ≡ b
  one_in root (Ok bundle) a b first second = one_of root bundle a b (of_entry root bundle a first) (of_entry root bundle b second)
  one_in root (Err why) a b first second = cc

  one_value : (read : Result TrustedRoot JsonError) (a b : LoggedEntry)
      → AfterRead Root read (λ root. IsOfflineIn o.checker o.policy root i.now i.digest i.bundle) (Ok a)
      → AfterRead Root read (λ root. IsOfflineIn o.checker o.policy root i.now i.digest i.bundle) (Ok b) → a ≡ b
  one_value (Ok root) a b first second = one_in root (bundle_in i.bundle) a b first second
  one_value (Err why) a b first second = cc

  says_verified : (entry : LoggedEntry) (result : Outcome) → EveryChainLinkHolds o i
      → IsOffline o.checker o.policy i.root i.now i.digest i.bundle (Ok entry) → IsOfOffline o i result
      → verdict_of result ≡ Some (Verified entry)
  says_verified entry (Ok value) all steps is =
      ap (λ (e : LoggedEntry). Some (Verified e)) (one_value (trusted_root_in i.root) value entry is.steps steps)
  says_verified entry (Err error) all steps is =
      let judged = is.links in absurd (none_fails (HoldsOf o i) chain_links judged.0 all judged.2)

  says_refused : (link : Link) (result : Outcome) → FailsFirst (HoldsOf o i) chain_links link → IsOfOffline o i result
      → verdict_of result ≡ Some (Refused link)
  says_refused link (Ok value) fails is = absurd (none_fails (HoldsOf o i) chain_links link is.links fails)
  says_refused link (Err error) fails is =
      let judged = is.links in
      let same : judged.0 ≡ link = one_fails (HoldsOf o i) chain_links judged.0 link judged.2 fails in
      let named : link_of error ≡ Some link = judged.1 ∙ ap Some same in
      rw named refl

  verified_value : (entry : LoggedEntry) (result : Outcome) → verdict_of result ≡ Some (Verified entry)
      → result ≡ Ok entry
  verified_value entry (Ok value) says = cc
  verified_value entry (Err error) says = absurd (by (link_of error) says) where
    by : (link : Option Link) → option_map Refused link ≡ Some (Verified entry) → ⊥
    by None is = cc
    by (Some link) is = cc

  says : (verdict : BundleVerdict) → IsJudged o i verdict → IsOfflineVerdict o i verdict → (result : Outcome)
      → IsOfOffline o i result → verdict_of result ≡ Some verdict
  says (Verified entry) judged (found, steps, is) result of =
      says_verified entry result judged.0
      (subst (λ (r : Outcome). IsOffline o.checker o.policy i.root i.now i.digest i.bundle r)
      (verified_value entry found is) steps) of
  says (Refused link) judged offline result of = says_refused link result judged of

pub verdicts_are_of_offline : VerdictsAreOfOffline
verdicts_are_of_offline o i = says o i
