-- The result of offline verification says which link fails first, of all of them.
use Rattle.std.proofs.Common.{◌≡◌, ◌↔◌, ◌⊎◌, ◌≢◌, true, List, [], ◌∷◌, ◌++◌, Some, Result, Ok, Err, inl, inr, refl, sym}
use Rattle.std.proofs.Common.{ap, subst, ◌∙◌}
use Rattle.std.specs.List.{AllByRecursion}
use Rattle.sig_base.proofs.OptionSteps.{some_is}
use Rattle.sig_base.specs.declared.error.SigstoreError.{SigstoreError}
use Rattle.sig_base.specs.declared.error.SigstoreError.TheVariants as sigstore
use Rattle.sig_bundle.specs.LogEntries.{only_entry}
use Rattle.sig_checked_bundle.proofs.Certificates.{OneCertificate}
use Rattle.sig_bundle.specs.BundleRecord.{bundle_in}
use Rattle.sig_checked_bundle.specs.Checked.{Checked, IsChecked}
use Rattle.sig_checked_bundle.specs.Passed.{IsPassed}
use Rattle.sig_bundle.specs.declared.bundle.Bundle.{Bundle as BundleType}
use Rattle.sig_bundle.specs.declared.material.TransparencyLogEntry.{TransparencyLogEntry}
use Rattle.sig_json.specs.declared.error.JsonError.{JsonError}
use Rattle.sig_root.specs.RootRecord.{trusted_root_in}
use Rattle.sig_root.specs.declared.record.TrustedRoot.{TrustedRoot}
use Rattle.sig_verify.proofs.EntryLaws.{entry_kept, judged_entry}
use Rattle.sig_verify.proofs.EntryProofs.{ProofLaws}
use Rattle.sig_verify.proofs.JudgedLaws.{all_as, fails_as, fails_front, judged_as, judged_later, judged_tells}
use Rattle.sig_verify.proofs.LinkGroups.{entries_alike, roots_alike, verified_alike}
use Rattle.sig_verify.proofs.RootVerdicts.{memory_or_other}
use Rattle.sig_verify.proofs.VerifiedBundles.{judged_verdict}
use Rattle.sig_verify.specs.BundleLinks.{bundle_links}
use Rattle.sig_verify.specs.CertificateLinks.{certificate_links}
use Rattle.sig_verify.specs.EntryLinks.{HoldsOfEntry, LogKeys, entry_links}
use Rattle.sig_verify.specs.Judged.{IsOfFirst, Judged}
use Rattle.sig_verify.specs.LinkLaws.{BundlesAreJudged, HoldsOfVerified, IsKept, RootsAreJudged, renamed, trust_of}
use Rattle.sig_verify.specs.Links.{HoldsOf, Inputs, OfPassed, Outside, chain_links}
use Rattle.sig_verify.specs.LogEntry.{log_entry_answer}
use Rattle.sig_verify.specs.OfflineErrors.{of_root, of_verification}
use Rattle.sig_verify.specs.OfflineLaws.{AreReadInputs, IsOutcomeOf}
use Rattle.sig_verify.specs.OfflineVerdict.{AfterAnswer, AfterRead, IsOffline, IsOfflineIn, IsOfflineOf, IsVouchedIn}
use Rattle.sig_verify.specs.OfflineVerdict.{Outcome, authorities_of, ct_keys_of, only_entry_among, only_entry_of}
use Rattle.sig_verify.specs.RootLinks.{HoldsOfRoot, rekor_keys, root_links}
use Rattle.sig_verify.specs.Verdict.{Answer, IsVerdict}
use Rattle.sig_verify.specs.Verifier.{IsVerifierOf, Trusted}
use Rattle.sig_verify.specs.declared.link.Link.{Link}
use Rattle.sig_verify.specs.declared.link.Link.TheVariants.{RootJson, BundleJson}
use Rattle.sig_verify.specs.declared.logged_entry.LoggedEntry.{LoggedEntry}
use Rattle.sig_verify.specs.declared.offline_error.OfflineError.{OfflineError}
use Rattle.sig_verify.specs.declared.offline_error.OfflineError.TheVariants.{Json, OutOfMemory}
use Rattle.sig_verify.specs.declared.offline_error.Part.TheVariants.{Root, Bundle}

-- what the laws of the groups stand on
pub record Groups : Type 0 where
  pub one : OneCertificate
  pub passed : (b : BundleType) (c : Checked) → IsChecked b (Ok c) ↔ IsPassed b c
  pub bundles : BundlesAreJudged
  pub roots : RootsAreJudged
  pub proofs : ProofLaws

abbrev after_json : List Link
after_json = root_links ++ ((bundle_links ++ certificate_links) ++ entry_links)

-- the only entry is that of the checked bundle
pub one_entry : (b : BundleType) (c : Checked) (e : TransparencyLogEntry) → IsPassed b c → only_entry_of b ≡ Some e
    → c.entry ≡ e
one_entry b c e is only =
    some_is c.entry e
    (sym (ap only_entry_among is.brought ∙ ap only_entry is.logged) ∙ only)

module _ (laws : Groups) (o : Outside) (i : Inputs) (read : AreReadInputs i) (result : Outcome) where
  abbrev Holds : Link → Type 0
  Holds = HoldsOf o i

  -- what comes after the links that hold
  record Rest (rest : List Link) : Type 0 where
    judged : Judged Holds rest result
    kept : (offline : LoggedEntry) → result ≡ Ok offline → OfPassed i (λ c. IsKept c.entry offline)

  refused : (rest : List Link) (error : OfflineError) → result ≡ Err error → IsOfFirst Holds rest error → Rest rest
  refused rest error is first = record {
    judged = subst (λ (r : Outcome). Judged Holds rest r) (sym is) first;
    kept = λ offline ok. let wrong : ◌≡◌ {A = Outcome} (Err error) (Ok offline) = sym is ∙ ok in absurd cc;
  }

  after : (front rest : List Link) → AllByRecursion Holds front → Rest rest → Rest (front ++ rest)
  after front rest hold told =
      record { judged = judged_later Holds front rest result hold told.judged; kept = told.kept }

  module _ (root : TrustedRoot) (root_is : trusted_root_in i.root ≡ Ok root) (b : BundleType)
      (bundle_is : bundle_in i.bundle ≡ Ok b) where
    vouched : (c : Checked) → IsPassed b c → IsVouchedIn o.checker.spki (rekor_keys root i.now) b result → Rest entry_links
    vouched c is (entry, only, answer) =
        let keys : LogKeys = rekor_keys root i.now in
        let said : result ≡ log_entry_answer o.checker.spki keys c.entry =
        answer ∙ ap (λ (e : TransparencyLogEntry). log_entry_answer o.checker.spki keys e)
        (sym (one_entry b c entry is only)) in
        record {
          judged = subst (λ (r : Outcome). Judged Holds entry_links r) (sym said)
              (judged_as (HoldsOfEntry o.checker.spki keys c.entry) Holds entry_links
              (log_entry_answer o.checker.spki keys c.entry)
              (entries_alike o i root root_is b bundle_is laws.one c is)
              (judged_entry laws.proofs o.checker.spki keys c.entry
              (read.logged root b c root_is bundle_is is)));
          kept = λ offline ok. (
            b,
            bundle_is,
            (c, is, entry_kept laws.proofs o.checker.spki keys c.entry offline (sym said ∙ ok)),
          );
        }

    module _ (trusted : Trusted) (is : IsVerifierOf (authorities_of root i.now) (ct_keys_of root i.now) trusted) where
      verdict : (answer : Answer) → IsVerdict o.checker trusted o.policy i.digest true b answer
          → Judged Holds (bundle_links ++ certificate_links) (renamed answer)
      verdict answer said =
          judged_as (HoldsOfVerified o.checker o.policy (trust_of trusted) i.digest true b) Holds
          (bundle_links ++ certificate_links) (renamed answer)
          (verified_alike o i root root_is b bundle_is laws.one trusted is)
          (judged_verdict laws.one laws.passed laws.bundles o.checker o.policy trusted i.digest true b
          (λ c passed. read.checked root b c root_is bundle_is passed) answer said)

      verified : (answer : Answer) → IsVerdict o.checker trusted o.policy i.digest true b answer
          → AfterAnswer answer (IsVouchedIn o.checker.spki (rekor_keys root i.now) b) result
          → Rest ((bundle_links ++ certificate_links) ++ entry_links)
      verified (Err error) said next =
          let first = verdict (Err error) said in
          refused ((bundle_links ++ certificate_links) ++ entry_links) (of_verification error) next
          (first.0, first.1, fails_front Holds (bundle_links ++ certificate_links) entry_links first.0 first.2)
      verified (Ok done) (inl none) next = absurd cc
      verified (Ok done) (inr checked) next =
          after (bundle_links ++ certificate_links) entry_links (verdict (Ok done) (inr checked))
          (vouched checked.0 ((laws.passed b checked.0).0 checked.1) next)

    rooted : IsOfflineOf o.checker o.policy root i.now i.digest b result
        → (result ≡ Err OutOfMemory) ⊎ Rest after_json
    rooted (inl (error, why, is)) = by_memory (memory_or_other root i.now error why)
      where
        by_memory : (error ≡ sigstore.OutOfMemory) ⊎ (error ≢ sigstore.OutOfMemory)
            → (result ≡ Err OutOfMemory) ⊎ Rest after_json
        by_memory (inl memory) = inl (is ∙ ap (λ (e : SigstoreError). Err (of_root e)) memory)
        by_memory (inr other) =
            let first = laws.roots.refused root i.now error why other in
            let fails = fails_as (HoldsOfRoot root i.now) Holds root_links first.0
            (roots_alike o i root root_is) first.2 in
            inr (refused after_json (of_root error) is (
              first.0,
              first.1,
              fails_front Holds root_links ((bundle_links ++ certificate_links) ++ entry_links) first.0 fails,
            ))
    rooted (inr (trusted, is, (answer, said, next))) =
        inr (after root_links ((bundle_links ++ certificate_links) ++ entry_links)
        (all_as (HoldsOfRoot root i.now) Holds root_links (roots_alike o i root root_is)
        (laws.roots.made root i.now trusted is))
        (verified trusted is answer said next))

  no_root : (why : JsonError) → trusted_root_in i.root ≡ Err why → ¬ Holds RootJson
  no_root why is (root, read, _) =
      let wrong : ◌≡◌ {A = Result TrustedRoot JsonError} (Err why) (Ok root) = sym is ∙ read in absurd cc

  no_bundle : (why : JsonError) → bundle_in i.bundle ≡ Err why → ¬ Holds BundleJson
  no_bundle why is (b, read, _) =
      let wrong : ◌≡◌ {A = Result BundleType JsonError} (Err why) (Ok b) = sym is ∙ read in absurd cc

  abbrev Found : List Link → Type 0
  Found rest = (result ≡ Err OutOfMemory) ⊎ Rest rest

  after_one : (link : Link) (rest : List Link) → Holds link → Found rest → Found (link ∷ rest)
  after_one link rest holds (inl memory) = inl memory
  after_one link rest holds (inr told) = inr (after (link ∷ []) rest (holds, tt) told)

  bundled : (root : TrustedRoot) → trusted_root_in i.root ≡ Ok root → (found : Result BundleType JsonError)
      → bundle_in i.bundle ≡ found
      → AfterRead Bundle found (IsOfflineOf o.checker o.policy root i.now i.digest) result
      → Found (BundleJson ∷ after_json)
  bundled root root_is (Err why) is next =
      inr (refused (BundleJson ∷ after_json) (Json Bundle why) next (BundleJson, refl, inl (no_bundle why is, refl)))
  bundled root root_is (Ok b) is next =
      after_one BundleJson after_json (b, is, tt) (rooted root root_is b is next)

  read_root : (found : Result TrustedRoot JsonError) → trusted_root_in i.root ≡ found
      → AfterRead Root found (λ root. IsOfflineIn o.checker o.policy root i.now i.digest i.bundle) result
      → Found chain_links
  read_root (Err why) is next =
      inr (refused chain_links (Json Root why) next (RootJson, refl, inl (no_root why is, refl)))
  read_root (Ok root) is next =
      after_one RootJson (BundleJson ∷ after_json) (root, is, tt)
      (bundled root is (bundle_in i.bundle) refl next)

  told : Found chain_links → (result ≡ Err OutOfMemory) ⊎ IsOutcomeOf o i result
  told (inl memory) = inl memory
  told (inr rest) =
      inr (record {
        judged = rest.judged;
        tells = judged_tells Holds chain_links result rest.judged;
        kept =
            rest.kept;
      })

  pub outcome_told : IsOffline o.checker o.policy i.root i.now i.digest i.bundle result
      → (result ≡ Err OutOfMemory) ⊎ IsOutcomeOf o i result
  outcome_told is = told (read_root (trusted_root_in i.root) refl is)
