-- What is held of a trusted root, and what each group of links says of the chain under it.
use Rattle.std.proofs.Common.{◌≡◌, ℕ, ℤ, true, List, Some, Result, Ok, Err, inl, inr, ap, sym, subst, ◌∙◌}
use Rattle.std.specs.Prelude.{◌⊎◌, ◌++◌, IsSome, is_some}
use Rattle.std.specs.List.{AllByRecursion}
use Rattle.sig_bundle.specs.LogEntries.{only_entry}
use Rattle.sig_bundle.specs.declared.bundle.Bundle.{Bundle as BundleType}
use Rattle.sig_base.proofs.ResultSteps.{err_is, ok_is}
use Rattle.sig_base.specs.Answers.{Answers, OrMemory, UnlessMemory}
use Rattle.sig_base.specs.ResultSteps.{◌>>=◌}
use Rattle.sig_base.specs.declared.error.SigstoreError.{SigstoreError}
use Rattle.sig_base.specs.declared.scheme.VerifyScheme.{VerifyScheme}
use Rattle.sig_bundle.specs.declared.material.TransparencyLogEntry.{TransparencyLogEntry}
use Rattle.sig_dsse.specs.declared.artifact_digest.ArtifactDigest.{ArtifactDigest}
use Rattle.sig_json.specs.declared.error.JsonError.{JsonError}
use Rattle.sig_json.specs.declared.error.JsonError.TheVariants as json
use Rattle.sig_root.specs.OfBytes.{HasRawBytes}
use Rattle.sig_root.specs.RootRecord.{trusted_root_in}
use Rattle.sig_root.specs.declared.record.TrustedRoot.{TrustedRoot}
use Rattle.sig_verify.specs.BundleLinks.{OfEntry, bundle_links}
use Rattle.sig_verify.specs.CertificateLinks.{Trust as Given, certificate_links}
use Rattle.sig_verify.specs.ContentCheck.{AcceptsSpki}
use Rattle.sig_verify.specs.EntryLinks.{LogKeys}
use Rattle.sig_verify.specs.HeldRoot.{IsGivenBy, IsHeldIn, IsHeldOf, IsOfflineUnder, IsTrustOf, IsVerdictUnder}
use Rattle.sig_verify.specs.HeldRoot.{fault_error, from_fault, trust_answer}
use Rattle.sig_verify.specs.Judged.{Judged}
use Rattle.sig_verify.specs.LinkLaws.{HoldsOfVerified, renamed}
use Rattle.sig_verify.specs.LogEntry.{log_key_answer, vouched as vouched_answer}
use Rattle.sig_verify.specs.OfflineErrors.{link_of, of_json, of_root, of_verification}
use Rattle.sig_verify.specs.OfflineVerdict.{AfterAnswer, IsOfflineFrom, IsOfflineOf, IsVouchedIn, Outcome}
use Rattle.sig_verify.specs.OfflineVerdict.{authorities_of, ct_keys_of, only_entry_among, only_entry_of}
use Rattle.sig_verify.specs.RootLinks.{rekor_keys}
use Rattle.sig_verify.specs.Verdict.{Answer, Checker, IsVerdict, PolicyOf}
use Rattle.sig_verify.specs.Verifier.{IsRefusedRoot, IsVerifierOf, Trusted}
use Rattle.sig_verify.specs.declared.error.VerificationError.{VerificationError}
use Rattle.sig_verify.specs.declared.error.VerificationError.TheVariants as verification
use Rattle.sig_verify.specs.declared.held_root.HeldRoot.{HeldRoot}
use Rattle.sig_verify.specs.declared.held_root.RootFault.{RootFault}
use Rattle.sig_verify.specs.declared.held_root.Trust.{Trust}
use Rattle.sig_verify.specs.declared.link.Link.{Link}
use Rattle.sig_verify.specs.declared.link.Link.TheVariants.{Entry}
use Rattle.sig_verify.specs.declared.logged_entry.LoggedEntry.{LoggedEntry}
use Rattle.sig_verify.specs.declared.offline_error.OfflineError.{OfflineError}
use Rattle.sig_verify.specs.declared.offline_error.OfflineError.TheVariants.{OutOfMemory}
use Rattle.sig_verify.specs.declared.offline_error.Part.TheVariants.{Root}

-- ---- what is held, at the time that was handed in

pub trust_given : (root : TrustedRoot) (now time : ℤ) (verifier : Trusted) (keys : LogKeys) → time ≡ now
    → IsVerifierOf (authorities_of root time) (ct_keys_of root time) verifier → keys ≡ rekor_keys root time
    → (let trust : Trust = record { verifier = verifier; log_keys = keys } in IsTrustOf root now (Ok trust))
trust_given root now time verifier keys same made is =
    let trust : Trust = record { verifier = verifier; log_keys = keys } in
    subst (λ (t : ℤ). IsTrustOf root t (Ok trust)) same (made, is)

pub fault_given : (root : TrustedRoot) (now time : ℤ) (error : SigstoreError) (fault : RootFault) → time ≡ now
    → IsRefusedRoot (authorities_of root time) (ct_keys_of root time) error → error ≡ fault_error fault
    → IsTrustOf root now (Err fault)
fault_given root now time error fault same refused is =
    subst (λ (t : ℤ). IsTrustOf root t (Err fault)) same
    (subst (λ (e : SigstoreError). IsRefusedRoot (authorities_of root time) (ct_keys_of root time) e) is refused)

-- why the text was not read
pub unread_of : (text : List ℕ) (now : ℤ) (why : JsonError) (error : OfflineError) → error ≡ of_json Root why
    → OrMemory json.OutOfMemory why (trusted_root_in text ≡ Err why)
    → (let r : Result HeldRoot OfflineError = Err error in UnlessMemory OutOfMemory r (IsHeldIn text now r))
unread_of text now json.OutOfMemory error same is = inl (ap Err same)
unread_of text now why error same (inl memory) = inl (ap Err (same ∙ ap (of_json Root) memory))
unread_of text now json.NotJson error same (inr is) = inr (json.NotJson, is, same)
unread_of text now json.Float error same (inr is) = inr (json.Float, is, same)
unread_of text now json.Member error same (inr is) = inr (json.Member, is, same)

pub held_of : (text : List ℕ) (root given : TrustedRoot) (now time : ℤ) (held : HeldRoot) → time ≡ now → given ≡ root
    → trusted_root_in text ≡ Ok root → AllByRecursion HasRawBytes root.tlogs → IsGivenBy given time held
    → IsHeldOf text now held
held_of text root given now time held same is read keys by_given = record {
  root = root;
  read = read;
  keys = keys;
  given =
      subst (λ (r : TrustedRoot). IsGivenBy r now held) is
      (subst (λ (t : ℤ). IsGivenBy given t held) same by_given);
}

pub held_there : (text : List ℕ) (now time : ℤ) (held : HeldRoot) → time ≡ now
    → (let r : Result HeldRoot OfflineError = Ok held in UnlessMemory OutOfMemory r (IsHeldIn text time r))
    → IsHeldOf text now held
held_there text now time held same (inl memory) = absurd (let wrong = memory in cc)
held_there text now time held same (inr is) = subst (λ (t : ℤ). IsHeldOf text t held) same is

-- ---- the bundle's own checks

-- a bundle that passed its own checks has one entry
one_there : (b : BundleType) → OfEntry b (λ e. Unit {0}) → IsSome (only_entry_of b)
one_there b (material, brought, (e, logged, _)) =
    ap is_some (ap only_entry_among brought ∙ ap only_entry logged)

at_entry : (Holds : Link → Type 0) (rest : List Link) → AllByRecursion Holds (bundle_links ++ rest) → Holds Entry
at_entry Holds rest (_, (_, (_, (_, (_, (_, (holds, _))))))) = holds

pub entry_there : (k : Checker) (policy : PolicyOf) (trust : Given) (d : ArtifactDigest) (b : BundleType)
    (answer : Answer) → answer ≡ Ok tt
    → (answer ≡ Err verification.OutOfMemory)
    ⊎ Judged (HoldsOfVerified k policy trust d true b) (bundle_links ++ certificate_links) (renamed answer)
    → IsSome (only_entry_of b)
entry_there k policy trust d b (Ok done) passed (inl memory) = absurd (let wrong = memory in cc)
entry_there k policy trust d b (Ok done) passed (inr hold) =
    one_there b (at_entry (HoldsOfVerified k policy trust d true b) certificate_links hold)
entry_there k policy trust d b (Err error) passed judged = absurd (let wrong = passed in cc)

-- an error of a link is not a fault of an artifact's input
pub named_link : (k : Checker) (policy : PolicyOf) (trust : Given) (d : ArtifactDigest) (b : BundleType)
    (error : VerificationError)
    → (let answer : Answer = Err error in (answer ≡ Err verification.OutOfMemory)
    ⊎ Judged (HoldsOfVerified k policy trust d true b) (bundle_links ++ certificate_links) (renamed answer))
    → OrMemory verification.OutOfMemory error (IsSome (link_of (of_verification error)))
named_link k policy trust d b error (inl memory) = inl (err_is error verification.OutOfMemory memory)
named_link k policy trust d b error (inr (link, is, fails)) = inr (ap is_some is)

-- the result of a verifier, renamed
pub verdict_under : (k : Checker) (policy : PolicyOf) (trusted : Trusted) (d : ArtifactDigest) (b : BundleType)
    (answer : Answer) (result : Result (Unit {0}) OfflineError) → result ≡ renamed answer
    → UnlessMemory verification.OutOfMemory answer (IsVerdict k trusted policy d true b answer)
    → UnlessMemory OutOfMemory result (IsVerdictUnder k policy trusted d b result)
verdict_under k policy trusted d b answer result same (inl memory) = inl (same ∙ ap renamed memory)
verdict_under k policy trusted d b answer result same (inr is) = inr (answer, is, same)

-- ---- the links of the entry, of which the key is the first

module _ (spki : AcceptsSpki) (keys : LogKeys) (b : BundleType) (entry : TransparencyLogEntry)
    (only : only_entry_of b ≡ Some entry) where
  abbrev Vouched : Outcome → Type 0
  Vouched result = UnlessMemory OutOfMemory result (IsVouchedIn spki keys b result)

  abbrev after : Result (VerifyScheme × List ℕ) OfflineError → Outcome
  after found = found >>= λ key. vouched_answer (spki key.0 key.1) entry

  pub key_failed : (e : OfflineError) → OrMemory OutOfMemory e (log_key_answer keys entry.log_id ≡ Err e)
      → Vouched (Err e)
  key_failed e (inl memory) = inl (ap (λ (x : OfflineError). let r : Outcome = Err x in r) memory)
  key_failed e (inr told) = inr (entry, only, sym (ap after told))

  pub key_found : (key : VerifyScheme × List ℕ) → log_key_answer keys entry.log_id ≡ Ok key → (result : Outcome)
      → Answers OutOfMemory (λ (o : LoggedEntry). o) result (vouched_answer (spki key.0 key.1) entry) → Vouched result
  key_found key is (Ok logged) told = inr (entry, only, sym (ap after is ∙ told))
  key_found key is (Err e) (inl memory) = inl (ap (λ (x : OfflineError). let r : Outcome = Err x in r) memory)
  key_found key is (Err e) (inr told) = inr (entry, only, sym (ap after is ∙ told))

-- ---- the groups of links in order

module _ (k : Checker) (policy : PolicyOf) (held : HeldRoot) (d : ArtifactDigest) (b : BundleType) where
  abbrev Steps : Outcome → Type 0
  Steps result = UnlessMemory OutOfMemory result (IsOfflineUnder k policy held d b result)

  no_trust : (root : TrustedRoot) (now : ℤ) (found : Result Trust RootFault) (e : OfflineError)
      → IsTrustOf root now found → from_fault found ≡ Err e → IsOfflineOf k policy root now d b (Err e)
  no_trust root now (Ok trust) e given is = absurd (let wrong = is in cc)
  no_trust root now (Err fault) e given is =
      inl (fault_error fault, given, ap Err (sym (err_is {A = Trust} (of_root (fault_error fault)) e is)))

  pub root_failed : (e : OfflineError) → ◌≡◌ {A = Result Trust OfflineError} (Err e) (trust_answer held) → Steps (Err e)
  root_failed e is = inr (λ root now given. no_trust root now held.trust e given (sym is))

  module _ (trust : Trust) (there : ◌≡◌ {A = Result Trust OfflineError} (Ok trust) (trust_answer held)) where
    by_trust : (root : TrustedRoot) (now : ℤ) (found : Result Trust RootFault) (result : Outcome)
        → IsTrustOf root now found → from_fault found ≡ Ok trust
        → IsOfflineFrom k policy trust.verifier trust.log_keys d b result → IsOfflineOf k policy root now d b result
    by_trust root now (Err fault) result given is from = absurd (let wrong = is in cc)
    by_trust root now (Ok other) result given is from =
        let same : other ≡ trust = ok_is other trust is in
        let mine : IsTrustOf root now (Ok trust) = subst (λ (t : Trust). IsTrustOf root now (Ok t)) same given in
        inr (
          trust.verifier,
          mine.0,
          subst (λ (keys : LogKeys). IsOfflineFrom k policy trust.verifier keys d b result) mine.1 from,
        )

    under : (result : Outcome) → IsOfflineFrom k policy trust.verifier trust.log_keys d b result → Steps result
    under result from = inr (λ root now given. by_trust root now held.trust result given (sym there) from)

    failed : (answer : Answer) (e : OfflineError) → (let r : Result (Unit {0}) OfflineError = Err e in r ≡ renamed answer)
        → AfterAnswer answer (IsVouchedIn k.spki trust.log_keys b) (Err e)
    failed (Ok done) e is = absurd (let wrong = is in cc)
    failed (Err x) e is = ap Err (err_is e (of_verification x) is)

    pub signed_failed : (e : OfflineError) → (let r : Result (Unit {0}) OfflineError = Err e in
        UnlessMemory OutOfMemory r (IsVerdictUnder k policy trust.verifier d b r)) → Steps (Err e)
    signed_failed e (inl memory) = inl (ap Err (err_is e OutOfMemory memory))
    signed_failed e (inr (answer, verdict, is)) = under (Err e) (answer, verdict, failed answer e is)

    passed : (answer : Answer) (result : Outcome) → (let r : Result (Unit {0}) OfflineError = Ok tt in r ≡ renamed answer)
        → IsVouchedIn k.spki trust.log_keys b result
        → AfterAnswer answer (IsVouchedIn k.spki trust.log_keys b) result
    passed (Ok done) result is vouched = vouched
    passed (Err x) result is vouched = absurd (let wrong = is in cc)

    pub all_logged : (let r : Result (Unit {0}) OfflineError = Ok tt in
        UnlessMemory OutOfMemory r (IsVerdictUnder k policy trust.verifier d b r)) → (result : Outcome)
        → UnlessMemory OutOfMemory result (IsVouchedIn k.spki trust.log_keys b result) → Steps result
    all_logged signed result (inl memory) = inl memory
    all_logged (inl memory) result (inr vouched) = absurd (let wrong = memory in cc)
    all_logged (inr (answer, verdict, is)) result (inr vouched) =
        under result (answer, verdict, passed answer result is vouched)
