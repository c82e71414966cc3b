-- What was read is bytes, where the law of the outcomes asks for it.
use Rattle.std.proofs.Common.{◌≡◌, ℕ, zero, suc, ℤ, List, [], ◌∷◌, Some, Result, Ok}
use Rattle.std.proofs.Common.{Err, inl, inr, refl, sym, ap, subst, ◌∙◌}
use Rattle.std.specs.Prelude.{slice_get}
use Rattle.std.specs.List.{AllByRecursion}
use Rattle.hex.specs.Hex.{encode_lower}
use Rattle.std.proofs.lemmas.Option.{some_pair_parts}
use Rattle.sig_base.proofs.OptionSteps.{bind_is, some_is, when_is}
use Rattle.sig_base.proofs.ResultSteps.{err_is, ok_is}
use Rattle.sig_base.specs.Answers.{UnlessMemory}
use Rattle.sig_base.specs.OptionSteps.{◌>>=◌}
use Rattle.sig_bundle.specs.LogEntries.{only_entry}
use Rattle.sig_bundle.specs.BundleRecord.{bundle_in}
use Rattle.sig_checked_bundle.specs.Checked.{Checked}
use Rattle.sig_checked_bundle.specs.OfBytes.{HasCertificateOfBytes}
use Rattle.sig_bundle.specs.declared.bundle.Bundle.{Bundle as BundleType}
use Rattle.sig_dsse.specs.declared.artifact_digest.ArtifactDigest.{ArtifactDigest}
use Rattle.sig_json.specs.declared.error.JsonError.{JsonError}
use Rattle.sig_root.proofs.LastKeys.{only_last}
use Rattle.sig_root.specs.OfBytes.{HasRawBytes}
use Rattle.sig_root.specs.Picked.{key_bytes_at, holds, key_at}
use Rattle.sig_root.specs.RootRecord.{trusted_root_in}
use Rattle.sig_root.specs.declared.record.PublicKey.{PublicKey}
use Rattle.sig_root.specs.declared.record.TransparencyLogInstance.{TransparencyLogInstance}
use Rattle.sig_root.specs.declared.record.TrustedRoot.{TrustedRoot}
use Rattle.sig_verify.proofs.CertificateBytes.{read_of_bundle}
use Rattle.sig_verify.specs.EntryLinks.{HasKeyOfBytes}
use Rattle.sig_verify.specs.HeldRoot.{IsGivenBy, IsHeldIn, IsHeldOf, IsOfflineUnder}
use Rattle.sig_verify.specs.Links.{Inputs, Outside}
use Rattle.sig_verify.specs.OfflineLaws.{AreReadInputs, HasEntryOfBytes, IsOfBundleOfBytes, IsOutcomeOf}
use Rattle.sig_verify.specs.OfflineLaws.{OutcomesAreJudged}
use Rattle.sig_verify.specs.OfflineErrors.{link_of}
use Rattle.sig_verify.specs.OfflineVerdict.{AfterRead, IsOfflineIn, IsOfflineOf, Outcome, only_entry_among}
use Rattle.sig_verify.specs.Outcome.{GoesBySteps, KeepsEntry, ShowsFirstLink, inputs_of}
use Rattle.sig_verify.specs.RootLinks.{rekor_keys}
use Rattle.sig_verify.specs.Verdict.{Checker, PolicyOf}
use Rattle.sig_verify.specs.declared.held_root.HeldRoot.{HeldRoot}
use Rattle.sig_verify.specs.declared.link.Link.TheVariants.{RootJson}
use Rattle.sig_verify.specs.declared.offline_error.OfflineError.{OfflineError}
use Rattle.sig_verify.specs.declared.offline_error.OfflineError.TheVariants.{OutOfMemory}
use Rattle.sig_verify.specs.declared.offline_error.Part.TheVariants.{Root, Bundle}

abbrev Instance : Type 0
Instance = TransparencyLogInstance

-- ---- the instances of a log

at : (is : List Instance) (n : ℕ) (i : Instance) → AllByRecursion HasRawBytes is → slice_get is n ≡ Some i
    → HasRawBytes i
at [] n i all found = absurd cc
at (j ∷ is) zero i all found = subst HasRawBytes (some_is j i found) all.0
at (j ∷ is) (suc n) i all found = at is n i all.1 found

-- the key that an instance gives is its own
raw_of : (now : ℤ) (i : Instance) (id key : List ℕ) → key_at now i ≡ Some (id, key)
    → (k : PublicKey) × (i.public_key ≡ Some k) × (k.raw_bytes ≡ Some key)
unfolding key_at
raw_of now i id key is =
    let first = bind_is i.public_key
    (λ (k : PublicKey). key_bytes_at now k >>= (λ raw. i.log_id >>= (λ log. Some (encode_lower log, raw))))
    (id, key) is in
    let second = bind_is (key_bytes_at now first.0)
    (λ (raw : List ℕ). i.log_id >>= (λ log. Some (encode_lower log, raw)))
    (id, key) first.2 in
    let third = bind_is i.log_id (λ (log : List ℕ). Some (encode_lower log, second.0)) (id, key) second.2 in
    let same : second.0 ≡ key = (some_pair_parts (encode_lower third.0) id second.0 key third.2).1 in (
      first.0,
      first.1,
      (when_is (holds now first.0.valid_for) first.0.raw_bytes key (second.1 ∙ ap (λ (k : List ℕ). Some k) same)).1,
    )

keys_are_bytes : (root : TrustedRoot) (now : ℤ) (c : Checked) → AllByRecursion HasRawBytes root.tlogs
    → HasKeyOfBytes (rekor_keys root now) c.entry
keys_are_bytes root now c all id key named found =
    let last = only_last now root.tlogs (encode_lower id) key found in
    let raw = raw_of now last.gives.0 (encode_lower id) key last.gives.2 in
    at root.tlogs last.index last.gives.0 all last.gives.1 raw.0 key raw.1 raw.2

-- ---- root and bundle

pub bundle_bytes : (text : List ℕ) (b : BundleType) → bundle_in text ≡ Ok b → HasCertificateOfBytes b → HasEntryOfBytes b
    → IsOfBundleOfBytes text
bundle_bytes text b is certificate entry other other_is =
    subst (λ (x : BundleType). HasCertificateOfBytes x × HasEntryOfBytes x) (ok_is b other (sym is ∙ other_is))
    (certificate, entry)

pub are_read : (i : Inputs) (root : TrustedRoot) → trusted_root_in i.root ≡ Ok root
    → AllByRecursion HasRawBytes root.tlogs → IsOfBundleOfBytes i.bundle → AreReadInputs i
are_read i root root_is all bytes = record {
  checked = λ other b c other_is bundle_is is. read_of_bundle b (bytes b bundle_is).0 c is;
  logged = λ other b c other_is bundle_is is.
      (let entry = (bytes b bundle_is).1 c.entry (ap only_entry_among is.brought ∙ ap only_entry is.logged) in
      record {
        body = entry.0;
        id = entry.1;
        key = keys_are_bytes other i.now c
            (subst (λ (r : TrustedRoot). AllByRecursion HasRawBytes r.tlogs)
            (ok_is root other (sym root_is ∙ other_is)) all);
      });
}

-- ---- the outcome of each text of which a root is held

abbrev pub inputs : List ℕ → ℤ → ArtifactDigest → List ℕ → Inputs
inputs root now d bundle = inputs_of root now d bundle

-- the bundle was read
pub bundle_read : (text : List ℕ) (b : BundleType) (Next : BundleType → Outcome → Type 0) (result : Outcome)
    → bundle_in text ≡ Ok b → UnlessMemory OutOfMemory result (Next b result)
    → UnlessMemory OutOfMemory result (AfterRead Bundle (bundle_in text) Next result)
bundle_read text b Next result read (inl memory) = inl memory
bundle_read text b Next result read (inr next) =
    inr (subst (λ (found : Result BundleType JsonError). AfterRead Bundle found Next result) (sym read) next)

after_bundle : (k : Checker) (policy : PolicyOf) (held : HeldRoot) (d : ArtifactDigest) (root : TrustedRoot) (now : ℤ)
    (found : Result BundleType JsonError) (result : Outcome) → IsGivenBy root now held
    → AfterRead Bundle found (IsOfflineUnder k policy held d) result
    → AfterRead Bundle found (IsOfflineOf k policy root now d) result
after_bundle k policy held d root now (Ok b) result given steps = steps root now given
after_bundle k policy held d root now (Err why) result given is = is

module _ (o : Outside) (held : HeldRoot) (d : ArtifactDigest) (bundle : List ℕ) (result : Outcome)
    (steps : UnlessMemory OutOfMemory result
    (AfterRead Bundle (bundle_in bundle) (IsOfflineUnder o.checker o.policy held d) result))
    (root : List ℕ) (now : ℤ) (is : IsHeldOf root now held) where
  pub steps_told : GoesBySteps o (inputs root now d bundle) result
  steps_told =
      elim steps [
        | inl memory ↦ inl memory
        | inr after ↦
            inr (subst (λ (found : Result TrustedRoot JsonError).
            AfterRead Root found (λ r. IsOfflineIn o.checker o.policy r now d bundle) result) (sym is.read)
            (after_bundle o.checker o.policy held d is.root now (bundle_in bundle) result is.given after))
      ]

  module _ (law : OutcomesAreJudged) (bytes : UnlessMemory OutOfMemory result (IsOfBundleOfBytes bundle)) where
    told : UnlessMemory OutOfMemory result (IsOutcomeOf o (inputs root now d bundle) result)
    told =
        elim bytes [
          | inl memory ↦ inl memory
          | inr read ↦ elim steps_told [
            | inl memory ↦ inl memory
            | inr by ↦
                law o (inputs root now d bundle)
                (are_read (inputs root now d bundle) is.root is.read is.keys read) result by
          ]
        ]

    pub links_told : ShowsFirstLink o (inputs root now d bundle) result
    links_told = elim told [ inl memory ↦ inl memory | inr all ↦ inr all.judged ]

    pub kept_told : KeepsEntry (inputs root now d bundle) result
    kept_told = kept result told
      where
        kept : (r : Outcome) → UnlessMemory OutOfMemory r (IsOutcomeOf o (inputs root now d bundle) r)
            → KeepsEntry (inputs root now d bundle) r
        kept (Err error) outcome = tt
        kept (Ok offline) (inl memory) = absurd cc
        kept (Ok offline) (inr all) = all.kept offline refl

-- ---- the outcome where the text is not a trusted root

module _ (o : Outside) (root : List ℕ) (now : ℤ) (d : ArtifactDigest) (bundle : List ℕ) (e : OfflineError)
    (unread : (let r : Result HeldRoot OfflineError = Err e in UnlessMemory OutOfMemory r (IsHeldIn root now r))) where
  pub unread_steps : GoesBySteps o (inputs root now d bundle) (Err e)
  unread_steps =
      elim unread [
        | inl memory ↦ inl (ap Err (err_is e OutOfMemory memory))
        | inr is ↦
            inr (subst (λ (found : Result TrustedRoot JsonError).
            AfterRead Root found (λ r. IsOfflineIn o.checker o.policy r now d bundle) (Err e)) (sym is.1)
            (ap Err is.2))
      ]

  pub unread_links : ShowsFirstLink o (inputs root now d bundle) (Err e)
  unread_links =
      elim unread [
        | inl memory ↦ inl (ap Err (err_is e OutOfMemory memory))
        | inr is ↦
            inr (
              RootJson,
              ap link_of is.2,
              inl (
                (λ holds. let wrong : ◌≡◌ {A = Result TrustedRoot JsonError} (Err is.0) (Ok holds.0) =
                    sym is.1 ∙ holds.1 in absurd cc),
                refl,
              ),
            )
      ]
