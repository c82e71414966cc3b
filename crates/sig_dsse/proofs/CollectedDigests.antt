-- Digests collected one thing after another.
use Rattle.std.proofs.Common.{◌≡◌, ◌≢◌, ℕ, ◌<◌, ◌≤◌, List, [], ◌∷◌, ◌++◌, length, map, Result, Ok, Err, refl, sym, ap}
use Rattle.std.proofs.Common.{subst, ◌∙◌, arith, append_assoc, append-nil}
use Rattle.std.proofs.lemmas.Bool.{lt-ltb, le-ltb}
use Rattle.sig_base.proofs.IndexedElements.{more_made, nothing_before}
use Rattle.sig_base.specs.ResultSteps.{◌>>=◌}
use Rattle.sig_base.specs.Answers.{Answers}
use Rattle.sig_dsse.specs.declared.artifact_digest.ArtifactDigest.{ArtifactDigest}
use Rattle.sig_dsse.specs.declared.recognized.SubjectFault.{SubjectFault}
use Rattle.sig_dsse.specs.declared.recognized.SubjectFault.TheVariants.{TooManySubjects, NoneRecognized, OutOfMemory}
use Rattle.sig_dsse.specs.declared.statement.InTotoStatementV1.{InTotoStatementV1}
use Rattle.sig_dsse.specs.declared.statement.Subject.{Subject as HeldSubject}
use Rattle.sig_dsse.specs.Recognized.{digests_of_each, map_digests, not_none, digests_of_maps, digests_or_fault}
use Rattle.sig_dsse.specs.Seen.{seen, seen_subject}
use Rattle.sig_dsse.specs.Statement.{DigestTexts, Subject}

abbrev Collected : Type 0
Collected = Result (List ArtifactDigest) SubjectFault

module _ {A : Type 0} where
  -- these digests, and those of what is left
  abbrev pub with_left : (A → Collected) → List ArtifactDigest → List A → Collected
  with_left f digests left = digests_of_each f left >>= λ others. Ok (digests ++ others)

  -- after the digests that were there before stand those of what is done, and those of what is left go after them
  pub record SoFar (f : A → Collected) (all left : List A) (before after : List ArtifactDigest) : Type 0 where
    pub more : List ArtifactDigest
    pub put : after ≡ before ++ more
    pub meant : digests_of_each f all ≡ with_left f more left

  pub so_far-none : (f : A → Collected) (all left : List A) (before after : List ArtifactDigest) → left ≡ all
      → after ≡ before → SoFar f all left before after
  so_far-none f all left before after whole same =
      record {
        more = [];
        put = same ∙ sym (append-nil before);
        meant = rw whole (nothing_before (digests_of_each f all));
      }

  pub so_far-more : (f : A → Collected) (all left rest : List A) (before after next : List ArtifactDigest) (x : A)
      (more : List ArtifactDigest) → SoFar f all left before after → left ≡ x ∷ rest → f x ≡ Ok more
      → next ≡ after ++ more → SoFar f all rest before next
  so_far-more f all left rest before after next x more so_far here is put =
      record {
        more = so_far.more ++ more;
        put = put ∙ ap (λ d. d ++ more) so_far.put ∙ append_assoc before so_far.more more;
        meant = so_far.meant ∙ rw (here, is) (more_made so_far.more more (digests_of_each f rest));
      }

  pub so_far-refused : (f : A → Collected) (all left rest : List A) (before after : List ArtifactDigest) (x : A)
      (e : SubjectFault) → SoFar f all left before after → left ≡ x ∷ rest → f x ≡ Err e
      → digests_of_each f all ≡ Err e
  so_far-refused f all left rest before after x e so_far here is = so_far.meant ∙ rw (here, is) refl

  pub so_far-all : (f : A → Collected) (all left : List A) (before after : List ArtifactDigest)
      → SoFar f all left before after → left ≡ []
      → (more : List ArtifactDigest) × (digests_of_each f all ≡ Ok more) × (after ≡ before ++ more)
  so_far-all f all left before after so_far none =
      (so_far.more, so_far.meant ∙ rw none (ap Ok (append-nil so_far.more)), so_far.put)

  pub so_far-whole : (f : A → Collected) (all left : List A) (after : List ArtifactDigest)
      → SoFar f all left [] after → left ≡ [] → digests_of_each f all ≡ Ok after
  so_far-whole f all left after so_far none =
      let whole = so_far-all f all left [] after so_far none in whole.1 ∙ ap Ok (sym whole.2)

pub ruleset collected = (so_far-none, so_far-more, so_far-refused, so_far-all, so_far-whole)

-- ---- the digests of subjects

pub maps-many : (maps : List DigestTexts) (n : ℕ) → 1024 < n → n ≡ length maps
    → digests_of_maps maps ≡ Err (TooManySubjects n)
unfolding digests_of_maps
maps-many maps n many count = rw (← count, lt-ltb 1024 n many) refl

maps-few : (maps : List DigestTexts) (n : ℕ) → n ≤ 1024 → n ≡ length maps
    → digests_of_maps maps ≡ (digests_of_each map_digests maps >>= not_none)
unfolding digests_of_maps
maps-few maps n few count = rw (← count, le-ltb 1024 n few) refl

pub maps-refused : (maps : List DigestTexts) (n : ℕ) (e : SubjectFault) → n ≤ 1024 → n ≡ length maps
    → digests_of_each map_digests maps ≡ Err e → digests_of_maps maps ≡ Err e
maps-refused maps n e few count is = maps-few maps n few count ∙ rw is refl

pub maps-none : (maps : List DigestTexts) (n : ℕ) (digests : List ArtifactDigest) → n ≤ 1024 → n ≡ length maps
    → digests_of_each map_digests maps ≡ Ok digests → length digests ≡ 0 → digests_of_maps maps ≡ Err NoneRecognized
maps-none maps n [] few count is none = maps-few maps n few count ∙ rw is refl
maps-none maps n (d ∷ ds) few count is none = absurd (omega arith)

pub maps-found : (maps : List DigestTexts) (n : ℕ) (digests : List ArtifactDigest) → n ≤ 1024 → n ≡ length maps
    → digests_of_each map_digests maps ≡ Ok digests → length digests ≢ 0 → digests_of_maps maps ≡ Ok digests
maps-found maps n [] few count is some = absurd (some refl)
maps-found maps n (d ∷ ds) few count is some = maps-few maps n few count ∙ rw is refl

pub ruleset recognized = (maps-many, maps-refused, maps-none, maps-found)

-- ---- the digests of a statement

digests-seen : (subjects : List HeldSubject)
    → map (λ (s : Subject). s.digest) (map seen_subject subjects) ≡ map (λ (s : HeldSubject). s.digest) subjects
digests-seen [] = refl
digests-seen (s ∷ ss) = ap (λ rest. s.digest ∷ rest) (digests-seen ss)

pub maps-seen : (statement : InTotoStatementV1) (maps : List DigestTexts)
    (result : Result (List ArtifactDigest) SubjectFault) → maps ≡ map (λ (s : HeldSubject). s.digest) statement.subject
    → Answers OutOfMemory (λ digests. digests) result (digests_of_maps maps) → Answers OutOfMemory (λ digests. digests)
    result (digests_or_fault (seen statement))
maps-seen statement maps result same answers =
    subst (λ meant. Answers OutOfMemory (λ digests. digests) result (digests_of_maps meant))
    (same ∙ sym (digests-seen statement.subject)) answers

pub ruleset statement_seen = (maps-seen)
