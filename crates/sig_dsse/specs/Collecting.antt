-- For private clauses: digests that are put after those that were there.
use Rattle.std.specs.Prelude.{◌≡◌, List, [], ◌∷◌, ◌++◌, Option, Some, None, Result, Ok, Err}
use Rattle.sig_base.specs.Answers.{OrMemory}
use Rattle.sig_dsse.specs.declared.artifact_digest.ArtifactDigest.{ArtifactDigest}
use Rattle.sig_dsse.specs.declared.recognized.SubjectFault.{SubjectFault}
use Rattle.sig_dsse.specs.declared.recognized.SubjectFault.TheVariants.{OutOfMemory}

-- the digests that are meant are appended, or the fault that is meant is returned, unless memory ran out
abbrev pub AddsDigests : {A : Type 0} → List ArtifactDigest → List ArtifactDigest → Result A SubjectFault
    → Result (List ArtifactDigest) SubjectFault → Type 0
AddsDigests before after (Ok x) meant = (more : List ArtifactDigest) × (meant ≡ Ok more) × (after ≡ before ++ more)
AddsDigests before after (Err e) meant = OrMemory OutOfMemory e (meant ≡ Err e)

abbrev pub listed_digest : Option ArtifactDigest → List ArtifactDigest
listed_digest None = []
listed_digest (Some digest) = digest ∷ []

-- the same result, as a list
abbrev pub listing : Result (Option ArtifactDigest) SubjectFault → Result (List ArtifactDigest) SubjectFault
listing (Ok digest) = Ok (listed_digest digest)
listing (Err e) = Err e
