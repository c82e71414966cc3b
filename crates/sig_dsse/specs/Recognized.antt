-- *Subject digests*: the digests of a statement that are named exactly `sha256` or `sha512`, over all subjects in
-- order and names in byte order.
use Rattle.std.specs.Prelude.{ℕ, nat_lt, bytes_eq, if◌then◌else◌, List, [], ◌∷◌, ◌++◌, length, codes, Result, Ok, Err}
use Rattle.sig_base.specs.ResultSteps.{◌>>=◌}
use Rattle.hex.specs.Hex.{decode_sized}
use Rattle.sig_dsse.specs.declared.artifact_digest.ArtifactDigest.{ArtifactDigest}
use Rattle.sig_dsse.specs.declared.artifact_digest.ArtifactDigest.TheVariants.{Sha256, Sha512}
use Rattle.sig_dsse.specs.declared.recognized.DigestName.{DigestName}
use Rattle.sig_dsse.specs.declared.recognized.DigestName.TheVariants.{Sha256 as NamedSha256, Sha512 as NamedSha512}
use Rattle.sig_dsse.specs.declared.recognized.SubjectFault.{SubjectFault}
use Rattle.sig_dsse.specs.declared.recognized.SubjectFault.TheVariants.{TooManySubjects, TooManyDigests, Malformed}
use Rattle.sig_dsse.specs.declared.recognized.SubjectFault.TheVariants.{NoneRecognized}
use Rattle.sig_dsse.specs.Statement.{DigestTexts, Statement, digest_maps}

-- the greatest number of subjects, and of digests of each
abbrev pub most_subjects : ℕ
most_subjects = 1024

abbrev pub most_digests : ℕ
most_digests = 32

-- the digest of decoded bytes, or the fault of its name
abbrev pub digest_or_malformed : {E : Type 0} → DigestName → (List ℕ → ArtifactDigest) → Result (List ℕ) E
    → Result (List ArtifactDigest) SubjectFault
digest_or_malformed name digest (Ok bytes) = Ok (digest bytes ∷ [])
digest_or_malformed name digest (Err e) = Err (Malformed name)

-- the digest of an entry: hexadecimal digits in either case (RFC 4648 section 8) of 32 bytes under `sha256`, of 64
-- under `sha512`; an empty list under another name
unfoldable pub entry_digest : List ℕ × List ℕ → Result (List ArtifactDigest) SubjectFault
entry_digest entry =
    if bytes_eq entry.0 (codes "sha256") then digest_or_malformed NamedSha256 Sha256 (decode_sized entry.1 32)
    else if bytes_eq entry.0 (codes "sha512") then digest_or_malformed NamedSha512 Sha512 (decode_sized entry.1 64)
    else Ok []

-- the digests of some things one after another, or the first fault
abbrev pub digests_of_each : {A : Type 0} → (A → Result (List ArtifactDigest) SubjectFault) → List A
    → Result (List ArtifactDigest) SubjectFault
digests_of_each digests_of [] = Ok []
digests_of_each digests_of (x ∷ xs) =
    digests_of x >>= λ first. digests_of_each digests_of xs >>= λ others. Ok (first ++ others)

-- the digests of a subject
unfoldable pub map_digests : DigestTexts → Result (List ArtifactDigest) SubjectFault
map_digests digests =
    if nat_lt most_digests (length digests) then Err (TooManyDigests (length digests))
    else digests_of_each entry_digest digests

-- one digest or more
abbrev pub not_none : List ArtifactDigest → Result (List ArtifactDigest) SubjectFault
not_none [] = Err NoneRecognized
not_none (digest ∷ digests) = Ok (digest ∷ digests)

-- the digests of subjects, by the map that each has, or the first rule that is broken
unfoldable pub digests_of_maps : List DigestTexts → Result (List ArtifactDigest) SubjectFault
digests_of_maps maps =
    if nat_lt most_subjects (length maps) then Err (TooManySubjects (length maps))
    else digests_of_each map_digests maps >>= not_none

-- the digests of a statement
abbrev pub digests_or_fault : Statement → Result (List ArtifactDigest) SubjectFault
digests_or_fault statement = digests_of_maps (digest_maps statement)
