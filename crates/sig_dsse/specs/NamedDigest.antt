-- *Named digests*: what the digests that are taken of a statement are, in the words of its subjects.
use Rattle.std.specs.Prelude.{◌≡◌, ◌≢◌, ◌≤◌, ◌↔◌, ⊤, ℕ, Bool, ◌||◌, bytes_eq, List, [], ◌∷◌, filter, flat_map, length}
use Rattle.std.specs.Prelude.{codes, Ok, Err}
use Rattle.std.specs.List.{AllByRecursion}
use Rattle.hex.specs.Hex.{decode_sized}
use Rattle.sig_dsse.specs.declared.artifact_digest.ArtifactDigest.{ArtifactDigest}
use Rattle.sig_dsse.specs.declared.artifact_digest.ArtifactDigest.TheVariants.{Sha256, Sha512}
use Rattle.sig_dsse.specs.declared.recognized.SubjectFault.TheVariants.{NoneRecognized}
use Rattle.sig_dsse.specs.Digest.{digest_algorithm, digest_bytes}
use Rattle.sig_dsse.specs.Recognized.{most_subjects, most_digests, digests_or_fault}
use Rattle.sig_dsse.specs.Statement.{Statement, digest_maps}

-- the entry has a name that is known
abbrev pub is_known : List ℕ × List ℕ → Bool
is_known entry = bytes_eq entry.0 (codes "sha256") || bytes_eq entry.0 (codes "sha512")

-- the entries with a known name, over all subjects in order, and names in byte order
abbrev pub named : Statement → List (List ℕ × List ℕ)
named statement = flat_map (filter is_known) (digest_maps statement)

-- at most 1024 subjects, and at most 32 digests of each
pub record IsWithinLimits (statement : Statement) : Type 0 where
  pub subjects : length (digest_maps statement) ≤ most_subjects
  pub digests : AllByRecursion (λ digests. length digests ≤ most_digests) (digest_maps statement)

-- how many bytes the algorithm gives
abbrev pub digest_len : ArtifactDigest → ℕ
digest_len (Sha256 bytes) = 32
digest_len (Sha512 bytes) = 64

-- the entry has the algorithm's name, and the digest's bytes in hexadecimal digits of either case
abbrev pub IsEntryOf : ArtifactDigest → List ℕ × List ℕ → Type 0
IsEntryOf digest entry =
    (entry.0 ≡ digest_algorithm digest) × (decode_sized entry.1 (digest_len digest) ≡ Ok (digest_bytes digest))

-- digest by digest, in order
abbrev pub AreEntriesOf : List ArtifactDigest → List (List ℕ × List ℕ) → Type 0
AreEntriesOf [] [] = ⊤
AreEntriesOf (digest ∷ digests) (entry ∷ entries) = IsEntryOf digest entry × AreEntriesOf digests entries
AreEntriesOf [] (entry ∷ entries) = ⊥
AreEntriesOf (digest ∷ digests) [] = ⊥

-- they are those of the named entries, one each and in order, and there is one
pub record AreTaken (statement : Statement) (digests : List ArtifactDigest) : Type 0 where
  pub within : IsWithinLimits statement
  pub entries : AreEntriesOf digests (named statement)
  pub some : digests ≢ []

-- digests are taken if and only if they are those of the named entries
abbrev pub TakesTheNamed : Type 0
TakesTheNamed =
    (statement : Statement) (digests : List ArtifactDigest) → (digests_or_fault statement ≡ Ok digests) ↔ AreTaken
    statement digests

-- no digest is found if and only if no entry is named
abbrev pub FindsNone : Type 0
FindsNone =
    (statement : Statement) → (digests_or_fault statement ≡ Err NoneRecognized) ↔
    (IsWithinLimits statement × (named statement ≡ []))
