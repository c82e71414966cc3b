-- What the answer for a payload tells of its statement.
use Rattle.std.proofs.Common.{◌≡◌, ℕ, List, Option, Some, None, Result, Ok, Err, refl}
use Rattle.sig_dsse.specs.declared.artifact_digest.ArtifactDigest.{ArtifactDigest}
use Rattle.sig_dsse.specs.declared.payload.PayloadFault.TheVariants.{NoStatement, Subjects}
use Rattle.sig_dsse.specs.declared.recognized.SubjectFault.{SubjectFault}
use Rattle.sig_dsse.specs.declared.recognized.SubjectFault.TheVariants.{TooManySubjects, TooManyDigests, Malformed}
use Rattle.sig_dsse.specs.declared.recognized.SubjectFault.TheVariants.{NoneRecognized, OutOfMemory}
use Rattle.sig_dsse.specs.Payload.{or_payload_fault, digests_of_found, digests_of_payload}
use Rattle.sig_dsse.specs.Recognized.{digests_or_fault}
use Rattle.sig_dsse.specs.Statement.{Statement, statement_of}

abbrev Collected : Type 0
Collected = Result (List ArtifactDigest) SubjectFault

-- these digests, or this fault, of the statement that the payload is
abbrev pub HasStatement : List ℕ → Collected → Type 0
HasStatement payload answer =
    (statement : Statement) × (statement_of payload ≡ Some statement) × (digests_or_fault statement ≡ answer)

same_digests : (answer : Collected) (digests : List ArtifactDigest) → or_payload_fault answer ≡ Ok digests
    → answer ≡ Ok digests
same_digests (Ok found) digests told = cc
same_digests (Err fault) digests told = cc

same_fault : (answer : Collected) (fault : SubjectFault) → or_payload_fault answer ≡ Err (Subjects fault)
    → answer ≡ Err fault
same_fault (Ok found) fault told = cc
same_fault (Err (TooManySubjects count)) fault told = cc
same_fault (Err (TooManyDigests count)) fault told = cc
same_fault (Err (Malformed name)) fault told = cc
same_fault (Err NoneRecognized) fault told = cc
same_fault (Err OutOfMemory) fault told = cc

some_statement : (answer : Collected) → or_payload_fault answer ≡ Err NoStatement → ⊥
some_statement (Ok found) told = cc
some_statement (Err (TooManySubjects count)) told = cc
some_statement (Err (TooManyDigests count)) told = cc
some_statement (Err (Malformed name)) told = cc
some_statement (Err NoneRecognized) told = cc
some_statement (Err OutOfMemory) told = cc

found_digests : (found : Option Statement) (digests : List ArtifactDigest) → digests_of_found found ≡ Ok digests
    → (statement : Statement) × (found ≡ Some statement) × (digests_or_fault statement ≡ Ok digests)
found_digests None digests told = cc
found_digests (Some statement) digests told = (statement, refl, same_digests (digests_or_fault statement) digests told)

found_fault : (found : Option Statement) (fault : SubjectFault) → digests_of_found found ≡ Err (Subjects fault)
    → (statement : Statement) × (found ≡ Some statement) × (digests_or_fault statement ≡ Err fault)
found_fault None fault told = cc
found_fault (Some statement) fault told = (statement, refl, same_fault (digests_or_fault statement) fault told)

found_none : (found : Option Statement) → digests_of_found found ≡ Err NoStatement → found ≡ None
found_none None told = refl
found_none (Some statement) told = absurd (some_statement (digests_or_fault statement) told)

pub payload_told-digests : (payload : List ℕ) (digests : List ArtifactDigest)
    → digests_of_payload payload ≡ Ok digests → HasStatement payload (Ok digests)
payload_told-digests payload digests told = found_digests (statement_of payload) digests told

pub payload_told-fault : (payload : List ℕ) (fault : SubjectFault)
    → digests_of_payload payload ≡ Err (Subjects fault) → HasStatement payload (Err fault)
payload_told-fault payload fault told = found_fault (statement_of payload) fault told

pub payload_told-none : (payload : List ℕ) → digests_of_payload payload ≡ Err NoStatement → statement_of payload ≡ None
payload_told-none payload told = found_none (statement_of payload) told
