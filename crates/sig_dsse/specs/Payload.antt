-- *Payload digests*: the digests of the statement that a payload is, or why there are none.
use Rattle.std.specs.Prelude.{ℕ, List, Option, Some, None, Result, Ok, Err}
use Rattle.sig_dsse.specs.declared.artifact_digest.ArtifactDigest.{ArtifactDigest}
use Rattle.sig_dsse.specs.declared.payload.PayloadFault.{PayloadFault}
use Rattle.sig_dsse.specs.declared.payload.PayloadFault.TheVariants.{NoStatement, Subjects, OutOfMemory}
use Rattle.sig_dsse.specs.declared.recognized.SubjectFault.{SubjectFault}
use Rattle.sig_dsse.specs.declared.recognized.SubjectFault.TheVariants as fault
use Rattle.sig_dsse.specs.Recognized.{digests_or_fault}
use Rattle.sig_dsse.specs.Statement.{Statement, statement_of}

-- only out of memory is not a fault of the subjects
abbrev pub payload_fault : SubjectFault → PayloadFault
payload_fault (fault.TooManySubjects count) = Subjects (fault.TooManySubjects count)
payload_fault (fault.TooManyDigests count) = Subjects (fault.TooManyDigests count)
payload_fault (fault.Malformed name) = Subjects (fault.Malformed name)
payload_fault fault.NoneRecognized = Subjects fault.NoneRecognized
payload_fault fault.OutOfMemory = OutOfMemory

abbrev pub or_payload_fault : Result (List ArtifactDigest) SubjectFault → Result (List ArtifactDigest) PayloadFault
or_payload_fault (Ok digests) = Ok digests
or_payload_fault (Err fault) = Err (payload_fault fault)

abbrev pub digests_of_found : Option Statement → Result (List ArtifactDigest) PayloadFault
digests_of_found None = Err NoStatement
digests_of_found (Some statement) = or_payload_fault (digests_or_fault statement)

abbrev pub digests_of_payload : List ℕ → Result (List ArtifactDigest) PayloadFault
digests_of_payload payload = digests_of_found (statement_of payload)
