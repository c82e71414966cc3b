-- For private clauses: what is read of a statement if only its digests are kept.
use Rattle.std.specs.Prelude.{ℕ, List, map, Option, option_map, Result}
use Rattle.std.specs.Option.{ok_or}
use Rattle.sig_json.specs.Data.{Data}
use Rattle.sig_json.specs.Kinds.{text_of}
use Rattle.sig_dsse.specs.declared.payload.PayloadFault.{PayloadFault}
use Rattle.sig_dsse.specs.declared.payload.PayloadFault.TheVariants.{NoStatement}
use Rattle.sig_dsse.specs.declared.statement.Subject.{Subject as HeldSubject}
use Rattle.sig_dsse.specs.declared.subject_digests.Left.{Left}
use Rattle.sig_dsse.specs.declared.subject_digests.Left.TheVariants.{Subjects, Maps}
use Rattle.sig_dsse.specs.Statement.{DigestTexts, Subject, digest_maps, subject_of, statement_in, statement_of}

-- that the value is a text
abbrev pub is_text : Data → Option (Unit {0})
is_text d = option_map (λ _. tt) (text_of d)

-- the digests of a subject
abbrev pub digest_map_in : Data → Option DigestTexts
digest_map_in d = option_map (λ (subject : Subject). subject.digest) (subject_of d)

-- the digests of each subject of a statement
abbrev pub digest_maps_in : Data → Option (List DigestTexts)
digest_maps_in d = option_map digest_maps (statement_in d)

-- the digests of the statement that a payload is
abbrev pub digest_maps_of : List ℕ → Result (List DigestTexts) PayloadFault
digest_maps_of payload = ok_or (option_map digest_maps (statement_of payload)) NoStatement

-- the digests that a walk has left
abbrev pub maps_left : Left → List DigestTexts
maps_left (Subjects subjects) = map (λ (subject : HeldSubject). subject.digest) subjects.now
maps_left (Maps maps) = maps.now
