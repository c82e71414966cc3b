-- The digests of a statement are read without the rest of it.
use Rattle.std.proofs.Common.{◌≡◌, ◌⊎◌, inl, inr, ℕ, List, [], ◌∷◌, map, Option, Some, None, option_map, Ok, Err}
use Rattle.std.proofs.Common.{◌∙◌, refl, sym, ap}
use Rattle.std.specs.Option.{ok_or}
use Rattle.std.specs.Prelude.{codes}
use Rattle.std.specs.Result.{result_ok}
use Rattle.sig_base.specs.OptionSteps.{◌>>=◌}
use Rattle.sig_json.specs.Data.{Data}
use Rattle.sig_json.specs.Kinds.{text_of, text_map_of}
use Rattle.sig_json.specs.Member.{required, required_text, required_list, optional, list_each}
use Rattle.sig_json.specs.Only.{only}
use Rattle.sig_json.specs.Record.{record_in, record_with}
use Rattle.sig_json.specs.declared.error.JsonError.{JsonError}
use Rattle.sig_json.proofs.NamedMembers.{required-only}
use Rattle.sig_json.proofs.Records.{record_with-same}
use Rattle.sig_json.proofs.Parts.{required-part, optional-part, list_each-part, record_in-part, optional-any}
use Rattle.sig_dsse.specs.declared.artifact_digest.ArtifactDigest.{ArtifactDigest}
use Rattle.sig_dsse.specs.declared.payload.PayloadFault.{PayloadFault}
use Rattle.sig_dsse.specs.declared.payload.PayloadFault.TheVariants.{NoStatement, OutOfMemory}
use Rattle.sig_dsse.specs.declared.recognized.SubjectFault.{SubjectFault}
use Rattle.sig_dsse.specs.declared.recognized.SubjectFault.TheVariants as fault
use Rattle.sig_dsse.specs.DigestsAlone.{is_text, digest_map_in, digest_maps_in, digest_maps_of}
use Rattle.sig_dsse.specs.Payload.{payload_fault, or_payload_fault, digests_of_found, digests_of_payload}
use Rattle.sig_dsse.specs.Recognized.{digests_of_maps}
use Rattle.sig_dsse.specs.Statement.{DigestTexts, Subject, Statement, digest_maps, subject_of, statement_in}
use Rattle.sig_dsse.specs.Statement.{statement_of}

-- of a text, that it is there
abbrev tested : Option (List ℕ) → Option (Unit {0})
tested found = option_map (λ _. tt) found

-- ---- a subject

-- the parts of a subject, as they are found
abbrev subject_with : Option (Option (List ℕ)) → Option DigestTexts → Option (Option Data) → Option Subject
subject_with found_name found_digest found_annotations = do
  name ← found_name
  digest ← found_digest
  annotations ← found_annotations
  Some (record { name = name; digest = digest; annotations = annotations })

subject_parts : (d : Data)
    → subject_of d ≡ subject_with (optional text_of (codes "name") d) (required text_map_of (codes "digest") d)
    (optional Some (codes "annotations") d)
unfolding subject_of
subject_parts d = refl

abbrev its_digest : Subject → DigestTexts
its_digest subject = subject.digest

with_digest : (name : Option (Option (List ℕ))) (digest : DigestTexts) (annotations : Option (Option Data))
    (x : Option (Unit {0})) (a : Option Data) → option_map tested name ≡ Some x → annotations ≡ Some a
    → option_map its_digest (subject_with name (Some digest) annotations) ≡ Some digest
with_digest None digest annotations x a named any = cc
with_digest (Some name) digest annotations x a named any = rw any refl

without_name : (name : Option (Option (List ℕ))) (digest : Option DigestTexts) (annotations : Option (Option Data))
    → option_map tested name ≡ None → option_map its_digest (subject_with name digest annotations) ≡ None
without_name None digest annotations named = refl
without_name (Some name) digest annotations named = cc

without_digest : (name : Option (Option (List ℕ))) (annotations : Option (Option Data))
    → option_map its_digest (subject_with name None annotations) ≡ None
without_digest None annotations = refl
without_digest (Some name) annotations = refl

named_text : (name : List ℕ) (d : Data) → optional is_text name d ≡ option_map tested (optional text_of name d)
named_text = optional-part (λ _. tt) text_of is_text (λ e. refl)

pub subject-read : (d : Data) (x : Option (Unit {0})) (digest : DigestTexts)
    → optional is_text (codes "name") d ≡ Some x → required text_map_of (codes "digest") d ≡ Some digest
    → digest_map_in d ≡ Some digest
subject-read d x digest named read =
    let any = optional-any text_map_of (codes "digest") (codes "annotations") d digest read in
    rw (subject_parts d, read) (with_digest (optional text_of (codes "name") d) digest
    (optional Some (codes "annotations") d) x any.0 (sym (named_text (codes "name") d) ∙ named) any.1)

pub subject-no_name : (d : Data) → optional is_text (codes "name") d ≡ None → digest_map_in d ≡ None
subject-no_name d named = rw (subject_parts d) (without_name _ _ _ (sym (named_text (codes "name") d) ∙ named))

pub subject-no_digest : (d : Data) → required text_map_of (codes "digest") d ≡ None → digest_map_in d ≡ None
subject-no_digest d read =
    rw (subject_parts d, read) (without_digest (optional text_of (codes "name") d)
    (optional Some (codes "annotations") d))

pub ruleset of_subject = (subject-read, subject-no_name, subject-no_digest)

-- ---- a statement

-- the parts of a statement, as they are found
abbrev statement_with : Option (List ℕ) → Option (List Subject) → Option (List ℕ) → Option (Option Data)
    → Option Statement
statement_with found_type found_subjects found_kind found_predicate = do
  statement_type ← found_type
  subject ← found_subjects
  predicate_type ← found_kind
  predicate ← found_predicate
  Some (record {
    statement_type = statement_type;
    subject = subject;
    predicate_type = predicate_type;
    predicate = predicate;
  })

statement_parts : (d : Data)
    → statement_in d ≡ statement_with (required_text (codes "_type") d) (required_list subject_of (codes "subject") d)
    (required_text (codes "predicateType") d) (optional Some (codes "predicate") d)
unfolding statement_in
statement_parts d = refl

with_maps : (type kind : Option (List ℕ)) (subjects : Option (List Subject)) (predicate : Option (Option Data))
    (x y : Unit {0}) (maps : List DigestTexts) (a : Option Data) → tested type ≡ Some x → tested kind ≡ Some y
    → option_map (map its_digest) subjects ≡ Some maps → predicate ≡ Some a → option_map digest_maps
    (statement_with type subjects kind predicate) ≡ Some maps
with_maps None kind subjects predicate x y maps a typed kinded read any = cc
with_maps (Some type) None subjects predicate x y maps a typed kinded read any = cc
with_maps (Some type) (Some kind) None predicate x y maps a typed kinded read any = cc
with_maps (Some type) (Some kind) (Some subjects) predicate x y maps a typed kinded read any = rw any read

without_type : (type kind : Option (List ℕ)) (subjects : Option (List Subject)) (predicate : Option (Option Data))
    → tested type ≡ None → option_map digest_maps (statement_with type subjects kind predicate) ≡ None
without_type None kind subjects predicate typed = refl
without_type (Some type) kind subjects predicate typed = cc

without_kind : (type kind : Option (List ℕ)) (subjects : Option (List Subject)) (predicate : Option (Option Data))
    → tested kind ≡ None → option_map digest_maps (statement_with type subjects kind predicate) ≡ None
without_kind None kind subjects predicate kinded = refl
without_kind (Some type) None None predicate kinded = refl
without_kind (Some type) None (Some subjects) predicate kinded = refl
without_kind (Some type) (Some kind) subjects predicate kinded = cc

without_maps : (type kind : Option (List ℕ)) (subjects : Option (List Subject)) (predicate : Option (Option Data))
    → option_map (map its_digest) subjects ≡ None
    → option_map digest_maps (statement_with type subjects kind predicate) ≡ None
without_maps None kind subjects predicate read = refl
without_maps (Some type) kind None predicate read = refl
without_maps (Some type) kind (Some subjects) predicate read = cc

needed_text : (name : List ℕ) (d : Data) → required is_text name d ≡ tested (required_text name d)
needed_text = required-part (λ _. tt) text_of is_text (λ e. refl)

needed_maps : (name : List ℕ) (d : Data)
    → required_list digest_map_in name d ≡ option_map (map its_digest) (required_list subject_of name d)
needed_maps =
    required-part (map its_digest) (list_each subject_of) (list_each digest_map_in)
    (list_each-part its_digest subject_of digest_map_in (λ e. refl))

pub statement-read : (d : Data) (x y : Unit {0}) (maps : List DigestTexts)
    → required is_text (codes "_type") d ≡ Some x → required is_text (codes "predicateType") d ≡ Some y
    → required_list digest_map_in (codes "subject") d ≡ Some maps → digest_maps_in d ≡ Some maps
statement-read d x y maps typed kinded read =
    let any = optional-any (list_each digest_map_in) (codes "subject") (codes "predicate") d maps read in
    rw (statement_parts d) (with_maps _ _ _ _ x y maps any.0 (sym (needed_text _ d) ∙ typed)
    (sym (needed_text _ d) ∙ kinded) (sym (needed_maps _ d) ∙ read) any.1)

pub statement-no_type : (d : Data) → required is_text (codes "_type") d ≡ None → digest_maps_in d ≡ None
statement-no_type d typed = rw (statement_parts d) (without_type _ _ _ _ (sym (needed_text _ d) ∙ typed))

pub statement-no_kind : (d : Data) → required is_text (codes "predicateType") d ≡ None → digest_maps_in d ≡ None
statement-no_kind d kinded = rw (statement_parts d) (without_kind _ _ _ _ (sym (needed_text _ d) ∙ kinded))

pub statement-no_maps : (d : Data) → required_list digest_map_in (codes "subject") d ≡ None → digest_maps_in d ≡ None
statement-no_maps d read = rw (statement_parts d) (without_maps _ _ _ _ (sym (needed_maps _ d) ∙ read))

pub ruleset of_statement = (statement-read, statement-no_type, statement-no_kind, statement-no_maps)

-- ---- a statement without its predicate

abbrev pub digest_names : List (List ℕ)
digest_names = codes "_type" ∷ codes "subject" ∷ codes "predicateType" ∷ []

-- the predicate is there or not, and the digests are the same
same_maps : (type kind : Option (List ℕ)) (subjects : Option (List Subject)) (predicate other : Option (Option Data))
    → ((t : List ℕ) → type ≡ Some t
    → ((a : Option Data) × (predicate ≡ Some a)) × ((b : Option Data) × (other ≡ Some b)))
    → option_map digest_maps (statement_with type subjects kind predicate)
    ≡ option_map digest_maps (statement_with type subjects kind other)
same_maps None kind subjects predicate other any = refl
same_maps (Some type) None None predicate other any = refl
same_maps (Some type) None (Some subjects) predicate other any = refl
same_maps (Some type) (Some kind) None predicate other any = refl
same_maps (Some type) (Some kind) (Some subjects) predicate other any =
    let both = any type refl in rw (both.0.1, both.1.1) refl

maps-only : (d : Data) → digest_maps_in (only digest_names d) ≡ digest_maps_in d
maps-only d =
    let type : required_text (codes "_type") (only digest_names d) ≡ required_text (codes "_type") d
    = required-only text_of digest_names (codes "_type") d refl in
    rw (
      statement_parts (only digest_names d),
      type,
      required-only (list_each subject_of) digest_names (codes "subject") d refl,
      required-only text_of digest_names (codes "predicateType") d refl,
      statement_parts d,
    ) (same_maps _ _ _ _ _ (λ t is. (
      optional-any text_of (codes "_type") (codes "predicate") (only digest_names d) t (type ∙ is),
      optional-any text_of (codes "_type") (codes "predicate") d t is,
    )))

pub record-listed : (payload : List ℕ)
    → record_with digest_names digest_maps_in payload ≡ record_in digest_maps_in payload
record-listed payload = record_with-same digest_names digest_maps_in payload maps-only

-- ---- a payload

maps_of : (payload : List ℕ)
    → option_map digest_maps (statement_of payload) ≡ result_ok (record_in digest_maps_in payload)
unfolding statement_of
maps_of payload = sym (record_in-part digest_maps statement_in digest_maps_in (λ d. refl) payload)

pub record-read : (payload : List ℕ) (maps : List DigestTexts) → record_in digest_maps_in payload ≡ Ok maps
    → digest_maps_of payload ≡ Ok maps
record-read payload maps read = rw (maps_of payload, read) refl

pub record-refused : (payload : List ℕ) (e : JsonError) → record_in digest_maps_in payload ≡ Err e
    → digest_maps_of payload ≡ Err NoStatement
record-refused payload e read = rw (maps_of payload, read) refl

pub ruleset of_record = (record-read, record-refused)

found-none : (found : Option Statement) (e : PayloadFault) → ok_or (option_map digest_maps found) NoStatement ≡ Err e
    → digests_of_found found ≡ Err e
found-none None e read = cc
found-none (Some statement) e read = cc

found-some : (found : Option Statement) (maps : List DigestTexts)
    → ok_or (option_map digest_maps found) NoStatement ≡ Ok maps
    → digests_of_found found ≡ or_payload_fault (digests_of_maps maps)
found-some None maps read = cc
found-some (Some statement) maps read = let same : digest_maps statement ≡ maps = cc in rw same refl

pub payload-refused : (payload : List ℕ) (e : PayloadFault) → digest_maps_of payload ≡ Err e
    → digests_of_payload payload ≡ Err e
payload-refused payload e read = found-none (statement_of payload) e read

pub payload-found : (payload : List ℕ) (maps lent : List DigestTexts) (digests : List ArtifactDigest)
    → digest_maps_of payload ≡ Ok maps → lent ≡ maps → digests_of_maps lent ≡ Ok digests
    → digests_of_payload payload ≡ Ok digests
payload-found payload maps lent digests read same found =
    found-some (statement_of payload) maps read ∙ rw (← same, found) refl

pub payload-faulted : (payload : List ℕ) (maps lent : List DigestTexts) (e : SubjectFault) (told : PayloadFault)
    → digest_maps_of payload ≡ Ok maps → lent ≡ maps → told ≡ payload_fault e
    → (e ≡ fault.OutOfMemory) ⊎ (digests_of_maps lent ≡ Err e)
    → (told ≡ OutOfMemory) ⊎ (digests_of_payload payload ≡ Err told)
payload-faulted payload maps lent e told read same as_payload (inl memory) = inl (as_payload ∙ ap payload_fault memory)
payload-faulted payload maps lent e told read same as_payload (inr found) =
    inr (found-some (statement_of payload) maps read ∙ rw (← same, found, as_payload) refl)

pub ruleset of_payload = (payload-refused, payload-found, payload-faulted)
