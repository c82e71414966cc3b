-- What is kept of a statement is read without the rest of it.
use Rattle.std.proofs.Common.{◌≡◌, ℕ, List, [], ◌∷◌, map, Option, Some, None, option_map, Ok, Err, ◌∙◌, refl, sym}
use Rattle.std.specs.Prelude.{codes}
use Rattle.std.specs.Result.{result_ok}
use Rattle.sig_base.specs.ByText.{text_lookup}
use Rattle.sig_base.specs.OptionSteps.{◌>>=◌}
use Rattle.sig_base.specs.declared.error.SigstoreError.TheVariants.{UnexpectedError}
use Rattle.sig_base.specs.declared.unexpected.UnexpectedKind.TheVariants.{Statement as NoStatement}
use Rattle.sig_json.specs.Data.{Data}
use Rattle.sig_json.specs.Kinds.{text_of, text_map_of}
use Rattle.sig_json.specs.Member.{required, required_text, required_list, optional, list_each}
use Rattle.sig_json.specs.Only.{only}
use Rattle.sig_json.specs.Record.{record_in, record_with}
use Rattle.sig_json.specs.declared.error.JsonError.{JsonError}
use Rattle.sig_json.proofs.NamedMembers.{required-only}
use Rattle.sig_json.proofs.Records.{record_with-same}
use Rattle.sig_json.proofs.Parts.{required-part, list_each-part, record_in-part, optional-any}
use Rattle.sig_dsse.specs.Statement.{DigestTexts, Subject, Statement, subject_of, statement_in, statement_of}
use Rattle.sig_attestation.specs.Stated.{sha256_in, sha256_of, stated, stated_in, stated_of}
use Rattle.sig_attestation.specs.declared.stated.Stated.{Stated}

-- ---- a subject

-- the parts of a subject, as they are found
abbrev subject_with : Option (Option (List ℕ)) → Option DigestTexts → Option (Option Data) → Option Subject
subject_with found_name found_digest found_annotations = do
  name ← found_name
  digest ← found_digest
  annotations ← found_annotations
  Some (record { name = name; digest = digest; annotations = annotations })

subject_parts : (d : Data)
    → subject_of d ≡ subject_with (optional text_of (codes "name") d) (required text_map_of (codes "digest") d)
    (optional Some (codes "annotations") d)
unfolding subject_of
subject_parts d = refl

without_digest : (name : Option (Option (List ℕ))) (annotations : Option (Option Data))
    → option_map sha256_of (subject_with name None annotations) ≡ None
without_digest None annotations = refl
without_digest (Some name) annotations = refl

pub subject-read : (d : Data) (name : Option (List ℕ)) (digest : DigestTexts) (sha256 : Option (List ℕ))
    → optional text_of (codes "name") d ≡ Some name → required text_map_of (codes "digest") d ≡ Some digest
    → sha256 ≡ text_lookup (codes "sha256") digest → sha256_in d ≡ Some sha256
subject-read d name digest sha256 named read found =
    let any = optional-any text_map_of (codes "digest") (codes "annotations") d digest read in
    rw (subject_parts d, named, read, any.1, found) refl

pub subject-no_name : (d : Data) → optional text_of (codes "name") d ≡ None → sha256_in d ≡ None
subject-no_name d named = rw (subject_parts d, named) refl

pub subject-no_digest : (d : Data) → required text_map_of (codes "digest") d ≡ None → sha256_in d ≡ None
subject-no_digest d read =
    rw (subject_parts d, read) (without_digest (optional text_of (codes "name") d)
    (optional Some (codes "annotations") d))

pub ruleset of_subject = (subject-read, subject-no_name, subject-no_digest)

-- ---- a statement

-- the parts of a statement, as they are found
abbrev statement_with : Option (List ℕ) → Option (List Subject) → Option (List ℕ) → Option (Option Data)
    → Option Statement
statement_with found_type found_subjects found_kind found_predicate = do
  statement_type ← found_type
  subject ← found_subjects
  predicate_type ← found_kind
  predicate ← found_predicate
  Some (record {
    statement_type = statement_type;
    subject = subject;
    predicate_type = predicate_type;
    predicate = predicate;
  })

statement_parts : (d : Data)
    → statement_in d ≡ statement_with (required_text (codes "_type") d) (required_list subject_of (codes "subject") d)
    (required_text (codes "predicateType") d) (optional Some (codes "predicate") d)
unfolding statement_in
statement_parts d = refl

abbrev stated_with : List ℕ → List ℕ → List (Option (List ℕ)) → Stated
stated_with type kind sha256s = record { statement_type = type; predicate_type = kind; sha256s = sha256s }

with_sha256s : (type kind : List ℕ) (subjects : Option (List Subject)) (predicate : Option (Option Data))
    (sha256s : List (Option (List ℕ))) (a : Option Data) → option_map (map sha256_of) subjects ≡ Some sha256s
    → predicate ≡ Some a
    → option_map stated (statement_with (Some type) subjects (Some kind) predicate) ≡ Some (stated_with type kind sha256s)
with_sha256s type kind None predicate sha256s a read any = cc
with_sha256s type kind (Some subjects) predicate sha256s a read any =
    let same : map sha256_of subjects ≡ sha256s = cc in rw (any, same) refl

without_kind : (type : Option (List ℕ)) (subjects : Option (List Subject)) (predicate : Option (Option Data))
    → option_map stated (statement_with type subjects None predicate) ≡ None
without_kind None subjects predicate = refl
without_kind (Some type) None predicate = refl
without_kind (Some type) (Some subjects) predicate = refl

without_sha256s : (type kind : Option (List ℕ)) (subjects : Option (List Subject)) (predicate : Option (Option Data))
    → option_map (map sha256_of) subjects ≡ None
    → option_map stated (statement_with type subjects kind predicate) ≡ None
without_sha256s None kind subjects predicate read = refl
without_sha256s (Some type) kind None predicate read = refl
without_sha256s (Some type) kind (Some subjects) predicate read = cc

needed_sha256s : (name : List ℕ) (d : Data)
    → required_list sha256_in name d ≡ option_map (map sha256_of) (required_list subject_of name d)
needed_sha256s =
    required-part (map sha256_of) (list_each subject_of) (list_each sha256_in)
    (list_each-part sha256_of subject_of sha256_in (λ e. refl))

pub statement-read : (d : Data) (type kind : List ℕ) (sha256s : List (Option (List ℕ)))
    → required_text (codes "_type") d ≡ Some type → required_text (codes "predicateType") d ≡ Some kind
    → required_list sha256_in (codes "subject") d ≡ Some sha256s
    → stated_in d ≡ Some (record { statement_type = type; predicate_type = kind; sha256s = sha256s })
statement-read d type kind sha256s typed kinded read =
    let any = optional-any (list_each sha256_in) (codes "subject") (codes "predicate") d sha256s read in
    rw (statement_parts d, typed, kinded) (with_sha256s type kind _ _ sha256s any.0
    (sym (needed_sha256s _ d) ∙ read) any.1)

pub statement-no_type : (d : Data) → required_text (codes "_type") d ≡ None → stated_in d ≡ None
statement-no_type d typed = rw (statement_parts d, typed) refl

pub statement-no_kind : (d : Data) → required_text (codes "predicateType") d ≡ None → stated_in d ≡ None
statement-no_kind d kinded =
    rw (statement_parts d, kinded) (without_kind (required_text (codes "_type") d)
    (required_list subject_of (codes "subject") d) (optional Some (codes "predicate") d))

pub statement-no_sha256s : (d : Data) → required_list sha256_in (codes "subject") d ≡ None → stated_in d ≡ None
statement-no_sha256s d read = rw (statement_parts d) (without_sha256s _ _ _ _ (sym (needed_sha256s _ d) ∙ read))

pub ruleset of_statement = (statement-read, statement-no_type, statement-no_kind, statement-no_sha256s)

-- ---- a statement without its predicate

abbrev pub stated_names : List (List ℕ)
stated_names = codes "_type" ∷ codes "subject" ∷ codes "predicateType" ∷ []

-- the predicate is there or not, and the same is kept
same_kept : (type kind : Option (List ℕ)) (subjects : Option (List Subject)) (predicate other : Option (Option Data))
    → ((t : List ℕ) → type ≡ Some t
    → ((a : Option Data) × (predicate ≡ Some a)) × ((b : Option Data) × (other ≡ Some b)))
    → option_map stated (statement_with type subjects kind predicate)
    ≡ option_map stated (statement_with type subjects kind other)
same_kept None kind subjects predicate other any = refl
same_kept (Some type) None None predicate other any = refl
same_kept (Some type) None (Some subjects) predicate other any = refl
same_kept (Some type) (Some kind) None predicate other any = refl
same_kept (Some type) (Some kind) (Some subjects) predicate other any =
    let both = any type refl in rw (both.0.1, both.1.1) refl

stated-only : (d : Data) → stated_in (only stated_names d) ≡ stated_in d
stated-only d =
    let type : required_text (codes "_type") (only stated_names d) ≡ required_text (codes "_type") d
    = required-only text_of stated_names (codes "_type") d refl in
    rw (
      statement_parts (only stated_names d),
      type,
      required-only (list_each subject_of) stated_names (codes "subject") d refl,
      required-only text_of stated_names (codes "predicateType") d refl,
      statement_parts d,
    ) (same_kept _ _ _ _ _ (λ t is. (
      optional-any text_of (codes "_type") (codes "predicate") (only stated_names d) t (type ∙ is),
      optional-any text_of (codes "_type") (codes "predicate") d t is,
    )))

pub record-listed : (payload : List ℕ) → record_with stated_names stated_in payload ≡ record_in stated_in payload
record-listed payload = record_with-same stated_names stated_in payload stated-only

-- ---- a payload

kept_of : (payload : List ℕ)
    → option_map stated (statement_of payload) ≡ result_ok (record_in stated_in payload)
unfolding statement_of
kept_of payload = sym (record_in-part stated statement_in stated_in (λ d. refl) payload)

pub record-read : (payload : List ℕ) (said : Stated) → record_in stated_in payload ≡ Ok said
    → stated_of payload ≡ Ok said
record-read payload said read = rw (kept_of payload, read) refl

pub record-refused : (payload : List ℕ) (e : JsonError) → record_in stated_in payload ≡ Err e
    → stated_of payload ≡ Err (UnexpectedError NoStatement)
record-refused payload e read = rw (kept_of payload, read) refl

pub ruleset of_record = (record-read, record-refused)
