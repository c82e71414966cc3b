-- What is kept of a statement says the same of an image.
use Rattle.std.proofs.Common.{◌≡◌, ℕ, List, [], ◌∷◌, map, Bool, true, false, Option, Some, None, option_map, Result, Ok}
use Rattle.std.proofs.Common.{Err, ◌∙◌, refl, sym, ap, subst}
use Rattle.std.specs.Option.{ok_or}
use Rattle.std.specs.Prelude.{codes, bytes_eq, if◌then◌else◌, is_some}
use Rattle.sig_base.specs.Answers.{Answers}
use Rattle.sig_base.specs.ResultSteps.{◌>>=◌}
use Rattle.sig_base.specs.declared.error.SigstoreError.{SigstoreError}
use Rattle.sig_base.specs.declared.error.SigstoreError.TheVariants.{OutOfMemory, UnexpectedError}
use Rattle.sig_base.specs.declared.unexpected.UnexpectedKind.{UnexpectedKind}
use Rattle.sig_base.specs.declared.unexpected.UnexpectedKind.TheVariants as kind
use Rattle.sig_dsse.specs.CosignStatement.{cosign_fault, fault_of_subjects, first_sha256, sha256_or_fault}
use Rattle.sig_dsse.specs.CosignStatement.{unless_fault}
use Rattle.sig_dsse.specs.Statement.{Subject, Statement, statement_of}
use Rattle.sig_attestation.specs.Image.{of_source, stated_image}
use Rattle.sig_attestation.specs.Stated.{first_said, image_in, said_image, sha256_of, stated, stated_of}
use Rattle.sig_attestation.specs.declared.image.Image.{Image}
use Rattle.sig_attestation.specs.declared.stated.Stated.{Stated}

-- ---- a statement

-- the image of these steps
abbrev image_by : List ℕ → List ℕ → Result (Unit {0}) SigstoreError → Result (List ℕ) SigstoreError
    → Result Image SigstoreError
image_by source predicate_type checked found = do
  _ ← checked
  sha256 ← found
  _ ← of_source sha256 source
  Ok (record { predicate_type = predicate_type; sha256 = sha256 })

abbrev types_by : Bool → Bool → Result (Unit {0}) SigstoreError
types_by typed kinded =
    if typed then (if kinded then Ok tt else Err (UnexpectedError kind.PredicateType))
    else Err (UnexpectedError kind.StatementType)

abbrev fault_by : Bool → Bool → List Subject → Option UnexpectedKind
fault_by typed kinded subjects =
    if typed then (if kinded then fault_of_subjects subjects else Some kind.PredicateType) else Some kind.StatementType

abbrev sha256_or : Option (List ℕ) → Result (List ℕ) SigstoreError
sha256_or found = ok_or found (UnexpectedError kind.FirstSubjectWithoutSha256)

image_parts : (source : List ℕ) (s : Statement)
    → stated_image source s
    ≡ image_by source s.predicate_type (unless_fault (fault_by
    (bytes_eq s.statement_type (codes "https://in-toto.io/Statement/v1"))
    (bytes_eq s.predicate_type (codes "https://sigstore.dev/cosign/sign/v1")) s.subject))
    (sha256_or (first_sha256 s.subject))
unfolding stated_image cosign_fault sha256_or_fault
image_parts source s = refl

-- by the first subject's SHA-256, none where it has none
same_first : (source type : List ℕ) (first : Option (List ℕ)) (others : List (Option (List ℕ)))
    → image_by source type (Ok tt) (first_said (first ∷ others))
    ≡ image_by source type
    (unless_fault (if is_some first then None else Some kind.FirstSubjectWithoutSha256)) (sha256_or first)
same_first source type None others = refl
same_first source type (Some sha256) others = refl

same_image : (source type : List ℕ) (typed kinded : Bool) (subjects : List Subject)
    → image_by source type (types_by typed kinded) (first_said (map sha256_of subjects))
    ≡ image_by source type (unless_fault (fault_by typed kinded subjects)) (sha256_or (first_sha256 subjects))
same_image source type false kinded subjects = refl
same_image source type true false subjects = refl
same_image source type true true [] = refl
same_image source type true true (subject ∷ subjects) =
    same_first source type (sha256_of subject) (map sha256_of subjects)

image_is : (source : List ℕ) (s : Statement) → said_image source (stated s) ≡ stated_image source s
image_is source s =
    same_image source s.predicate_type (bytes_eq s.statement_type (codes "https://in-toto.io/Statement/v1"))
    (bytes_eq s.predicate_type (codes "https://sigstore.dev/cosign/sign/v1")) s.subject ∙ sym (image_parts source s)

-- ---- a payload

abbrev or_none : {A : Type 0} → Option A → Result A SigstoreError
or_none found = ok_or found (UnexpectedError kind.Statement)

found_none : (source : List ℕ) (found : Option Statement) (e : SigstoreError)
    → or_none (option_map stated found) ≡ Err e → (or_none found >>= stated_image source) ≡ Err e
found_none source None e read = cc
found_none source (Some s) e read = cc

found_some : (source : List ℕ) (found : Option Statement) (said : Stated)
    → or_none (option_map stated found) ≡ Ok said
    → (or_none found >>= stated_image source) ≡ said_image source said
found_some source None said read = cc
found_some source (Some s) said read =
    let same : stated s ≡ said = cc in sym (image_is source s) ∙ ap (said_image source) same

pub payload-refused : (source payload : List ℕ) (e : SigstoreError) → stated_of payload ≡ Err e
    → image_in source payload ≡ Err e
payload-refused source payload e read = found_none source (statement_of payload) e read

pub payload-read : (source payload : List ℕ) (said : Stated) (result : Result Image SigstoreError)
    → stated_of payload ≡ Ok said → Answers OutOfMemory (λ image. image) result (said_image source said)
    → Answers OutOfMemory (λ image. image) result (image_in source payload)
payload-read source payload said result read told =
    subst (Answers OutOfMemory (λ image. image) result) (sym (found_some source (statement_of payload) said read)) told

pub ruleset of_payload = (payload-refused, payload-read)
