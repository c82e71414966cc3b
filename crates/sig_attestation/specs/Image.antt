-- *Image*: what an envelope says of an image: a statement by `cosign`, whose first subject is the image (in-toto
-- attestation framework, "Statement layer specification v1").
use Rattle.std.specs.Prelude.{ℕ, List, codes, bytes_eq, if◌then◌else◌, Option, Some, None, unwrap_or, Result, Ok, Err}
use Rattle.sig_base.specs.ResultSteps.{◌>>=◌}
use Rattle.sig_base.specs.declared.error.SigstoreError.{SigstoreError}
use Rattle.sig_base.specs.declared.error.SigstoreError.TheVariants.{UnexpectedError}
use Rattle.sig_base.specs.declared.unexpected.UnexpectedKind.TheVariants.{ContentNotDsse, PayloadType, SubjectDigest}
use Rattle.sig_bundle.specs.declared.bundle.Content.{Content}
use Rattle.sig_bundle.specs.declared.bundle.Content.TheVariants as content
use Rattle.sig_dsse.specs.CosignStatement.{cosign_fault, sha256_or_fault, statement_or_fault, unless_fault}
use Rattle.sig_dsse.specs.Statement.{Statement}
use Rattle.sig_dsse.specs.declared.envelope.DsseEnvelope.{DsseEnvelope}
use Rattle.sig_rekor.specs.TextCuts.{after_separator}
use Rattle.sig_attestation.specs.declared.image.Image.{Image}

abbrev pub envelope_in : Option Content → Result DsseEnvelope SigstoreError
envelope_in None = Err (UnexpectedError ContentNotDsse)
envelope_in (Some (content.MessageSignature _)) = Err (UnexpectedError ContentNotDsse)
envelope_in (Some (content.DsseEnvelope envelope)) = Ok envelope

-- the type of a payload that is a statement
abbrev pub statement_type : List ℕ
statement_type = codes "application/vnd.in-toto+json"

abbrev pub typed : DsseEnvelope → Result (Unit {0}) SigstoreError
typed envelope = if bytes_eq envelope.payload_type statement_type then Ok tt else Err (UnexpectedError PayloadType)

-- the digest without `sha256:` at its front
abbrev pub without_prefix : List ℕ → List ℕ
without_prefix digest = unwrap_or (after_separator (codes "sha256:") digest) digest

abbrev pub of_source : List ℕ → List ℕ → Result (Unit {0}) SigstoreError
of_source sha256 source =
    if bytes_eq sha256 (without_prefix source) then Ok tt else Err (UnexpectedError SubjectDigest)

-- what a statement says of the image whose manifest has this digest
unfoldable pub stated_image : List ℕ → Statement → Result Image SigstoreError
stated_image source statement = do
  _ ← unless_fault (cosign_fault statement)
  sha256 ← sha256_or_fault statement
  _ ← of_source sha256 source
  Ok (record { predicate_type = statement.predicate_type; sha256 = sha256 })

unfoldable pub image_answer : List ℕ → DsseEnvelope → Result Image SigstoreError
image_answer source envelope = do
  _ ← typed envelope
  statement ← statement_or_fault envelope.payload
  stated_image source statement
