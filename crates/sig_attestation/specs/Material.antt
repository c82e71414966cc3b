-- *Material*: what a bundle brings beside its envelope: one signature, one certificate and one log entry.
use Rattle.std.specs.Prelude.{ℕ, List, length, Option, Some, None, Result, Ok, Err}
use Rattle.std.specs.Option.{ok_or}
use Rattle.sig_base.specs.declared.error.SigstoreError.{SigstoreError}
use Rattle.sig_base.specs.declared.error.SigstoreError.TheVariants.{UnexpectedError}
use Rattle.sig_base.specs.declared.unexpected.UnexpectedKind.TheVariants.{EntryCount, MaterialMissing}
use Rattle.sig_base.specs.declared.unexpected.UnexpectedKind.TheVariants.{MaterialNotCertificate, SignatureCount}
use Rattle.sig_bundle.specs.LogEntries.{only_entry}
use Rattle.sig_bundle.specs.declared.material.MaterialContent.{MaterialContent}
use Rattle.sig_bundle.specs.declared.material.MaterialContent.TheVariants.{Certificate}
use Rattle.sig_bundle.specs.declared.material.TransparencyLogEntry.{TransparencyLogEntry}
use Rattle.sig_bundle.specs.declared.material.VerificationMaterial.{VerificationMaterial}
use Rattle.sig_dsse.specs.Signatures.{only_signature}
use Rattle.sig_dsse.specs.declared.envelope.DsseSignature.{DsseSignature}

abbrev pub signature_in : List DsseSignature → Result DsseSignature SigstoreError
signature_in signatures = ok_or (only_signature signatures) (UnexpectedError (SignatureCount (length signatures)))

abbrev pub material_in : Option VerificationMaterial → Result VerificationMaterial SigstoreError
material_in material = ok_or material (UnexpectedError MaterialMissing)

abbrev pub certificate_in : Option MaterialContent → Result (List ℕ) SigstoreError
certificate_in None = Err (UnexpectedError MaterialMissing)
certificate_in (Some (Certificate der)) = Ok der
certificate_in (Some other) = Err (UnexpectedError MaterialNotCertificate)

abbrev pub entry_in : List TransparencyLogEntry → Result TransparencyLogEntry SigstoreError
entry_in entries = ok_or (only_entry entries) (UnexpectedError (EntryCount (length entries)))
