-- *Vouching*: whether the log of an entry's id vouches for it, under the caller's keys: the links `log-key` to
-- `inclusion` of the chain of trust, with these keys in place of a trusted root's.
use Rattle.std.specs.Prelude.{⊤, Option, Result, Ok, Err}
use Rattle.std.specs.Option.{ok_or}
use Rattle.hex.specs.Hex.{encode_lower}
use Rattle.sig_base.specs.ResultSteps.{◌>>=◌}
use Rattle.sig_base.specs.declared.error.SigstoreError.{SigstoreError}
use Rattle.sig_base.specs.declared.error.SigstoreError.TheVariants as sigstore
use Rattle.sig_base.specs.declared.unexpected.UnexpectedKind.TheVariants as kind
use Rattle.sig_bundle.specs.declared.material.TransparencyLogEntry.{TransparencyLogEntry}
use Rattle.sig_key.specs.Key.{key_accepts}
use Rattle.sig_payload.specs.Bundles.{AcceptsSpki, Keys, key_named}
use Rattle.sig_verify.specs.ContentCheck.{AcceptsUnder}
use Rattle.sig_verify.specs.LogEntry.{vouched}
use Rattle.sig_verify.specs.declared.logged_entry.LoggedEntry.{LoggedEntry}
use Rattle.sig_verify.specs.declared.offline_error.OfflineError.{OfflineError}
use Rattle.sig_verify.specs.declared.offline_error.OfflineError.TheVariants as offline

-- the error of an entry that a log does not vouch for, under its name here; there are no other errors
abbrev pub log_refusal : OfflineError → SigstoreError
log_refusal offline.PromiseMissing = sigstore.UnexpectedError kind.PromiseMissing
log_refusal offline.PromiseInteger = sigstore.UnexpectedError kind.PromiseInteger
log_refusal offline.Promise = sigstore.UnexpectedError kind.Promise
log_refusal offline.ProofMissing = sigstore.UnexpectedError kind.ProofMissing
log_refusal offline.RootLength = sigstore.UnexpectedError kind.RootLength
log_refusal (offline.HashLength index) = sigstore.UnexpectedError (kind.HashLength index)
log_refusal offline.TreeSize = sigstore.UnexpectedError kind.TreeSize
log_refusal offline.CheckpointMissing = sigstore.UnexpectedError kind.CheckpointMissing
log_refusal (offline.ParseCheckpointError fault) = sigstore.ParseCheckpointError fault
log_refusal offline.CheckpointSignatureVerificationError = sigstore.CheckpointSignatureVerificationError
log_refusal (offline.ConsistencyProofError why) = sigstore.ConsistencyProofError why
log_refusal (offline.InclusionProofError why) = sigstore.InclusionProofError why
log_refusal other = sigstore.OutOfMemory

-- which errors these are, or that memory ran out
abbrev pub IsLogRefusal : OfflineError → Type 0
IsLogRefusal offline.PromiseMissing = ⊤
IsLogRefusal offline.PromiseInteger = ⊤
IsLogRefusal offline.Promise = ⊤
IsLogRefusal offline.ProofMissing = ⊤
IsLogRefusal offline.RootLength = ⊤
IsLogRefusal (offline.HashLength index) = ⊤
IsLogRefusal offline.TreeSize = ⊤
IsLogRefusal offline.CheckpointMissing = ⊤
IsLogRefusal (offline.ParseCheckpointError fault) = ⊤
IsLogRefusal offline.CheckpointSignatureVerificationError = ⊤
IsLogRefusal (offline.ConsistencyProofError why) = ⊤
IsLogRefusal (offline.InclusionProofError why) = ⊤
IsLogRefusal offline.OutOfMemory = ⊤
IsLogRefusal other = ⊥

abbrev pub from_vouched : Result LoggedEntry OfflineError → Result (Unit {0}) SigstoreError
from_vouched (Ok _) = Ok tt
from_vouched (Err error) = Err (log_refusal error)

-- the log of this key vouches for the entry
abbrev pub vouched_under : AcceptsUnder → TransparencyLogEntry → Result (Unit {0}) SigstoreError
vouched_under accepts entry = from_vouched (vouched accepts entry)

-- the log of the entry's id vouches for it, under its key among these, which have their logs' ids in lower-case
-- hexadecimal
abbrev pub entry_answer : AcceptsSpki → Option Keys → TransparencyLogEntry → Result (Unit {0}) SigstoreError
entry_answer spki keys entry = do
  given ← ok_or keys (sigstore.UnexpectedError kind.KeysMissing)
  id ← ok_or entry.log_id (sigstore.UnexpectedError kind.LogIdMissing)
  key ← key_named given (encode_lower id)
  vouched_under (key_accepts spki key) entry
