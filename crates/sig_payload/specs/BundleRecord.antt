-- *Rekor bundle* as JSON, object by object: each member with its name and its kind. All are required, numbers are JSON
-- numbers, and members of other names are ignored.
use Rattle.std.specs.Prelude.{codes, Option, Some}
use Rattle.sig_base.specs.OptionSteps.{◌>>=◌}
use Rattle.sig_json.specs.Data.{Data}
use Rattle.sig_json.specs.Member.{required, required_text}
use Rattle.sig_json.specs.NumberKinds.{i64_number_of}
use Rattle.sig_payload.specs.declared.bundle.Bundle.{Bundle}
use Rattle.sig_payload.specs.declared.bundle.Payload.{Payload}
use Rattle.sig_payload.specs.declared.bundle.SignedArtifactBundle.{SignedArtifactBundle}
use Rattle.sig_payload.specs.declared.bundle_reader.Logged.{Logged}
use Rattle.sig_payload.specs.declared.bundle_reader.Placed.{Placed}

-- the entry, and when the log took it
unfoldable pub logged_in : Data → Option Logged
logged_in d = do
  integrated_time ← required i64_number_of (codes "integratedTime") d
  body ← required_text (codes "body") d
  Some (record { integrated_time = integrated_time; body = body })

-- where it is, and in which log
unfoldable pub placed_in : Data → Option Placed
placed_in d = do
  log_index ← required i64_number_of (codes "logIndex") d
  log_id ← required_text (codes "logID") d
  Some (record { log_index = log_index; log_id = log_id })

unfoldable pub payload_in : Data → Option Payload
payload_in d = do
  logged ← logged_in d
  placed ← placed_in d
  Some (record {
    body = logged.body;
    integrated_time = logged.integrated_time;
    log_index = placed.log_index;
    log_id = placed.log_id;
  })

unfoldable pub bundle_in : Data → Option Bundle
bundle_in d = do
  signed_entry_timestamp ← required_text (codes "SignedEntryTimestamp") d
  payload ← required payload_in (codes "Payload") d
  Some (record { signed_entry_timestamp = signed_entry_timestamp; payload = payload })

unfoldable pub artifact_bundle_in : Data → Option SignedArtifactBundle
artifact_bundle_in d = do
  base64_signature ← required_text (codes "base64Signature") d
  cert ← required_text (codes "cert") d
  rekor_bundle ← required bundle_in (codes "rekorBundle") d
  Some (record { base64_signature = base64_signature; cert = cert; rekor_bundle = rekor_bundle })
