-- Logs of a trusted root, and the log that an SCT names.
use Rattle.std.specs.Prelude.{ℕ, ℤ, pos, ◌/◌, List, [], ◌∷◌, ◌++◌, codes, take, Option, Some, None, option_map}
use Rattle.std.specs.Prelude.{Result, Ok, Err, if◌then◌else◌}
use Rattle.hex.specs.Hex.{encode_lower}
use Rattle.sig_json.specs.Writing.{TreeMember, list_tree, object_of}
use Rattle.sig_json.specs.Data.{Data}
use Rattle.sig_root.specs.Picked.{has_begun, holds}
use Rattle.sig_root.specs.declared.record.PublicKey.{PublicKey}
use Rattle.sig_root.specs.declared.record.TimeRange.{TimeRange}
use Rattle.sig_root.specs.declared.record.TransparencyLogInstance.{TransparencyLogInstance}
use Rattle.sig_timestamp.specs.SctList.{Sct}
use Rattle.sig_timestamp.specs.declared.sct_error.CertificateErrorKind.{CertificateErrorKind}
use Rattle.sig_timestamp.specs.declared.signed.DigitallySigned.{DigitallySigned}
use Rattle.sig_shown.specs.ShownValues.{count_row, sha256_tree, shown_rows, text_row, time_row, time_tree}

-- ---- a trusted root

-- the state of a range at a time
abbrev pub state_name : ℤ → Option TimeRange → List ℕ
state_name now range =
    if holds now range then codes "holds" else if has_begun now range then codes "ended" else codes "not begun"

abbrev pub range_rows : Option TimeRange → List TreeMember
range_rows None = []
range_rows (Some range) =
    (codes "start", option_map time_tree range.start) ∷ (codes "end", option_map time_tree range.end) ∷ []

abbrev pub log_id_rows : Option (List ℕ) → List TreeMember
log_id_rows None = []
log_id_rows (Some id) = shown_rows (codes "logId") (codes "logIdLength") (encode_lower id)

abbrev pub log_key_rows : ℤ → Option PublicKey → List TreeMember
log_key_rows now None = []
log_key_rows now (Some key) =
    (codes "keySha256", option_map sha256_tree key.raw_bytes)
    ∷ text_row (codes "state") (state_name now key.valid_for)
    ∷ range_rows key.valid_for

-- a log: its id, the SHA-256 of its key, and the key's range, at a time
unfoldable pub log_tree : ℤ → TransparencyLogInstance → Data
log_tree now log = object_of (log_id_rows log.log_id ++ log_key_rows now log.public_key)

-- how many logs are shown at most
abbrev pub most_logs : ℕ
most_logs = 256

unfoldable pub logs_tree : ℤ → List TransparencyLogInstance → Data
logs_tree now logs = list_tree (log_tree now) (take most_logs logs)

-- ---- an SCT

-- the log's id and the time, in milliseconds since 1970
abbrev pub sct_parts : DigitallySigned → List ℕ × ℕ
sct_parts signed = (signed.log_id, signed.timestamp)

-- the same for the SCT that a certificate has
abbrev pub named_sct : Result Sct CertificateErrorKind → Option (List ℕ × ℕ)
named_sct (Err why) = None
named_sct (Ok sct) = Some (sct.log_id, sct.timestamp)

-- and the second of the time in both forms
abbrev pub sct_rows : Option (List ℕ × ℕ) → List TreeMember
sct_rows None = []
sct_rows (Some sct) =
    text_row (codes "logId") (encode_lower sct.0)
    ∷ count_row (codes "timestamp") sct.1
    ∷ time_row (codes "time") (pos (sct.1 / 1000))
    ∷ []
