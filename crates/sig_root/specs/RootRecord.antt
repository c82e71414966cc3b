-- *Records*: a trusted root (Sigstore trusted root format), object by object: each member with its name, its kind, and
-- what it means where it is absent.
use Rattle.std.specs.Prelude.{ℕ, ℤ, List, codes, Option, Some, Result, Ok, Err}
use Rattle.sig_base.specs.OptionSteps.{◌>>=◌}
use Rattle.sig_base.specs.declared.error.SigstoreError.{SigstoreError}
use Rattle.sig_base.specs.declared.error.SigstoreError.TheVariants.{SerdeJsonError}
use Rattle.sig_json.specs.CommonRecord.{chain_of, log_id_of}
use Rattle.sig_json.specs.Data.{Data}
use Rattle.sig_json.specs.Kinds.{bytes_of, text_of}
use Rattle.sig_json.specs.Member.{optional, optional_list}
use Rattle.sig_json.specs.Record.{record_in}
use Rattle.sig_json.specs.declared.error.JsonError.{JsonError}
use Rattle.sig_der.specs.StampSecond.{second_in}
use Rattle.sig_root.specs.declared.record.CertificateAuthority.{CertificateAuthority}
use Rattle.sig_root.specs.declared.record.PublicKey.{PublicKey}
use Rattle.sig_root.specs.declared.record.TimeRange.{TimeRange}
use Rattle.sig_root.specs.declared.record.TransparencyLogInstance.{TransparencyLogInstance}
use Rattle.sig_root.specs.declared.record.TrustedRoot.{TrustedRoot}

-- a time text (RFC 3339 section 5.6), as the second since 1970 in which its instant lies
unfoldable pub time_of : Data → Option ℤ
time_of d = text_of d >>= second_in

unfoldable pub range_of : Data → Option TimeRange
range_of d = do
  start ← optional time_of (codes "start") d
  end ← optional time_of (codes "end") d
  Some (record { start = start; end = end })

-- ---- the authorities

unfoldable pub authority_of : Data → Option CertificateAuthority
authority_of d = do
  cert_chain ← optional chain_of (codes "certChain") d
  valid_for ← optional range_of (codes "validFor") d
  Some (record { cert_chain = cert_chain; valid_for = valid_for })

-- ---- the logs

unfoldable pub public_key_of : Data → Option PublicKey
public_key_of d = do
  raw_bytes ← optional bytes_of (codes "rawBytes") d
  valid_for ← optional range_of (codes "validFor") d
  Some (record { raw_bytes = raw_bytes; valid_for = valid_for })

unfoldable pub instance_of : Data → Option TransparencyLogInstance
instance_of d = do
  public_key ← optional public_key_of (codes "publicKey") d
  log_id ← optional log_id_of (codes "logId") d
  Some (record { public_key = public_key; log_id = log_id })

-- ---- the trusted root

unfoldable pub trusted_root_of : Data → Option TrustedRoot
trusted_root_of d = do
  certificate_authorities ← optional_list authority_of (codes "certificateAuthorities") d
  tlogs ← optional_list instance_of (codes "tlogs") d
  ctlogs ← optional_list instance_of (codes "ctlogs") d
  Some (record { certificate_authorities = certificate_authorities; tlogs = tlogs; ctlogs = ctlogs })

-- the trusted root that a text is, or why it is not one
abbrev pub trusted_root_in : List ℕ → Result TrustedRoot JsonError
trusted_root_in = record_in trusted_root_of

-- the same without the reason
abbrev pub or_unreadable : Result TrustedRoot JsonError → Result TrustedRoot SigstoreError
or_unreadable (Ok root) = Ok root
or_unreadable (Err why) = Err SerdeJsonError

abbrev pub trusted_root_of_text : List ℕ → Result TrustedRoot SigstoreError
trusted_root_of_text text = or_unreadable (trusted_root_in text)
