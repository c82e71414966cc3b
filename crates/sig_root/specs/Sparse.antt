-- Authorities and instances of logs whose every member is absent.
use Rattle.std.specs.Prelude.{Option, None, unwrap_or}
use Rattle.sig_root.specs.declared.record.CertificateAuthority.{CertificateAuthority}
use Rattle.sig_root.specs.declared.record.TransparencyLogInstance.{TransparencyLogInstance}

-- an instance that is not held where it has no members
abbrev pub whole_instance : Option TransparencyLogInstance → TransparencyLogInstance
whole_instance held = unwrap_or held (record { public_key = None; log_id = None })

-- the same for an authority
abbrev pub whole_authority : Option CertificateAuthority → CertificateAuthority
whole_authority held = unwrap_or held (record { cert_chain = None; valid_for = None })
