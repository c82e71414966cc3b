-- *Records*: those that a bundle and a trusted root both have (sigstore.common.v1): each member with its name, its
-- kind, and what it means where it is absent.
use Rattle.std.specs.Prelude.{ℕ, List, codes, Option}
use Rattle.sig_json.specs.Data.{Data}
use Rattle.sig_json.specs.Member.{optional_bytes, optional_list}

-- a certificate (X509Certificate), as its DER
abbrev pub certificate_of : Data → Option (List ℕ)
certificate_of = optional_bytes (codes "rawBytes")

-- a chain of certificates (X509CertificateChain)
abbrev pub chain_of : Data → Option (List (List ℕ))
chain_of = optional_list certificate_of (codes "certificates")

-- the id of a log (LogId)
abbrev pub log_id_of : Data → Option (List ℕ)
log_id_of = optional_bytes (codes "keyId")
