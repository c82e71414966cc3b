-- The links `issuance`, `issuer` and `sct` of a certificate (RFC 5280 section 6.1; RFC 6962 section 3.2), as one
-- result: the first of them that fails, or that none does.
use Rattle.std.specs.Prelude.{ℕ, List, Option, Some, None, option_map, slice_get, Result, Ok, Err}
use Rattle.sig_base.specs.ResultSteps.{◌>>=◌}
use Rattle.sig_base.specs.Sha256.{sha256}
use Rattle.sig_base.specs.declared.fault.PoolError.{PoolError}
use Rattle.sig_certificate.specs.Certificate.{Cert}
use Rattle.sig_checked_bundle.specs.Checked.{Checked}
use Rattle.sig_timestamp.specs.Embedded.{ready_with}
use Rattle.sig_timestamp.specs.RingKey.{RingKey}
use Rattle.sig_timestamp.specs.SctBytes.{judged}
use Rattle.sig_timestamp.specs.Timestamps.{sct_of}
use Rattle.sig_timestamp.specs.Vouched.{AcceptsPoint}
use Rattle.sig_timestamp.specs.declared.sct_error.SCTError.{SCTError}
use Rattle.sig_x509.specs.Issuance.{Accepts}
use Rattle.sig_x509.specs.PathSearch.{path_issuer}
use Rattle.sig_x509.specs.Pool.{Pool, certificate_of, pool_over}
use Rattle.sig_x509.specs.declared.issuer.Issuer.{Issuer}
use Rattle.sig_x509.specs.declared.issuer.Issuer.TheVariants.{Anchor, Intermediate}
use Rattle.sig_verify.specs.Errors.{of_pool, of_sct}
use Rattle.sig_verify.specs.Verifier.{Trusted}
use Rattle.sig_verify.specs.declared.error.CertificateErrorKind.TheVariants.{VerificationFailed}
use Rattle.sig_verify.specs.declared.error.VerificationError.{VerificationError}
use Rattle.sig_verify.specs.declared.error.VerificationError.TheVariants.{Certificate}

abbrev pub from_pool : Result Issuer PoolError → Result Issuer VerificationError
from_pool (Ok issuer) = Ok issuer
from_pool (Err error) = Err (of_pool error)

abbrev pub from_sct : Result (Unit {0}) SCTError → Result (Unit {0}) VerificationError
from_sct (Ok done) = Ok done
from_sct (Err error) = Err (of_sct error)

abbrev pub spki_or_none : Option (List ℕ) → Result (List ℕ) VerificationError
spki_or_none (Some spki) = Ok spki
spki_or_none None = Err (Certificate VerificationFailed)

-- the issuer in the first path from the certificate to a trust anchor, at the first second of its validity
abbrev pub path_start : Accepts → Pool → Cert → Result Issuer VerificationError
path_start accepts pool c = from_pool (path_issuer accepts pool c c.not_before)

abbrev pub spki_of : Pool → Issuer → Option (List ℕ)
spki_of pool issuer = option_map (λ x. x.spki) (certificate_of pool issuer)

-- its key
abbrev pub issuer_spki : Accepts → Pool → Cert → Result (List ℕ) VerificationError
issuer_spki accepts pool c = path_start accepts pool c >>= λ issuer. spki_or_none (spki_of pool issuer)

-- the SHA-256 of its key
abbrev pub issuer_key_hash : Accepts → Pool → Cert → Result (List ℕ) VerificationError
issuer_key_hash accepts pool c = issuer_spki accepts pool c >>= λ spki. Ok (sha256 spki)

-- the issuer is a trust anchor, where these are the hashes of the anchors, or a further certificate
abbrev pub key_hash_of : List (List ℕ) → List Cert → Issuer → Option (List ℕ)
key_hash_of hashes further (Anchor index) = slice_get hashes index
key_hash_of hashes further (Intermediate index) = option_map (λ x. sha256 x.spki) (slice_get further index)

-- the certificate's one SCT, under the key of its log's id, if the issuer's SPKI has this SHA-256
abbrev pub sct_answer_with : AcceptsPoint → List (List ℕ × RingKey) → Cert → List ℕ → Result (Unit {0}) SCTError
sct_answer_with accepts ring c key_hash = ready_with c key_hash (sct_of c) >>= λ signed. judged accepts signed ring

-- the same if the issuer has this SPKI
abbrev pub sct_answer : AcceptsPoint → List (List ℕ × RingKey) → Cert → List ℕ → Result (Unit {0}) SCTError
sct_answer accepts ring c spki = sct_answer_with accepts ring c (sha256 spki)

-- for a certificate with further ones
abbrev pub issued_with : Accepts → AcceptsPoint → Trusted → List Cert → Cert → Result (Unit {0}) VerificationError
issued_with accepts accepts_point trusted further c = do
  spki ← issuer_spki accepts (pool_over trusted.anchors further) c
  from_sct (sct_answer accepts_point trusted.ring c spki)

abbrev pub issued_answer : Accepts → AcceptsPoint → Trusted → Checked → Result (Unit {0}) VerificationError
issued_answer accepts accepts_point trusted c = issued_with accepts accepts_point trusted c.further c.certificate
