-- *Trust*: what a caller trusts.
use Rattle.std.specs.Prelude.{ℤ, Option}
use Rattle.sig_payload.specs.Bundles.{AcceptsSpki, Keys}
use Rattle.sig_x509.specs.Issuance.{Accepts}
use Rattle.sig_x509.specs.Pool.{Pool}

-- the signatures over messages and over certificates that are genuine, the keys of logs by their ids, the trust anchors
-- the pool of certificates, and the time in seconds since 1970
pub record Trust : Type 0 where
  pub spki : AcceptsSpki
  pub cert : Accepts
  pub keys : Option Keys
  pub pool : Option Pool
  pub now : ℤ

abbrev pub trust_in : AcceptsSpki → Accepts → Option Keys → Option Pool → ℤ → Trust
trust_in spki cert keys pool now = record { spki = spki; cert = cert; keys = keys; pool = pool; now = now }
