-- A pool: trust anchors, and the intermediates that may lead to them.
use Rattle.std.specs.Prelude.{⊤, ◌≡◌, ℕ, ◌<◌, ◌≤◌, List, ◌++◌, length, map, slice_get, Option, Some, None}
use Rattle.std.specs.List.{AllZip}
use Rattle.sig_base.specs.declared.fault.PoolError.{PoolError}
use Rattle.sig_base.specs.declared.fault.PoolError.TheVariants.{TooMany, Anchor, Malformed, VerificationFailed}
use Rattle.sig_base.specs.declared.fault.PoolError.TheVariants.{OutOfMemory}
use Rattle.sig_certificate.specs.Certificate.{Cert, IsCertificate}
use Rattle.sig_x509.specs.Issuance.{IsFirstNoAnchor}
use Rattle.sig_x509.specs.declared.issuer.Issuer.{Issuer}
use Rattle.sig_x509.specs.declared.issuer.Issuer.TheVariants.{Anchor as ByAnchor, Intermediate as ByIntermediate}

-- the trust anchors, and the intermediates, each at its index: `None` where the bytes are not a certificate
pub record Pool : Type 0 where
  pub anchors : List Cert
  pub intermediates : List (Option Cert)

abbrev pub present : List Cert → List (Option Cert)
present cs = map (λ c. Some c) cs

-- the pool with further intermediates after its own
abbrev pub with_further : Pool → List Cert → Pool
with_further pool further = record {
  anchors = pool.anchors;
  intermediates = pool.intermediates ++ present further;
}

-- a pool of these trust anchors and intermediates
abbrev pub pool_over : List Cert → List Cert → Pool
pool_over anchors further = record { anchors = anchors; intermediates = present further }

-- ---- what an issuer is

abbrev pub intermediate_in : Option (Option Cert) → Option Cert
intermediate_in None = None
intermediate_in (Some o) = o

-- the certificate that it is
abbrev pub certificate_of : Pool → Issuer → Option Cert
certificate_of pool (ByAnchor index) = slice_get pool.anchors index
certificate_of pool (ByIntermediate index) = intermediate_in (slice_get pool.intermediates index)

-- the order of issuers: the trust anchors, then the intermediates
abbrev pub IsBefore : Issuer → Issuer → Type 0
IsBefore (ByAnchor i) (ByAnchor j) = i < j
IsBefore (ByAnchor i) (ByIntermediate j) = ⊤
IsBefore (ByIntermediate i) (ByAnchor j) = ⊥
IsBefore (ByIntermediate i) (ByIntermediate j) = i < j

-- ---- how a pool is made

-- the bytes of an intermediate are this certificate, or not a certificate
abbrev pub IsReadAs : List ℕ → Option Cert → Type 0
IsReadAs der None = (c : Cert) → ¬ IsCertificate der c
IsReadAs der (Some c) = IsCertificate der c

-- one by one
abbrev pub AreReadAs : List (List ℕ) → List (Option Cert) → Type 0
AreReadAs ders intermediates = AllZip IsReadAs ders intermediates

-- the greatest number of intermediates of a pool
abbrev pub most_intermediates : ℕ
most_intermediates = 1024

-- why there is no pool of these trust anchors and intermediates
abbrev pub IsPoolRefusal : List (List ℕ) → List (List ℕ) → PoolError → Type 0
IsPoolRefusal roots intermediates (TooMany count) =
    (count ≡ length intermediates) × (most_intermediates < length intermediates)
IsPoolRefusal roots intermediates (Anchor index) =
    (length intermediates ≤ most_intermediates) × IsFirstNoAnchor roots index
IsPoolRefusal roots intermediates OutOfMemory = ⊤
IsPoolRefusal roots intermediates Malformed = ⊥
IsPoolRefusal roots intermediates VerificationFailed = ⊥
