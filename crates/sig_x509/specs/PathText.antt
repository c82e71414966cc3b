-- The result for bytes that may be a certificate.
use Rattle.std.specs.Prelude.{◌≡◌, ◌⊎◌, ℕ, ℤ, List, Result, Err}
use Rattle.sig_base.specs.Answers.{Answers}
use Rattle.sig_base.specs.declared.fault.PoolError.{PoolError}
use Rattle.sig_base.specs.declared.fault.PoolError.TheVariants.{Malformed, OutOfMemory}
use Rattle.sig_certificate.specs.Certificate.{Cert, IsCertificate}
use Rattle.sig_x509.specs.Issuance.{Accepts}
use Rattle.sig_x509.specs.Issued.{HasProfile, IsOnlyCertificate}
use Rattle.sig_x509.specs.Path.{HasNoPath, IsFirstInPath}
use Rattle.sig_x509.specs.PathSearch.{path_issuer}
use Rattle.sig_x509.specs.Pool.{Pool}
use Rattle.sig_x509.specs.declared.issuer.Issuer.{Issuer}

-- the result, unless memory ran out
abbrev pub Meant : Result Issuer PoolError → Result Issuer PoolError → Type 0
Meant r m = Answers OutOfMemory (λ (issuer : Issuer). issuer) r m

-- the bytes are a certificate, and this holds of it
abbrev pub OfCertificate : List ℕ → (Cert → Type 0) → Type 0
OfCertificate der P = (c : Cert) × IsCertificate der c × P c

-- the bytes are not a certificate with the profile
abbrev pub HasNoProfile : List ℕ → Type 0
HasNoProfile der = (c : Cert) → IsCertificate der c → ¬ HasProfile c

-- a certificate with the profile, whose first issuer in a path is this one
abbrev pub IsIssuedText : Accepts → Pool → List ℕ → ℤ → Issuer → Type 0
IsIssuedText accepts pool der t issuer =
    OfCertificate der (λ c. HasProfile c × IsFirstInPath accepts pool c t issuer)

-- a certificate with the profile, from which no path leads to a trust anchor
abbrev pub IsUnissuedText : Accepts → Pool → List ℕ → ℤ → Type 0
IsUnissuedText accepts pool der t = OfCertificate der (λ c. HasProfile c × HasNoPath accepts pool c t)

-- the bytes are one certificate, and this is its result; or they are not, and it is `Malformed`; or memory ran out
abbrev pub IsJudgedText : Accepts → Pool → List ℕ → ℤ → Result Issuer PoolError → Type 0
IsJudgedText accepts pool der t r =
    ((c : Cert) × IsOnlyCertificate der c × Meant r (path_issuer accepts pool c t))
    ⊎ ((((c : Cert) → ¬ IsCertificate der c) × (r ≡ Err Malformed)) ⊎ (r ≡ Err OutOfMemory))
