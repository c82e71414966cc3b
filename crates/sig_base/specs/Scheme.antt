-- The six signature schemes and their names.
use Rattle.std.specs.Prelude.{◌≡◌, ◌≢◌, ℕ, List, Option, Some, None, Result, IfOk, OnErr, codes, if◌then◌else◌}
use Rattle.std.specs.Result.{result_ok}
use Rattle.std.specs.Str.{bytes_eq}
use Rattle.sig_base.specs.declared.scheme.VerifyScheme.{VerifyScheme}
use Rattle.sig_base.specs.declared.scheme.VerifyScheme.TheVariants as verify
use Rattle.sig_base.specs.declared.scheme.SigningScheme.{SigningScheme}
use Rattle.sig_base.specs.declared.scheme.SigningScheme.TheVariants as signing
use Rattle.sig_base.specs.declared.scheme.UnknownScheme.{UnknownScheme}

-- a scheme's name
abbrev pub name_of : VerifyScheme → List ℕ
name_of verify.RSA_PSS_SHA256 = codes "RSA_PSS_SHA256"
name_of verify.RSA_PKCS1_SHA256 = codes "RSA_PKCS1_SHA256"
name_of verify.ECDSA_P256_SHA256_ASN1 = codes "ECDSA_P256_SHA256_ASN1"
name_of verify.ECDSA_P384_SHA384_ASN1 = codes "ECDSA_P384_SHA384_ASN1"
name_of verify.ECDSA_P521_SHA512_ASN1 = codes "ECDSA_P521_SHA512_ASN1"
name_of verify.ED25519 = codes "ED25519"

-- the scheme without the size of the key
abbrev pub scheme_of : SigningScheme → VerifyScheme
scheme_of (signing.RSA_PSS_SHA256 _) = verify.RSA_PSS_SHA256
scheme_of (signing.RSA_PKCS1_SHA256 _) = verify.RSA_PKCS1_SHA256
scheme_of signing.ECDSA_P256_SHA256_ASN1 = verify.ECDSA_P256_SHA256_ASN1
scheme_of signing.ECDSA_P384_SHA384_ASN1 = verify.ECDSA_P384_SHA384_ASN1
scheme_of signing.ECDSA_P521_SHA512_ASN1 = verify.ECDSA_P521_SHA512_ASN1
scheme_of signing.ED25519 = verify.ED25519

-- the scheme that a text names; the size of an RSA key is then the default
abbrev pub scheme_named : List ℕ → Option SigningScheme
scheme_named text =
    if bytes_eq text (codes "RSA_PSS_SHA256") then Some (signing.RSA_PSS_SHA256 2048) else
    if bytes_eq text (codes "RSA_PKCS1_SHA256") then Some (signing.RSA_PKCS1_SHA256 2048) else
    if bytes_eq text (codes "ECDSA_P256_SHA256_ASN1") then Some signing.ECDSA_P256_SHA256_ASN1 else
    if bytes_eq text (codes "ECDSA_P384_SHA384_ASN1") then Some signing.ECDSA_P384_SHA384_ASN1 else
    if bytes_eq text (codes "ECDSA_P521_SHA512_ASN1") then Some signing.ECDSA_P521_SHA512_ASN1 else
    if bytes_eq text (codes "ED25519") then Some signing.ED25519 else None

-- an RSA key has the default size
abbrev pub HasDefaultSize : SigningScheme → Type 0
HasDefaultSize (signing.RSA_PSS_SHA256 size) = size ≡ 2048
HasDefaultSize (signing.RSA_PKCS1_SHA256 size) = size ≡ 2048
HasDefaultSize _ = Unit {0}

-- the result of a reader of names: the scheme of that name, with a key of the default size; an error if and only if
-- the text is not one of the six names
pub record IsReadOf (text : List ℕ) (read : Result SigningScheme UnknownScheme) : Type 0 where
  pub named : IfOk read (λ scheme. name_of (scheme_of scheme) ≡ text)
  pub sized : IfOk read HasDefaultSize
  pub refused : OnErr read ((scheme : VerifyScheme) → name_of scheme ≢ text)
  pub value : result_ok read ≡ scheme_named text
