-- *Key kind*: what kind of key some bytes are. SubjectPublicKeyInfo of RFC 5280 section 4.1.2.7, with the algorithms
-- of RFC 5480 section 2.1 (elliptic curves), RFC 3279 section 2.3.1 and RFC 8017 appendix A.1 (RSA) and RFC 8410
-- section 3 (Ed25519), by their dotted numbers.
use Rattle.std.specs.Prelude.{◌≡◌, ◌≢◌, ℕ, List, Option, Some, None, Result, Ok, Err, ◌==◌, if◌then◌else◌}
use Rattle.std.specs.Str.{bytes_eq}
use Rattle.sig_base.specs.declared.scheme.VerifyScheme.{VerifyScheme}
use Rattle.sig_base.specs.declared.scheme.VerifyScheme.TheVariants as scheme
use Rattle.sig_base.specs.declared.error.SigstoreError.{SigstoreError}
use Rattle.sig_base.specs.declared.error.SigstoreError.TheVariants.{KeyParsingError}
use Rattle.sig_base.specs.declared.error.SigstoreError.TheVariants.{PublicKeyUnsupportedAlgorithmError}
use Rattle.sig_der.specs.ObjectIdentifiers.{ec_public_key, p256, p384, p521, rsa, ed25519}
use Rattle.sig_der.specs.Tag.{OBJECT_IDENTIFIER}
use Rattle.sig_der.specs.Reading.{Piece}
use Rattle.sig_der.specs.KeyInfo.{Algorithm, KeyInfo, IsKeyInfo, whole_key_info}
use Rattle.sig_key.specs.declared.kind.KeyKind.{KeyKind}
use Rattle.sig_key.specs.declared.kind.KeyKind.TheVariants.{NoKeyInfo, Unsupported, Scheme}
use Rattle.sig_key.specs.declared.verification_key.CosignVerificationKey.{CosignVerificationKey}
use Rattle.sig_key.specs.Key.{key_scheme, key_info}

abbrev pub curve_scheme : List ℕ → Option VerifyScheme
curve_scheme oid =
    if bytes_eq oid p256 then Some scheme.ECDSA_P256_SHA256_ASN1
    else if bytes_eq oid p384 then Some scheme.ECDSA_P384_SHA384_ASN1
    else if bytes_eq oid p521 then Some scheme.ECDSA_P521_SHA512_ASN1
    else None

-- parameters that name one of the three curves
abbrev pub parameters_scheme : Option Piece → Option VerifyScheme
parameters_scheme None = None
parameters_scheme (Some p) = if p.tag == OBJECT_IDENTIFIER then curve_scheme p.content else None

-- the scheme by an object identifier and parameters; RSA and Ed25519 have any parameters, or no parameters
abbrev pub scheme_by : List ℕ → Option Piece → Option VerifyScheme
scheme_by oid parameters =
    if bytes_eq oid ec_public_key then parameters_scheme parameters
    else if bytes_eq oid rsa then Some scheme.RSA_PKCS1_SHA256
    else if bytes_eq oid ed25519 then Some scheme.ED25519
    else None

abbrev pub algorithm_scheme : Algorithm → Option VerifyScheme
algorithm_scheme a = scheme_by a.oid a.parameters

abbrev pub kind_of_scheme : Option VerifyScheme → KeyKind
kind_of_scheme None = Unsupported
kind_of_scheme (Some s) = Scheme s

-- the bytes are an SPKI of this kind, or not an SPKI
pub record IsKeyInfoOf (spki : List ℕ) (found : Option VerifyScheme) : Type 0 where
  pub info : KeyInfo
  pub is : IsKeyInfo info
  pub whole : info.whole ≡ spki
  pub kind : algorithm_scheme info.algorithm ≡ found

abbrev pub IsKind : List ℕ → KeyKind → Type 0
IsKind spki NoKeyInfo = (info : KeyInfo) → IsKeyInfo info → info.whole ≢ spki
IsKind spki Unsupported = IsKeyInfoOf spki None
IsKind spki (Scheme s) = IsKeyInfoOf spki (Some s)

-- ---- by computation

abbrev pub kind_of_info : Option KeyInfo → KeyKind
kind_of_info None = NoKeyInfo
kind_of_info (Some info) = kind_of_scheme (algorithm_scheme info.algorithm)

unfoldable pub key_kind : List ℕ → KeyKind
key_kind spki = kind_of_info (whole_key_info spki)

-- ---- the result for bytes of a kind: the key's scheme and its SPKI

abbrev pub key_parts : CosignVerificationKey → VerifyScheme × List ℕ
key_parts key = (key_scheme key, key_info key)

abbrev pub kind_answer : List ℕ → KeyKind → Result (VerifyScheme × List ℕ) SigstoreError
kind_answer spki NoKeyInfo = Err KeyParsingError
kind_answer spki Unsupported = Err PublicKeyUnsupportedAlgorithmError
kind_answer spki (Scheme s) = Ok (s, spki)
