-- *Supported key*: the scheme of the key of a SubjectPublicKeyInfo, by its algorithm, its parameters and its curve.
use Rattle.std.specs.Prelude.{◌≡◌, ◌≢◌, ℕ, List, Some}
use Rattle.sig_base.specs.declared.scheme.VerifyScheme.{VerifyScheme}
use Rattle.sig_base.specs.declared.scheme.VerifyScheme.TheVariants as scheme
use Rattle.sig_der.specs.KeyInfo.{Algorithm, KeyInfo, IsKeyInfo}
use Rattle.sig_der.specs.ObjectIdentifiers.{ec_public_key, p256, p384, p521, rsa, ed25519}
use Rattle.sig_der.specs.Reading.{Piece}
use Rattle.sig_der.specs.Tag.{OBJECT_IDENTIFIER}

-- The algorithm is id-ecPublicKey, and its parameters are the object identifier of this curve (RFC 5480 section 2.1.1).
pub record IsOnCurve (curve : List ℕ) (a : Algorithm) : Type 0 where
  pub parameters : Piece
  pub elliptic : a.oid ≡ ec_public_key
  pub there : a.parameters ≡ Some parameters
  pub identifier : parameters.tag ≡ OBJECT_IDENTIFIER
  pub named : parameters.content ≡ curve

-- The algorithm is that of the scheme's keys. RSA and Ed25519 have any parameters, or no parameters; no algorithm is
-- that of the scheme RSASSA-PSS, since rsaEncryption is read as PKCS #1.
abbrev pub IsAlgorithmFor : VerifyScheme → Algorithm → Type 0
IsAlgorithmFor scheme.ECDSA_P256_SHA256_ASN1 a = IsOnCurve p256 a
IsAlgorithmFor scheme.ECDSA_P384_SHA384_ASN1 a = IsOnCurve p384 a
IsAlgorithmFor scheme.ECDSA_P521_SHA512_ASN1 a = IsOnCurve p521 a
IsAlgorithmFor scheme.RSA_PKCS1_SHA256 a = a.oid ≡ rsa
IsAlgorithmFor scheme.RSA_PSS_SHA256 a = ⊥
IsAlgorithmFor scheme.ED25519 a = a.oid ≡ ed25519

-- The algorithm is neither RSA nor Ed25519, nor an elliptic curve key on P-256, P-384 or P-521.
pub record IsOther (a : Algorithm) : Type 0 where
  pub not_rsa : a.oid ≢ rsa
  pub not_ed25519 : a.oid ≢ ed25519
  pub not_p256 : ¬ IsOnCurve p256 a
  pub not_p384 : ¬ IsOnCurve p384 a
  pub not_p521 : ¬ IsOnCurve p521 a

-- The bytes are a SubjectPublicKeyInfo of a key of the scheme.
pub record IsKeyOf (spki : List ℕ) (s : VerifyScheme) : Type 0 where
  pub info : KeyInfo
  pub is : IsKeyInfo info
  pub whole : info.whole ≡ spki
  pub algorithm : IsAlgorithmFor s info.algorithm

-- They are one of another algorithm or curve.
pub record IsUnsupported (spki : List ℕ) : Type 0 where
  pub info : KeyInfo
  pub is : IsKeyInfo info
  pub whole : info.whole ≡ spki
  pub other : IsOther info.algorithm

-- The bytes are not an SPKI.
abbrev pub IsNoKeyInfo : List ℕ → Type 0
IsNoKeyInfo spki = (info : KeyInfo) → IsKeyInfo info → info.whole ≢ spki
