-- A key to check signatures with: a scheme and the SPKI's DER; and the result of a check with it.
use Rattle.std.specs.Prelude.{ℕ, Bool, if◌then◌else◌, List, Option, Some, None, Result, Ok, Err}
use Rattle.sig_base.specs.declared.scheme.VerifyScheme.{VerifyScheme}
use Rattle.sig_base.specs.declared.scheme.VerifyScheme.TheVariants as scheme
use Rattle.sig_base.specs.declared.error.SigstoreError.{SigstoreError}
use Rattle.sig_base.specs.declared.error.SigstoreError.TheVariants.{Base64DecodeError, PublicKeyVerificationError}
use Rattle.sig_key.specs.declared.verification_key.CosignVerificationKey.{CosignVerificationKey}
use Rattle.sig_key.specs.declared.verification_key.CosignVerificationKey.TheVariants as key

abbrev pub key_scheme : CosignVerificationKey → VerifyScheme
key_scheme (key.RSA_PSS_SHA256 _) = scheme.RSA_PSS_SHA256
key_scheme (key.RSA_PKCS1_SHA256 _) = scheme.RSA_PKCS1_SHA256
key_scheme (key.ECDSA_P256_SHA256_ASN1 _) = scheme.ECDSA_P256_SHA256_ASN1
key_scheme (key.ECDSA_P384_SHA384_ASN1 _) = scheme.ECDSA_P384_SHA384_ASN1
key_scheme (key.ECDSA_P521_SHA512_ASN1 _) = scheme.ECDSA_P521_SHA512_ASN1
key_scheme (key.ED25519 _) = scheme.ED25519

-- the SPKI's DER
abbrev pub key_info : CosignVerificationKey → List ℕ
key_info (key.RSA_PSS_SHA256 spki) = spki
key_info (key.RSA_PKCS1_SHA256 spki) = spki
key_info (key.ECDSA_P256_SHA256_ASN1 spki) = spki
key_info (key.ECDSA_P384_SHA384_ASN1 spki) = spki
key_info (key.ECDSA_P521_SHA512_ASN1 spki) = spki
key_info (key.ED25519 spki) = spki

-- the messages and signatures that a checker accepts for a key. The first argument is the checker's predicate
abbrev pub key_accepts : (VerifyScheme → List ℕ → List ℕ → List ℕ → Bool) → CosignVerificationKey → List ℕ → List ℕ
    → Bool
key_accepts accepts key message signature = accepts (key_scheme key) (key_info key) message signature

-- the result for the bytes of a signature, or for no bytes
abbrev pub check_answer : (List ℕ → Bool) → Option (List ℕ) → Result (Unit {0}) SigstoreError
check_answer accepts None = Err Base64DecodeError
check_answer accepts (Some signature) = if accepts signature then Ok tt else Err PublicKeyVerificationError
