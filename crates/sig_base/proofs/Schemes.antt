-- A text that the reader of names refuses is the name of no scheme.
use Rattle.std.proofs.Common.{◌≡◌, ◌≢◌, ℕ, List, None, sym, subst}
use Rattle.sig_base.specs.declared.scheme.VerifyScheme.{VerifyScheme}
use Rattle.sig_base.specs.declared.scheme.VerifyScheme.TheVariants.{RSA_PSS_SHA256, RSA_PKCS1_SHA256}
use Rattle.sig_base.specs.declared.scheme.VerifyScheme.TheVariants.{ECDSA_P256_SHA256_ASN1, ECDSA_P384_SHA384_ASN1}
use Rattle.sig_base.specs.declared.scheme.VerifyScheme.TheVariants.{ECDSA_P521_SHA512_ASN1, ED25519}
use Rattle.sig_base.specs.Scheme.{name_of, scheme_named}

-- a name is read
name-read : (scheme : VerifyScheme) → scheme_named (name_of scheme) ≢ None
name-read RSA_PSS_SHA256 e = cc
name-read RSA_PKCS1_SHA256 e = cc
name-read ECDSA_P256_SHA256_ASN1 e = cc
name-read ECDSA_P384_SHA384_ASN1 e = cc
name-read ECDSA_P521_SHA512_ASN1 e = cc
name-read ED25519 e = cc

pub unnamed : (text : List ℕ) → scheme_named text ≡ None → (scheme : VerifyScheme) → name_of scheme ≢ text
unnamed text none scheme e =
    name-read scheme (let P : List ℕ → Type 0 = λ t. scheme_named t ≡ None in subst P (sym e) none)
