-- A scheme's name is a text.
use Rattle.std.proofs.Common.{◌≡◌, ℕ, zero, suc, Bool, true, List, [], ◌∷◌, ltb, refl, subst, sym, ◌∙◌, arith}
use Rattle.std.proofs.lemmas.Bool.{and_parts, ltb-true}
use Rattle.std.proofs.lemmas.Str.{IsUtf8-from_ascii}
use Rattle.std.specs.List.{list_all}
use Rattle.std.specs.Str.{IsAscii, IsUtf8}
use Rattle.sig_base.specs.Scheme.{name_of}
use Rattle.sig_base.specs.declared.scheme.VerifyScheme.{VerifyScheme}
use Rattle.sig_base.specs.declared.scheme.VerifyScheme.TheVariants as scheme
use Rattle.sig_reply.specs.RowsText.{IsSchemeName}

abbrev is_ascii : List ℕ → Bool
is_ascii bytes = list_all (λ b. ltb b 128) bytes

ascii : (bytes : List ℕ) → is_ascii bytes ≡ true → IsAscii bytes
ascii [] e i = omega arith
ascii (b ∷ bytes) e zero = ltb-true b 128 (and_parts (ltb b 128) (is_ascii bytes) e).0
ascii (b ∷ bytes) e (suc i) = ascii bytes (and_parts (ltb b 128) (is_ascii bytes) e).1 i

name-ascii : (named : VerifyScheme) → is_ascii (name_of named) ≡ true
name-ascii scheme.RSA_PSS_SHA256 = refl
name-ascii scheme.RSA_PKCS1_SHA256 = refl
name-ascii scheme.ECDSA_P256_SHA256_ASN1 = refl
name-ascii scheme.ECDSA_P384_SHA384_ASN1 = refl
name-ascii scheme.ECDSA_P521_SHA512_ASN1 = refl
name-ascii scheme.ED25519 = refl

pub scheme-text : (scheme bytes : List ℕ) → IsSchemeName scheme → bytes ≡ scheme → IsUtf8 bytes
scheme-text scheme bytes (named, is) same =
    subst IsUtf8 (sym (same ∙ is)) (IsUtf8-from_ascii (name_of named) (ascii (name_of named) (name-ascii named)))
