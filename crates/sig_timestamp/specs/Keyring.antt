-- *Keyring key*: which SPKIs are keys of Certificate Transparency logs, and the key that a list of them has for an id.
use Rattle.std.specs.Prelude.{◌≡◌, ◌⊎◌, ◌≤◌, ℕ, Bool, true, not, ◌&&◌, ◌==◌, if◌then◌else◌, List, [], ◌∷◌, Option}
use Rattle.std.specs.Prelude.{Some, None, Result, Ok, Err, bytes_eq}
use Rattle.std.specs.Borrow.{Bor}
use Rattle.std.specs.Option.{option_or}
use Rattle.std.specs.Result.{result_ok}
use Rattle.sig_base.specs.Sha256.{sha256}
use Rattle.sig_der.specs.Reading.{Piece}
use Rattle.sig_der.specs.KeyInfo.{KeyInfo, IsKeyInfo, is_empty, whole_key_info}
use Rattle.sig_der.specs.Tag.{OBJECT_IDENTIFIER, NULL}
use Rattle.sig_der.specs.declared.place.Place.{Place}
use Rattle.sig_der.specs.ObjectIdentifiers.{ec_public_key, p256, rsa}
use Rattle.sig_timestamp.specs.declared.keyring_error.KeyringError.{KeyringError}
use Rattle.sig_timestamp.specs.declared.keyring_error.KeyringError.TheVariants.{KeyMalformed, AlgoUnsupported}
use Rattle.sig_timestamp.specs.declared.keyring_error.KeyringError.TheVariants.{KeyNotFound, VerificationFailed}

-- ---- one key

-- an object identifier, X.690 section 8.19
abbrev pub is_identifier : Piece → Bool
is_identifier p = (p.tag == OBJECT_IDENTIFIER) && not (is_empty p.content)

-- NULL, X.690 section 8.8
abbrev pub is_null : Piece → Bool
is_null p = (p.tag == NULL) && is_empty p.content

-- What the algorithm and its parameters say of the bits: a point of P-256 is a key on an elliptic curve whose
-- parameters are the curve's identifier (RFC 5480 section 2.1.1).
abbrev pub point_under : List ℕ → List ℕ → Option Piece → Result (List ℕ) KeyringError
point_under bits oid None = Err AlgoUnsupported
point_under bits oid (Some p) =
    if is_identifier p
    then (if bytes_eq oid ec_public_key && bytes_eq p.content p256 then Ok bits else Err AlgoUnsupported)
    else if is_null p && bytes_eq oid rsa then Err AlgoUnsupported
    else Err KeyMalformed

-- the point of an SPKI, or why it is not a key of a ring
abbrev pub point_in : KeyInfo → Result (List ℕ) KeyringError
point_in k = point_under k.bits k.algorithm.oid k.algorithm.parameters

-- The bytes are an SPKI that is a key of a ring, and this is its point.
pub record IsRingKey (spki point : List ℕ) : Type 0 where
  pub info : KeyInfo
  pub is : IsKeyInfo info
  pub text : info.whole ≡ spki
  pub parameters : Piece
  pub has : info.algorithm.parameters ≡ Some parameters
  pub elliptic : info.algorithm.oid ≡ ec_public_key
  pub identifier : parameters.tag ≡ OBJECT_IDENTIFIER
  pub curve : parameters.content ≡ p256
  pub bits : info.bits ≡ point

abbrev pub point_of_info : Option KeyInfo → Result (List ℕ) KeyringError
point_of_info None = Err KeyMalformed
point_of_info (Some k) = point_in k

-- the point of bytes, or why they are not a key of a ring
unfoldable pub point_of : List ℕ → Result (List ℕ) KeyringError
point_of spki = point_of_info (whole_key_info spki)

abbrev pub borrowed_point : Result (Bor (List ℕ)) KeyringError → Result (List ℕ) KeyringError
borrowed_point (Ok p) = Ok p.now
borrowed_point (Err e) = Err e

-- the range of the parameters, if there are any, lies within the bytes
abbrev pub IsParametersWithin : ℕ → Option Place → Type 0
IsParametersWithin end None = Unit {0}
IsParametersWithin end (Some p) = (p.content ≤ p.end) × (p.end ≤ end)

-- ---- a ring

-- the point of the SPKI, if it is a key of a ring and has this id
abbrev pub point_if : List ℕ → List ℕ → Option (List ℕ)
point_if id spki = if bytes_eq id (sha256 spki) then result_ok (point_of spki) else None

-- *Keyring key*: the point of the last SPKI in the list that is a key of a ring and has this id
unfoldable pub key_of : List (List ℕ) → List ℕ → Option (List ℕ)
key_of [] id = None
key_of (spki ∷ keys) id = option_or (key_of keys id) (point_if id spki)

-- whether a signature is genuine under the point
abbrev pub vouch : (List ℕ → List ℕ → List ℕ → Bool) → Option (List ℕ) → List ℕ → List ℕ
    → Result (Unit {0}) KeyringError
vouch accepts None message signature = Err KeyNotFound
vouch accepts (Some point) message signature = if accepts point message signature then Ok tt
    else Err VerificationFailed

-- ---- why bytes are not a key of a ring

-- the parameters are absent, an object identifier, or the NULL of an RSA key (RFC 3279 section 2.3.1)
abbrev pub AreKnown : List ℕ → Option Piece → Type 0
AreKnown oid None = Unit {0}
AreKnown oid (Some p) = (is_identifier p ≡ true) ⊎ ((is_null p ≡ true) × (oid ≡ rsa))

-- The bytes are not an SPKI, or one with other parameters.
abbrev pub IsMalformedKey : List ℕ → Type 0
IsMalformedKey spki = (k : KeyInfo) → IsKeyInfo k → k.whole ≡ spki → ¬ AreKnown k.algorithm.oid k.algorithm.parameters

-- The bytes are an SPKI with such parameters, and not a point of P-256.
pub record IsOtherKey (spki : List ℕ) : Type 0 where
  pub info : KeyInfo
  pub is : IsKeyInfo info
  pub text : info.whole ≡ spki
  pub known : AreKnown info.algorithm.oid info.algorithm.parameters
  pub other : (point : List ℕ) → ¬ IsRingKey spki point
