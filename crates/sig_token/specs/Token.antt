-- *Identity token*: the text of a token of Sigstore, what it says, and the first rule that another text breaks. Its
-- signature is part of the text, and is not checked.
use Rattle.std.specs.Prelude.{◌≡◌, ◌≢◌, ℕ, List, codes, Some, None, Result, Ok, Err, if◌then◌else◌}
use Rattle.std.specs.Option.{ok_or}
use Rattle.std.specs.Str.{bytes_eq}
use Rattle.sig_base.specs.ResultSteps.{◌>>=◌}
use Rattle.sig_base.specs.declared.error.SigstoreError.{SigstoreError}
use Rattle.sig_base.specs.declared.error.SigstoreError.TheVariants.{IdentityTokenError}
use Rattle.sig_base.specs.declared.fault.TokenFault.{TokenFault}
use Rattle.sig_base.specs.declared.fault.TokenFault.TheVariants.{NotThreeParts, ClaimsBase64, ClaimsJson, NotSigstore}
use Rattle.sig_json.specs.declared.error.JsonError.{JsonError}
use Rattle.sig_token.specs.Claims.{claims_in}
use Rattle.sig_token.specs.Compact.{HasPayload, payload_of}
use Rattle.sig_token.specs.Seen.{Token}
use Rattle.sig_token.specs.Unpadded.{unpadded_bytes}
use Rattle.sig_token.specs.declared.claims.Claims.{Claims}

-- the audience of tokens that are for Sigstore (RFC 7519 section 4.1.3)
abbrev pub audience : List ℕ
audience = codes "sigstore"

-- the bytes that the text's payload is in base64
pub record HoldsBytes (text bytes : List ℕ) : Type 0 where
  pub payload : List ℕ
  pub held : HasPayload text payload
  pub coded : unpadded_bytes payload ≡ Some bytes

-- the text's payload is an object of these claims
pub record HoldsClaims (text : List ℕ) (claims : Claims) : Type 0 where
  pub bytes : List ℕ
  pub held : HoldsBytes text bytes
  pub read : claims_in bytes ≡ Ok claims

-- the text is a token of Sigstore, which says this
pub record IsToken (text : List ℕ) (claims : Claims) : Type 0 where
  pub held : HoldsClaims text claims
  pub addressed : claims.aud ≡ audience

-- the first rule that the text breaks: three parts, base64, claims, the audience
abbrev pub IsTokenFault : List ℕ → TokenFault → Type 0
IsTokenFault text NotThreeParts = (payload : List ℕ) → ¬ HasPayload text payload
IsTokenFault text ClaimsBase64 = (payload : List ℕ) × HasPayload text payload × (unpadded_bytes payload ≡ None)
IsTokenFault text ClaimsJson =
    (bytes : List ℕ) × HoldsBytes text bytes × ((claims : Claims) → ¬ (claims_in bytes ≡ Ok claims))
IsTokenFault text NotSigstore = (claims : Claims) × HoldsClaims text claims × (claims.aud ≢ audience)

-- ---- the same as a function

abbrev pub claims_or_fault : Result Claims JsonError → Result Claims SigstoreError
claims_or_fault (Ok claims) = Ok claims
claims_or_fault (Err why) = Err (IdentityTokenError ClaimsJson)

abbrev pub for_sigstore : Claims → Result Claims SigstoreError
for_sigstore claims = if bytes_eq claims.aud audience then Ok claims else Err (IdentityTokenError NotSigstore)

unfoldable pub token_of : List ℕ → Result Token SigstoreError
token_of text = do
  payload ← ok_or (payload_of text) (IdentityTokenError NotThreeParts)
  bytes ← ok_or (unpadded_bytes payload) (IdentityTokenError ClaimsBase64)
  claims ← claims_or_fault (claims_in bytes)
  addressed ← for_sigstore claims
  Ok (record { text = text; claims = addressed })
