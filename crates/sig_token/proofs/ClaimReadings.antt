-- Of an object of claims no member but these is looked at.
use Rattle.std.proofs.Common.{◌≡◌, ℕ, List, [], ◌∷◌, codes, None, Some, option_map, refl}
use Rattle.sig_json.proofs.NamedMembers.{optional_or-only, required-only}
use Rattle.sig_json.proofs.Records.{record_with-same}
use Rattle.sig_json.specs.Data.{Data}
use Rattle.sig_json.specs.Kinds.{text_of}
use Rattle.sig_json.specs.NumberKinds.{i64_number_of}
use Rattle.sig_json.specs.Only.{only}
use Rattle.sig_json.specs.Record.{record_with}
use Rattle.sig_token.specs.Claims.{claims_in, claims_of}

abbrev pub claim_names : List (List ℕ)
claim_names = codes "aud" ∷ codes "exp" ∷ codes "nbf" ∷ codes "email" ∷ []

claims-only : (d : Data) → claims_of (only claim_names d) ≡ claims_of d
unfolding claims_of
claims-only d =
    rw (
      required-only text_of claim_names (codes "aud") d refl,
      required-only i64_number_of claim_names (codes "exp") d refl,
      optional_or-only None (λ e. option_map Some (i64_number_of e)) claim_names (codes "nbf") d refl,
      required-only text_of claim_names (codes "email") d refl,
    ) refl

pub claims-listed : (text : List ℕ) → record_with claim_names claims_of text ≡ claims_in text
claims-listed text = record_with-same claim_names claims_of text claims-only
