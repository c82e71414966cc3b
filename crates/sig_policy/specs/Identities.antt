-- The policy of one identity: whom the certificate was issued for, and by which issuer.
use Rattle.std.specs.Prelude.{ℕ, List, [], ◌∷◌, Bool, false, ◌&&◌, Option, Some, None, option_map, codes}
use Rattle.std.specs.Prelude.{if◌then◌else◌}
use Rattle.std.specs.List.{list_any, filter_map, join_by}
use Rattle.std.specs.Str.{bytes_eq}
use Rattle.sig_certificate.specs.Certificate.{Extension, Cert}
use Rattle.sig_policy.specs.Claim.{Claim}
use Rattle.sig_certificate.specs.Lookups.{with_oid}
use Rattle.sig_policy.specs.Texts.{utf8_text}
use Rattle.sig_certificate.specs.Names.{Name, Email, Uri, Other, Unread, general_names_of}
use Rattle.sig_der.specs.ObjectIdentifiers.{subject_alternative_name, fulcio}
use Rattle.sig_policy.specs.Single.{extension_text, is_asked_text, single_refusal}
use Rattle.sig_policy.specs.Refusals.{Refusal, not_found, check_failed}

-- the identity that a name gives: the text of an email, of a URI, or of an other name of Fulcio's kind,
-- 1.3.6.1.4.1.57264.1.7
abbrev pub identity_of : Name → Option (List ℕ)
identity_of (Email text) = utf8_text text
identity_of (Uri text) = utf8_text text
identity_of (Other oid value) = if bytes_eq oid (fulcio 7) then utf8_text value else None
identity_of Unread = None

-- the identities that a subject alternative name of this value gives, in order; absent if it is malformed
abbrev pub identities_of : List ℕ → Option (List (List ℕ))
identities_of value = option_map (λ ns. filter_map identity_of ns) (general_names_of value)

-- those of the only extension
abbrev pub only_identities : List Extension → Option (List (List ℕ))
only_identities [] = None
only_identities (e ∷ []) = identities_of e.value
only_identities (e ∷ f ∷ es) = None

abbrev pub identities : Cert → Option (List (List ℕ))
identities c = only_identities (with_oid subject_alternative_name c.extensions)

-- the identities are there, and this is one of them
abbrev pub is_among_identities : List ℕ → Option (List (List ℕ)) → Bool
is_among_identities identity None = false
is_among_identities identity (Some texts) = list_any (λ t. bytes_eq t identity) texts

-- why the identity is not among them
abbrev pub name_refusal : List ℕ → Option (List (List ℕ)) → Refusal
name_refusal identity None = not_found
name_refusal identity (Some texts) = check_failed (codes "SubjectAltName") identity (join_by (λ t. t)
    (codes ", ") texts)

abbrev pub is_issued_by : List ℕ → Cert → Bool
is_issued_by issuer c = is_asked_text issuer (extension_text (fulcio 1) c)

abbrev pub identity_holds : Claim → Cert → Bool
identity_holds p c = is_issued_by p.issuer c && is_among_identities p.identity (identities c)

-- the issuer is checked first
abbrev pub identity_refusal : Claim → Cert → Refusal
identity_refusal p c =
    if is_issued_by p.issuer c then name_refusal p.identity (identities c)
    else single_refusal (codes "OIDCIssuer") p.issuer (extension_text (fulcio 1) c)
