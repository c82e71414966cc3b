-- What a certificate says, in words: the text of an extension, and the identities that it names.
use Rattle.std.specs.Prelude.{◌≡◌, ◌≢◌, ◌⊎◌, ℕ, List, [], ◌∷◌, Some, true, false, codes}
use Rattle.std.specs.Str.{IsUtf8, bytes_eq}
use Rattle.std.specs.List.{Any, filter_map, list_any, join_by}
use Rattle.sig_certificate.specs.Certificate.{Extension, Cert}
use Rattle.sig_certificate.specs.Lookups.{with_oid}
use Rattle.sig_certificate.specs.Names.{Name, Email, Uri, Other, general_names_of}
use Rattle.sig_der.specs.ObjectIdentifiers.{subject_alternative_name, fulcio}
use Rattle.sig_policy.specs.Claim.{Claim}
use Rattle.sig_policy.specs.Identities.{identity_of}
use Rattle.sig_policy.specs.Refusals.{Refusal, not_found, check_failed}

-- The certificate has exactly one extension of this object identifier, and its value is UTF-8 and this text.
pub record HasText (oid : List ℕ) (c : Cert) (text : List ℕ) : Type 0 where
  pub extension : Extension
  pub one : with_oid oid c.extensions ≡ extension ∷ []
  pub value : extension.value ≡ text
  pub utf8 : IsUtf8 text

-- The name gives this identity: it is an email (rfc822Name) or a URI (uniformResourceIdentifier) of this text, or an
-- other name of the type-id 1.3.6.1.4.1.57264.1.7 with this value (RFC 5280 section 4.2.1.6); and the text is UTF-8.
abbrev pub GivesIdentity : Name → List ℕ → Type 0
GivesIdentity name identity =
    ((name ≡ Email identity) ⊎ ((name ≡ Uri identity) ⊎ (name ≡ Other (fulcio 7) identity))) × IsUtf8 identity

-- The certificate names this identity: it has exactly one subject alternative name, it is well formed, and one of its
-- names gives the identity.
pub record IsNamed (c : Cert) (identity : List ℕ) : Type 0 where
  pub extension : Extension
  pub one : with_oid subject_alternative_name c.extensions ≡ extension ∷ []
  pub names : List Name
  pub are : general_names_of extension.value ≡ Some names
  pub named : Any (λ name. GivesIdentity name identity) names

-- The certificate has exactly one subject alternative name, it is well formed, and its names give these identities, in
-- order.
pub record HasIdentities (c : Cert) (texts : List (List ℕ)) : Type 0 where
  pub extension : Extension
  pub one : with_oid subject_alternative_name c.extensions ≡ extension ∷ []
  pub names : List Name
  pub are : general_names_of extension.value ≡ Some names
  pub given : filter_map identity_of names ≡ texts

-- The certificate has this identity: it is one of those that its names give.
pub record HasIdentity (c : Cert) (identity : List ℕ) : Type 0 where
  pub texts : List (List ℕ)
  pub are : HasIdentities c texts
  pub named : list_any (λ t. bytes_eq t identity) texts ≡ true

-- Why the policy of an identity does not hold, in the order of its checks.
pub data WhyNot (p : Claim) (c : Cert) : Type 0 where
  no_issuer : ((text : List ℕ) → ¬ HasText (fulcio 1) c text) → WhyNot p c
  other_issuer : (actual : List ℕ) → HasText (fulcio 1) c actual → actual ≢ p.issuer → WhyNot p c
  no_names : HasText (fulcio 1) c p.issuer → ((texts : List (List ℕ)) → ¬ HasIdentities c texts) → WhyNot p c
  other_names : (texts : List (List ℕ)) → HasText (fulcio 1) c p.issuer → HasIdentities c texts
      → list_any (λ t. bytes_eq t p.identity) texts ≡ false → WhyNot p c

-- the refusal of each cause
abbrev pub refusal_for : (p : Claim) (c : Cert) → WhyNot p c → Refusal
refusal_for p c (no_issuer none) = not_found
refusal_for p c (other_issuer actual has other) = check_failed (codes "OIDCIssuer") p.issuer actual
refusal_for p c (no_names issuer none) = not_found
refusal_for p c (other_names texts issuer has none) =
    check_failed (codes "SubjectAltName") p.identity (join_by (λ t. t) (codes ", ") texts)
