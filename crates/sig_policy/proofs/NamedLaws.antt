-- Which names of a certificate give the identity that is asked for.
use Rattle.std.proofs.Common.{◌≡◌, ◌⊎◌, ℕ, Bool, true, ◌||◌, List, [], ◌∷◌, Option, Some, None, refl, sym, ap, ◌∙◌, inl, inr}
use Rattle.std.specs.Prelude.{◌↔◌}
use Rattle.std.specs.List.{Any, cons_option, filter_map, list_any}
use Rattle.std.specs.Str.{bytes_eq}
use Rattle.std.proofs.lemmas.List.Folds.{Any-from_list_any, list_any-from_Any}
use Rattle.std.proofs.lemmas.Slice.Eq.{bytes_eq-Decides}
use Rattle.sig_base.proofs.OptionSteps.{when_is}
use Rattle.sig_certificate.specs.Certificate.{Cert}
use Rattle.sig_certificate.specs.Names.{Name, Email, Uri, Other, Unread}
use Rattle.sig_der.specs.ObjectIdentifiers.{fulcio}
use Rattle.sig_policy.specs.Claim.{Claim}
use Rattle.sig_policy.specs.CertificateWords.{GivesIdentity, HasText, HasIdentity, IsNamed}
use Rattle.sig_policy.specs.Identities.{identity_of, identity_holds}
use Rattle.sig_policy.specs.Single.{is_asked_text}
use Rattle.sig_policy.specs.Texts.{utf8_text}
use Rattle.sig_policy.proofs.IdentityRefusals.{identity_held}
use Rattle.sig_policy.proofs.SingleLaws.{holds_from, holds_is, utf8_is}
use Rattle.sig_policy.proofs.Utf8Laws.{utf8_some}

-- ---- one name

pub name_takes : (name : Name) (identity : List ℕ) → identity_of name ≡ Some identity → GivesIdentity name identity
name_takes (Email text) identity e =
    let is = utf8_is text identity e in (inl (ap (λ (t : List ℕ). Email t) is.0), is.1)
name_takes (Uri text) identity e =
    let is = utf8_is text identity e in (inr (inl (ap (λ (t : List ℕ). Uri t) is.0)), is.1)
name_takes (Other kind value) identity e =
    let both = when_is (bytes_eq kind (fulcio 7)) (utf8_text value) identity e in
    let is = utf8_is value identity both.1 in
    let same : kind ≡ fulcio 7 = (bytes_eq-Decides kind (fulcio 7)).0 both.0 in
    (inr (inr (ap (λ (k : List ℕ). Other k value) same ∙ ap (λ (t : List ℕ). Other (fulcio 7) t) is.0)), is.1)
name_takes Unread identity e = absurd cc

pub name_again : (name : Name) (identity : List ℕ) → GivesIdentity name identity → identity_of name ≡ Some identity
name_again name identity h = by_kind h.0
  where
    by_kind : (name ≡ Email identity) ⊎ ((name ≡ Uri identity) ⊎ (name ≡ Other (fulcio 7) identity))
        → identity_of name ≡ Some identity
    by_kind (inl email) = rw email (utf8_some identity h.1)
    by_kind (inr (inl uri)) = rw uri (utf8_some identity h.1)
    by_kind (inr (inr other)) = rw other (utf8_some identity h.1)

-- ---- one of the names

module _ (identity : List ℕ) where
  abbrev gives : Name → Bool
  gives name = is_asked_text identity (identity_of name)

  among_names : (names : List Name)
      → list_any (λ t. bytes_eq t identity) (filter_map identity_of names) ≡ list_any gives names
  among_names [] = refl
  among_names (name ∷ names) = by_option (among_names names) (identity_of name)
    where
      by_option : list_any (λ t. bytes_eq t identity) (filter_map identity_of names) ≡ list_any gives names
          → (o : Option (List ℕ))
          → list_any (λ t. bytes_eq t identity) (cons_option o (filter_map identity_of names))
          ≡ (is_asked_text identity o || list_any gives names)
      by_option rest None = rest
      by_option rest (Some text) = ap (λ (b : Bool). bytes_eq text identity || b) rest

  one_gives : (names : List Name) → list_any gives names ≡ true → Any (λ name. GivesIdentity name identity) names
  one_gives names e =
      let found = Any-from_list_any gives names e in
      (found.0, found.1, found.2, found.3, name_takes found.1 identity (holds_from [] identity _ found.4))

  one_given : (names : List Name) → Any (λ name. GivesIdentity name identity) names → list_any gives names ≡ true
  one_given names found =
      list_any-from_Any gives names
      (found.0, found.1, found.2, found.3, holds_is [] identity _ (name_again found.1 identity found.4))

  has_named : (c : Cert) → HasIdentity c identity → IsNamed c identity
  has_named c h =
      record {
        extension = h.are.extension;
        one = h.are.one;
        names = h.are.names;
        are = h.are.are;
        named = one_gives h.are.names (sym (among_names h.are.names)
            ∙ ap (λ (ts : List (List ℕ)). list_any (λ t. bytes_eq t identity) ts) h.are.given
            ∙ h.named);
      }

  named_has : (c : Cert) → IsNamed c identity → HasIdentity c identity
  named_has c h =
      record {
        texts = filter_map identity_of h.names;
        are = record { extension = h.extension; one = h.one; names = h.names; are = h.are; given = refl };
        named = among_names h.names ∙ one_given h.names h.named;
      }

pub identity_named : (p : Claim) (c : Cert)
    → (identity_holds p c ≡ true) ↔ (HasText (fulcio 1) c p.issuer × IsNamed c p.identity)
identity_named p c =
    let held = identity_held p c in (
      (λ e. let is = held.0 e in (is.0, has_named p.identity c is.1)),
      (λ is. held.1 (is.0, named_has p.identity c is.1)),
    )
