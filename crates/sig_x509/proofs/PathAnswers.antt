-- The result of the search is what the relations say: the first issuer in a path, that there is none, or that the leaf
-- has not the profile.
use Rattle.std.proofs.Common.{◌≡◌, ◌⊎◌, ℕ, zero, suc, ◌+◌, ◌<◌, ℤ, Bool, true, false, ◌&&◌, cond, List, [], ◌∷◌}
use Rattle.std.proofs.Common.{Option, Some, None, Ok, Err, slice_get, inl, inr, refl, sym, ap, subst}
use Rattle.std.proofs.Common.{◌∙◌, arith}
use Rattle.std.specs.Prelude.{Contains, position, option_map}
use Rattle.std.proofs.lemmas.Bool.{and_parts, and_from, both_ways, cases_order}
use Rattle.sig_base.specs.OptionSteps.{or_else}
use Rattle.sig_base.specs.declared.fault.PoolError.TheVariants.{Malformed, VerificationFailed}
use Rattle.sig_certificate.specs.Certificate.{Cert}
use Rattle.sig_x509.specs.Issuance.{Accepts, is_issued, is_profiled}
use Rattle.sig_x509.specs.Issued.{HasProfile, IsSignedBy}
use Rattle.sig_x509.specs.Path.{AreSignedUp, HasNoPath, HasPath, IsFirstInPath, IsPath, longest_path}
use Rattle.sig_x509.specs.PathSearch.{first_issuer, found_issuer, intermediate_of, leads, leads_from as is_led}
use Rattle.sig_x509.specs.PathSearch.{path_issuer}
use Rattle.sig_x509.specs.Pool.{Pool, IsBefore, intermediate_in}
use Rattle.sig_x509.specs.declared.issuer.Issuer.{Issuer}
use Rattle.sig_x509.specs.declared.issuer.Issuer.TheVariants.{Anchor, Intermediate}
use Rattle.sig_x509.proofs.Elements.{all_at, all_from, at_position, before_position, contains_at}
use Rattle.sig_x509.proofs.Elements.{no_position}
use Rattle.sig_x509.proofs.IssuedLaws.{issued_from, issued_is, profile_from, profile_is}
use Rattle.sig_x509.proofs.PathTable.{allows_as_many, leads_from, leads_is, of_read_from, standing_at, standing_from}

joined : (o : Option (Option Cert)) (x : Cert) → intermediate_in o ≡ Some x → o ≡ Some (Some x)
joined None x e = absurd cc
joined (Some o) x e = ap (λ (p : Option Cert). Some p) e

module _ (accepts : Accepts) (pool : Pool) (c : Cert) (t : ℤ) where
  -- ---- one issuer

  pub anchor_path : (index : ℕ) (x : Cert) → slice_get pool.anchors index ≡ Some x → is_issued accepts c t x ≡ true
      → HasPath accepts pool c t (Anchor index)
  anchor_path index x got issues =
      let is = issued_from accepts c t x issues in
      record {
        certificate = x;
        there = got;
        over = [];
        anchor = x;
        path = record {
          begun = is.begun;
          lasting = is.lasting;
          purpose = is.purpose;
          few = omega arith;
          trusted = contains_at pool.anchors index x got;
          given = λ others y at. absurd cc;
          may_issue = λ others y at. absurd cc;
          path_length = λ others y at. absurd cc;
          signed = is.signed;
        };
        is = (refl, refl);
      }

  pub anchor_issues : (index : ℕ) → (has : HasPath accepts pool c t (Anchor index))
      → is_issued accepts c t has.certificate ≡ true
  anchor_issues index has =
      let path = has.path in
      let signed : IsSignedBy accepts c has.certificate =
      subst (λ (a : Cert). IsSignedBy accepts c a) has.is.1
      (subst (λ (over : List Cert). AreSignedUp accepts c over has.anchor) has.is.0 path.signed) in
      issued_is accepts c t has.certificate
      (record { begun = path.begun; lasting = path.lasting; purpose = path.purpose; signed = signed })

  intermediate_path : (index : ℕ) (x : Cert) → slice_get pool.intermediates index ≡ Some (Some x)
      → (is_issued accepts c t x && leads accepts pool t longest_path zero x) ≡ true
      → HasPath accepts pool c t (Intermediate index)
  intermediate_path index x got led =
      let both = and_parts _ _ led in
      let is = issued_from accepts c t x both.0 in
      let on = leads_from accepts pool t longest_path zero x both.1 in
      let above = on.2 in
      record {
        certificate = x;
        there = ap intermediate_in got;
        over = x ∷ on.0;
        anchor = on.1;
        path = record {
          begun = is.begun;
          lasting = is.lasting;
          purpose = is.purpose;
          few = omega (arith, above.few);
          trusted = above.trusted;
          given = all_at (λ y. Contains pool.intermediates (Some y)) (x ∷ on.0)
              (contains_at pool.intermediates index (Some x) got, above.given);
          may_issue = λ others y at. (standing_at t zero (x ∷ on.0) above.standing others y at).0;
          path_length = λ others y at. allows_as_many y (0 + others) others (omega arith)
              (standing_at t zero (x ∷ on.0) above.standing others y at).1;
          signed = (is.signed, above.signed);
        };
        is = (on.0, refl);
      }

  intermediate_leads : (index : ℕ) → (has : HasPath accepts pool c t (Intermediate index))
      → (is_issued accepts c t has.certificate && leads accepts pool t longest_path zero has.certificate) ≡ true
  intermediate_leads index has =
      by has.over has.path has.is.0 has.is.1
    where
      by : (over : List Cert) → IsPath accepts pool c t over has.anchor → (above : List Cert)
          → over ≡ has.certificate ∷ above
          → (is_issued accepts c t has.certificate && leads accepts pool t longest_path zero has.certificate) ≡ true
      by over given above same =
          let path = subst (λ (xs : List Cert). IsPath accepts pool c t xs has.anchor) same given in
          let signed : IsSignedBy accepts c has.certificate = path.signed.0 in
          and_from _ _
          (issued_is accepts c t has.certificate
          (record { begun = path.begun; lasting = path.lasting; purpose = path.purpose; signed = signed }))
          (leads_is accepts pool t longest_path zero has.certificate above has.anchor (record {
            few = omega (arith, path.few);
            trusted = path.trusted;
            standing = standing_from t zero (has.certificate ∷ above) path.may_issue
                (λ k y at. allows_as_many y k (0 + k) (omega arith) (path.path_length k y at));
            given = all_from (λ y. Contains pool.intermediates (Some y)) above (λ k y at. path.given (suc k) y at);
            signed = path.signed.1;
          }))

  -- ---- the first issuer

  abbrev Issues : Cert → Bool
  Issues = is_issued accepts c t

  abbrev Leads : Option Cert → Bool
  Leads = is_led accepts pool c t

  anchors_fail : position Issues pool.anchors ≡ None → (index : ℕ) → ¬ HasPath accepts pool c t (Anchor index)
  anchors_fail none index has =
      both_ways (Issues has.certificate) (no_position Issues pool.anchors none index has.certificate has.there)
      (anchor_issues index has)

  leads_there : (index : ℕ) (has : HasPath accepts pool c t (Intermediate index))
      → slice_get pool.intermediates index ≡ Some (Some has.certificate)
  leads_there index has = joined (slice_get pool.intermediates index) has.certificate has.there

  intermediates_fail : position Leads pool.intermediates ≡ None → (index : ℕ)
      → ¬ HasPath accepts pool c t (Intermediate index)
  intermediates_fail none index has =
      both_ways (Leads (Some has.certificate))
      (no_position Leads pool.intermediates none index (Some has.certificate) (leads_there index has))
      (intermediate_leads index has)

  first_anchor : (index : ℕ) → position Issues pool.anchors ≡ Some index
      → IsFirstInPath accepts pool c t (Anchor index)
  first_anchor index is =
      let found = at_position Issues pool.anchors index is in
      record { path = anchor_path index found.0 found.1 found.2; first = earlier }
    where
      earlier : (issuer : Issuer) → IsBefore issuer (Anchor index) → ¬ HasPath accepts pool c t issuer
      earlier (Anchor k) lt has =
          both_ways (Issues has.certificate)
          (before_position Issues pool.anchors index is k has.certificate lt has.there)
          (anchor_issues k has)
      earlier (Intermediate k) lt has = lt

  first_intermediate : (index : ℕ) → position Issues pool.anchors ≡ None
      → position Leads pool.intermediates ≡ Some index
      → IsFirstInPath accepts pool c t (Intermediate index)
  first_intermediate index none is =
      let found = at_position Leads pool.intermediates index is in
      let x = of_read_from accepts pool t (λ y. Issues y && leads accepts pool t longest_path zero y) found.0 found.2 in
      record {
        path = intermediate_path index x.0 (found.1 ∙ ap (λ (o : Option Cert). Some o) x.1) x.2;
        first = earlier;
      }
    where
      earlier : (issuer : Issuer) → IsBefore issuer (Intermediate index) → ¬ HasPath accepts pool c t issuer
      earlier (Anchor k) lt has = anchors_fail none k has
      earlier (Intermediate k) lt has =
          both_ways (Leads (Some has.certificate))
          (before_position Leads pool.intermediates index is k (Some has.certificate) lt (leads_there k has))
          (intermediate_leads k has)

  -- what was found, and what it says
  unfoldable pub Tells : Option Issuer → Type 0
  Tells None = HasNoPath accepts pool c t
  Tells (Some issuer) = IsFirstInPath accepts pool c t issuer

  pub tells : Tells (first_issuer accepts pool c t)
  unfolding Tells
  tells = by_anchor (position Issues pool.anchors) refl
    where
      by_intermediate : position Issues pool.anchors ≡ None → (o : Option ℕ) → position Leads pool.intermediates ≡ o
          → Tells (option_map (λ i. Intermediate i) o)
      by_intermediate none None e = nowhere
        where
          nowhere : (issuer : Issuer) → ¬ HasPath accepts pool c t issuer
          nowhere (Anchor k) has = anchors_fail none k has
          nowhere (Intermediate k) has = intermediates_fail e k has
      by_intermediate none (Some index) e = first_intermediate index none e

      by_anchor : (o : Option ℕ) → position Issues pool.anchors ≡ o
          → Tells (or_else (option_map (λ i. Anchor i) (position Issues pool.anchors))
          (intermediate_of accepts pool c t))
      by_anchor None e =
          subst (λ (o : Option ℕ). Tells (or_else (option_map (λ i. Anchor i) o) (intermediate_of accepts pool c t)))
          (sym e)
          (by_intermediate e (position Leads pool.intermediates) refl)
      by_anchor (Some index) e =
          subst (λ (o : Option ℕ). Tells (or_else (option_map (λ i. Anchor i) o) (intermediate_of accepts pool c t)))
          (sym e)
          (first_anchor index e)

  -- ---- there is one first

  only_first : (a b : Issuer) → IsFirstInPath accepts pool c t a → IsFirstInPath accepts pool c t b → a ≡ b
  only_first (Anchor i) (Anchor j) a b = by (cases_order i j)
    where
      by : (i ≡ j) ⊎ ((i < j) ⊎ (j < i)) → Anchor i ≡ Anchor j
      by (inl same) = ap (λ (k : ℕ). Anchor k) same
      by (inr (inl lt)) = absurd (b.first (Anchor i) lt a.path)
      by (inr (inr lt)) = absurd (a.first (Anchor j) lt b.path)
  only_first (Anchor i) (Intermediate j) a b = absurd (b.first (Anchor i) tt a.path)
  only_first (Intermediate i) (Anchor j) a b = absurd (a.first (Anchor j) tt b.path)
  only_first (Intermediate i) (Intermediate j) a b = by (cases_order i j)
    where
      by : (i ≡ j) ⊎ ((i < j) ⊎ (j < i)) → Intermediate i ≡ Intermediate j
      by (inl same) = ap (λ (k : ℕ). Intermediate k) same
      by (inr (inl lt)) = absurd (b.first (Intermediate i) lt a.path)
      by (inr (inr lt)) = absurd (a.first (Intermediate j) lt b.path)

  -- ---- the result

  pub profiled : HasProfile c → path_issuer accepts pool c t ≡ found_issuer (first_issuer accepts pool c t)
  profiled is =
      ap (λ (b : Bool). cond b (found_issuer (first_issuer accepts pool c t)) (Err Malformed)) (profile_is c is)

  pub unprofiled : (HasProfile c → ⊥) → path_issuer accepts pool c t ≡ Err Malformed
  unprofiled not_so = by (is_profiled c) refl
    where
      by : (b : Bool) → is_profiled c ≡ b
          → cond (is_profiled c) (found_issuer (first_issuer accepts pool c t)) (Err Malformed) ≡ Err Malformed
      by true e = absurd (not_so (profile_from c e))
      by false e = ap (λ (b : Bool). cond b (found_issuer (first_issuer accepts pool c t)) (Err Malformed)) e

  pub has_or_not : HasProfile c ⊎ (HasProfile c → ⊥)
  has_or_not = by (is_profiled c) refl
    where
      by : (b : Bool) → is_profiled c ≡ b → HasProfile c ⊎ (HasProfile c → ⊥)
      by true e = inl (profile_from c e)
      by false e = inr (λ is. both_ways (is_profiled c) e (profile_is c is))

  -- an issuer, if and only if it is the first in a path
  pub issued_is_first : (issuer : Issuer) → path_issuer accepts pool c t ≡ Ok issuer
      → HasProfile c × IsFirstInPath accepts pool c t issuer
  unfolding Tells
  issued_is_first issuer e = by_profile has_or_not
    where
      by_found : (o : Option Issuer) → Tells o → found_issuer o ≡ Ok issuer → IsFirstInPath accepts pool c t issuer
      by_found None told f = absurd cc
      by_found (Some other) told f =
          let same : other ≡ issuer = cc in subst (λ (i : Issuer). IsFirstInPath accepts pool c t i) same told

      by_profile : HasProfile c ⊎ (HasProfile c → ⊥) → HasProfile c × IsFirstInPath accepts pool c t issuer
      by_profile (inl is) = (is, by_found (first_issuer accepts pool c t) tells (sym (profiled is) ∙ e))
      by_profile (inr not_so) = let wrong = sym (unprofiled not_so) ∙ e in absurd cc

  pub first_is_issued : (issuer : Issuer) → HasProfile c → IsFirstInPath accepts pool c t issuer
      → path_issuer accepts pool c t ≡ Ok issuer
  unfolding Tells
  first_is_issued issuer is first = profiled is ∙ by_found (first_issuer accepts pool c t) tells
    where
      by_found : (o : Option Issuer) → Tells o → found_issuer o ≡ Ok issuer
      by_found None told = absurd (told issuer first.path)
      by_found (Some other) told = ap (λ (i : Issuer). Ok i) (only_first other issuer told first)

  never_malformed : (o : Option Issuer) → found_issuer o ≡ Err Malformed → ⊥
  never_malformed None e = cc
  never_malformed (Some found) e = cc

  pub malformed_has_none : path_issuer accepts pool c t ≡ Err Malformed → HasProfile c → ⊥
  malformed_has_none e is = never_malformed (first_issuer accepts pool c t) (sym (profiled is) ∙ e)

  pub failed_has_none : path_issuer accepts pool c t ≡ Err VerificationFailed
      → HasProfile c × HasNoPath accepts pool c t
  unfolding Tells
  failed_has_none e = by_profile has_or_not
    where
      by_found : (o : Option Issuer) → Tells o → found_issuer o ≡ Err VerificationFailed → HasNoPath accepts pool c t
      by_found None told f = told
      by_found (Some other) told f = absurd cc

      by_profile : HasProfile c ⊎ (HasProfile c → ⊥) → HasProfile c × HasNoPath accepts pool c t
      by_profile (inl is) = (is, by_found (first_issuer accepts pool c t) tells (sym (profiled is) ∙ e))
      by_profile (inr not_so) = let wrong = sym (unprofiled not_so) ∙ e in absurd cc

  pub none_is_failed : HasProfile c → HasNoPath accepts pool c t
      → path_issuer accepts pool c t ≡ Err VerificationFailed
  unfolding Tells
  none_is_failed is none = profiled is ∙ by_found (first_issuer accepts pool c t) tells
    where
      by_found : (o : Option Issuer) → Tells o → found_issuer o ≡ Err VerificationFailed
      by_found None told = refl
      by_found (Some other) told = absurd (none other told.path)
