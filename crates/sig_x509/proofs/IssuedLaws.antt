-- What is computed of a certificate that may be issued, and of its issuer, is what the relations say.
use Rattle.std.proofs.Common.{◌≡◌, ◌⊎◌, ℕ, Bool, true, false, ◌||◌, not, cond, List, [], ◌∷◌, length}
use Rattle.std.proofs.Common.{ℤ, Option, Some, None, Result, Ok, Err, inl, inr, refl, sym, ap}
use Rattle.std.proofs.Common.{◌∙◌, arith}
use Rattle.std.specs.Prelude.{◌↔◌, bytes_eq, position, ◌==◌}
use Rattle.std.specs.List.{AllByRecursion}
use Rattle.std.proofs.lemmas.Bool.{and_parts, and_from, or_cases, or_right, eqb-true, eq-eqb}
use Rattle.std.proofs.lemmas.Bool.{both_ways, not-true}
use Rattle.std.proofs.lemmas.Slice.Eq.{bytes_eq-Decides}
use Rattle.sig_base.proofs.IntOrders.{le_from, le_is}
use Rattle.sig_base.specs.declared.fault.PoolError.{PoolError}
use Rattle.sig_base.specs.declared.fault.PoolError.TheVariants.{Malformed, VerificationFailed}
use Rattle.sig_der.specs.ObjectIdentifiers.{key_usage, extended_key_usage, basic_constraints, subject_alternative_name}
use Rattle.sig_der.specs.ObjectIdentifiers.{name_constraints}
use Rattle.sig_certificate.specs.declared.values.BasicConstraints.{BasicConstraints as Constraints}
use Rattle.sig_certificate.specs.Certificate.{Extension, Cert}
use Rattle.sig_certificate.specs.Lookups.{with_oid, oids}
use Rattle.sig_certificate.specs.Profile.{Held, constraints, code_signing}
use Rattle.sig_certificate.specs.Trust.{may_sign_code}
use Rattle.sig_x509.specs.Issuance.{Accepts, may_be_critical, is_understood, are_understood, is_fit, is_no_authority}
use Rattle.sig_x509.specs.Issuance.{is_profiled, is_issued, placed, issuer_of}
use Rattle.sig_x509.specs.Issued.{MayBeCritical, IsFit, HasProfile, IsIssuedBy, IsIssuedByNone, IsFirstIssuer}
use Rattle.sig_certificate.proofs.DistinctLaws.{distinct_from, distinct_is}
use Rattle.sig_x509.proofs.Elements.{at_position, before_position, no_position, position_at, position_nowhere}

-- ---- extensions

critical_from : (oid : List ℕ) → may_be_critical oid ≡ true → MayBeCritical oid
critical_from oid is = first (or_cases _ _ is)
  where
    third : (bytes_eq oid basic_constraints ≡ true) ⊎ (bytes_eq oid extended_key_usage ≡ true) → MayBeCritical oid
    third (inl e) = inr (inr (inl ((bytes_eq-Decides oid basic_constraints).0 e)))
    third (inr e) = inr (inr (inr ((bytes_eq-Decides oid extended_key_usage).0 e)))

    second : (bytes_eq oid subject_alternative_name ≡ true)
        ⊎ ((bytes_eq oid basic_constraints || bytes_eq oid extended_key_usage) ≡ true) → MayBeCritical oid
    second (inl e) = inr (inl ((bytes_eq-Decides oid subject_alternative_name).0 e))
    second (inr e) = third (or_cases _ _ e)

    first : (bytes_eq oid key_usage ≡ true)
        ⊎ ((bytes_eq oid subject_alternative_name ||
        (bytes_eq oid basic_constraints || bytes_eq oid extended_key_usage))
        ≡ true) → MayBeCritical oid
    first (inl e) = inl ((bytes_eq-Decides oid key_usage).0 e)
    first (inr e) = second (or_cases _ _ e)

critical_is : (oid : List ℕ) → MayBeCritical oid → may_be_critical oid ≡ true
critical_is oid (inl e) = rw ((bytes_eq-Decides oid key_usage).1 e) refl
critical_is oid (inr (inl e)) =
    or_right (bytes_eq oid key_usage) _ (rw ((bytes_eq-Decides oid subject_alternative_name).1 e) refl)
critical_is oid (inr (inr (inl e))) =
    or_right (bytes_eq oid key_usage) _
    (or_right (bytes_eq oid subject_alternative_name) _ (rw ((bytes_eq-Decides oid basic_constraints).1 e) refl))
critical_is oid (inr (inr (inr e))) =
    or_right (bytes_eq oid key_usage) _
    (or_right (bytes_eq oid subject_alternative_name) _
    (or_right (bytes_eq oid basic_constraints) (bytes_eq oid extended_key_usage)
    ((bytes_eq-Decides oid extended_key_usage).1 e)))

understood_one : (critical : Bool) (oid : List ℕ) → (not critical || may_be_critical oid) ≡ true → critical ≡ true
    → MayBeCritical oid
understood_one true oid is e = critical_from oid is
understood_one false oid is e = absurd cc

one_understood : (critical : Bool) (oid : List ℕ) → (critical ≡ true → MayBeCritical oid)
    → (not critical || may_be_critical oid) ≡ true
one_understood true oid is = critical_is oid (is refl)
one_understood false oid is = refl

understood_from : (es : List Extension) → are_understood es ≡ true
    → AllByRecursion (λ (e : Extension). e.critical ≡ true → MayBeCritical e.oid) es
understood_from [] is = tt
understood_from (e ∷ es) is =
    let parts = and_parts (is_understood e) (are_understood es) is in
    (understood_one e.critical e.oid parts.0, understood_from es parts.1)

understood_is : (es : List Extension) → AllByRecursion (λ (e : Extension). e.critical ≡ true → MayBeCritical e.oid) es
    → are_understood es ≡ true
understood_is [] is = refl
understood_is (e ∷ es) is =
    and_from (is_understood e) (are_understood es) (one_understood e.critical e.oid is.0) (understood_is es is.1)

none_from : (es : List Extension) → (length es == 0) ≡ true → es ≡ []
none_from [] is = refl
none_from (e ∷ es) is = absurd (let no = eqb-true (length (e ∷ es)) 0 is in omega arith)

-- ---- the profile

pub fit_from : (c : Cert) → is_fit c ≡ true → IsFit c
fit_from c is =
    let a = and_parts _ _ is in
    let b = and_parts _ _ a.1 in
    let d = and_parts _ _ b.1 in
    let e = and_parts _ _ d.1 in
    record {
      version = eqb-true c.version 3 a.0;
      algorithms = (bytes_eq-Decides c.inner_algorithm c.algorithm).0 b.0;
      unconstrained = none_from (with_oid name_constraints c.extensions) d.0;
      understood = understood_from c.extensions e.0;
      single = distinct_from (oids c.extensions) e.1;
    }

pub fit_is : (c : Cert) → IsFit c → is_fit c ≡ true
fit_is c is =
    and_from _ _ (eq-eqb c.version 3 is.version)
    (and_from _ _ ((bytes_eq-Decides c.inner_algorithm c.algorithm).1 is.algorithms)
    (and_from _ _ (ap (λ (es : List Extension). length es == 0) is.unconstrained)
    (and_from _ _ (understood_is c.extensions is.understood) (distinct_is (oids c.extensions) is.single))))

no_authority_from : (h : Held (Bool × Constraints)) → is_no_authority h ≡ true
    → (h ≡ Ok None) ⊎ ((b : Bool × Constraints) × (h ≡ Ok (Some b)) × (b.1.ca ≡ false))
no_authority_from (Err e) is = absurd cc
no_authority_from (Ok None) is = inl refl
no_authority_from (Ok (Some b)) is = inr (b, refl, not-true b.1.ca is)

no_authority_is : (h : Held (Bool × Constraints))
    → (h ≡ Ok None) ⊎ ((b : Bool × Constraints) × (h ≡ Ok (Some b)) × (b.1.ca ≡ false)) → is_no_authority h ≡ true
no_authority_is h (inl e) = rw e refl
no_authority_is h (inr x) = rw x.1 (ap not x.2)

pub profile_from : (c : Cert) → is_profiled c ≡ true → HasProfile c
profile_from c is =
    let parts = and_parts (is_fit c) (is_no_authority (constraints c)) is in
    record { fit = fit_from c parts.0; no_authority = no_authority_from (constraints c) parts.1 }

pub profile_is : (c : Cert) → HasProfile c → is_profiled c ≡ true
profile_is c is =
    and_from (is_fit c) (is_no_authority (constraints c)) (fit_is c is.fit)
    (no_authority_is (constraints c) is.no_authority)

-- ---- the issuer

pub signs_from : (h : Held Bool) → may_sign_code h ≡ true → h ≡ Ok (Some true)
signs_from (Err e) is = absurd cc
signs_from (Ok None) is = absurd cc
signs_from (Ok (Some b)) is = ap (λ (x : Bool). Ok (Some x)) is

pub issued_from : (accepts : Accepts) (c : Cert) (t : ℤ) (x : Cert) → is_issued accepts c t x ≡ true
    → IsIssuedBy accepts c t x
issued_from accepts c t x is =
    let a = and_parts _ _ is in
    let b = and_parts _ _ a.0 in
    let d = and_parts _ _ b.0 in
    let e = and_parts _ _ a.1 in
    record {
      begun = le_from c.not_before t d.0;
      lasting = le_from t c.not_after d.1;
      purpose = signs_from (code_signing c) b.1;
      signed = record { issuer = (bytes_eq-Decides c.issuer x.subject).0 e.0; genuine = e.1 };
    }

pub issued_is : (accepts : Accepts) (c : Cert) (t : ℤ) (x : Cert) → IsIssuedBy accepts c t x
    → is_issued accepts c t x ≡ true
issued_is accepts c t x is =
    and_from _ _
    (and_from _ _ (and_from _ _ (le_is c.not_before t is.begun) (le_is t c.not_after is.lasting))
    (ap may_sign_code is.purpose))
    (and_from _ _ ((bytes_eq-Decides c.issuer x.subject).1 is.signed.issuer) is.signed.genuine)

-- ---- the first of a list that passes

module _ (accepts : Accepts) (c : Cert) (t : ℤ) (anchors : List Cert) where
  abbrev Passes : Cert → Bool
  Passes x = is_issued accepts c t x

  first_from : (index : ℕ) → position Passes anchors ≡ Some index → IsFirstIssuer accepts c t anchors index
  first_from index is =
      let found = at_position Passes anchors index is in
      record {
        anchor = found.0;
        there = found.1;
        issued = issued_from accepts c t found.0 found.2;
        first = λ earlier x lt got is_its.
            both_ways (Passes x) (before_position Passes anchors index is earlier x lt got) (issued_is accepts c t x is_its);
      }

  none_from_position : position Passes anchors ≡ None → IsIssuedByNone accepts c t anchors
  none_from_position is index x got is_its =
      both_ways (Passes x) (no_position Passes anchors is index x got) (issued_is accepts c t x is_its)

  issues_none : (x : Cert) → ¬ IsIssuedBy accepts c t x → Passes x ≡ false
  issues_none x refuted = by (Passes x) refl
    where
      by : (b : Bool) → Passes x ≡ b → Passes x ≡ false
      by true e = absurd (refuted (issued_from accepts c t x e))
      by false e = e

  first_is : (index : ℕ) → IsFirstIssuer accepts c t anchors index → position Passes anchors ≡ Some index
  first_is index is =
      position_at Passes anchors index is.anchor is.there (issued_is accepts c t is.anchor is.issued)
      (λ earlier x lt got. issues_none x (λ is_its. is.first earlier x lt got is_its))

  none_is : IsIssuedByNone accepts c t anchors → position Passes anchors ≡ None
  none_is none =
      position_nowhere Passes anchors (λ index x got. issues_none x (λ is_its. none index x got is_its))

-- ---- the answers

placed_some : (o : Option ℕ) (index : ℕ) → placed o ≡ Ok index → o ≡ Some index
placed_some None index e = absurd cc
placed_some (Some found) index e = let same : found ≡ index = cc in ap (λ (n : ℕ). Some n) same

placed_none : (o : Option ℕ) → placed o ≡ Err VerificationFailed → o ≡ None
placed_none None e = refl
placed_none (Some found) e = absurd cc

never_malformed : (o : Option ℕ) → placed o ≡ Err Malformed → ⊥
never_malformed None e = cc
never_malformed (Some found) e = cc

pub at_time : (accepts : Accepts) (anchors : List Cert) (c : Cert) (t s : ℤ) (r : Result ℕ PoolError) → s ≡ t
    → r ≡ issuer_of accepts anchors c s
    → r ≡ issuer_of accepts anchors c t
at_time accepts anchors c t s r time e = e ∙ ap (λ (x : ℤ). issuer_of accepts anchors c x) time

module _ (accepts : Accepts) (anchors : List Cert) (c : Cert) (t : ℤ) where
  abbrev Found : Option ℕ
  Found = position (is_issued accepts c t) anchors

  profiled : HasProfile c → issuer_of accepts anchors c t ≡ placed Found
  profiled is = ap (λ (b : Bool). cond b (placed Found) (Err Malformed)) (profile_is c is)

  unprofiled : (HasProfile c → ⊥) → issuer_of accepts anchors c t ≡ Err Malformed
  unprofiled not_so = by_cases (is_profiled c) refl
    where
      by_cases : (b : Bool) → is_profiled c ≡ b → cond (is_profiled c) (placed Found) (Err Malformed) ≡ Err Malformed
      by_cases true e = absurd (not_so (profile_from c e))
      by_cases false e = ap (λ (b : Bool). cond b (placed Found) (Err Malformed)) e

  has_or_not : HasProfile c ⊎ (HasProfile c → ⊥)
  has_or_not = by_cases (is_profiled c) refl
    where
      by_cases : (b : Bool) → is_profiled c ≡ b → HasProfile c ⊎ (HasProfile c → ⊥)
      by_cases true e = inl (profile_from c e)
      by_cases false e = inr (λ is. both_ways (is_profiled c) e (profile_is c is))

  module _ (r : Result ℕ PoolError) (e : r ≡ issuer_of accepts anchors c t) where
    pub answers_issued : (index : ℕ) → (r ≡ Ok index) ↔ (HasProfile c × IsFirstIssuer accepts c t anchors index)
    answers_issued index =
        (to has_or_not, (λ is. e ∙ profiled is.0 ∙ ap placed (first_is accepts c t anchors index is.1)))
      where
        to : HasProfile c ⊎ (HasProfile c → ⊥) → r ≡ Ok index → HasProfile c × IsFirstIssuer accepts c t anchors index
        to (inl is) f =
            (is, first_from accepts c t anchors index (placed_some Found index (sym (profiled is) ∙ sym e ∙ f)))
        to (inr not_so) f = let wrong = sym (unprofiled not_so) ∙ sym e ∙ f in absurd cc

    pub answers_malformed : (r ≡ Err Malformed) ↔ (HasProfile c → ⊥)
    answers_malformed =
        ((λ f is. never_malformed Found (sym (profiled is) ∙ sym e ∙ f)), (λ not_so. e ∙ unprofiled not_so))

    pub answers_none : (r ≡ Err VerificationFailed) ↔ (HasProfile c × IsIssuedByNone accepts c t anchors)
    answers_none = (to has_or_not, (λ is. e ∙ profiled is.0 ∙ ap placed (none_is accepts c t anchors is.1)))
      where
        to : HasProfile c ⊎ (HasProfile c → ⊥) → r ≡ Err VerificationFailed
            → HasProfile c × IsIssuedByNone accepts c t anchors
        to (inl is) f =
            (is, none_from_position accepts c t anchors (placed_none Found (sym (profiled is) ∙ sym e ∙ f)))
        to (inr not_so) f = let wrong = sym (unprofiled not_so) ∙ sym e ∙ f in absurd cc
