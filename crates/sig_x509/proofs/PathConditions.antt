-- What is computed of one intermediate is what the relations say.
use Rattle.std.proofs.Common.{◌≡◌, ◌⊎◌, ℕ, ◌≤◌, ℤ, Bool, true, false, Option, Some, None, Ok, Err, T}
use Rattle.std.proofs.Common.{inl, inr, refl, sym, ap, subst, ◌∙◌}
use Rattle.std.proofs.Math.Facts.{leb_yes, yes_leb}
use Rattle.std.specs.Prelude.{nat_le, is_none}
use Rattle.std.proofs.lemmas.Bool.{and_parts, and_from}
use Rattle.std.proofs.lemmas.Slice.Eq.{bytes_eq-Decides}
use Rattle.sig_base.proofs.IntOrders.{le_from, le_is}
use Rattle.sig_certificate.specs.declared.values.BasicConstraints.{BasicConstraints as Constraints}
use Rattle.sig_certificate.specs.Certificate.{Cert}
use Rattle.sig_certificate.specs.Profile.{Held, ca_refusal, constraints, code_signing}
use Rattle.sig_x509.specs.Issuance.{Accepts, is_signed_by}
use Rattle.sig_x509.specs.Issued.{IsSignedBy}
use Rattle.sig_x509.specs.Path.{MayIssue, AllowsBetween}
use Rattle.sig_x509.specs.PathSearch.{allows, can_stand, may_issue, may_issue_code, most_between}
use Rattle.sig_x509.proofs.IssuedLaws.{fit_from, fit_is}

-- ---- signatures

pub signed_from : (accepts : Accepts) (c x : Cert) → is_signed_by accepts c x ≡ true → IsSignedBy accepts c x
signed_from accepts c x is =
    let parts = and_parts _ _ is in
    record { issuer = (bytes_eq-Decides c.issuer x.subject).0 parts.0; genuine = parts.1 }

pub signed_is : (accepts : Accepts) (c x : Cert) → IsSignedBy accepts c x → is_signed_by accepts c x ≡ true
signed_is accepts c x is = and_from _ _ ((bytes_eq-Decides c.issuer x.subject).1 is.issuer) is.genuine

-- ---- what may issue

none_from : {X : Type 0} (o : Option X) → is_none o ≡ true → o ≡ None
none_from None e = refl
none_from (Some x) e = absurd cc

purpose_from : (h : Held Bool) → may_issue_code h ≡ true → (h ≡ Ok None) ⊎ (h ≡ Ok (Some true))
purpose_from (Err e) is = absurd cc
purpose_from (Ok None) is = inl refl
purpose_from (Ok (Some b)) is = inr (ap (λ (x : Bool). Ok (Some x)) is)

purpose_is : (h : Held Bool) → (h ≡ Ok None) ⊎ (h ≡ Ok (Some true)) → may_issue_code h ≡ true
purpose_is h (inl e) = ap may_issue_code e
purpose_is h (inr e) = ap may_issue_code e

pub may_issue_from : (t : ℤ) (x : Cert) → may_issue t x ≡ true → MayIssue t x
may_issue_from t x is =
    let a = and_parts _ _ is in
    let b = and_parts _ _ a.1 in
    let d = and_parts _ _ b.1 in
    let e = and_parts _ _ d.0 in
    record {
      fit = fit_from x a.0;
      authority = none_from (ca_refusal x) b.0;
      begun = le_from x.not_before t e.0;
      lasting = le_from t x.not_after e.1;
      purpose = purpose_from (code_signing x) d.1;
    }

pub may_issue_is : (t : ℤ) (x : Cert) → MayIssue t x → may_issue t x ≡ true
may_issue_is t x is =
    and_from _ _ (fit_is x is.fit)
    (and_from _ _ (ap is_none is.authority)
    (and_from _ _ (and_from _ _ (le_is x.not_before t is.begun) (le_is t x.not_after is.lasting))
    (purpose_is (code_signing x) is.purpose)))

-- ---- path lengths

le_true : (a b : ℕ) → nat_le a b ≡ true → a ≤ b
le_true a b e = leb_yes (subst (λ (x : Bool). T x) (sym e) tt)

true_le : (x : Bool) → T x → x ≡ true
true_le true t = refl
true_le false t = absurd t

pub allows_from : (x : Cert) (others : ℕ) → allows (most_between (constraints x)) others ≡ true
    → AllowsBetween x others
allows_from x others is b most said limit = by_held (constraints x) said limit is
  where
    by_held : (h : Held (Bool × Constraints)) → h ≡ Ok (Some b) → b.1.path_len ≡ Some most
        → allows (most_between h) others ≡ true → others ≤ most
    by_held h e f g =
        le_true others most
        (sym (ap (λ (w : Held (Bool × Constraints)). allows (most_between w) others) e
        ∙ ap (λ (o : Option ℕ). allows o others) f) ∙ g)

pub allows_is : (x : Cert) (others : ℕ) → AllowsBetween x others
    → allows (most_between (constraints x)) others ≡ true
allows_is x others is = by_held (constraints x) is
  where
    by_limit : (o : Option ℕ) → ((most : ℕ) → o ≡ Some most → others ≤ most) → allows o others ≡ true
    by_limit None all = refl
    by_limit (Some most) all = true_le (nat_le others most) (yes_leb (all most refl))

    by_held : (h : Held (Bool × Constraints))
        → ((b : Bool × Constraints) (most : ℕ) → h ≡ Ok (Some b) → b.1.path_len ≡ Some most → others ≤ most)
        → allows (most_between h) others ≡ true
    by_held (Err e) all = refl
    by_held (Ok None) all = refl
    by_held (Ok (Some b)) all = by_limit b.1.path_len (λ most e. all b most refl e)

pub stands_from : (t : ℤ) (others : ℕ) (x : Cert) → can_stand t others x ≡ true
    → MayIssue t x × AllowsBetween x others
stands_from t others x is =
    let parts = and_parts _ _ is in (may_issue_from t x parts.0, allows_from x others parts.1)

pub stands_is : (t : ℤ) (others : ℕ) (x : Cert) → MayIssue t x → AllowsBetween x others
    → can_stand t others x ≡ true
stands_is t others x may length = and_from _ _ (may_issue_is t x may) (allows_is x others length)
