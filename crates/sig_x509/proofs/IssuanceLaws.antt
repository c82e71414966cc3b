-- How often an object identifier stands, by what a look-up finds; what is left of a list.
use Rattle.std.proofs.Common.{◌≡◌, ◌≤◌, ◌&&◌, Bool, true, false, List, [], ◌∷◌, length}
use Rattle.std.proofs.Common.{Option, Some, None, refl, sym, ap, ◌∙◌, arith}
use Rattle.std.specs.Prelude.{nat_eq}
use Rattle.std.specs.List.{list_all}
use Rattle.std.proofs.lemmas.Bool.{ne_eqb}
use Rattle.sig_certificate.proofs.Readings.{read, read_same}
use Rattle.sig_certificate.specs.Certificate.{Extension, Cert}
use Rattle.sig_certificate.specs.Profile.{held, read_as}
use Rattle.sig_certificate.specs.Trust.{may_sign_code}
use Rattle.sig_x509.specs.Issuance.{is_unconstrained}
use Rattle.sig_x509.specs.PathSearch.{may_issue_code}

pub none_absent : (es : List Extension) → es ≡ [] → nat_eq (length es) 0 ≡ true
none_absent es is = rw is refl

pub none_one : (es : List Extension) (e : Extension) → es ≡ e ∷ [] → nat_eq (length es) 0 ≡ false
none_one es e is = rw is refl

pub none_several : (es : List Extension) → 2 ≤ length es → nat_eq (length es) 0 ≡ false
none_several es le = ne_eqb (length es) 0 (λ is. omega (arith, le, is))

-- whether none is there, by what a look-up finds
pub ruleset lookup_counts = (none_absent, none_one, none_several)

-- ---- a list that is left: an element and the rest, or nothing

pub all_passes : {X : Type 0} (p : X → Bool) (left rest : List X) (x : X) (b : Bool) → list_all p left ≡ b
    → left ≡ x ∷ rest → p x ≡ true → list_all p rest ≡ b
all_passes p left rest x b is first holds =
    sym (ap (λ (xs : List _). list_all p xs) first ∙ ap (λ (a : Bool). a && list_all p rest) holds) ∙ is

pub all_fails : {X : Type 0} (p : X → Bool) (left rest : List X) (x : X) (b : Bool) → list_all p left ≡ b
    → left ≡ x ∷ rest → p x ≡ false → false ≡ b
all_fails p left rest x b is first fails =
    sym (ap (λ (xs : List _). list_all p xs) first ∙ ap (λ (a : Bool). a && list_all p rest) fails) ∙ is

pub all_ends : {X : Type 0} (p : X → Bool) (left : List X) (b : Bool) → list_all p left ≡ b → left ≡ [] → true ≡ b
all_ends p left b is none = sym (ap (λ (xs : List _). list_all p xs) none) ∙ is

-- ---- what was read is the only certificate of its text

pub no_anchor : (c d : Cert) (b : Bool) → read d ≡ read c → b ≡ false → b ≡ is_unconstrained c
    → is_unconstrained d ≡ true → ⊥
no_anchor c d b same answer is un =
    let wrong : true ≡ false = sym un ∙ ap (λ (x : Cert). is_unconstrained x) (read_same c d same) ∙ sym is ∙ answer in
    absurd cc

-- ---- purposes, by what a look-up finds

held_issues : (read : Extension → Option Bool) (e : Extension)
    → may_sign_code (held read (e ∷ [])) ≡ may_issue_code (held read (e ∷ []))
held_issues read e = by (read e)
  where
    by : (o : Option Bool) → may_sign_code (read_as o) ≡ may_issue_code (read_as o)
    by None = refl
    by (Some b) = refl

module _ (read : Extension → Option Bool) (es : List Extension) where
  pub absent_issues : es ≡ [] → true ≡ may_issue_code (held read es)
  absent_issues none = sym (ap (λ (xs : List Extension). may_issue_code (held read xs)) none)

  pub one_issues : (e : Extension) (b : Bool) → es ≡ e ∷ [] → b ≡ may_sign_code (held read es)
      → b ≡ may_issue_code (held read es)
  one_issues e b one is =
      is ∙ ap (λ (xs : List Extension). may_sign_code (held read xs)) one
      ∙ held_issues read e
      ∙ sym (ap (λ (xs : List Extension). may_issue_code (held read xs)) one)

  pub several_issue : (b : Bool) → 2 ≤ length es → b ≡ may_sign_code (held read es) → b ≡ may_issue_code (held read es)
  several_issue b many is = is ∙ by es many
    where
      by : (xs : List Extension) → 2 ≤ length xs → may_sign_code (held read xs) ≡ may_issue_code (held read xs)
      by [] many = absurd (omega (arith, many))
      by (e ∷ []) many = absurd (omega (arith, many))
      by (e ∷ f ∷ xs) many = refl

pub ruleset purpose_laws = (absent_issues, one_issues, several_issue)
