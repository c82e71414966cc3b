-- What the test of a rule says: that the rule holds.
use Rattle.std.proofs.Common.{◌≡◌, ◌≢◌, ◌↔◌, ◌⊎◌, inl, inr, ℕ, suc, ◌≤◌, List, [], ◌∷◌, Bool}
use Rattle.std.proofs.Common.{true, false, not, ◌&&◌, ◌||◌, refl, sym, ap, subst, ◌∙◌, arith, Option, Some, None}
use Rattle.std.proofs.lemmas.Bool.Decides.{leb_tells}
use Rattle.std.specs.Cmp.Lexicographic.{bytes_decides}
use Rattle.std.specs.List.{list_any}
use Rattle.std.specs.Prelude.{nat_le, nat_lt, if◌then◌else◌}
use Rattle.sig_gate.proofs.DifferentTexts.{among-first, first-among, later-among, none-among}
use Rattle.sig_gate.specs.Report.{is_verified}
use Rattle.sig_gate.specs.RuleHolds.{EachHolds, Holds, IsAdmitted, IsOfOrigin, IsOfSize, OfSome, OneHolds}
use Rattle.sig_gate.specs.VerifiedBundles.{IsDifferentCount, checkpoint_of_origin, each_holds, entries_of, holds}
use Rattle.sig_gate.specs.VerifiedBundles.{larger}
use Rattle.sig_gate.specs.VerifiedBundles.{largest_from, one_holds, shows_origin}
use Rattle.sig_gate.specs.declared.verdict.BundleVerdict.{BundleVerdict}
use Rattle.sig_gate.specs.declared.verdict.BundleVerdict.TheVariants.{Verified, Refused}
use Rattle.sig_manifest.specs.Formula.{Formula, Formulas, at_least, with_origin, with_size, all_of, any_of, not_so}
use Rattle.sig_manifest.specs.Formula.{no_formula, formula}
use Rattle.sig_rekor.specs.declared.checkpoint.SignedCheckpoint.{SignedCheckpoint}
use Rattle.sig_verify.specs.declared.logged_entry.LoggedEntry.{LoggedEntry}

-- a test tells a fact
abbrev Tells : Bool → Type 0 → Type 0
Tells b P = (b ≡ true) ↔ P

same_tells : (a b : Bool) (P : Type 0) → a ≡ b → Tells b P → Tells a P
same_tells a b P is tells = ((λ e. tells.0 (sym is ∙ e)), (λ p. is ∙ tells.1 p))

le_tells : (a b : ℕ) → Tells (nat_le a b) (a ≤ b)
le_tells a b = elim (leb_tells a b) [
  | inl h ↦ ((λ e. h.1), (λ p. h.0))
  | inr h ↦ ((λ e. let f = h.0 in absurd cc), (λ p. absurd (omega (arith, h.1, p))))
]

-- ---- some of the entries

some-first : (P : LoggedEntry → Type 0) (entry : LoggedEntry) (later : List LoggedEntry) → P entry
    → OfSome P (entry ∷ later)
some-first P entry later holds = (entry, first-among entry later entry refl, holds)

some-later : (P : LoggedEntry → Type 0) (entry : LoggedEntry) (later : List LoggedEntry) → OfSome P later
    → OfSome P (entry ∷ later)
some-later P entry later (other, among, holds) = (other, later-among entry later other among, holds)

some-cases : (P : LoggedEntry → Type 0) (entry : LoggedEntry) (later : List LoggedEntry) → OfSome P (entry ∷ later)
    → P entry ⊎ OfSome P later
some-cases P entry later (other, among, holds) = elim (among-first entry later other among) [
  | inl e ↦ inl (subst P (sym e) holds)
  | inr rest ↦ inr (other, rest, holds)
]

some-none : (P : LoggedEntry → Type 0) → OfSome P [] → ⊥
some-none P (other, among, holds) = none-among other among

-- ---- origins

origin_found : (origin : List ℕ) (entry : LoggedEntry) (found : Option SignedCheckpoint) → entry.proof.checkpoint ≡ found
    → Tells (checkpoint_of_origin origin found) (IsOfOrigin origin entry)
origin_found origin entry None is = ((λ e. absurd cc), (λ has. let there = has.there in absurd cc))
origin_found origin entry (Some checkpoint) is = (
  (λ e. record { checkpoint = checkpoint; there = is; same = (bytes_decides checkpoint.note.origin origin).0 e }),
  (λ has.
      let there = has.there in
      let one : has.checkpoint ≡ checkpoint = cc in
      (bytes_decides checkpoint.note.origin origin).1
      (ap (λ (c : SignedCheckpoint). c.note.origin) (sym one) ∙ has.same)),
)

origin_tells : (origin : List ℕ) (bundles : List BundleVerdict)
    → Tells (list_any (shows_origin origin) bundles) (OfSome (IsOfOrigin origin) (entries_of bundles))
origin_tells origin [] = ((λ e. absurd cc), (λ some. absurd (some-none (IsOfOrigin origin) some)))
origin_tells origin (Refused link ∷ later) = origin_tells origin later
origin_tells origin (Verified entry ∷ later) =
    by (checkpoint_of_origin origin entry.proof.checkpoint) (list_any (shows_origin origin) later)
    (origin_found origin entry entry.proof.checkpoint refl) (origin_tells origin later) where
      by : (here after : Bool) → Tells here (IsOfOrigin origin entry)
          → Tells after (OfSome (IsOfOrigin origin) (entries_of later))
          → Tells (here || after) (OfSome (IsOfOrigin origin) (entry ∷ entries_of later))
      by true after here rest = (
        (λ e. some-first (IsOfOrigin origin) entry (entries_of later) (here.0 refl)),
        (λ some. refl),
      )
      by false after here rest = (
        (λ e. some-later (IsOfOrigin origin) entry (entries_of later) (rest.0 e)),
        (λ some. elim (some-cases (IsOfOrigin origin) entry (entries_of later) some) [
          | inl is ↦ let e : false ≡ true = here.1 is in absurd cc
          | inr after_it ↦ rest.1 after_it
        ]),
      )

-- ---- sizes

larger-is : (a b size : ℕ) → (size ≤ larger a b) ↔ ((size ≤ a) ⊎ (size ≤ b))
larger-is a b size = by (nat_lt a b) refl where
  by : (t : Bool) → nat_lt a b ≡ t → (size ≤ (if t then b else a)) ↔ ((size ≤ a) ⊎ (size ≤ b))
  by true is = (
    (λ le. inr le),
    (λ either. elim either [
      | inl le ↦ omega (arith, le, (le_tells (suc a) b).0 is)
      | inr le ↦ le
    ]),
  )
  by false is = (
    (λ le. inl le),
    (λ either. elim either [
      | inl le ↦ le
      | inr le ↦ elim (leb_tells (suc a) b) [
        | inl h ↦ let e = h.0 in absurd cc
        | inr h ↦ omega (arith, h.1, le)
      ]
    ]),
  )

size_from : (size largest : ℕ) (entries : List LoggedEntry)
    → (size ≤ largest_from largest entries) ↔ ((size ≤ largest) ⊎ OfSome (IsOfSize size) entries)
size_from size largest [] = (
  (λ le. inl le),
  (λ either. elim either [
    | inl le ↦ le
    | inr some ↦ absurd (some-none (IsOfSize size) some)
  ]),
)
size_from size largest (entry ∷ later) =
    let rest = size_from size (larger largest entry.proof.tree_size) later in
    let here = larger-is largest entry.proof.tree_size size in (
      (λ le. elim (rest.0 le) [
        | inl up ↦ elim (here.0 up) [
          | inl before ↦ inl before
          | inr is ↦ inr (some-first (IsOfSize size) entry later is)
        ]
        | inr some ↦ inr (some-later (IsOfSize size) entry later some)
      ]),
      (λ either. rest.1 (elim either [
        | inl before ↦ inl (here.1 (inl before))
        | inr some ↦ elim (some-cases (IsOfSize size) entry later some) [
          | inl is ↦ inl (here.1 (inr is))
          | inr after ↦ inr after
        ]
      ])),
    )

-- of some entries the largest size tells
size_tells : (size : ℕ) (entries : List LoggedEntry) → entries ≢ []
    → Tells (nat_le size (largest_from 0 entries)) (OfSome (IsOfSize size) entries)
size_tells size [] some = absurd (some refl)
size_tells size (entry ∷ later) some =
    let tells = le_tells size (largest_from 0 (entry ∷ later)) in
    let both = size_from size 0 (entry ∷ later) in (
      (λ e. elim (both.0 (tells.0 e)) [
        | inl none ↦ some-first (IsOfSize size) entry later (omega (arith, none))
        | inr found ↦ found
      ]),
      (λ found. tells.1 (both.1 (inr found))),
    )

-- ---- rules

and_tells : (a b : Bool) (P Q : Type 0) → Tells a P → Tells b Q → Tells (a && b) (P × Q)
and_tells true b P Q p q = ((λ e. (p.0 refl, q.0 e)), (λ both. q.1 both.1))
and_tells false b P Q p q = ((λ e. absurd cc), (λ both. p.1 both.0))

or_tells : (a b : Bool) (P Q : Type 0) → Tells a P → Tells b Q → Tells (a || b) (P ⊎ Q)
or_tells true b P Q p q = ((λ e. inl (p.0 refl)), (λ either. refl))
or_tells false b P Q p q = (
  (λ e. inr (q.0 e)),
  (λ either. elim either [
    | inl is ↦ let e : false ≡ true = p.1 is in absurd cc
    | inr is ↦ q.1 is
  ]),
)

not_tells : (a : Bool) (P : Type 0) → Tells a P → Tells (not a) (¬ P)
not_tells true P p = ((λ e. absurd cc), (λ none. absurd (none (p.0 refl))))
not_tells false P p = ((λ e is. let f : false ≡ true = p.1 is in absurd cc), (λ none. refl))

module _ (bundles : List BundleVerdict) (different : ℕ) (counted : IsDifferentCount (entries_of bundles) different)
    (some : entries_of bundles ≢ []) where
  abbrev largest : ℕ
  largest = largest_from 0 (entries_of bundles)

  mutual
    pub rule_tells : (rule : Formula) → Tells (holds bundles different largest rule) (Holds (entries_of bundles) rule)
    rule_tells (at_least count) =
        let tells = le_tells count different in
        ((λ e. (counted.exact count).0 (tells.0 e)), (λ has. tells.1 ((counted.exact count).1 has)))
    rule_tells (with_origin origin) = origin_tells origin bundles
    rule_tells (with_size size) = size_tells size (entries_of bundles) some
    rule_tells (all_of rules) = each_tells rules
    rule_tells (any_of rules) = one_tells rules
    rule_tells (not_so rule) =
        not_tells (holds bundles different largest rule) (Holds (entries_of bundles) rule) (rule_tells rule)

    each_tells : (rules : Formulas)
        → Tells (each_holds bundles different largest rules) (EachHolds (entries_of bundles) rules)
    each_tells no_formula = ((λ e. tt), (λ u. refl))
    each_tells (formula rule rules) =
        and_tells (holds bundles different largest rule) (each_holds bundles different largest rules)
        (Holds (entries_of bundles) rule) (EachHolds (entries_of bundles) rules) (rule_tells rule) (each_tells rules)

    one_tells : (rules : Formulas)
        → Tells (one_holds bundles different largest rules) (OneHolds (entries_of bundles) rules)
    one_tells no_formula = ((λ e. absurd cc), (λ none. absurd none))
    one_tells (formula rule rules) =
        or_tells (holds bundles different largest rule) (one_holds bundles different largest rules)
        (Holds (entries_of bundles) rule) (OneHolds (entries_of bundles) rules) (rule_tells rule) (one_tells rules)

-- ---- whether an artifact is admitted

none_verified : (bundles : List BundleVerdict) → list_any is_verified bundles ≡ false → entries_of bundles ≡ []
none_verified [] none = refl
none_verified (Verified entry ∷ later) none = cc
none_verified (Refused link ∷ later) none = none_verified later none

some_verified : (bundles : List BundleVerdict) → list_any is_verified bundles ≡ true → entries_of bundles ≢ []
some_verified [] is none = cc
some_verified (Verified entry ∷ later) is none = cc
some_verified (Refused link ∷ later) is none = some_verified later is none

pub none-admitted : (rule : Formula) (bundles : List BundleVerdict) → list_any is_verified bundles ≡ false
    → (false ≡ true) ↔ IsAdmitted rule (entries_of bundles)
none-admitted rule bundles none =
    ((λ e. absurd cc), (λ admitted. absurd (admitted.0 (none_verified bundles none))))

pub some-admitted : (rule : Formula) (bundles : List BundleVerdict) (different most : ℕ) (admitted : Bool)
    → list_any is_verified bundles ≡ true → IsDifferentCount (entries_of bundles) different
    → most ≡ largest_from 0 (entries_of bundles) → admitted ≡ holds bundles different most rule
    → (admitted ≡ true) ↔ IsAdmitted rule (entries_of bundles)
some-admitted rule bundles different most admitted is counted size decided =
    let some = some_verified bundles is in
    let tells : Tells admitted (Holds (entries_of bundles) rule) =
    same_tells admitted (holds bundles different (largest_from 0 (entries_of bundles)) rule)
    (Holds (entries_of bundles) rule)
    (decided ∙ ap (λ l. holds bundles different l rule) size) (rule_tells bundles different counted some rule) in
    ((λ e. (some, tells.0 e)), (λ both. tells.1 both.1))
