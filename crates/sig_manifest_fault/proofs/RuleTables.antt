-- The table of rules is that of the rules.
use Rattle.std.proofs.Common.{◌≡◌, ℕ, zero, suc, List, [], ◌∷◌, length, codes, Bool, true, false, ◌&&◌, nat_lt, Option, Some, None}
use Rattle.std.proofs.Common.{is_none, is_some, option_map, refl, ap, ◌∙◌, arith, lt-ltb}
use Rattle.sig_base.specs.OptionSteps.{◌>>=◌}
use Rattle.sig_json.specs.Data.{Data, null, boolean, number, string, array, object, Members}
use Rattle.sig_json.specs.Find.{as_object}
use Rattle.sig_json.specs.Kinds.{text_of, u64_of}
use Rattle.sig_json.specs.Member.{list_each, member_of, required, there_or}
use Rattle.sig_manifest.specs.Formula.{Formula, all_of, any_of, formulas_of, not_so, with_origin, with_size}
use Rattle.sig_manifest.specs.RuleTable.{form_of, least_in, rule_as, rule_within, rules_in, some_rules as some_formulas}
use Rattle.sig_manifest.specs.RuleTable.{value_of}
use Rattle.sig_manifest.specs.declared.read_rule.Form.{Form}
use Rattle.sig_manifest.specs.declared.read_rule.Form.TheVariants.{Least, Origin, Size, All, Any, Not}
use Rattle.sig_manifest_fault.specs.Range.{range_table}
use Rattle.sig_manifest_fault.specs.RuleTable.{form_names, form_table, least_kind, least_table, nested, no_form_table}
use Rattle.sig_manifest_fault.specs.RuleTable.{one_member, some_rules, table_of}
use Rattle.sig_request_fault.proofs.RowTables.{text_is, u64_is}
use Rattle.sig_table.proofs.SizedLists.{as_many, sized_table}
use Rattle.sig_table.proofs.RecordTables.{last_row, not_required, record_is, required_holds, some_of-map}
use Rattle.sig_table.specs.Chosen.{nothing_table}
use Rattle.sig_table.specs.Kinds.{text_table, u64_table, unless}
use Rattle.sig_table.specs.Table.{Table, fits, member_in, oneof_row, passes, required_row, row_holds}
use Rattle.sig_table.specs.TableOf.{IsTableOf}
use Rattle.sig_table.specs.declared.fault.Cause.{Cause}
use Rattle.sig_table.specs.declared.fault.Cause.TheVariants.{BeyondRange}

pub both : {a b c d : Bool} → a ≡ c → b ≡ d → (a && b) ≡ (c && d)
both p q = rw (p, q) refl

-- ---- a kind, and then a range

not_beyond : (b : Bool) (cause : Cause) → is_none (unless b cause) ≡ b
not_beyond true cause = refl
not_beyond false cause = refl

pub range_is : {A : Type 0} → (kind : Data → Option A) → IsTableOf kind (range_table kind)
range_is kind d = not_beyond (is_some (kind d)) BeyondRange

module _ {A B : Type 0} (kind : Data → Option A) (t : Table) (is : IsTableOf kind t) (range : A → Option B) where
  after_kind : (found : Option A) → (is_some found && (is_some (found >>= range) && true)) ≡ is_some (found >>= range)
  after_kind None = refl
  after_kind (Some x) = last_row (range x) (is_some (range x)) refl

  by_member : (found : Option Data)
      → (passes false (fits t) found && (passes false (fits (range_table (λ d. kind d >>= range))) found && true))
      ≡ is_some (there_or None kind found >>= range)
  by_member None = refl
  by_member (Some d) =
      both (is d) (ap (λ b. b && true) (range_is (λ e. kind e >>= range) d)) ∙ after_kind (kind d)

  -- the two rows of a member
  pub two_rows : (name : List ℕ) (ms : Members)
      → (row_holds (required_row name t) (object ms)
      && (row_holds (required_row name (range_table (λ d. kind d >>= range))) (object ms) && true))
      ≡ is_some (required kind name (object ms) >>= range)
  unfolding required member_of
  two_rows name ms = by_member (member_in name (object ms))

-- ---- one member that is there

no_value : (name : List ℕ) (d : Data) → as_object d ≡ None → value_of name d ≡ None
no_value name null none = refl
no_value name (boolean b) none = refl
no_value name (number n) none = refl
no_value name (string s) none = refl
no_value name (array ds) none = refl
no_value name (object ms) none = cc

one_unfit : (name : List ℕ) (t : Table) (d : Data) → as_object d ≡ None → fits (one_member name t) d ≡ false
one_unfit name t d none = rw none refl

module _ {A : Type 0} (kind : Data → Option A) (t : Table) (is : IsTableOf kind t) (name : List ℕ) where
  value_holds : (ms : Members) → row_holds (required_row name t) (object ms) ≡ is_some (value_of name (object ms) >>= kind)
  value_holds ms = by (value_of name (object ms)) where
    by : (found : Option Data) → passes false (fits t) found ≡ is_some (found >>= kind)
    by None = refl
    by (Some d) = is d

  pub one_value_is : IsTableOf (λ d. value_of name d >>= kind) (one_member name t)
  one_value_is =
      record_is (λ d. value_of name d >>= kind) (one_member name t)
      (λ ms. last_row (value_of name (object ms) >>= kind) _ (value_holds ms))
      (λ d none. rw (no_value name d none) refl) (one_unfit name t)

  pub one_required_is : IsTableOf (required kind name) (one_member name t)
  one_required_is =
      record_is (required kind name) (one_member name t)
      (λ ms. last_row (required kind name (object ms)) _ (required_holds kind t is name ms)) (not_required kind name)
      (one_unfit name t)

-- what is read is made into something else
map_table : {A B : Type 0} → (kind : Data → Option A) (t : Table) (f : A → B) → IsTableOf kind t
    → IsTableOf (λ d. option_map f (kind d)) t
map_table kind t f is d = is d ∙ some_of-map f (kind d)

-- ---- the forms

least_object : (ms : Members) → fits least_table (object ms) ≡ is_some (required u64_of (codes "least") (object ms) >>= least_in)
unfolding least_table least_kind
least_object ms = two_rows u64_of u64_table u64_is least_in (codes "least") ms

least_unfit : (d : Data) → as_object d ≡ None → fits least_table d ≡ false
unfolding least_table
least_unfit d none = rw none refl

least_is : IsTableOf (λ d. required u64_of (codes "least") d >>= least_in) least_table
least_is =
    record_is (λ d. required u64_of (codes "least") d >>= least_in) least_table least_object
    (λ d none. rw (not_required u64_of (codes "least") d none) refl) least_unfit

module _ (inner : Data → Option Formula) (t : Table) (is : IsTableOf inner t) where
  at_least_one : (found : Option (List Formula)) → is_some (found >>= as_many (nat_lt 0)) ≡ is_some (found >>= some_formulas)
  at_least_one None = refl
  at_least_one (Some []) = refl
  at_least_one (Some (f ∷ fs)) = rw (lt-ltb 0 (length (f ∷ fs)) (omega arith)) refl

  rules_are : IsTableOf (rules_in inner) (some_rules t)
  unfolding rules_in
  rules_are d = sized_table (nat_lt 0) inner t is d ∙ at_least_one (list_each inner d)

  pub form_is : (form : Form) → IsTableOf (rule_as inner form) (form_table t form)
  unfolding rule_as form_table
  form_is Least = least_is
  form_is Origin =
      map_table (required text_of (codes "origin")) (one_member (codes "origin") text_table) with_origin
      (one_required_is text_of text_table text_is (codes "origin"))
  form_is Size =
      map_table (required u64_of (codes "size")) (one_member (codes "size") u64_table) with_size
      (one_required_is u64_of u64_table u64_is (codes "size"))
  form_is All =
      one_value_is (λ d. option_map (λ fs. all_of (formulas_of fs)) (rules_in inner d)) (some_rules t)
      (map_table (rules_in inner) (some_rules t) (λ fs. all_of (formulas_of fs)) rules_are) (codes "all")
  form_is Any =
      one_value_is (λ d. option_map (λ fs. any_of (formulas_of fs)) (rules_in inner d)) (some_rules t)
      (map_table (rules_in inner) (some_rules t) (λ fs. any_of (formulas_of fs)) rules_are) (codes "any")
  form_is Not =
      one_value_is (λ d. option_map not_so (inner d)) t (map_table inner t not_so is) (codes "not")

-- ---- a rule

-- nothing keeps to the table of nothing
nothing_there : (found : Option Data) → passes false (fits nothing_table) found ≡ false
nothing_there None = refl
nothing_there (Some d) = refl

broken : (a b c : Bool) → c ≡ false → (a && (b && (c && true))) ≡ false
broken true true c wrong = rw wrong refl
broken true false c wrong = refl
broken false b c wrong = refl

-- a value of no form breaks its table
no_form_fits : (d : Data) → fits no_form_table d ≡ false
unfolding no_form_table
no_form_fits d =
    broken (is_some (as_object d)) (row_holds (oneof_row form_names) d)
    (row_holds (required_row (codes "least") nothing_table) d) (nothing_there (member_in (codes "least") d))

pub nested_is : (levels : ℕ) → IsTableOf (rule_within levels) (nested levels)
unfolding rule_within nested
nested_is zero d = refl
nested_is (suc levels) d = by_form (nested_is levels) (form_of d) where
  by_form : IsTableOf (rule_within levels) (nested levels) → (found : Option Form) → fits (table_of (nested levels) found) d
      ≡ is_some (found >>= λ form. rule_as (rule_within levels) form d)
  by_form is None = no_form_fits d
  by_form is (Some form) = form_is (rule_within levels) (nested levels) is form d
