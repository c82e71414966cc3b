-- Values that are passed over, a step at a time: what the tokens mean is some value, or a list so far.
use Rattle.std.proofs.Common.{◌≡◌, ◌||◌, ℕ, ◌-◌, ◌<◌, ◌≤◌, Bool, true, false, List, ◌∷◌, length, Option, Some, None}
use Rattle.std.proofs.Common.{Result, Ok, Err, IfOk, refl, sym, ap, ◌∙◌, arith}
use Rattle.json.proofs.Grammar.{value_is, value-begin_array, value-begin_object, after_end_array-shorter}
use Rattle.json.specs.Json.{value, items, members, parse_map, after_end_array}
use Rattle.json.specs.Token.{Token}
use Rattle.serde_json.specs.Data.{null, boolean, number, string, array, object, Items, no_items, item, Members}
use Rattle.serde_json.specs.Read.{number_of, of_json, converted}
use Rattle.serde_json.specs.Written.{items_have_float}
use Rattle.sig_json.proofs.TokenConversions.{as_it_is, converted-array, converted-object, item_read, item_refused}
use Rattle.sig_json.proofs.TokenConversions.{items_over}
use Rattle.sig_json.proofs.Tokens.{list_meant, number_refused, array_refused, object_refused, array_too_deep}
use Rattle.sig_json.proofs.Tokens.{object_too_deep, nothing_means_nothing}
use Rattle.sig_json.specs.Skipped.{IsNumber, PassesValue, PassesItems, PassesMembers, value_meant, items_meant}
use Rattle.sig_json.specs.Skipped.{members_meant}

-- ---- one value

pub null_passed : (depth : ℕ) (ts rest : List Token) → ts ≡ Token.null ∷ rest → PassesValue false depth ts rest
null_passed depth ts rest is = record {
  value = null;
  is = rw (is, value_is depth (Token.null ∷ rest)) refl;
  held = refl;
}

pub bool_passed : (depth : ℕ) (ts rest : List Token) (b : Bool) → ts ≡ Token.boolean b ∷ rest
    → PassesValue false depth ts rest
bool_passed depth ts rest b is = record {
  value = boolean b;
  is = rw (is, value_is depth (Token.boolean b ∷ rest)) refl;
  held = refl;
}

pub text_passed : (depth : ℕ) (ts rest : List Token) (s : List ℕ) → ts ≡ Token.string s ∷ rest
    → PassesValue false depth ts rest
text_passed depth ts rest s is = record {
  value = string s;
  is = rw (is, value_is depth (Token.string s ∷ rest)) refl;
  held = refl;
}

pub number_passed : {E : Type 0} (r : Result Bool E) (depth : ℕ) (ts rest : List Token) (s : List ℕ)
    → ts ≡ Token.number s ∷ rest → IfOk r (λ float. IsNumber float s) → IfOk r (λ float. PassesValue float depth ts rest)
number_passed (Ok float) depth ts rest s is number_is = record {
  value = number number_is.value;
  is = rw (is, value_is depth (Token.number s ∷ rest), number_is.is) refl;
  held = number_is.held;
}
number_passed (Err e) depth ts rest s is number_is = tt

pub number_none : (depth : ℕ) (ts rest : List Token) (s : List ℕ) → ts ≡ Token.number s ∷ rest → number_of s ≡ None
    → value_meant depth ts ≡ None
number_none depth ts rest s is none = number_refused depth ts rest s is (sym none)

pub array_is : (depth : ℕ) (ts inner rest : List Token) (ds : Items) → 0 < depth → ts ≡ Token.begin_array ∷ inner
    → items_meant (depth - 1) inner ≡ Some (ds, rest) → value_meant depth ts ≡ Some (array ds, rest)
array_is depth ts inner rest ds some is meant =
    ap (λ us. converted of_json (value depth us)) is ∙ ap (converted of_json) (value-begin_array depth inner some)
    ∙ converted-array (items (value (depth - 1)) (length inner) inner) ∙ ap (parse_map array) meant

pub object_is : (depth : ℕ) (ts inner rest : List Token) (ms : Members) → 0 < depth → ts ≡ Token.begin_object ∷ inner
    → members_meant (depth - 1) inner ≡ Some (ms, rest) → value_meant depth ts ≡ Some (object ms, rest)
object_is depth ts inner rest ms some is meant =
    ap (λ us. converted of_json (value depth us)) is ∙ ap (converted of_json) (value-begin_object depth inner some)
    ∙ converted-object (members (value (depth - 1)) (length inner) inner) ∙ ap (parse_map object) meant

pub list_passed : {E : Type 0} (r : Result Bool E) (depth : ℕ) (ts inner rest : List Token) → 0 < depth
    → ts ≡ Token.begin_array ∷ inner → IfOk r (λ float. PassesItems float (depth - 1) inner rest)
    → IfOk r (λ float. PassesValue float depth ts rest)
list_passed (Ok float) depth ts inner rest some is passed = record {
  value = array passed.items;
  is = array_is depth ts inner rest passed.items some is passed.are;
  held = passed.held;
}
list_passed (Err e) depth ts inner rest some is passed = tt

pub object_passed : {E : Type 0} (r : Result Bool E) (depth : ℕ) (ts inner rest : List Token) → 0 < depth
    → ts ≡ Token.begin_object ∷ inner → IfOk r (λ float. PassesMembers float (depth - 1) inner rest)
    → IfOk r (λ float. PassesValue float depth ts rest)
object_passed (Ok float) depth ts inner rest some is passed = record {
  value = object passed.all;
  is = object_is depth ts inner rest passed.all some is passed.are;
  held = passed.held;
}
object_passed (Err e) depth ts inner rest some is passed = tt

pub ruleset values = (
  null_passed,
  bool_passed,
  text_passed,
  number_passed,
  number_none,
  list_passed,
  object_passed,
  array_refused,
  object_refused,
  array_too_deep,
  object_too_deep,
  nothing_means_nothing,
)

-- ---- a list so far

pub twice : {A B C : Type 0} → (f : B → C) (g : A → B) (r : Option (A × List Token))
    → parse_map f (parse_map g r) ≡ parse_map (λ a. f (g a)) r
twice f g None = refl
twice f g (Some p) = refl

or_again : (a b c : Bool) → (a || (b || c)) ≡ ((a || b) || c)
or_again true b c = refl
or_again false b c = refl

pub or_none : (a : Bool) → (a || false) ≡ a
or_none true = refl
or_none false = refl

-- the list is what was passed and then what the tokens that are left mean; and whether what was passed has a float
pub record ListAt (float : Bool) (depth : ℕ) (start left : List Token) (behind : Items → Items) : Type 0 where
  pub turns : ℕ
  pub enough : length left ≤ turns
  pub meant : list_meant depth (length start) start ≡ parse_map behind (list_meant depth turns left)
  pub below : length left ≤ length start
  pub held : (ds : Items) → items_have_float (behind ds) ≡ (float || items_have_float ds)

pub list_at_start : (depth : ℕ) (start : List Token) → ListAt false depth start start (λ ds. ds)
list_at_start depth start =
    record {
      turns = length start;
      enough = omega arith;
      meant = as_it_is (list_meant depth (length start) start);
      below = omega arith;
      held = λ ds. refl;
    }

pub list_at_step : (float met : Bool) (depth : ℕ) (start left next : List Token) (behind : Items → Items)
    → ListAt float depth start left behind → after_end_array left ≡ None → (passed : PassesValue met depth left next)
    → length next < length left → ListAt (float || met) depth start next (λ ds. behind (item passed.value ds))
list_at_step float met depth start left next behind so_far going passed less =
    let d = passed.value in
    record {
      turns = so_far.turns - 1;
      enough = omega (arith, so_far.enough);
      meant = so_far.meant
          ∙ ap (parse_map behind)
          (item_read (value depth) so_far.turns left next d (omega (arith, so_far.enough)) going passed.is)
          ∙ twice behind (item d) (list_meant depth (so_far.turns - 1) next);
      below = omega (arith, so_far.below);
      held = λ ds. so_far.held (item d ds) ∙ ap (λ b. float || (b || items_have_float ds)) passed.held
          ∙ or_again float met (items_have_float ds);
    }

pub list_at_fault : (float : Bool) (depth : ℕ) (start left : List Token) (behind : Items → Items)
    → ListAt float depth start left behind → after_end_array left ≡ None → value_meant depth left ≡ None
    → items_meant depth start ≡ None
list_at_fault float depth start left behind so_far going none = so_far.meant
    ∙ ap (parse_map behind) (item_refused (value depth) so_far.turns left going none)

pub list_at_end : (float : Bool) (depth : ℕ) (start left rest : List Token) (behind : Items → Items)
    → ListAt float depth start left behind → after_end_array left ≡ Some rest
    → items_meant depth start ≡ Some (behind no_items, rest)
list_at_end float depth start left rest behind so_far end = so_far.meant
    ∙ ap (parse_map behind) (items_over (value depth) so_far.turns left rest so_far.enough end)

-- ---- the same of some list

pub record ItemsPassed (float : Bool) (depth : ℕ) (start left : List Token) : Type 0 where
  pub behind : Items → Items
  pub at : ListAt float depth start left behind

pub items_start : (depth : ℕ) (start : List Token) → ItemsPassed false depth start start
items_start depth start = record { behind = λ ds. ds; at = list_at_start depth start }

pub items_step : (float met : Bool) (depth : ℕ) (start left next : List Token) → ItemsPassed float depth start left
    → after_end_array left ≡ None → PassesValue met depth left next → length next < length left
    → ItemsPassed (float || met) depth start next
items_step float met depth start left next so_far going passed less =
    record {
      behind = λ ds. so_far.behind (item passed.value ds);
      at = list_at_step float met depth start left next so_far.behind so_far.at going passed less;
    }

pub items_fault : (float : Bool) (depth : ℕ) (start left : List Token) → ItemsPassed float depth start left
    → after_end_array left ≡ None → value_meant depth left ≡ None → items_meant depth start ≡ None
items_fault float depth start left so_far = list_at_fault float depth start left so_far.behind so_far.at

pub items_end : (float : Bool) (depth : ℕ) (start left rest : List Token) → ItemsPassed float depth start left
    → after_end_array left ≡ Some rest → PassesItems float depth start rest
items_end float depth start left rest so_far end =
    record {
      items = so_far.behind no_items;
      are = list_at_end float depth start left rest so_far.behind so_far.at end;
      held = so_far.at.held no_items ∙ or_none float;
    }

pub ruleset lists = (items_start, items_step, items_fault, items_end, after_end_array-shorter)
