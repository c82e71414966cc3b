-- *Rule*: an object with exactly one of the members `least` (an integer from 1 to 16), `origin` (a text), `size` (an
-- integer in u64), `all` and `any` (a list of at least one rule), and `not` (a rule). A rule has at most 64 nodes:
-- itself, and those of the rules in it.
use Rattle.std.specs.Prelude.{ℕ, zero, suc, List, [], ◌∷◌, codes, Bool, ◌&&◌, if◌then◌else◌, nat_lt, Option, Some, None}
use Rattle.std.specs.Prelude.{is_some, option_map}
use Rattle.sig_base.specs.OptionSteps.{◌>>=◌}
use Rattle.sig_json.specs.Data.{Data}
use Rattle.sig_json.specs.Find.{get}
use Rattle.sig_json.specs.Member.{list_each, not_null, required_text, required_u64}
use Rattle.sig_manifest.specs.Formula.{Formula, at_least, with_origin, with_size, all_of, any_of, not_so, formulas_of}
use Rattle.sig_manifest.specs.Formula.{nodes}
use Rattle.sig_manifest.specs.Size.{left_of}
use Rattle.sig_manifest.specs.declared.read_rule.Form.{Form}
use Rattle.sig_manifest.specs.declared.read_rule.Form.TheVariants.{Least, Origin, Size, All, Any, Not}

-- ---- the one member that is there

-- the value of an object's member; `None` if it is absent or null, or if there is no object
abbrev pub value_of : List ℕ → Data → Option Data
value_of name d = get name d >>= not_null

abbrev pub name_of : Form → List ℕ
name_of Least = codes "least"
name_of Origin = codes "origin"
name_of Size = codes "size"
name_of All = codes "all"
name_of Any = codes "any"
name_of Not = codes "not"

-- the form whose member is there
abbrev pub form_there : Form → Data → Option Form
form_there form d = if is_some (value_of (name_of form) d) then Some form else None

-- at most one form: the one that was found before, or the next; nothing if both are there
unfoldable pub one_at_most : Option Form → Option Form → Option (Option Form)
one_at_most found None = Some found
one_at_most None (Some next) = Some (Some next)
one_at_most (Some form) (Some next) = None

-- the form of a rule: the one of these members that is there; nothing unless exactly one is there
unfoldable pub form_of : Data → Option Form
form_of d = do
  of_two ← one_at_most (form_there Least d) (form_there Origin d)
  of_three ← one_at_most of_two (form_there Size d)
  of_four ← one_at_most of_three (form_there All d)
  of_five ← one_at_most of_four (form_there Any d)
  of_six ← one_at_most of_five (form_there Not d)
  of_six

-- ---- what it means

abbrev pub least_in : ℕ → Option Formula
least_in n = if nat_lt 0 n && nat_lt n 17 then Some (at_least n) else None

abbrev pub some_rules : List Formula → Option (List Formula)
some_rules [] = None
some_rules (f ∷ fs) = Some (f ∷ fs)

-- a list of at least one rule, where the rules in it mean this
unfoldable pub rules_in : (Data → Option Formula) → Data → Option (List Formula)
rules_in inner d = list_each inner d >>= some_rules

-- a rule of this form, where the rules in it mean this
unfoldable pub rule_as : (Data → Option Formula) → Form → Data → Option Formula
rule_as inner Least d = required_u64 (codes "least") d >>= least_in
rule_as inner Origin d = option_map with_origin (required_text (codes "origin") d)
rule_as inner Size d = option_map with_size (required_u64 (codes "size") d)
rule_as inner All d = value_of (codes "all") d >>= λ list. option_map (λ fs. all_of (formulas_of fs)) (rules_in inner list)
rule_as inner Any d = value_of (codes "any") d >>= λ list. option_map (λ fs. any_of (formulas_of fs)) (rules_in inner list)
rule_as inner Not d = value_of (codes "not") d >>= λ rule. option_map not_so (inner rule)

-- a rule in which rules nest to at most this many levels
unfoldable pub rule_within : ℕ → Data → Option Formula
rule_within zero d = None
rule_within (suc levels) d = form_of d >>= λ form. rule_as (rule_within levels) form d

-- a formula of at most this many nodes
abbrev pub of_at_most : ℕ → Formula → Option Formula
of_at_most most f = if is_some (left_of most (nodes f)) then Some f else None

-- A rule of at most 64 nodes nests to at most 64 levels.
unfoldable pub rule_of : Data → Option Formula
rule_of d = rule_within 64 d >>= of_at_most 64
