-- What is left of a number of nodes after those of rules.
use Rattle.std.proofs.Common.{◌≡◌, ℕ, suc, ◌+◌, ◌-◌, ◌<◌, ◌≤◌, ◌⊎◌, inl, inr, nat_lt, Bool, true, false, not, arith, Option}
use Rattle.std.proofs.Common.{Some, None, List, [], ◌∷◌, length, drop, get_or, map, refl, sym, ap, ◌∙◌}
use Rattle.std.proofs.Math.Seq.{drop-length}
use Rattle.std.proofs.lemmas.Bool.Decides.{leb_tells}
use Rattle.std.proofs.lemmas.List.{at_drop_more}
use Rattle.sig_manifest.specs.Formula.{Formula, Formulas, formula, no_formula, at_least, with_origin, with_size, all_of}
use Rattle.sig_manifest.specs.Formula.{any_of, not_so, formulas_of, nodes, nodes_of_all, rule_view, rules_of}
use Rattle.sig_manifest.specs.RuleTable.{of_at_most}
use Rattle.sig_manifest.specs.Size.{left_of}
use Rattle.sig_manifest.specs.declared.rule.Rule.{Rule}
use borrow.Author.Tests.{lt-ltb, lt-leb}

order : (a b : ℕ) → (a < b) ⊎ (b ≤ a)
order a b = elim (leb_tells b a) [ inl h ↦ inr h.1 | inr h ↦ inl h.1 ]

pub above : (a b : ℕ) → a < b → nat_lt a b ≡ true
above a b h = lt-ltb a b h

pub not_above : (a b : ℕ) → b ≤ a → nat_lt a b ≡ false
not_above a b h = lt-leb (suc a) b (omega (arith, h))

pub left-fits : (most taken : ℕ) → taken ≤ most → left_of most taken ≡ Some (most - taken)
left-fits most taken h = rw (not_above most taken h) refl

pub left-above : (most taken : ℕ) → most < taken → left_of most taken ≡ None
left-above most taken h = rw (above most taken h) refl

none_some : (n : ℕ) → None ≡ Some n → ⊥
none_some n is = cc

some_same : (a b : ℕ) → Some a ≡ Some b → a ≡ b
some_same a b is = cc

-- what is left, told apart
left-is : (most taken : ℕ) (next : Option ℕ) → left_of most taken ≡ next
    → ((taken ≤ most) × (next ≡ Some (most - taken))) ⊎ ((most < taken) × (next ≡ None))
left-is most taken next is = elim (order most taken) [
  | inl h ↦ inr (h, sym is ∙ left-above most taken h)
  | inr h ↦ inl (h, sym is ∙ left-fits most taken h)
]

-- after the first of two
pub left-more : (most a b next : ℕ) → Some next ≡ left_of most a → left_of most (a + b) ≡ left_of next b
left-more most a b next is = elim (left-is most a (Some next) (sym is)) [
  | inl h ↦ let e : next ≡ most - a = some_same next (most - a) h.1 in
      elim (order next b) [
        | inl k ↦ left-above most (a + b) (omega (arith, h.0, e, k)) ∙ sym (left-above next b k)
        | inr k ↦ let same : most - (a + b) ≡ next - b = omega (arith, h.0, e, k) in
            left-fits most (a + b) (omega (arith, h.0, e, k)) ∙ ap Some same ∙ sym (left-fits next b k)
      ]
  | inr h ↦ absurd (none_some next (sym h.1))
]

pub left-none : (most a b : ℕ) → None ≡ left_of most a → left_of most (a + b) ≡ None
left-none most a b is = elim (left-is most a None (sym is)) [
  | inl h ↦ absurd (none_some (most - a) h.1)
  | inr h ↦ left-above most (a + b) (omega (arith, h.0))
]

pub left-nothing : (most : ℕ) → left_of most 0 ≡ Some most
left-nothing most =
    let same : most - 0 ≡ most = omega arith in
    left-fits most 0 (omega arith) ∙ ap Some same

-- ---- a rule

pub some-node : (f : Formula) → 0 < nodes f
some-node (at_least n) = omega arith
some-node (with_origin text) = omega arith
some-node (with_size n) = omega arith
some-node (all_of fs) = omega arith
some-node (any_of fs) = omega arith
some-node (not_so f) = omega arith

pub left-of_none : (most : ℕ) (f : Formula) → most ≡ 0 → left_of most (nodes f) ≡ None
left-of_none most f none = left-above most (nodes f) (omega (arith, some-node f))

pub left-of_one : (most : ℕ) → ¬ (most ≡ 0) → left_of most 1 ≡ Some (most - 1)
left-of_one most some = left-fits most 1 (omega (arith, some))

-- a node, and those in it
pub left-node : (most taken : ℕ) → ¬ (most ≡ 0) → left_of most (1 + taken) ≡ left_of (most - 1) taken
left-node most taken some = left-more most 1 taken (most - 1) (sym (left-of_one most some))

-- ---- rules one after another

-- the rule at a place, and those after it
pub nodes-at : (rules : List Rule) (i : ℕ) (rule : Rule) → i < length rules → rule ≡ get_or rules i rule
    → nodes_of_all (formulas_of (rules_of (drop i rules)))
    ≡ nodes (rule_view rule) + nodes_of_all (formulas_of (rules_of (drop (i + 1) rules)))
nodes-at rules i rule below is =
    at_drop_more (λ l. nodes_of_all (formulas_of (rules_of l))) rules i rule below
    ∙ ap (λ r. nodes (rule_view r) + nodes_of_all (formulas_of (rules_of (drop (i + 1) rules)))) (sym is)

pub rules-more : (all : Option ℕ) (rules : List Rule) (i : ℕ) (rule : Rule) (left next : ℕ)
    → i < length rules → rule ≡ get_or rules i rule → Some next ≡ left_of left (nodes (rule_view rule))
    → all ≡ left_of left (nodes_of_all (formulas_of (rules_of (drop i rules))))
    → all ≡ left_of next (nodes_of_all (formulas_of (rules_of (drop (i + 1) rules))))
rules-more all rules i rule left next below is taken so_far =
    so_far ∙ ap (left_of left) (nodes-at rules i rule below is) ∙ left-more left (nodes (rule_view rule))
    (nodes_of_all (formulas_of (rules_of (drop (i + 1) rules)))) next taken

pub rules-many : (all : Option ℕ) (rules : List Rule) (i : ℕ) (rule : Rule) (left : ℕ)
    → i < length rules → rule ≡ get_or rules i rule → None ≡ left_of left (nodes (rule_view rule))
    → all ≡ left_of left (nodes_of_all (formulas_of (rules_of (drop i rules)))) → all ≡ None
rules-many all rules i rule left below is taken so_far =
    so_far ∙ ap (left_of left) (nodes-at rules i rule below is) ∙ left-none left (nodes (rule_view rule))
    (nodes_of_all (formulas_of (rules_of (drop (i + 1) rules)))) taken

pub rules-end : (all : Option ℕ) (rules : List Rule) (i left : ℕ) → i ≡ length rules
    → all ≡ left_of left (nodes_of_all (formulas_of (rules_of (drop i rules)))) → all ≡ Some left
rules-end all rules i left end so_far =
    let none : drop i rules ≡ [] = rw end (drop-length rules) in
    so_far ∙ ap (λ l. left_of left (nodes_of_all (formulas_of (rules_of l)))) none ∙ left-nothing left

pub ruleset sizes = (left-of_none, left-of_one, left-node, rules-more, rules-many, rules-end)
