-- A level of a rule more.
use Rattle.std.proofs.Common.{◌≡◌, ℕ, zero, suc, ◌-◌, Option, None, refl, ap, arith}
use Rattle.sig_base.specs.OptionSteps.{◌>>=◌}
use Rattle.sig_json.specs.Data.{Data}
use Rattle.sig_manifest.specs.Formula.{Formula}
use Rattle.sig_manifest.specs.RuleTable.{form_of, rule_as, rule_within}

pub within-none : (levels : ℕ) (d : Data) → levels ≡ 0 → rule_within levels d ≡ None
unfolding rule_within
within-none levels d none = rw none refl

pub within-level : (levels : ℕ) (d : Data) → ¬ (levels ≡ 0)
    → rule_within levels d ≡ (form_of d >>= λ form. rule_as (rule_within (levels - 1)) form d)
unfolding rule_within
within-level zero d some = absurd (some refl)
within-level (suc levels) d some =
    let same : levels ≡ suc levels - 1 = omega arith in
    ap (λ n. form_of d >>= λ form. rule_as (rule_within n) form d) same

pub ruleset levels = (within-none, within-level)
