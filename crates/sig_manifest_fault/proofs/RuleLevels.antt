-- A level of a rule's table more.
use Rattle.std.proofs.Common.{◌≡◌, ℕ, zero, suc, ◌-◌, Option, Some, None, Ok, Err, refl, ap, arith}
use Rattle.sig_json.specs.Data.{Data}
use Rattle.sig_json.specs.OrMember.{or_member}
use Rattle.sig_json.specs.declared.error.MemberError.{MemberError}
use Rattle.sig_manifest.specs.RuleTable.{form_of}
use Rattle.sig_manifest_fault.specs.RuleTable.{nested, table_of}
use Rattle.sig_table.specs.Fault.{fault_of, here}
use Rattle.sig_table.specs.declared.fault.Cause.TheVariants.{BeyondRange}

pub nested-none : (levels : ℕ) (d : Data) → levels ≡ 0 → fault_of (nested levels) d ≡ Some (here BeyondRange)
unfolding nested
nested-none levels d none = rw none refl

pub nested-level : (levels : ℕ) (d : Data) → ¬ (levels ≡ 0)
    → fault_of (nested levels) d ≡ fault_of (table_of (nested (levels - 1)) (form_of d)) d
unfolding nested
nested-level zero d some = absurd (some refl)
nested-level (suc levels) d some =
    let same : levels ≡ suc levels - 1 = omega arith in
    ap (λ n. fault_of (table_of (nested n) (form_of d)) d) same

pub ruleset levels = (nested-none, nested-level)

-- ---- the form of a value, if it has one

pub form-some : {A : Type 0} → (found : Option A) (form : A) → Ok form ≡ or_member found → found ≡ Some form
form-some None form is = cc
form-some (Some x) form is = let same : form ≡ x = cc in rw same refl

pub form-none : {A : Type 0} → (found : Option A) (error : MemberError) → Err error ≡ or_member found → found ≡ None
form-none None error is = refl
form-none (Some x) error is = cc

pub ruleset forms = (form-some, form-none)
