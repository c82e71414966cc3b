-- *Refused tree*: what is shown of a refusal: the error, and what its link compares.
use Rattle.std.specs.Prelude.{◌≡◌, ℕ, List, [], ◌∷◌, ◌++◌, codes, length}
use Rattle.sig_json.specs.Writing.{TreeMember, members_into, object_of}
use Rattle.sig_explanation.specs.Rules.{rules_of}
use Rattle.sig_json.specs.Data.{Data, Members}
use Rattle.sig_policy.specs.declared.request.RequestPolicy.{RequestPolicy}
use Rattle.sig_policy.specs.declared.request.RequestPolicy.TheVariants.{All, Any}
use Rattle.sig_shown.specs.ShownValues.{count_row, text_row, texts_row}
use Rattle.sig_verify.specs.OfflineErrors.{link_of}
use Rattle.sig_verify.specs.declared.offline_error.OfflineError.{OfflineError}
use Rattle.sig_verify.specs.declared.offline_error.OfflineError.TheVariants.{Policy}
use Rattle.sig_explanation.specs.Refusal.{refusal_rows}
use Rattle.sig_explain_verify.specs.Evidence.{IsEvidence}
use Rattle.sig_explain_verify.specs.Inputs.{Inputs}

abbrev pub list_name : RequestPolicy → List ℕ
list_name (All rules) = codes "AllOf"
list_name (Any rules) = codes "AnyOf"

-- the refusal of a policy: whether all or any of its rules had to hold, and how many it has
abbrev pub policy_refusal_rows : RequestPolicy → List TreeMember
policy_refusal_rows policy =
    text_row (codes "link") (codes "policy")
    ∷ texts_row (codes "cause") (codes "Policy" ∷ list_name policy ∷ [])
    ∷ count_row (codes "total") (length (rules_of policy))
    ∷ []

-- For a policy the inputs give it, not the error, which may be that of a shorter form of the policy.
abbrev pub told_rows : Inputs → OfflineError → List TreeMember
told_rows i (Policy refusal) = policy_refusal_rows i.policy
told_rows i error = refusal_rows error

abbrev pub IsRefusedTree : Inputs → OfflineError → Data → Type 0
IsRefusedTree i error tree = (rows : List TreeMember) × IsEvidence i (link_of error) rows
    × (tree ≡ object_of (told_rows i error ++ rows))

-- an object with these members is given rows of this kind
abbrev pub Shows : (List TreeMember → Type 0) → Members → Members → Type 0
Shows Are before after = (rows : List TreeMember) × Are rows × (after ≡ members_into before rows)
