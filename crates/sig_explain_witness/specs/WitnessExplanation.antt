-- *Explanation of a witness run*: what is wrong with a text that is not a request; else why it has no logs to start
-- from; else what is shown of each update.
use Rattle.std.specs.Prelude.{◌≡◌, ◌⊎◌, ℕ, List, [], ◌∷◌, codes, length, Some}
use Rattle.sig_json.specs.Writing.{list_tree, object_of}
use Rattle.sig_explain_log.specs.Request.{request_tree}
use Rattle.sig_explain_witness.specs.UpdateTrees.{most_unsigned}
use Rattle.sig_explain_witness.specs.Start.{IsNoStart, no_start_tree}
use Rattle.sig_explain_witness.specs.Walk.{IsShownWalk, Standing}
use Rattle.sig_explain_witness.specs.declared.start.NoStart.{NoStart}
use Rattle.sig_json.specs.Data.{Data}
use Rattle.sig_request.specs.ReadFrom.{IsRequestOf}
use Rattle.sig_request_fault.specs.RequestFault.{request_fault_in}
use Rattle.sig_request_fault.specs.declared.fault.RequestFault.{RequestFault}
use Rattle.sig_shown.specs.ShownValues.{count_row}
use Rattle.sig_witness_command.specs.Request.{witness_request}
use Rattle.sig_witness_command.specs.Start.{IsStart, Logs}
use Rattle.sig_witness_command.specs.declared.request.UpdateText.{UpdateText}
use Rattle.sig_witness_command.specs.declared.request.WitnessRequest.{WitnessRequest}
use Rattle.sig_witness_fault.specs.WitnessTable.{witness_table}

-- how many updates there are, and what is shown of each
unfoldable pub updates_tree : List UpdateText → Data → Data
updates_tree texts list =
    object_of (count_row (codes "updateCount") (length texts) ∷ (codes "updates", Some list) ∷ [])

-- the tree of a request that starts from these logs
pub record IsUpdatesTree (request : WitnessRequest) (start : Logs) (tree : Data) : Type 0 where
  pub trees : List Data
  pub after : Standing
  pub walk : IsShownWalk request.accepted (start, most_unsigned) request.updates trees after
  pub made : tree ≡ updates_tree request.updates (list_tree (λ shown. shown) trees)

-- the tree of a request: why it has no logs to start from, or its updates
abbrev pub IsRequestTree : WitnessRequest → Data → Type 0
IsRequestTree request tree =
    ((why : NoStart) × IsNoStart request why × (tree ≡ no_start_tree why))
    ⊎ ((start : Logs) × IsStart request start × IsUpdatesTree request start tree)

-- *Explanation of a witness run*
abbrev pub IsWitnessExplanation : List ℕ → Data → Type 0
IsWitnessExplanation text tree =
    ((fault : RequestFault) × (request_fault_in witness_table text ≡ Some fault) × (tree ≡ request_tree fault))
    ⊎ ((request : WitnessRequest) × IsRequestOf witness_request text request × IsRequestTree request tree)
