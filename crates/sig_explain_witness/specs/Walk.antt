-- What is shown of a request's updates, in order.
use Rattle.std.specs.Prelude.{◌≡◌, ◌⊎◌, ℕ, List, [], ◌∷◌, Result}
use Rattle.sig_base.specs.declared.checker.AcceptedRow.{AcceptedRow}
use Rattle.sig_json.specs.Writing.{list_tree}
use Rattle.sig_explain_witness.specs.UpdateTrees.{left_by, unread_tree, update_tree}
use Rattle.sig_json.specs.Data.{Data}
use Rattle.sig_witness.specs.Causes.{IsUpdateAnswer}
use Rattle.sig_witness.specs.Updates.{IsStep, Update}
use Rattle.sig_witness.specs.declared.error.WitnessError.{WitnessError}
use Rattle.sig_witness_command.specs.Outcome.{HasReading, IsUpdate}
use Rattle.sig_witness_command.specs.Start.{Logs}
use Rattle.sig_witness_command.specs.Walk.{takes}
use Rattle.sig_witness_command.specs.declared.request.UpdateText.{UpdateText}

-- the state between two updates: the logs, and for how many more that `note-key` refuses all members are shown
abbrev pub Standing : Type 0
Standing = Logs × ℕ

module _ (rows : List AcceptedRow) where
  -- an update whose text is a checkpoint: what is shown of its result, and *Witness run*'s step
  pub record IsReadUpdate (standing : Standing) (text : UpdateText) (update : Update) (tree : Data)
      (next : Standing) : Type 0 where
    pub answer : Result (Unit {0}) WitnessError
    pub is : IsUpdateAnswer (takes rows) standing.0 update answer
    pub shown : tree ≡ update_tree rows standing.0 standing.1 text update.checkpoint answer
    pub step : IsStep (takes rows) standing.0 update next.0
    pub left : next.1 ≡ left_by answer standing.1

  -- an update, which changes nothing if its text is not a checkpoint
  abbrev pub IsShownUpdate : Standing → UpdateText → Data → Standing → Type 0
  IsShownUpdate standing text tree next =
      ((¬ HasReading text) × (tree ≡ unread_tree text) × (next ≡ standing))
      ⊎ ((update : Update) × IsUpdate text update × IsReadUpdate standing text update tree next)

  -- the updates in turn
  abbrev pub IsShownWalk : Standing → List UpdateText → List Data → Standing → Type 0
  IsShownWalk standing [] trees after = (trees ≡ []) × (after ≡ standing)
  IsShownWalk standing (text ∷ later) trees after =
      (tree : Data) × (next : Standing) × (others : List Data) × (trees ≡ tree ∷ others)
      × IsShownUpdate standing text tree next × IsShownWalk next later others after

  -- for private clauses: a list of the trees of these updates
  abbrev pub IsShownList : Standing → List UpdateText → Data → Standing → Type 0
  IsShownList standing texts list after =
      (trees : List Data) × IsShownWalk standing texts trees after × (list ≡ list_tree (λ tree. tree) trees)
