-- Why a request of `witness` has no logs to start from, and what is shown of it.
use Rattle.std.specs.Prelude.{◌≡◌, ℕ, List, [], ◌∷◌, codes, slice_get, take, Option, Some, None, Result, Ok, Err}
use Rattle.sig_json.specs.Writing.{TreeMember, object_of}
use Rattle.sig_explain_witness.specs.declared.start.NoStart.{NoStart}
use Rattle.sig_explain_witness.specs.declared.start.NoStart.TheVariants.{State, Origin}
use Rattle.sig_json.specs.Data.{Data}
use Rattle.sig_shown.specs.ShownValues.{count_row, text_row, texts_row}
use Rattle.sig_witness.specs.StateCauses.{IsStateFault}
use Rattle.sig_witness.specs.StateText.{IsStateOf}
use Rattle.sig_witness.specs.declared.state_error.StateError.{StateError}
use Rattle.sig_witness.specs.declared.state_error.StateError.TheVariants as state
use Rattle.sig_witness_command.specs.Start.{AreAdded, IsStart, IsUnaddable, Logs}
use Rattle.sig_witness_command.specs.declared.request.OriginKey.{OriginKey}
use Rattle.sig_witness_command.specs.declared.request.WitnessRequest.{WitnessRequest}

-- the origins before the one at this index can be added, and it cannot
pub record StopsAt (logs : Logs) (origins : List OriginKey) (place : ℕ) : Type 0 where
  pub next : Logs
  pub added : AreAdded logs (take place origins) next
  pub one : OriginKey
  pub here : slice_get origins place ≡ Some one
  pub stops : IsUnaddable next one

-- its state is that of a witness, and the origin at this index is the first that cannot be added
pub record IsOriginFault (request : WitnessRequest) (place : ℕ) : Type 0 where
  pub kept : Logs
  pub state : IsStateOf request.state kept
  pub origin : StopsAt kept request.origins place

-- its state is not that of a witness, or an origin cannot be added
abbrev pub IsNoStart : WitnessRequest → NoStart → Type 0
IsNoStart request (State e) = IsStateFault request.state e
IsNoStart request (Origin place) = IsOriginFault request place

-- ---- what is shown of it

abbrev pub state_name : StateError → List ℕ
state_name state.Lines = codes "Lines"
state_name state.Origin = codes "Origin"
state_name state.Scheme = codes "Scheme"
state_name state.Key = codes "Key"
state_name state.Size = codes "Size"
state_name state.Hash = codes "Hash"
state_name state.Root = codes "Root"
state_name state.OutOfMemory = codes "OutOfMemory"

abbrev pub no_start_rows : NoStart → List TreeMember
no_start_rows (State e) = texts_row (codes "cause") (codes "State" ∷ state_name e ∷ []) ∷ []
no_start_rows (Origin place) = texts_row (codes "cause") (codes "Origin" ∷ []) ∷ count_row (codes "index") place ∷ []

unfoldable pub no_start_tree : NoStart → Data
no_start_tree why = object_of (text_row (codes "link") (codes "request") ∷ no_start_rows why)

-- for private clauses: the result of adding the origins: the logs that a request starts from, or why there are no logs
abbrev pub AreAddedOr : Logs → List OriginKey → Logs → Option ℕ → Type 0
AreAddedOr logs origins after None = AreAdded logs origins after
AreAddedOr logs origins after (Some place) = StopsAt logs origins place

abbrev pub IsStartAnswer : WitnessRequest → Result Logs NoStart → Type 0
IsStartAnswer request (Ok start) = IsStart request start
IsStartAnswer request (Err why) = IsNoStart request why
