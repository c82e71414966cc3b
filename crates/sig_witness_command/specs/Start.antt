-- The logs that a request starts from: those of its state, to which its origins are added in order.
use Rattle.std.specs.Prelude.{◌≡◌, ◌⊎◌, ℕ, Bool, true, false, List, [], ◌∷◌, Some, None}
use Rattle.std.specs.List.{AllByRecursion}
use Rattle.sig_base.specs.ByText.{text_lookup, text_put}
use Rattle.sig_base.specs.Scheme.{scheme_of}
use Rattle.sig_key.specs.Key.{key_info, key_scheme}
use Rattle.sig_key.specs.declared.verification_key.CosignVerificationKey.{CosignVerificationKey}
use Rattle.sig_witness.specs.KeptLogs.{IsOriginText, new_log}
use Rattle.sig_witness.specs.StateCauses.{IsStateFault}
use Rattle.sig_witness.specs.StateText.{IsStateOf}
use Rattle.sig_witness.specs.declared.kept_log.KeptLog.{KeptLog}
use Rattle.sig_witness.specs.declared.state_error.StateError.{StateError}
use Rattle.sig_witness_command.specs.declared.request.OriginKey.{OriginKey}
use Rattle.sig_witness_command.specs.declared.request.WitnessRequest.{WitnessRequest}

-- origins with what is kept of their logs
abbrev pub Logs : Type 0
Logs = List (List ℕ × KeptLog)

-- an origin is added: it is a line that is not there, and it is there afterwards with its key and the head of no leaves
pub record IsAdded (logs : Logs) (one : OriginKey) (after : Logs) : Type 0 where
  pub line : IsOriginText one.origin
  pub new : text_lookup one.origin logs ≡ None
  pub key : CosignVerificationKey
  pub scheme : key_scheme key ≡ scheme_of one.scheme
  pub info : key_info key ≡ one.key
  pub put : after ≡ text_put one.origin (new_log key) logs

-- an origin cannot be added: it is not a line, or it is there
abbrev pub IsUnaddable : Logs → OriginKey → Type 0
IsUnaddable logs one = (¬ IsOriginText one.origin) ⊎ ((log : KeptLog) × (text_lookup one.origin logs ≡ Some log))

-- the origins are added one after another
abbrev pub AreAdded : Logs → List OriginKey → Logs → Type 0
AreAdded logs [] after = after ≡ logs
AreAdded logs (one ∷ later) after = (next : Logs) × IsAdded logs one next × AreAdded next later after

-- one of them cannot be added after those before it
abbrev pub HasUnaddable : Logs → List OriginKey → Type 0
HasUnaddable logs [] = ⊥
HasUnaddable logs (one ∷ later) =
    IsUnaddable logs one ⊎ ((next : Logs) × IsAdded logs one next × HasUnaddable next later)

-- the logs that a request starts from
pub record IsStart (request : WitnessRequest) (start : Logs) : Type 0 where
  pub kept : Logs
  pub state : IsStateOf request.state kept
  pub added : AreAdded kept request.origins start

-- no logs: the state is not that of a witness; or it is, and an origin cannot be added
abbrev pub HasNoStart : WitnessRequest → Type 0
HasNoStart request =
    ((e : StateError) × IsStateFault request.state e)
    ⊎ ((kept : Logs) × IsStateOf request.state kept × HasUnaddable kept request.origins)

-- for private clauses: each origin is a line
abbrev pub HaveLines : Logs → Type 0
HaveLines logs = AllByRecursion (λ (entry : List ℕ × KeptLog). IsOriginText entry.0) logs

-- for private clauses: whether an origin was added
abbrev pub IsAdding : Logs → OriginKey → Logs → Bool → Type 0
IsAdding logs one after true = IsAdded logs one after
IsAdding logs one after false = IsUnaddable logs one

-- for private clauses: whether all origins were added
abbrev pub AreAdding : Logs → List OriginKey → Logs → Bool → Type 0
AreAdding logs all after true = AreAdded logs all after
AreAdding logs all after false = HasUnaddable logs all
