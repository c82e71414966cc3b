-- The request of `witness`: what its members mean.
use Rattle.std.specs.Prelude.{List, codes, length, nat_lt, if◌then◌else◌, Option, Some, None}
use Rattle.sig_base.specs.OptionSteps.{◌>>=◌}
use Rattle.sig_base.specs.declared.checker.AcceptedRow.{AcceptedRow}
use Rattle.sig_json.specs.Data.{Data}
use Rattle.sig_json.specs.Kinds.{hash_of}
use Rattle.sig_json.specs.Member.{optional_list, optional_text, required, required_bytes, required_text, required_u64}
use Rattle.sig_request.specs.Accepted.{with_rows}
use Rattle.sig_request.specs.Row.{scheme_kind}
use Rattle.sig_witness_command.specs.declared.request.OriginKey.{OriginKey}
use Rattle.sig_witness_command.specs.declared.request.UpdateText.{UpdateText}
use Rattle.sig_witness_command.specs.declared.request.WitnessRequest.{WitnessRequest}

-- a log that is added: its origin, and its key under a scheme
unfoldable pub origin_key_of : Data → Option OriginKey
origin_key_of d = do
  origin ← required_text (codes "origin") d
  scheme ← required scheme_kind (codes "scheme") d
  key ← required_bytes (codes "key") d
  Some (record { origin = origin; scheme = scheme; key = key })

-- an update: the checkpoint, the size of the head that the proof is from, and the proof
unfoldable pub update_text_of : Data → Option UpdateText
update_text_of d = do
  checkpoint ← required_text (codes "checkpoint") d
  old_size ← required_u64 (codes "oldSize") d
  hashes ← optional_list hash_of (codes "hashes") d
  Some (record { checkpoint = checkpoint; old_size = old_size; hashes = hashes })

-- the request, if it has at most 4,096 updates
abbrev pub few_updates : WitnessRequest → Option WitnessRequest
few_updates request = if nat_lt (length request.updates) 4097 then Some request else None

-- the members of a request beside its rows of `accepted`
unfoldable pub witness_members : List AcceptedRow → Data → Option WitnessRequest
witness_members accepted d = do
  state ← optional_text (codes "state") d
  origins ← optional_list origin_key_of (codes "origins") d
  updates ← optional_list update_text_of (codes "updates") d
  few_updates (record { state = state; origins = origins; updates = updates; accepted = accepted })

-- what a request means
abbrev pub witness_request : Data → Option WitnessRequest
witness_request = with_rows witness_members
