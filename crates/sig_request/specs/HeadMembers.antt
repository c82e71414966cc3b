-- A tree head, as a request gives it.
use Rattle.std.specs.Prelude.{List, codes, Option, Some}
use Rattle.sig_base.specs.OptionSteps.{◌>>=◌}
use Rattle.sig_base.specs.declared.checker.AcceptedRow.{AcceptedRow}
use Rattle.sig_json.specs.Data.{Data}
use Rattle.sig_json.specs.Member.{required, required_bytes, required_text}
use Rattle.sig_request.specs.declared.head_members.ClaimedHead.{ClaimedHead}
use Rattle.sig_request.specs.Row.{scheme_kind}

-- the members of a request that make, with its rows of `accepted`, the tree head of its log
unfoldable pub head_of : List AcceptedRow → Data → Option ClaimedHead
head_of accepted d = do
  checkpoint ← required_text (codes "checkpoint") d
  scheme ← required scheme_kind (codes "scheme") d
  key ← required_bytes (codes "key") d
  Some (record { checkpoint = checkpoint; scheme = scheme; key = key; accepted = accepted })
