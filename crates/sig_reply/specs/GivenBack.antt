-- A list that fits beside a request can be given back in it.
use Rattle.std.specs.Prelude.{◌≡◌, ℕ, ◌≤◌, List, ◌++◌, length}
use Rattle.sig_base.specs.declared.checker.AcceptedRow.{AcceptedRow}
use Rattle.sig_reply.specs.Reply.{listed}
use Rattle.sig_reply.specs.RowsText.{FitsBeside, accepted_name, rows_text}
use Rattle.sig_request.specs.Limit.{most_bytes}

-- a list that is written for these signatures, and fits beside a text: the text with the list put in as `accepted`,
-- before its last brace or wherever else, has at most as many bytes as a request may have
abbrev pub FitsWhereverPut : Type 0
FitsWhereverPut =
    (front after list : List ℕ) (rows : List AcceptedRow) → listed list ≡ listed (rows_text rows)
    → FitsBeside (front ++ after) rows → length (front ++ (accepted_name ++ (list ++ after))) ≤ most_bytes
