-- A list that fits beside a text does so wherever the text is cut.
use Rattle.std.proofs.Common.{◌≡◌, ◌≤◌, ℕ, List, ◌++◌, length, codes, ap, arith, length-append}
use Rattle.sig_base.specs.declared.checker.AcceptedRow.{AcceptedRow}
use Rattle.sig_request.specs.Limit.{most_bytes}
use Rattle.sig_reply.specs.GivenBack.{FitsWhereverPut}
use Rattle.sig_reply.specs.Reply.{listed}
use Rattle.sig_reply.specs.RowsText.{FitsBeside, accepted_name, rows_text}
use Rattle.sig_reply.specs.declared.reply.Reply.{Reply}

-- the replies of two lists are the same only if the lists are as long
as-long : (one other : List ℕ) → listed one ≡ listed other → length one ≡ length other
as-long one other same =
    let long = ap (λ (r : Reply). length r.text) same in
    omega (arith, long, length-append one (codes "\n"), length-append other (codes "\n"))

-- a list of these signatures that fits beside a text does so wherever the text is cut
inserted : (front after list : List ℕ) (rows : List AcceptedRow) → length list ≡ length (rows_text rows)
    → FitsBeside (front ++ after) rows → length (front ++ (accepted_name ++ (list ++ after))) ≤ most_bytes
inserted front after list rows same fits =
    omega (
      arith,
      fits,
      same,
      length-append front after,
      length-append front (accepted_name ++ (list ++ after)),
      length-append accepted_name (list ++ after),
      length-append list after,
    )

pub wherever_put : FitsWhereverPut
wherever_put front after list rows same fits =
    inserted front after list rows (as-long list (rows_text rows) same) fits
