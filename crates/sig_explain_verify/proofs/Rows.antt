-- Rows after rows, and what an object is given.
use Rattle.std.proofs.Common.{◌≡◌, List, [], ◌∷◌, ◌++◌, Result, Ok, Err, refl, sym, ap, subst, ◌∙◌}
use Rattle.std.specs.Prelude.{IfOk, Option}
use Rattle.sig_base.specs.declared.memory.OutOfMemory.{OutOfMemory}
use Rattle.sig_json.specs.Writing.{TreeMember, members, members_into, put_some}
use Rattle.sig_json.specs.declared.object.Object.{Object}
use Rattle.sig_explain_verify.specs.Evidence.{IsEvidence}
use Rattle.sig_explain_verify.specs.Inputs.{Inputs}
use Rattle.sig_explain_verify.specs.RefusedTree.{IsRefusedTree, Shows, told_rows}
use Rattle.sig_json.specs.Data.{Members, no_members, object}
use Rattle.sig_verify.specs.OfflineErrors.{link_of}
use Rattle.sig_verify.specs.declared.link.Link.{Link}
use Rattle.sig_verify.specs.declared.offline_error.OfflineError.{OfflineError}

pub rows_after : (ms : Members) (first second : List TreeMember)
    → members_into ms (first ++ second) ≡ members_into (members_into ms first) second
rows_after ms [] second = refl
rows_after ms (row ∷ rows) second = rows_after (put_some row.0 row.1 ms) rows second

-- an object that is given these rows, of which this holds
pub shows : (Are : List TreeMember → Type 0) (result : Result Object OutOfMemory) (before : Members)
    (rows : List TreeMember) → Are rows → IfOk result (λ made. members made ≡ members_into before rows)
    → IfOk result (λ made. Shows Are before (members made))
shows Are (Ok made) before rows holds is = (rows, holds, is)
shows Are (Err error) before rows holds is = tt

pub refused : (i : Inputs) (error : OfflineError) (link : Option Link) (result : Result Object OutOfMemory)
    (before : Members) → link_of error ≡ link → before ≡ members_into no_members (told_rows i error)
    → IfOk result (λ made. Shows (IsEvidence i link) before (members made))
    → IfOk result (λ made. IsRefusedTree i error (object (members made)))
refused i error link (Ok made) before named begun is = (
  is.0,
  subst (λ (l : Option Link). IsEvidence i l is.0) (sym named) is.1,
  ap object (is.2 ∙ ap (λ (ms : Members). members_into ms is.0) begun
      ∙ sym (rows_after no_members (told_rows i error) is.0)),
)
refused i error link (Err why) before named begun is = tt
