-- The member of a document that breaks a table.
use Rattle.std.specs.Prelude.{ℕ, List, [], ◌∷◌, ◌++◌, codes}
use Rattle.sig_json.specs.Writing.{TreeMember}
use Rattle.sig_shown.specs.ShownValues.{shown_rows, text_row}
use Rattle.sig_table.specs.PathText.{path_text}
use Rattle.sig_table.specs.declared.fault.Cause.{Cause}
use Rattle.sig_table.specs.declared.fault.Cause.TheVariants.{Absent, BeyondRange, NotAlone, OtherKind}
use Rattle.sig_table.specs.declared.fault.DocumentFault.{DocumentFault}
use Rattle.sig_table.specs.declared.fault.DocumentFault.TheVariants.{Float, Member, NotJson}
use Rattle.sig_table.specs.declared.fault.MemberFault.{MemberFault}

abbrev pub why_name : Cause → List ℕ
why_name Absent = codes "Absent"
why_name OtherKind = codes "OtherKind"
why_name BeyondRange = codes "BeyondRange"
why_name NotAlone = codes "NotAlone"

abbrev pub member_rows : MemberFault → List TreeMember
member_rows fault =
    shown_rows (codes "path") (codes "pathLength") (path_text fault.path)
    ++ (text_row (codes "why") (why_name fault.cause) ∷ [])

-- for a text that is not JSON, and for a float, a refusal has no more to show
abbrev pub fault_rows : DocumentFault → List TreeMember
fault_rows NotJson = []
fault_rows Float = []
fault_rows (Member fault) = member_rows fault
