-- What is shown of a text that has to be a request but is not one.
use Rattle.std.specs.Prelude.{ℕ, List, [], ◌∷◌, codes}
use Rattle.sig_json.specs.Writing.{TreeMember, object_of}
use Rattle.sig_json.specs.Data.{Data}
use Rattle.sig_request_fault.specs.declared.fault.RequestFault.{RequestFault}
use Rattle.sig_request_fault.specs.declared.fault.RequestFault.TheVariants.{TooLong, Document}
use Rattle.sig_table.specs.declared.fault.DocumentFault.{DocumentFault}
use Rattle.sig_table.specs.declared.fault.DocumentFault.TheVariants.{Float, Member, NotJson}
use Rattle.sig_verify.specs.Link.{link_name}
use Rattle.sig_verify.specs.declared.link.Link.TheVariants as link
use Rattle.sig_evidence.specs.Fault.{fault_rows}
use Rattle.sig_shown.specs.ShownValues.{text_row, texts_row}

abbrev pub document_fault_name : DocumentFault → List ℕ
document_fault_name NotJson = codes "NotJson"
document_fault_name Float = codes "Float"
document_fault_name (Member _) = codes "Member"

abbrev pub request_fault_name : RequestFault → List ℕ
request_fault_name TooLong = codes "TooLong"
request_fault_name (Document fault) = document_fault_name fault

-- where the first member is that breaks the table, and why, if a member does
abbrev pub request_fault_rows : RequestFault → List TreeMember
request_fault_rows TooLong = []
request_fault_rows (Document fault) = fault_rows fault

unfoldable pub request_tree : RequestFault → Data
request_tree fault =
    object_of
    (text_row (codes "link") (link_name link.Request)
    ∷ texts_row (codes "cause") (request_fault_name fault ∷ [])
    ∷ request_fault_rows fault)
