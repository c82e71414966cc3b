-- What is wrong with a text that has to be a request of a table.
use Rattle.std.specs.Prelude.{ℕ, ◌<◌, ◌≤◌, List, length, nat_lt, if◌then◌else◌, Option, Some, None, option_map}
use Rattle.sig_json.specs.Data.{Data}
use Rattle.sig_json.specs.Document.{document_of}
use Rattle.sig_request.specs.Limit.{most_bytes}
use Rattle.sig_request.specs.ReadFrom.{IsRequestOf}
use Rattle.sig_request_fault.specs.declared.fault.RequestFault.{RequestFault}
use Rattle.sig_request_fault.specs.declared.fault.RequestFault.TheVariants.{TooLong, Document}
use Rattle.sig_table.specs.DocumentFault.{IsFaultIn, fault_in}
use Rattle.sig_table.specs.Table.{Table}

-- a text has too many bytes, or this is wrong with it as a document of the table
unfoldable pub request_fault_in : Table → List ℕ → Option RequestFault
request_fault_in table text =
    if nat_lt most_bytes (length text) then Some TooLong else option_map Document (fault_in table text)

-- ---- the same in words

abbrev pub IsRequestFault : Table → List ℕ → Option RequestFault → Type 0
IsRequestFault table text None = (length text ≤ most_bytes) × IsFaultIn table (document_of text) None
IsRequestFault table text (Some TooLong) = most_bytes < length text
IsRequestFault table text (Some (Document fault)) =
    (length text ≤ most_bytes) × IsFaultIn table (document_of text) (Some fault)

-- the text is a request, whichever it is
abbrev pub IsRequest : {R : Type 0} → (Data → Option R) → List ℕ → Type 0
IsRequest {R} meaning text = (request : R) × IsRequestOf meaning text request
