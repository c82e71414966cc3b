-- What is wrong with a text that has to be a document of a table.
use Rattle.std.specs.Prelude.{◌≡◌, ℕ, List, Option, Some, None, option_map, Result, Ok, Err, IsTrue, ⊤}
use Rattle.sig_json.specs.Data.{Data}
use Rattle.sig_json.specs.Document.{document_of}
use Rattle.sig_json.specs.declared.error.DocumentError.{DocumentError}
use Rattle.sig_json.specs.declared.error.DocumentError.TheVariants as document
use Rattle.sig_json.specs.declared.error.JsonError.{JsonError}
use Rattle.sig_json.specs.declared.error.JsonError.TheVariants as json
use Rattle.sig_table.specs.Fault.{fault_of}
use Rattle.sig_table.specs.First.{IsFirstFault}
use Rattle.sig_table.specs.Table.{Table, fits}
use Rattle.sig_table.specs.declared.fault.DocumentFault.{DocumentFault}
use Rattle.sig_table.specs.declared.fault.DocumentFault.TheVariants.{NotJson, Float, Member}

-- the text is not JSON, has a float, or breaks the table at its first fault
abbrev pub fault_in_document : Table → Result Data DocumentError → Option DocumentFault
fault_in_document table (Ok d) = option_map Member (fault_of table d)
fault_in_document table (Err document.NotJson) = Some NotJson
fault_in_document table (Err document.Float) = Some Float
fault_in_document table (Err document.OutOfMemory) = None

unfoldable pub fault_in : Table → List ℕ → Option DocumentFault
fault_in table text = fault_in_document table (document_of text)

-- ---- the same in words

-- a tree keeps to the table, or this is its first fault
abbrev pub IsMemberFaultOf : Table → Data → Option DocumentFault → Type 0
IsMemberFaultOf table d None = IsTrue (fits table d)
IsMemberFaultOf table d (Some NotJson) = ⊥
IsMemberFaultOf table d (Some Float) = ⊥
IsMemberFaultOf table d (Some (Member fault)) = IsFirstFault table d fault.path fault.cause

-- why a text is not a document
abbrev pub IsFaultIn : Table → Result Data DocumentError → Option DocumentFault → Type 0
IsFaultIn table (Ok d) found = IsMemberFaultOf table d found
IsFaultIn table (Err document.NotJson) found = found ≡ Some NotJson
IsFaultIn table (Err document.Float) found = found ≡ Some Float
IsFaultIn table (Err document.OutOfMemory) found = ⊤

-- ---- beside the reader of a record, whose errors keep no fault

abbrev pub error_of : Option DocumentFault → Result ⊤ JsonError
error_of None = Ok tt
error_of (Some NotJson) = Err json.NotJson
error_of (Some Float) = Err json.Float
error_of (Some (Member fault)) = Err json.Member

-- what the reader of a record returns, without the record
abbrev pub error_alone : {A : Type 0} → Result A JsonError → Result ⊤ JsonError
error_alone (Ok x) = Ok tt
error_alone (Err e) = Err e
