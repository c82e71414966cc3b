-- The cause of a record's refusal: that of its document, or that of one of its members.
use Rattle.sig_json.specs.declared.error.DocumentError.{DocumentError}
use Rattle.sig_json.specs.declared.error.DocumentError.TheVariants as document
use Rattle.sig_json.specs.declared.error.JsonError.{JsonError}
use Rattle.sig_json.specs.declared.error.JsonError.TheVariants.{NotJson, Float, Member, OutOfMemory}
use Rattle.sig_json.specs.declared.error.MemberError.{MemberError}
use Rattle.sig_json.specs.declared.error.MemberError.TheVariants as member
use Rattle.sig_json.specs.declared.error.ReadError.{ReadError}
use Rattle.sig_json.specs.declared.error.ReadError.TheVariants as reading

abbrev pub cause_of_reading : ReadError → DocumentError
cause_of_reading reading.NotJson = document.NotJson
cause_of_reading reading.OutOfMemory = document.OutOfMemory

abbrev pub cause_of_document : DocumentError → JsonError
cause_of_document document.NotJson = NotJson
cause_of_document document.Float = Float
cause_of_document document.OutOfMemory = OutOfMemory

abbrev pub cause_of_member : MemberError → JsonError
cause_of_member member.Member = Member
cause_of_member member.OutOfMemory = OutOfMemory
