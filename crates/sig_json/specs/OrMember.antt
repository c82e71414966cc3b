-- A reader of one value of a tree: what it means, or `Member` where the value is another than it has to be.
use Rattle.std.specs.Prelude.{Option, Some, None, Result, Ok, Err}
use Rattle.sig_json.specs.declared.error.MemberError.{MemberError}
use Rattle.sig_json.specs.declared.error.MemberError.TheVariants.{Member}

abbrev pub or_member : {A : Type 0} → Option A → Result A MemberError
or_member None = Err Member
or_member (Some x) = Ok x
