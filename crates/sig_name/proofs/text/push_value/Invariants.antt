-- What was added, and then the text of the rest, is the text of the value.
use Rattle.std.proofs.Common.{◌≡◌, ◌++◌, length}
use Rattle.sig_name.specs.NameText.{after_first}
use Rattle.sig_name.proofs.text.push_value.Given as goal

abbrev pub invariant-bytes : goal.invariant-bytes
invariant-bytes l = l.out.items ++ after_first l.rest ≡ l.initial.out.items ++ after_first l.initial.rest

abbrev pub decreases-bytes : goal.decreases-bytes
decreases-bytes l = length l.rest
