use Rattle.sig_table.proofs.Faults.{none_if_fits, some_if_first}
use Rattle.sig_table.proofs.laws.first_faults.Goals as goal

pub returns : goal.returns
returns c = record { none = none_if_fits; first = some_if_first }
