use Rattle.sig_der.proofs.LengthForms.{spelled_is, is_spelled}
use Rattle.sig_der.proofs.laws.lengths.Goals as goal

pub returns : goal.returns
returns c = record { is = spelled_is; only = is_spelled }
