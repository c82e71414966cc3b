use Rattle.std.proofs.Common.{◌≡◌, length}
use Rattle.std.specs.Prelude.{is_some}
use Rattle.sig_der.specs.FrontReaders.{many_at}
use Rattle.sig_certificate.specs.Names.{name_at}
use Rattle.sig_certificate.proofs.general_names.are_names.Given as goal

-- what is left is names where all is
abbrev pub invariant-loop-rest : goal.invariant-loop-rest
invariant-loop-rest l = is_some (many_at name_at l.rest) ≡ is_some (many_at name_at l.bytes)

abbrev pub decreases-loop-rest : goal.decreases-loop-rest
decreases-loop-rest l = length l.rest
