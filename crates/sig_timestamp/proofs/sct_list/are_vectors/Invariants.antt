use Rattle.std.proofs.Common.{◌≡◌, length}
use Rattle.std.specs.Prelude.{is_some}
use Rattle.sig_der.specs.FrontReaders.{many_at}
use Rattle.sig_timestamp.specs.Vectors.{vector_at}
use Rattle.sig_timestamp.proofs.sct_list.are_vectors.Given as goal

abbrev pub invariant-loop-rest : goal.invariant-loop-rest
invariant-loop-rest l = is_some (many_at vector_at l.rest) ≡ is_some (many_at vector_at l.list)

abbrev pub decreases-loop-rest : goal.decreases-loop-rest
decreases-loop-rest l = length l.rest
