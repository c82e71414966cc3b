-- Where the bytes of a read find no memory, they were taken all the same.
use Rattle.std.proofs.Common.{rules}
use Rattle.sig_request.proofs.SourceReads.{TookAtMost-more}
use Rattle.sig_request.proofs.read.read_request.Goals as goal

pub returns-in_err-extend_from_slice-clause-most : goal.returns-in_err-extend_from_slice-clause-most
returns-in_err-extend_from_slice-clause-most g c =
    TookAtMost-more _ _ _ _ _ _ c.in_ok-count.count c.turns.invariant.0 c.in_ok-count.ensures.bytes.0 (search rules)
