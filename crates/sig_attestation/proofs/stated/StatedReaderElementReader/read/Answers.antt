use Rattle.std.proofs.Common.{ap}
use Rattle.sig_json.proofs.ReaderResults.{is_read}
use Rattle.sig_json.specs.OrMember.{or_member}
use Rattle.sig_attestation.proofs.StatementParts.{statement-read}
use Rattle.sig_attestation.proofs.stated.StatedReaderElementReader.read.Goals as goal

pub returns : goal.returns
returns c =
    ap or_member (statement-read _ _ _ _ (is_read c.in_ok-statement_type.ensures)
    (is_read c.in_ok-predicate_type.ensures) (is_read c.in_ok-sha256s.ensures))
