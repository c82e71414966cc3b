use Rattle.std.proofs.Common.{rules}
use Rattle.sig_payload.proofs.Extras.{optional_read}
use Rattle.sig_payload.proofs.signing_reader.read_optional.Goals as goal

pub returns : goal.returns
returns c = search (rules, optional_read)
