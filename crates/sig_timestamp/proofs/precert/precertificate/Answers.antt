-- What is written anew is not longer than the original.
use Rattle.std.proofs.Common.{sym}
use Rattle.sig_timestamp.proofs.PrecertLaws.{have_spelling}
use Rattle.sig_timestamp.proofs.precert.precertificate.Goals as goal

pub made_anew-requires : goal.made_anew-requires
made_anew-requires c = have_spelling c.args.leaf.now c.requires (sym c.if-is_listed.ensures)
