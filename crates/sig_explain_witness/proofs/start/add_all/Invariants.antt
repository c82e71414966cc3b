-- The origins so far were added.
use Rattle.std.proofs.Common.{take}
use Rattle.sig_witness_command.specs.Start.{AreAdded}
use Rattle.sig_explain_witness.proofs.start.add_all.Given as goal

abbrev pub invariant-origins : goal.invariant-origins
invariant-origins l = AreAdded l.fn.witness (take l.place l.fn.origins) l.witness
