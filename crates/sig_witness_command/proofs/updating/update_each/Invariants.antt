-- What the updates so far made of the logs.
use Rattle.std.proofs.Common.{take}
use Rattle.sig_witness_command.specs.Walk.{IsWalk, takes}
use Rattle.sig_witness_command.proofs.updating.update_each.Given as goal

abbrev pub invariant-texts : goal.invariant-texts
invariant-texts l = IsWalk (takes l.accepted) l.fn.witness (take l.text-index l.texts) l.outcomes l.witness
