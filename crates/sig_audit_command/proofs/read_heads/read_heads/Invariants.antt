-- The heads so far.
use Rattle.std.proofs.Common.{take}
use Rattle.sig_audit_command.specs.Heads.{AreHeads}
use Rattle.sig_audit_command.proofs.read_heads.read_heads.Given as goal

abbrev pub invariant-texts : goal.invariant-texts
invariant-texts l = AreHeads (take l.place l.fn.texts) l.heads
