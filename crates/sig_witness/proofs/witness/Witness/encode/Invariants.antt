use Rattle.std.proofs.Common.{string_bytes}
use Rattle.sig_witness.proofs.StateWrites.{IsWriting}
use Rattle.sig_witness.proofs.witness.Witness.encode.Given as goal

-- the entries that were written so far
abbrev pub invariant-logs : goal.invariant-logs
invariant-logs l = IsWriting l.self l.origin-iterator (string_bytes l.text)
