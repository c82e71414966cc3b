-- If the keys of the instances that are left are bytes, all are.
use Rattle.std.proofs.Common.{drop}
use Rattle.std.specs.List.{AllByRecursion}
use Rattle.sig_root.specs.OfBytes.{HasRawBytes}
use Rattle.sig_root.proofs.laws.are_log_key_bytes.Given as goal

abbrev pub invariant-instances : goal.invariant-instances
invariant-instances l =
    AllByRecursion HasRawBytes (drop l.instance-index l.instances) → AllByRecursion HasRawBytes l.instances
