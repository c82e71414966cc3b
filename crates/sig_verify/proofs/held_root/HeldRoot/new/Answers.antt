use Rattle.std.proofs.Math.Facts.{to_z-of_z}
use Rattle.sig_verify.proofs.HeldRoots.{fault_given, trust_given}
use Rattle.sig_verify.proofs.RootVerdicts.{refusal_of_root}
use Rattle.sig_verify.proofs.held_root.HeldRoot.new.Goals as goal

pub returns-in_ok-log_keys-in-Ok : goal.returns-in_ok-log_keys-in-Ok
returns-in_ok-log_keys-in-Ok c =
    trust_given c.args.root.now c.args.now _ c.in-Ok.verifier c.in_ok-log_keys-in-Ok.log_keys (to_z-of_z c.ranges.now)
    c.in-Ok.ensures.made c.in_ok-log_keys-in-Ok.ensures

pub fault_of-requires : goal.fault_of-requires
fault_of-requires c = refusal_of_root c.args.root.now _ c.in-Err.error c.in-Err.ensures.refused

pub returns-in_ok-fault-in-Err : goal.returns-in_ok-fault-in-Err
returns-in_ok-fault-in-Err c =
    fault_given c.args.root.now c.args.now _ c.in-Err.error c.in_ok-fault-in-Err.fault (to_z-of_z c.ranges.now)
    c.in-Err.ensures.refused c.in_ok-fault-in-Err.ensures
