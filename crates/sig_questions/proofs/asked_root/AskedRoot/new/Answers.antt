use Rattle.std.proofs.Math.Facts.{to_z-of_z}
use Rattle.sig_verify.proofs.RootVerdicts.{refusal_of_root}
use Rattle.sig_questions.proofs.AskedRoots.{has_trust, link_given, trust_given}
use Rattle.sig_questions.proofs.asked_root.AskedRoot.new.Goals as goal

pub read_trust-requires : goal.read_trust-requires
read_trust-requires c = has_trust c.roots.ensures c.args.root.now _ c.in-Ok.verifier c.in-Ok.ensures.made

pub returns-in_ok-parts-in-Ok : goal.returns-in_ok-parts-in-Ok
returns-in_ok-parts-in-Ok c =
    trust_given c.roots.ensures c.args.root.now _ c.args.now (to_z-of_z c.ranges.now) c.in-Ok.verifier
    c.in_ok-parts-in-Ok.parts c.in-Ok.ensures.made c.in_ok-parts-in-Ok.ensures

pub refused_link-requires : goal.refused_link-requires
refused_link-requires c = refusal_of_root c.args.root.now _ c.in-Err.error c.in-Err.ensures.refused

pub returns-in_ok-link-in-Err : goal.returns-in_ok-link-in-Err
returns-in_ok-link-in-Err c =
    link_given c.roots.ensures c.args.root.now _ c.args.now (to_z-of_z c.ranges.now) c.in-Err.error
    c.in_ok-link-in-Err.link c.in-Err.ensures.refused c.in_ok-link-in-Err.ensures
