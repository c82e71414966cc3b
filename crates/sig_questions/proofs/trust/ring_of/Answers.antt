use Rattle.std.proofs.Common.{IfOk, List, ℕ}
use Rattle.std.proofs.Math.Facts.{to_z-of_z}
use Rattle.sig_verify.specs.Verifier.{HasKeys}
use Rattle.sig_questions.proofs.Trusts.{keys_refused, keys_taken}
use Rattle.sig_questions.proofs.trust.ring_of.Goals as goal

pub returns-in-Ok : goal.returns-in-Ok
returns-in-Ok c =
    keys_taken c.args.root.now c.args.now _ c.in-Ok.keys
    (λ (keys : List (List ℕ × List ℕ)). IfOk c.keyring_of.result (HasKeys keys)) (to_z-of_z c.ranges.now) c.in-Ok.ensures
    c.keyring_of.ensures

pub memory_of-requires : goal.memory_of-requires
memory_of-requires c =
    keys_refused c.args.root.now c.args.now _ c.in-Err.error (to_z-of_z c.ranges.now) c.requires c.in-Err.ensures
