use Rattle.std.proofs.Common.{arith}
use Rattle.sig_merkle.proofs.GrowthSteps.{seed_len-enough, growth-ends}
use Rattle.sig_merkle.proofs.growth_walk.walk_growth.Goals as goal

pub start-requires-clause-enough : goal.start-requires-clause-enough
start-requires-clause-enough g c =
    seed_len-enough c.args.old_size c.args.new_size c.args.proof_hashes.now (omega arith) c.requires.some
    c.requires.grown c.requires.count

pub returns-clause-roots : goal.returns-clause-roots
returns-clause-roots g c = grind (arith, growth-ends)
