use Rattle.base_cases.proofs.collisions.paths_letter.Goals as goal

pub proof_collision-requires : goal.proof_collision-requires
proof_collision-requires c = (
  c.args.root.now,
  c.is_included.ensures.0 c.if-is_included.true,
  c.is_included-then-is_included.ensures.0 c.if-is_included-2.true,
)
