-- The list is that of the new tree, and the old root is not that of its first entries.
use Rattle.std.proofs.Common.{◌≡◌, ◌≢◌, ◌∙◌, sym, rules, arith, length}
use Rattle.sig_program.proofs.FrontLines.{found-front}
use Rattle.sig_program.proofs.second_line.front_line_of.Goals as goal

pub returns : goal.returns
returns c =
    let count : length c.args.entries.now ≡ c.args.request.now.tree_size = omega arith in
    let same : c.front_roots-roots.result.new ≡ c.args.request.now.root_hash = search rules in
    let apart : c.front_roots-roots.result.old ≢ c.args.request.now.old_root = search rules in
    found-front c.args.entries.now c.args.request.now c.in_ok-found.field-0 c.in-Some.found c.collision_text.result
    (count, sym c.front_roots-roots.ensures.new ∙ same)
    (λ front. apart (c.front_roots-roots.ensures.old ∙ sym front))
    c.in-Some.is c.in_ok-found.ensures.some c.in_ok-found.ensures.texts c.collision_text.ensures
