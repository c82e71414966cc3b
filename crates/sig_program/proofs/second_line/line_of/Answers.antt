-- The list is that of the proof's tree, and the body is not the entry at the index.
use Rattle.std.proofs.Common.{◌≡◌, pos, rules}
use Rattle.sig_program.proofs.SecondLines.{found-line}
use Rattle.sig_program.specs.SecondLine.{AreOfProof}
use Rattle.sig_program.proofs.second_line.line_of.Goals as goal

pub returns-in-Some : goal.returns-in-Some
returns-in-Some c =
    let tree : AreOfProof c.args.entries.now c.args.proof.now = search rules in
    let place : c.args.proof.now.log_index ≡ pos c.in-Ok.index = search rules in
    found-line c.args.entries.now c.args.body.now c.args.proof.now c.in-Ok.index c.in_ok-inclusion_collision.field-0
    c.in-Some.found c.collision_text.result tree place c.in-Some.is c.in_ok-inclusion_collision.ensures.none
    c.in_ok-inclusion_collision.ensures.some c.in_ok-inclusion_collision.ensures.texts c.collision_text.ensures
