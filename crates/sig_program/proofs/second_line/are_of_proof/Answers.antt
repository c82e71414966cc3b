use Rattle.std.proofs.Common.{◌≡◌, ◌≢◌, ◌∙◌, sym, refl, rules, arith, length}
use Rattle.std.proofs.lemmas.Bool.{false≢true}
use Rattle.sig_program.proofs.SecondLines.{whole_list}
use Rattle.sig_program.specs.SecondLine.{AreOfProof}
use Rattle.sig_program.proofs.second_line.are_of_proof.Goals as goal

pub returns-then-ne : goal.returns-then-ne
returns-then-ne c =
    let apart : c.root_of.result ≢ c.args.proof.now.root_hash = search rules in (
      λ held. absurd (false≢true held),
      λ (are : AreOfProof c.args.entries.now c.args.proof.now). absurd (apart (c.root_of.ensures
          ∙ whole_list c.args.entries.now c.len-2.result c.len-2.ensures ∙ are.1)),
    )

pub returns : goal.returns
returns c =
    let same : c.root_of.result ≡ c.args.proof.now.root_hash = search rules in
    let count : length c.args.entries.now ≡ c.args.proof.now.tree_size = omega arith in (
      λ held. (
        count,
        sym (whole_list c.args.entries.now c.len-2.result c.len-2.ensures) ∙ sym c.root_of.ensures
            ∙ same,
      ),
      λ are. refl,
    )
