-- Fewer than five lines are left.
use Rattle.std.proofs.Common.{◌≡◌, ◌∙◌, None, Some, ap, sym, refl, inr, option_map, rules}
use Rattle.sig_witness.proofs.StateLines.{not-empty, split-fails, split-more}
use Rattle.sig_witness.specs.StateCut.{lines_cut, lines_in}
use Rattle.sig_witness.specs.declared.state_lines.Cut.{Cut}
use Rattle.sig_witness.proofs.state_lines.split_lines.Goals as goal

pub returns-in_default-clause-err : goal.returns-in_default-clause-err
returns-in_default-clause-err c =
    let none : lines_cut c.lines.rest.now ≡ None =
    sym c.cut_lines.ensures.cut ∙ ap (option_map (λ (cut : Cut). (lines_in cut, cut.rest.now))) c.in_default.is in
    inr (
      refl,
      split-fails c.args.text.now c.lines.all.items c.lines.rest.now c.lines.invariant.0
          (not-empty c.lines.rest.now c.is_empty.result c.is_empty.ensures c.lines-test.true) none,
    )

pub lines-preserved : goal.lines-preserved
lines-preserved c =
    let cut_is : lines_cut c.lines.rest.now ≡ Some (lines_in c.in-Some.cut, c.in-Some.cut.rest.now) =
    sym c.cut_lines.ensures.cut ∙ ap (option_map (λ (cut : Cut). (lines_in cut, cut.rest.now))) c.in-Some.is in (
      rw c.in_ok-add_lines.ensures
          (split-more c.args.text.now c.lines.all.items c.lines.rest.now (lines_in c.in-Some.cut) c.in-Some.cut.rest.now
          c.lines.invariant.0
          (not-empty c.lines.rest.now c.is_empty.result c.is_empty.ensures c.lines-test.true) cut_is),
      search rules,
    )
