-- The list has the signatures of the updates so far, and in the end of all, or has no room for the next.
use Rattle.std.proofs.Common.{◌<◌, ◌≤◌, Bool, arith, length, subst}
use Rattle.sig_json.specs.Tree.{tree}
use Rattle.sig_reply.proofs.RowsTexts.{no-brackets}
use Rattle.sig_witness_command.proofs.Listings.{notes-more, notes-none, notes-past, notes-whole, some-updates}
use Rattle.sig_witness_command.proofs.Marks.{list-none}
use Rattle.sig_witness_command.specs.Questions.{witness_rows}
use Rattle.sig_witness_command.specs.RowList.{HasAddedText}
use Rattle.sig_witness_command.proofs.rows.notes_document.Goals as goal

pub returns-then-most-lt2 : goal.returns-then-most-lt2
returns-then-most-lt2 c =
    let (updates, are) = some-updates c.args.texts.now in
    (updates, are, no-brackets c.args.most (witness_rows c.args.witness.now updates) (omega (arith, c.if-most-lt2.true)))

pub texts-init : goal.texts-init
texts-init c =
    notes-none c.args.witness.now c.args.most c.args.texts.now c.new-rows.result c.new-rows.ensures.most_is
    (list-none c.args.witness.now c.args.most c.new-rows.result c.new-rows.ensures (omega (arith, c.if-most-lt2.false)))

pub texts-preserved : goal.texts-preserved
texts-preserved c =
    let below : c.texts.place < length c.args.texts.now = omega (arith, c.texts-test.true) in
    notes-more c.args.witness.now c.args.most c.args.texts.now c.texts.place c.index-texts-place.result below
    c.index-texts-place.is c.texts.rows c.add_text.new.rows c.texts.invariant c.in_ok-add_text.ensures.most
    (subst (λ (b : Bool). HasAddedText c.args.witness.now c.texts.place
    (witness_rows c.args.witness.now c.texts.invariant.updates) c.index-texts-place.result c.add_text.new.rows b)
    c.if-not-branch.false
    (c.in_ok-add_text.ensures.added (witness_rows c.args.witness.now c.texts.invariant.updates) c.texts.invariant.listed))

pub returns-then-not-branch : goal.returns-then-not-branch
returns-then-not-branch c =
    let below : c.texts.place < length c.args.texts.now = omega (arith, c.texts-test.true) in
    notes-past c.args.witness.now c.args.most c.args.texts.now c.texts.place c.index-texts-place.result below
    c.index-texts-place.is c.texts.rows c.add_text.new.rows c.texts.invariant c.in_ok-add_text.ensures.most
    (subst (λ (b : Bool). HasAddedText c.args.witness.now c.texts.place
    (witness_rows c.args.witness.now c.texts.invariant.updates) c.index-texts-place.result c.add_text.new.rows b)
    c.if-not-branch.true
    (c.in_ok-add_text.ensures.added (witness_rows c.args.witness.now c.texts.invariant.updates) c.texts.invariant.listed))

pub returns : goal.returns
returns c =
    let all : length c.args.texts.now ≤ c.texts.place = omega (arith, c.texts-test.false) in
    notes-whole c.args.witness.now c.args.most c.args.texts.now c.texts.place c.texts.rows (tree c.view.result)
    c.in_ok-text.field-0 all c.texts.invariant c.view.ensures c.in_ok-text.ensures.text c.in_ok-text.ensures.reads_back
