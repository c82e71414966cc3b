-- The list has what the bundles so far ask for, and in the end all of them, or has no room for the next.
use Rattle.std.proofs.Common.{◌≤◌, ◌∙◌, Bool, List, ℕ, arith, length, subst, true, false}
use Rattle.sig_gate_command.proofs.Walks.{bundle-more, bundle-past, bundles-whole, some-list}
use Rattle.sig_gate_command.specs.AskedRoots.{inputs_at}
use Rattle.sig_gate_command.specs.RowList.{HasAdded, HasAddedOf}
use Rattle.sig_verify.specs.Outcome.{inputs_of}
use Rattle.sig_gate_command.proofs.rows.add_bundles.Goals as goal

pub add_bundle-requires-clause-list : goal.add_bundle-requires-clause-list
add_bundle-requires-clause-list c =
    let (text, now, is) = c.requires.root in
    let (before, so_far) = c.requires.list in
    some-list _ before c.bundles.rows (c.bundles.invariant.0 text now is before so_far)

pub bundles-preserved : goal.bundles-preserved
bundles-preserved c = (
  λ text now is before so_far. bundle-more text now c.args.artifact.now.digest
      c.as_slice-texts.result.now c.bundles.bundle-index c.bundle-item.result (omega (arith, c.bundles-test.true))
      c.bundle-item.is c.one_list.ensures before c.bundles.rows c.add_bundle.new.rows
      (c.bundles.invariant.0 text now is before so_far)
      (λ some listed. subst (λ (b : Bool). HasAdded (inputs_of text now c.args.artifact.now.digest c.bundle-item.result) some
      c.add_bundle.new.rows b)
      c.if-not-branch.false
      (subst (λ (t : List ℕ). HasAdded (inputs_of text now c.args.artifact.now.digest t) some c.add_bundle.new.rows
      c.in_ok-add_bundle.field-0) c.as_slice.ensures
      (c.in_ok-add_bundle.ensures.added text now is some listed))),
  c.in_ok-add_bundle.ensures.most ∙ c.bundles.invariant.1,
)

pub returns-then-not-branch-clause-added : goal.returns-then-not-branch-clause-added
returns-then-not-branch-clause-added c = λ text now is before so_far.
    let past = bundle-past text now c.args.artifact.now.digest
    c.as_slice-texts.result.now c.bundles.bundle-index c.bundle-item.result (omega (arith, c.bundles-test.true))
    c.bundle-item.is c.one_list.ensures before c.bundles.rows c.add_bundle.new.rows
    (c.bundles.invariant.0 text now is before so_far)
    (λ some listed. subst (λ (b : Bool). HasAdded (inputs_of text now c.args.artifact.now.digest c.bundle-item.result) some
    c.add_bundle.new.rows b)
    c.if-not-branch.true
    (subst (λ (t : List ℕ). HasAdded (inputs_of text now c.args.artifact.now.digest t) some c.add_bundle.new.rows
    c.in_ok-add_bundle.field-0) c.as_slice.ensures
    (c.in_ok-add_bundle.ensures.added text now is some listed))) in
    subst (λ (texts : List (List ℕ)). HasAddedOf (inputs_at text now c.args.artifact.now.digest texts) before
    c.add_bundle.new.rows false) c.as_slice-texts.ensures past

pub returns-clause-added : goal.returns-clause-added
returns-clause-added c = λ text now is before so_far.
    let all : length c.as_slice-texts.result.now ≤ c.bundles.bundle-index = omega (arith, c.bundles-test.false) in
    subst (λ (texts : List (List ℕ)). HasAddedOf (inputs_at text now c.args.artifact.now.digest texts) before
    c.bundles.rows true) c.as_slice-texts.ensures
    (bundles-whole text now c.args.artifact.now.digest c.as_slice-texts.result.now c.bundles.bundle-index before
    c.bundles.rows all (c.bundles.invariant.0 text now is before so_far))
