-- The last part first.
use Rattle.std.proofs.Common.{Vec, Global, ℕ, ◌++◌, ◌∙◌, ap, length, sym}
use Rattle.std.proofs.lemmas.Bool.{eqb-true}
use Rattle.std.proofs.lemmas.Result.{on_ok_weaker}
use Rattle.sig_name.proofs.Parts.{some_left}
use Rattle.sig_name.proofs.Values.{none_pushed, single_pushed, parts_pushed}
use Rattle.sig_name.specs.NameText.{part_text}
use Rattle.sig_name.specs.Seen.{seen}
use Rattle.sig_name.proofs.text.+push_parts.Goals as goal
use Rattle.sig_name.proofs.text.+push_parts.Goals.{then-not-is_empty+in_ok-push_parts+in_ok-push, else-not-is_empty}

pub returns-in_default : goal.returns-in_default
returns-in_default t c = none_pushed c.args.out.now.items c.args.parts.now c.in_default.ensures.cases

pub returns : goal.returns
returns t c = elim c.if-not-is_empty.branch [
  | then-not-is_empty+in_ok-push_parts+in_ok-push w ↦
      on_ok_weaker c.push_part.result
      (parts_pushed c.args.out.now.items w.push_parts.new.out.items c.if-not-is_empty.out.items
      c.push_part.new.out.items c.in-Some.first.now c.in-Some.others.now c.args.parts.now c.in-Some.ensures.cases.0
      (some_left c.in-Some.others.now w.if-not-is_empty.ensures) w.in_ok-push_parts.ensures
      (ap (λ (out : Vec ℕ Global). out.items) w.out-is ∙ w.in_ok-push.ensures.items)) c.push_part.ensures
  | else-not-is_empty w ↦
      on_ok_weaker c.push_part.result
      (λ pushed. single_pushed c.args.out.now.items c.push_part.new.out.items c.in-Some.first.now
      c.in-Some.others.now c.args.parts.now c.in-Some.ensures.cases.0
      (eqb-true (length c.in-Some.others.now) 0 (sym w.if-not-is_empty.ensures))
      (pushed ∙ ap (λ (out : Vec ℕ Global). out.items ++ part_text (seen c.in-Some.first.now)) w.out-is))
      c.push_part.ensures
]
