-- What a bundle asks for is added, or it asks for nothing, or for too much.
use Rattle.std.proofs.Common.{Err, subst}
use Rattle.sig_gate_command.proofs.Walks.{all-left, all-schemes, bundle-added, bundle-long, bundle-refused, has-room}
use Rattle.sig_questions.specs.Questions.{IsDecided}
use Rattle.sig_questions.specs.declared.listing.NoQuestions.{NoQuestions}
use Rattle.sig_verify.specs.Links.{Inputs}
use Rattle.sig_verify.specs.Outcome.{inputs_of}
use Rattle.sig_gate_command.proofs.rows.add_questions.Goals as goal

pub add_rows-added-requires-clause-room : goal.add_rows-added-requires-clause-room
add_rows-added-requires-clause-room c = has-room c.args.rows.now c.requires.list

pub add_rows-added-requires-clause-left : goal.add_rows-added-requires-clause-left
add_rows-added-requires-clause-left c =
    let (text, now, is) = c.requires.root in
    all-left (inputs_of text now c.args.digest.now c.args.bundle.now) c.in-Ok.asked c.as_slice.result.now
    c.args.rows.now.left c.as_slice.ensures (c.in-Ok.ensures.decided text now is)

pub add_rows-added-requires-clause-schemes : goal.add_rows-added-requires-clause-schemes
add_rows-added-requires-clause-schemes c =
    let (text, now, is) = c.requires.root in
    all-schemes c.schemes.ensures (inputs_of text now c.args.digest.now c.args.bundle.now) c.in-Ok.asked
    c.as_slice.result.now c.as_slice.ensures (c.in-Ok.ensures.decided text now is).1

pub returns-in-Ok-clause-added : goal.returns-in-Ok-clause-added
returns-in-Ok-clause-added c = λ text now is before so_far.
    bundle-added c.one_list.ensures (inputs_of text now c.args.digest.now c.args.bundle.now) before
    c.in-Ok.asked c.as_slice.result.now c.args.rows.now.left c.add_rows-added.new.rows c.add_rows-added.result
    c.as_slice.ensures (c.in-Ok.ensures.decided text now is) (c.in-Ok.ensures.asked text now is)
    (c.add_rows-added.ensures.added before so_far)

pub returns-in-Err-Link-clause-added : goal.returns-in-Err-Link-clause-added
returns-in-Err-Link-clause-added c = λ text now is before so_far.
    let i : Inputs = inputs_of text now c.args.digest.now c.args.bundle.now in
    bundle-refused i before c.args.rows.now.left c.in-Err-Link.field-0-0 c.args.rows.now
    (subst (λ (e : NoQuestions). IsDecided i c.args.rows.now.left (Err e)) c.in-Err-Link.field-0-is
    (c.in-Err-Link.ensures.decided text now is)) so_far

pub returns-in-Err-TooLong-clause-added : goal.returns-in-Err-TooLong-clause-added
returns-in-Err-TooLong-clause-added c = λ text now is before so_far.
    let i : Inputs = inputs_of text now c.args.digest.now c.args.bundle.now in
    bundle-long c.one_list.ensures i before c.args.rows.now
    (subst (λ (e : NoQuestions). IsDecided i c.args.rows.now.left (Err e)) c.in-Err-TooLong.field-0-is
    (c.in-Err-TooLong.ensures.decided text now is)) so_far
