-- A write of the reply that failed.
use Rattle.std.proofs.Common.{◌∙◌, inr, arith}
use Rattle.sig_program.proofs.Invocations.{demo-asked}
use Rattle.sig_program.proofs.Runs.{demo-written, faulted-reply}
use Rattle.sig_program.proofs.run.run.Goals as goal

pub returns-in-Ok-clause-fault : goal.returns-in-Ok-clause-fault
returns-in-Ok-clause-fault g c = λ failed.
    (let fault = c.finish-in-Ok.ensures.fault (omega (arith, failed)) in
    inr (faulted-reply c.args.words.now c.in-Some.invocation (g.S.Source.left c.args.source.now)
    (g.S.Source.left c.reply_for.new.source)
    (g.K.Sink.faults c.args.sink.now) (g.K.Sink.faults c.finish-in-Ok.new.sink) (g.K.Sink.taken c.args.sink.now)
    (g.K.Sink.taken c.finish-in-Ok.new.sink)
    c.in-Ok.reply _ (c.as_bytes-in-Ok.ensures.value ∙ c.as_str.ensures) c.in-Some.ensures c.in-Ok.ensures.ok fault.1
    fault.2))

-- What was written for the words of `demo`.
pub returns-in-Ok-clause-demo : goal.returns-in-Ok-clause-demo
returns-in-Ok-clause-demo g c = λ count is. (
  c.reply_for.ensures.unread count
      (demo-asked c.args.words.now c.in-Some.invocation count c.in-Some.ensures is),
  demo-written c.args.words.now c.in-Some.invocation (g.S.Source.left c.args.source.now)
      (g.S.Source.left c.reply_for.new.source) c.in-Ok.reply count c.finish-in-Ok.result
      (g.K.Sink.taken c.args.sink.now) (g.K.Sink.taken c.finish-in-Ok.new.sink) _ c.in-Some.ensures
      c.in-Ok.ensures.ok (c.as_bytes-in-Ok.ensures.value ∙ c.as_str.ensures) c.finish-in-Ok.ensures.written is,
)
