-- A reply that fits, and one that does not.
use Rattle.std.proofs.Common.{◌∙◌, arith, refl}
use Rattle.sigverify_c.proofs.Answers.{answered, its-reply, small, too_long}
use Rattle.sigverify_c.proofs.answer.answer.Goals as goal
use Rattle.sigverify_c.proofs.answer.answer.Goals.{else-put, then-put}

pub returns-after-put-clause-answered : goal.returns-after-put-clause-answered
returns-after-put-clause-answered c =
    let its = its-reply c.in-Some.command c.args.number c.args.request.now c.in-Ok.reply c.in-Some.ensures c.in-Ok.ensures in
    λ few. elim c.if-put.branch [
      | then-put w ↦ answered c.args.number c.args.request.now c.as_bytes-text.result.now c.args.room.now c.put.new.room
          _ c.if-put.status c.in-Ok.reply its refl (c.as_bytes-text.ensures.value ∙ c.as_str.ensures) w.status-is
          (c.put.ensures.fits.0 w.if-put.true) (c.put.ensures.put w.if-put.true)
      | else-put w ↦ absurd (omega (arith, few, w.status-is))
    ]

pub returns-after-put-clause-room : goal.returns-after-put-clause-room
returns-after-put-clause-room c =
    let its = its-reply c.in-Some.command c.args.number c.args.request.now c.in-Ok.reply c.in-Some.ensures c.in-Ok.ensures in
    λ none. elim c.if-put.branch [
      | then-put w ↦
          let few = small c.in-Some.command c.args.request.now c.in-Ok.reply c.in-Ok.ensures in
          absurd (omega (arith, none, w.status-is, few))
      | else-put w ↦ too_long c.args.number c.args.request.now c.as_bytes-text.result.now c.args.room.now c.put.new.room _
          c.if-put.status c.in-Ok.reply its refl (c.as_bytes-text.ensures.value ∙ c.as_str.ensures)
          (λ fits. let fit = c.put.ensures.fits.1 fits in let not = w.if-put.false in cc)
    ]
