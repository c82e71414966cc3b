-- What a call gives back, from the reply and from what was put into the room.
use Rattle.std.proofs.Common.{◌≡◌, ◌<◌, ◌≤◌, ◌++◌, ℕ, inl, inr, List, None, arith, drop, length}
use Rattle.sig_program.proofs.Runs.{IsReplyOf-small}
use Rattle.sig_program.specs.declared.invocation.Invocation.TheVariants as invocation
use Rattle.sig_reply.specs.declared.reply.Reply.{Reply}
use Rattle.sigverify_c.specs.Answer.{IsAnswered, IsReplyOf, IsReplyTo, IsTooLong}
use Rattle.sigverify_c.specs.Number.{HasNumber, IsNumber}
use Rattle.sigverify_c.specs.declared.numbered.Numbered.{Numbered}
use Rattle.sigverify_c.specs.declared.numbered.Numbered.TheVariants.{Command as Replying, Explanation}

-- what was found has the number
pub its-number : (its : Numbered) (number : ℕ) → HasNumber number its → IsNumber number
its-number (Replying command) number named = inl (command, named)
its-number (Explanation what) number named = inr (what, named)

-- its reply
pub its-reply : (its : Numbered) (number : ℕ) (request : List ℕ) (reply : Reply) → HasNumber number its
    → IsReplyOf its request reply → IsReplyTo number request reply
its-reply (Replying command) number request reply named meant = inl (command, named, meant)
its-reply (Explanation what) number request reply named meant = inr (what, named, meant)

-- the status of a reply is below those without one: a run writes it
pub small : (its : Numbered) (request : List ℕ) (reply : Reply) → IsReplyOf its request reply → reply.status < 3
small (Replying command) request reply meant =
    IsReplyOf-small (invocation.Reply command) None None reply
    (record { text = request; request = tt; meant = meant })
small (Explanation what) request reply meant =
    IsReplyOf-small (invocation.Explanation what) None None reply
    (record { text = request; request = tt; meant = meant })

module _ (number : ℕ) (request bytes room_old room_new : List ℕ) (written status : ℕ) (reply : Reply)
    (its : IsReplyTo number request reply) (count : written ≡ length bytes) (are : bytes ≡ reply.text) where
  -- the bytes of the reply were put into the room
  pub answered : status ≡ reply.status → length bytes ≤ length room_old
      → room_new ≡ bytes ++ drop (length bytes) room_old
      → IsAnswered number request room_old room_new written status
  answered same fits put = record {
    reply = reply;
    replies = its;
    answer = same;
    count = cc;
    fits = omega (arith, count, fits);
    bytes = cc;
  }

  -- they are too many
  pub too_long : ¬ length bytes ≤ length room_old → IsTooLong number request room_old written
  too_long many = record { reply = reply; replies = its; count = cc; more = omega (arith, count, many) }

pub ruleset answers = (its-number, small)
