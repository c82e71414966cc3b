-- What a call returns to C.
use Rattle.std.specs.Prelude.{◌≡◌, ◌⊎◌, ℕ, ◌<◌, ◌≤◌, List, ◌++◌, drop, length}
use Rattle.sig_program.specs.ExplainedReply.{IsExplained}
use Rattle.sig_program.specs.Reply.{IsReply}
use Rattle.sig_program.specs.declared.command.Command.{Command}
use Rattle.sig_program.specs.declared.explained.Explained.{Explained}
use Rattle.sig_reply.specs.declared.reply.Reply.{Reply}
use Rattle.sigverify_c.specs.Number.{explanation_number, number_of}
use Rattle.sigverify_c.specs.declared.numbered.Numbered.{Numbered}
use Rattle.sigverify_c.specs.declared.numbered.Numbered.TheVariants.{Command as Replying, Explanation}

-- EX_TEMPFAIL of sysexits.h: the reply has more bytes than there is room for
abbrev pub room_status : ℕ
room_status = 75

-- the reply of the command of this number to the request, or its explained reply
abbrev pub IsReplyTo : ℕ → List ℕ → Reply → Type 0
IsReplyTo number request reply =
    ((command : Command) × (number ≡ number_of command) × IsReply command request reply)
    ⊎ ((what : Explained) × (number ≡ explanation_number what) × IsExplained what request reply)

-- for private clauses: its reply
abbrev pub IsReplyOf : Numbered → List ℕ → Reply → Type 0
IsReplyOf (Replying command) request reply = IsReply command request reply
IsReplyOf (Explanation what) request reply = IsExplained what request reply

-- the whole reply is at the beginning of the room, whose other bytes are as they were
pub record IsAnswered (number : ℕ) (request room_old room_new : List ℕ) (written status : ℕ) : Type 0 where
  pub reply : Reply
  pub replies : IsReplyTo number request reply
  pub answer : status ≡ reply.status
  pub count : written ≡ length reply.text
  pub fits : written ≤ length room_old
  pub bytes : room_new ≡ reply.text ++ drop written room_old

-- the reply has this many bytes, more than there is room for
pub record IsTooLong (number : ℕ) (request room : List ℕ) (written : ℕ) : Type 0 where
  pub reply : Reply
  pub replies : IsReplyTo number request reply
  pub count : written ≡ length reply.text
  pub more : length room < written
