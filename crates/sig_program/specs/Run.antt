-- What a run reads, replies and writes.
use Rattle.std.specs.Prelude.{◌≡◌, ℕ, ◌⊎◌, List, ◌++◌, Option, None, Some, codes, ⊤}
use Rattle.std.specs.Io.KnownBytes.{Appends}
use Rattle.std.specs.List.{AllByRecursion}
use Rattle.sig_base.specs.Stream.{Rose}
use Rattle.sig_program.specs.Demo.{demo_reply}
use Rattle.sig_program.specs.ExplainedReply.{IsExplained}
use Rattle.sig_program.specs.Invocation.{Invokes, IsInvocation}
use Rattle.sig_request.specs.Limit.{TakesRequest}
use Rattle.sig_program.specs.Reply.{IsReply}
use Rattle.sig_program.specs.declared.command.Command.{Command}
use Rattle.sig_program.specs.declared.explained.Explained.{Explained}
use Rattle.sig_program.specs.declared.invocation.Invocation.{Invocation}
use Rattle.sig_program.specs.declared.invocation.Invocation.TheVariants as invocation
use Rattle.sig_reply.specs.declared.reply.Reply.{Reply}

-- the line that is written for words that ask for nothing
abbrev pub usage_line : List ℕ
usage_line = codes "usage\n"

-- the command's reply to the request that was taken from the source
pub record RepliesTo (command : Command) (old new : Option (List ℕ)) (reply : Reply) : Type 0 where
  pub text : List ℕ
  pub request : TakesRequest old new text
  pub meant : IsReply command text reply

-- the command's reply to the request that was taken from the source, and its explanation
pub record ExplainsTo (what : Explained) (old new : Option (List ℕ)) (reply : Reply) : Type 0 where
  pub text : List ℕ
  pub request : TakesRequest old new text
  pub meant : IsExplained what text reply

-- the reply to what the words ask for: to a request that was taken, or the lines of `demo`, for which nothing is taken
abbrev pub IsReplyOf : Invocation → Option (List ℕ) → Option (List ℕ) → Reply → Type 0
IsReplyOf (invocation.Reply command) old new reply = RepliesTo command old new reply
IsReplyOf (invocation.Explanation what) old new reply = ExplainsTo what old new reply
IsReplyOf (invocation.Demo count) old new reply = (new ≡ old) × (reply ≡ demo_reply count)

-- the run replied to what the words ask for, and wrote the whole reply and nothing else
pub record Answered (words : List (List ℕ)) (left_old left_new taken_old taken_new : Option (List ℕ))
    (status : ℕ) : Type 0 where
  pub invocation : Invocation
  pub named : Invokes words invocation
  pub reply : Reply
  pub replies : IsReplyOf invocation left_old left_new reply
  pub answer : status ≡ reply.status
  pub written : Appends taken_old taken_new reply.text

-- what a run writes: the text of the reply to what the words ask for, or the line for other words
abbrev pub IsOutput : List (List ℕ) → Option (List ℕ) → Option (List ℕ) → List ℕ → Type 0
IsOutput words left_old left_new bytes =
    ((asked : Invocation) × Invokes words asked × ((reply : Reply) × IsReplyOf asked left_old left_new reply
    × (bytes ≡ reply.text)))
    ⊎ (¬ IsInvocation words × (bytes ≡ usage_line))

-- a prefix of the bytes was written, and nothing else
abbrev pub AppendsFront : Option (List ℕ) → Option (List ℕ) → List ℕ → Type 0
AppendsFront old new bytes = (front : List ℕ) × (rest : List ℕ) × (bytes ≡ front ++ rest) × Appends old new front

-- a write failed: the sink's count of faults rose, and a prefix of the output was written
pub record WriteFaulted (words : List (List ℕ)) (left_old left_new : Option (List ℕ)) (before now : ℕ)
    (taken_old taken_new : Option (List ℕ)) : Type 0 where
  pub bytes : List ℕ
  pub output : IsOutput words left_old left_new bytes
  pub rose : Rose before now
  pub written : AppendsFront taken_old taken_new bytes

-- a read failed: the source's count of faults rose, and nothing was written
abbrev pub ReadFaulted : {K : Type 0} → List (List ℕ) → ℕ → ℕ → K → K → Type 0
ReadFaulted words before now sink_old sink_new = IsInvocation words × Rose before now × (sink_new ≡ sink_old)

-- the piece is all that is left of the bytes after some front
abbrev pub IsRestOf : List ℕ → List ℕ → Type 0
IsRestOf bytes piece = (front : List ℕ) × (bytes ≡ front ++ piece)

-- each piece that was given is all that was left of the bytes
abbrev pub HandsRests : Option (List (List ℕ)) → Option (List (List ℕ)) → List ℕ → Type 0
HandsRests None new bytes = ⊤
HandsRests (Some before) new bytes =
    (pieces : List (List ℕ)) × (new ≡ Some (before ++ pieces)) × AllByRecursion (IsRestOf bytes) pieces

-- each write was given all that was left of the output; or there is no output, and nothing was given
abbrev pub WritesRests : List (List ℕ) → Option (List ℕ) → Option (List ℕ) → Option (List (List ℕ))
    → Option (List (List ℕ)) → Type 0
WritesRests words left_old left_new handed_old handed_new =
    (handed_new ≡ handed_old) ⊎ ((bytes : List ℕ) × IsOutput words left_old left_new bytes
    × HandsRests handed_old handed_new bytes)
