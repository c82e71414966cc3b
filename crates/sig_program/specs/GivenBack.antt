-- A list that `questions` writes fits one request with the request that it is for, and so can be given back.
use Rattle.std.specs.Prelude.{◌≡◌, ℕ, ◌≤◌, List, ◌++◌, length}
use Rattle.sig_request.specs.Limit.{most_bytes}
use Rattle.sig_program.specs.Reply.{IsReply}
use Rattle.sig_reply.specs.Reply.{listed}
use Rattle.sig_reply.specs.RowsText.{accepted_name}
use Rattle.sig_program.specs.declared.command.Command.{Command}
use Rattle.sig_reply.specs.declared.reply.Reply.{Reply}

-- The request with the list put in as `accepted`, before its last brace or wherever else, has at most as many bytes as
-- a request may have.
abbrev pub ListsAreGivenBack : Command → Type 0
ListsAreGivenBack command =
    (front after list : List ℕ) (reply : Reply) → IsReply command (front ++ after) reply → reply ≡ listed list
    → length (front ++ (accepted_name ++ (list ++ after))) ≤ most_bytes
