-- The reply of `explain`: that of the command, and then one line, its explanation.
use Rattle.std.specs.Prelude.{◌≡◌, ℕ, List, ◌++◌, codes}
use Rattle.sig_explain_log.specs.Request.{request_tree}
use Rattle.sig_json.specs.Data.{Data}
use Rattle.sig_json.specs.Written.{compact_text}
use Rattle.sig_program.specs.ExplainWords.{explained_command}
use Rattle.sig_program.specs.Explanation.{IsExplanation}
use Rattle.sig_program.specs.Reply.{IsReply, refusal_reply}
use Rattle.sig_program.specs.declared.explained.Explained.{Explained}
use Rattle.sig_reply.specs.declared.reply.Reply.{Reply}
use Rattle.sig_request_fault.specs.declared.fault.RequestFault.TheVariants.{TooLong}
use Rattle.sig_verify.specs.declared.link.Link.TheVariants.{Request}

-- the reply with this tree as its last line; its status stays
abbrev pub explained_by : Reply → Data → Reply
explained_by plain tree = record {
  status = plain.status;
  text = plain.text ++ (compact_text tree ++ codes "\n");
}

-- the lines before the last are the command's reply to the text, and the last line explains it
pub record IsExplained (what : Explained) (text : List ℕ) (reply : Reply) : Type 0 where
  pub plain : Reply
  pub replies : IsReply (explained_command what) text plain
  pub tree : Data
  pub explains : IsExplanation what text tree
  pub are : reply ≡ explained_by plain tree

-- the explained reply of each command to a text that is too long
abbrev pub long_explained : Reply
long_explained = explained_by (refusal_reply Request) (request_tree TooLong)
