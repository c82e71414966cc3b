-- Nothing but the listed signatures decides the reply of `consistency`.
use Rattle.std.proofs.Common.{◌↔◌, ℕ, List, Option, Some, None}
use Rattle.sig_base.specs.declared.checker.AcceptedRow.{AcceptedRow}
use Rattle.sig_verify.specs.declared.link.Link.{Link}
use Rattle.sig_verify.specs.declared.link.Link.TheVariants.{Checkpoint, NoteKey, NoteMatch, Consistency as Grown}
use Rattle.sig_program.proofs.SufficientLogRows.{AreAlike, all-same, alike-other, alike-reply, note_key-same, some-same}
use Rattle.sig_program.specs.ConsistencyLink.{HoldsOfConsistency}
use Rattle.sig_program.specs.Reply.{IsConsistentReply}
use Rattle.sig_program.specs.SecondLine.{IsFrontLine}
use Rattle.sig_program.specs.Suffice.{AgreeOnHead, ConsistencyQuestionsSuffice, consistency_with_accepted}
use Rattle.sig_program.specs.declared.command.Command.TheVariants.{Consistency}
use Rattle.sig_reply.specs.declared.reply.Reply.{Reply}
use Rattle.sig_request.specs.ConsistencyRequest.{consistency_request}
use Rattle.sig_request.specs.ReadFrom.{IsRequestOf}
use Rattle.sig_request.specs.declared.consistency_request.ConsistencyRequest.{ConsistencyRequest}

holds-same : (request : ConsistencyRequest) (rows : List AcceptedRow) → AgreeOnHead request.head rows → (link : Link)
    → HoldsOfConsistency request link ↔ HoldsOfConsistency (consistency_with_accepted request rows) link
holds-same request rows agree Checkpoint = (λ h. h, λ h. h)
holds-same request rows agree NoteKey = note_key-same request.head rows agree
holds-same request rows agree NoteMatch = (λ h. h, λ h. h)
holds-same request rows agree Grown = (λ h. h, λ h. h)
holds-same request rows agree other = (λ h. tt, λ h. tt)

-- the second line rests on no accepted signature
line-same : (request : ConsistencyRequest) (rows : List AcceptedRow) (entries : Option (List (List ℕ)))
    (line : List ℕ)
    → IsFrontLine entries request line ↔ IsFrontLine entries (consistency_with_accepted request rows) line
line-same request rows None line = (λ h. h, λ h. h)
line-same request rows (Some entries) line = (λ h. h, λ h. h)

reply-same : (request : ConsistencyRequest) (rows : List AcceptedRow) (reply : Reply)
    → IsConsistentReply request reply ↔ IsConsistentReply (consistency_with_accepted request rows) reply
reply-same request rows reply = (
  λ made. (made.0, (line-same request rows request.entries made.0).0 made.1, made.2),
  λ made. (made.0, (line-same request rows request.entries made.0).1 made.1, made.2),
)

consistency-alike : (text other : List ℕ) (request : ConsistencyRequest) (rows : List AcceptedRow)
    → IsRequestOf consistency_request text request
    → IsRequestOf consistency_request other (consistency_with_accepted request rows)
    → AgreeOnHead request.head rows → AreAlike Consistency text other
consistency-alike text other request rows is other_is agree =
    let changed : ConsistencyRequest = consistency_with_accepted request rows in
    record {
      holds = λ link.
          let P : ConsistencyRequest → Type 0 = λ r. HoldsOfConsistency r link in
          let same = holds-same request rows agree link in (
            some-same consistency_request P text other request changed is other_is same.0,
            some-same consistency_request P other text changed request other_is is same.1,
          );
      succeeds = λ reply.
          let P : ConsistencyRequest → Type 0 = λ r. IsConsistentReply r reply in
          let same = reply-same request rows reply in (
            all-same consistency_request P text other request changed is other_is same.0,
            all-same consistency_request P other text changed request other_is is same.1,
          );
    }

pub consistency_questions_suffice : ConsistencyQuestionsSuffice
consistency_questions_suffice text other request rows is other_is agree reply =
    let alike = consistency-alike text other request rows is other_is agree in (
      alike-reply Consistency text other alike reply,
      alike-reply Consistency other text (alike-other Consistency text other alike) reply,
    )
