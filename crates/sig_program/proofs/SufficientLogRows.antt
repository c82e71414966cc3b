-- Nothing but the listed signatures decides the reply of `log`, and what the same of `consistency` rests on.
use Rattle.std.proofs.Common.{◌≡◌, ◌<◌, ◌↔◌, ℕ, inl, inr, List, length, get_or, refl, subst, ap, ◌∙◌, Option}
use Rattle.std.proofs.Common.{arith}
use Rattle.std.proofs.Math.ListN.{get_or-map}
use Rattle.std.proofs.lemmas.List.{length-map}
use Rattle.std.specs.Prelude.{Contains}
use Rattle.sig_base.specs.declared.checker.AcceptedRow.{AcceptedRow}
use Rattle.sig_json.specs.Data.{Data}
use Rattle.sig_rekor.specs.CheckpointText.{IsCheckpoint}
use Rattle.sig_rekor.specs.declared.checkpoint.CheckpointSignature.{CheckpointSignature}
use Rattle.sig_rekor.specs.declared.checkpoint.SignedCheckpoint.{SignedCheckpoint}
use Rattle.sig_verify.proofs.JudgedLaws.{alike_each, all_as, fails_as}
use Rattle.sig_verify.specs.declared.link.Link.{Link}
use Rattle.sig_verify.specs.declared.link.Link.TheVariants.{Checkpoint, NoteKey, NoteMatch, Inclusion}
use Rattle.sig_request.proofs.RequestTexts.{one_request}
use Rattle.sig_program.specs.Head.{HasAcceptedSignature, OfHeadCheckpoint, head_row}
use Rattle.sig_program.specs.HeadQuestions.{head_rows}
use Rattle.sig_program.specs.Link.{Holds, HoldsOfLog, links}
use Rattle.sig_program.specs.Reply.{IsLoggedReply, IsReplyByLinks, Succeeds}
use Rattle.sig_request.specs.Request.{log_request}
use Rattle.sig_program.specs.Suffice.{AgreeOnHead, LogQuestionsSuffice, head_with_accepted, log_with_accepted}
use Rattle.sig_program.specs.declared.command.Command.{Command}
use Rattle.sig_program.specs.declared.command.Command.TheVariants.{Log}
use Rattle.sig_request.specs.declared.head_members.ClaimedHead.{ClaimedHead}
use Rattle.sig_reply.specs.declared.reply.Reply.{Reply}
use Rattle.sig_request.specs.declared.request.LogRequest.{LogRequest}
use Rattle.sig_request.specs.ReadFrom.{IsRequestOf}

-- ---- texts of which the same links hold have the same reply

pub record AreAlike (command : Command) (text other : List ℕ) : Type 0 where
  pub holds : (link : Link) → Holds command text link ↔ Holds command other link
  pub succeeds : (reply : Reply) → Succeeds command text reply ↔ Succeeds command other reply

pub alike-other : (command : Command) (text other : List ℕ) → AreAlike command text other
    → AreAlike command other text
alike-other command text other alike = record {
  holds = λ link. ((alike.holds link).1, (alike.holds link).0);
  succeeds = λ reply. ((alike.succeeds reply).1, (alike.succeeds reply).0);
}

pub alike-reply : (command : Command) (text other : List ℕ) → AreAlike command text other → (reply : Reply)
    → IsReplyByLinks command text reply → IsReplyByLinks command other reply
alike-reply command text other alike reply is =
    let there = alike_each (Holds command text) (Holds command other) (links command) alike.holds in
    let back = alike_each (Holds command other) (Holds command text) (links command)
    (alike-other command text other alike).holds in
    let every = all_as (Holds command text) (Holds command other) (links command) there in
    let every_back = all_as (Holds command other) (Holds command text) (links command) back in
    record {
      decided =
          elim is.decided [
            | inl all ↦ inl (every all)
            | inr first ↦ inr (
              first.0,
              fails_as (Holds command text) (Holds command other) (links command) first.0 there first.1,
            )
          ];
      succeeds = (λ zero. every (is.succeeds.0 zero), λ all. is.succeeds.1 (every_back all));
      vouched = λ all. (alike.succeeds reply).0 (is.vouched (every_back all));
      refused = λ link first. is.refused link
          (fails_as (Holds command other) (Holds command text) (links command) link back first);
    }

-- ---- tree heads that differ in accepted signatures that are not listed

-- each signature is among those that are listed
listed-row : (head : ClaimedHead) (checkpoint : SignedCheckpoint) (k : ℕ) (signature : CheckpointSignature)
    → k < length checkpoint.signatures → get_or checkpoint.signatures k signature ≡ signature
    → Contains (head_rows head checkpoint) (head_row head checkpoint signature)
listed-row head checkpoint k signature below is = (
  k,
  omega (arith, below, length-map checkpoint.signatures (head_row head checkpoint)),
  get_or-map (head_row head checkpoint) checkpoint.signatures k signature ∙ ap (head_row head checkpoint) is,
)

signed-same : (head : ClaimedHead) (rows : List AcceptedRow) (checkpoint : SignedCheckpoint)
    → IsCheckpoint head.checkpoint checkpoint → AgreeOnHead head rows
    → HasAcceptedSignature head checkpoint ↔ HasAcceptedSignature (head_with_accepted head rows) checkpoint
signed-same head rows checkpoint read agree =
    let same = agree (head_rows head checkpoint) (checkpoint, read, refl) in (
      λ some. (
        some.0,
        some.1,
        some.2,
        some.3,
        (same (head_row head checkpoint some.1) (listed-row head checkpoint some.0 some.1 some.2 some.3)).0 some.4,
      ),
      λ some. (
        some.0,
        some.1,
        some.2,
        some.3,
        (same (head_row head checkpoint some.1) (listed-row head checkpoint some.0 some.1 some.2 some.3)).1 some.4,
      ),
    )

-- the link on the signature of the note
pub note_key-same : (head : ClaimedHead) (rows : List AcceptedRow) → AgreeOnHead head rows
    → OfHeadCheckpoint head (HasAcceptedSignature head)
    ↔ OfHeadCheckpoint (head_with_accepted head rows) (HasAcceptedSignature (head_with_accepted head rows))
note_key-same head rows agree = (
  λ h. (h.0, h.1, (signed-same head rows h.0 h.1 agree).0 h.2),
  λ h. (h.0, h.1, (signed-same head rows h.0 h.1 agree).1 h.2),
)

-- ---- texts that are requests of which the same holds

-- what holds of the one request that a text is, holds of that of another text
pub some-same : {R : Type 0} (meaning : Data → Option R) (P : R → Type 0) (text other : List ℕ) (request changed : R)
    → IsRequestOf meaning text request → IsRequestOf meaning other changed → (P request → P changed)
    → ((r : R) × IsRequestOf meaning text r × P r) → ((r : R) × IsRequestOf meaning other r × P r)
some-same meaning P text other request changed is other_is same h =
    (changed, other_is, same (subst P (one_request meaning text h.0 request h.1 is) h.2))

pub all-same : {R : Type 0} (meaning : Data → Option R) (P : R → Type 0) (text other : List ℕ) (request changed : R)
    → IsRequestOf meaning text request → IsRequestOf meaning other changed → (P request → P changed)
    → ((r : R) → IsRequestOf meaning text r → P r) → ((r : R) → IsRequestOf meaning other r → P r)
all-same meaning P text other request changed is other_is same every r r_is =
    subst P (one_request meaning other changed r other_is r_is) (same (every request is))

-- ---- requests of `log`

holds-same : (request : LogRequest) (rows : List AcceptedRow) → AgreeOnHead request.head rows → (link : Link)
    → HoldsOfLog request link ↔ HoldsOfLog (log_with_accepted request rows) link
holds-same request rows agree Checkpoint = (λ h. h, λ h. h)
holds-same request rows agree NoteKey = note_key-same request.head rows agree
holds-same request rows agree NoteMatch = (λ h. h, λ h. h)
holds-same request rows agree Inclusion = (λ h. h, λ h. h)
holds-same request rows agree other = (λ h. tt, λ h. tt)

log-alike : (text other : List ℕ) (request : LogRequest) (rows : List AcceptedRow)
    → IsRequestOf log_request text request
    → IsRequestOf log_request other (log_with_accepted request rows) → AgreeOnHead request.head rows
    → AreAlike Log text other
log-alike text other request rows is other_is agree =
    let changed : LogRequest = log_with_accepted request rows in
    record {
      holds = λ link.
          let P : LogRequest → Type 0 = λ r. HoldsOfLog r link in
          let same = holds-same request rows agree link in (
            some-same log_request P text other request changed is other_is same.0,
            some-same log_request P other text changed request other_is is same.1,
          );
      succeeds = λ reply.
          let P : LogRequest → Type 0 = λ r. IsLoggedReply r reply in (
            all-same log_request P text other request changed is other_is (λ made. made),
            all-same log_request P other text changed request other_is is (λ made. made),
          );
    }

pub log_questions_suffice : LogQuestionsSuffice
log_questions_suffice text other request rows is other_is agree reply =
    let alike = log-alike text other request rows is other_is agree in (
      alike-reply Log text other alike reply,
      alike-reply Log other text (alike-other Log text other alike) reply,
    )
