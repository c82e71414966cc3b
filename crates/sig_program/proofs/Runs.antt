-- What a run owes, from what it read and what it replied.
use Rattle.std.proofs.Common.{◌≡◌, ◌<◌, ◌≤◌, ℕ, inl, inr, List, [], ◌∷◌, ◌++◌, Option, Some, None, length, drop, ap}
use Rattle.std.proofs.Common.{sym, ◌∙◌, refl, subst, arith, get_or, lit<, lit≤, length-append}
use Rattle.std.proofs.lemmas.List.{append-nil, drop_all}
use Rattle.std.proofs.Math.Seq.{drop-append_seam}
use Rattle.sig_base.specs.Stream.{HandsOver, TookCount, Rose}
use Rattle.sig_verify.specs.declared.link.Link.{Link}
use Rattle.sig_verify.specs.declared.link.Link.TheVariants.{Request}
use Rattle.sig_reply.specs.declared.reply.Reply.{Reply}
use Rattle.sig_program.specs.Reply.{IsReply, IsReplyByLinks, refusal_reply, status_of}
use Rattle.sig_program.specs.declared.command.Command.{Command}
use Rattle.sig_program.specs.declared.command.Command.TheVariants.{Log, Verify, Consistency, Audit, Witness, Gate}
use Rattle.sig_program.specs.declared.command.Command.TheVariants.{LogQuestions}
use Rattle.sig_program.specs.declared.command.Command.TheVariants.{VerifyQuestions, ConsistencyQuestions}
use Rattle.sig_program.specs.declared.command.Command.TheVariants.{AuditQuestions, WitnessQuestions, GateQuestions}
use Rattle.sig_request.specs.Limit.{TakesUpTo}
use Rattle.std.specs.Io.KnownBytes.{Appends}
use Rattle.sig_program.proofs.Invocations.{demo-asked}
use Rattle.sig_program.proofs.LongTexts.{long-explained, long-meant}
use Rattle.sig_program.proofs.CommandNames.{IsCommand-many, IsCommand-none, are_two_words, is_one_word}
use Rattle.sig_program.specs.Demo.{demo_reply, demo_text}
use Rattle.sig_program.specs.ExplainWords.{explained_command}
use Rattle.sig_program.specs.ExplainedReply.{IsExplained, long_explained}
use Rattle.sig_program.specs.Invocation.{Invokes, IsDemo, IsInvocation}
use Rattle.sig_program.specs.declared.explained.Explained.{Explained}
use Rattle.sig_program.specs.declared.invocation.Invocation.{Invocation}
use Rattle.sig_program.specs.declared.invocation.Invocation.TheVariants as invocation
use Rattle.sig_program.specs.Run.{ExplainsTo, IsReplyOf, RepliesTo, WriteFaulted, AppendsFront, HandsRests, WritesRests, usage_line}
use Rattle.sig_audit_command.proofs.Replies.{decided-small}
use Rattle.sig_gate_command.proofs.QuestionReplies.{questions-small as gate-questions-small}
use Rattle.sig_gate_command.proofs.Replies.{gate-small}
use Rattle.sig_witness_command.proofs.QuestionReplies.{questions-small}
use Rattle.sig_witness_command.proofs.Replies.{witness-small}

-- all that was left, fewer than n bytes
TakesUpTo-whole : (n : ℕ) (old new : Option (List ℕ)) (bytes : List ℕ) → HandsOver old new bytes → length bytes < n
    → TakesUpTo n old new bytes
TakesUpTo-whole n None new bytes all short = tt
TakesUpTo-whole n (Some xs) None bytes all short = elim all.taken [ ]
TakesUpTo-whole n (Some xs) (Some ys) bytes all short =
    let same : xs ≡ bytes = all.taken ∙ ap (λ t. bytes ++ t) all.ended ∙ append-nil bytes in
    let P : List ℕ → Type 0 = λ t. length t ≤ n in
    let few : length xs ≤ n = subst P (sym same) (omega arith) in
    (sym same, ap (λ t. Some t) (all.ended ∙ sym (drop_all n xs few)))

-- n bytes of what was left, of which there were that many then
TakesUpTo-long : (n : ℕ) (old new : Option (List ℕ)) → TookCount old new n
    → (text : List ℕ) × TakesUpTo n old new text × (n ≤ length text)
TakesUpTo-long n None new took = (took.0, tt, omega (arith, took.2))
TakesUpTo-long n (Some xs) None took = elim took.1 [ ]
TakesUpTo-long n (Some xs) (Some ys) took =
    let seam : drop n xs ≡ ys = let P : ℕ → Type 0 = λ k. drop k xs ≡ ys in
    subst P took.2 (ap (λ t. drop (length took.0) t) took.1 ∙ drop-append_seam took.0 ys) in
    let long : n ≤ length xs = omega (arith, ap length took.1, length-append took.0 ys, took.2) in
    (xs, (refl, ap (λ t. Some t) (sym seam)), long)

-- the reply to a request that was read
pub RepliesTo-whole : (command : Command) (old new : Option (List ℕ)) (bytes : List ℕ) (reply : Reply)
    → HandsOver old new bytes → length bytes < 16777217 → IsReply command bytes reply → RepliesTo command old new reply
RepliesTo-whole command old new bytes reply all short meant = record {
  text = bytes;
  request = TakesUpTo-whole 16777217 old new bytes all short;
  meant = meant;
}

-- the reply to one that is too long
pub RepliesTo-long : (command : Command) (old new : Option (List ℕ)) (reply : Reply) → TookCount old new 16777217
    → reply ≡ refusal_reply Request → RepliesTo command old new reply
RepliesTo-long command old new reply took refused =
    let long = TakesUpTo-long 16777217 old new took in
    let meant : IsReply command long.0 (refusal_reply Request) = long-meant command long.0 long.2 in
    record { text = long.0; request = long.1; meant = subst (IsReply command long.0) (sym refused) meant }

-- the explained reply to a request that was read, and to one that is too long
pub ExplainsTo-whole : (what : Explained) (old new : Option (List ℕ)) (bytes : List ℕ) (reply : Reply)
    → HandsOver old new bytes → length bytes < 16777217 → IsExplained what bytes reply → ExplainsTo what old new reply
ExplainsTo-whole what old new bytes reply all short meant = record {
  text = bytes;
  request = TakesUpTo-whole 16777217 old new bytes all short;
  meant = meant;
}

pub ExplainsTo-long : (what : Explained) (old new : Option (List ℕ)) (reply : Reply) → TookCount old new 16777217
    → reply ≡ long_explained → ExplainsTo what old new reply
ExplainsTo-long what old new reply took is =
    let long = TakesUpTo-long 16777217 old new took in
    record {
      text = long.0;
      request = long.1;
      meant = subst (IsExplained what long.0) (sym is) (long-explained what long.0 long.2);
    }

-- the status of a refusal, and of every reply
status_of-small : (link : Link) → status_of link < 3
status_of-small Request = lit< tt
status_of-small other = lit< tt

by_links-small : (command : Command) (text : List ℕ) (reply : Reply) → IsReplyByLinks command text reply
    → reply.status < 3
by_links-small command text reply meant =
    elim meant.decided [
      | inl every ↦ let zero = meant.succeeds.1 every in omega arith
      | inr first ↦ let P : Reply → Type 0 = λ r. r.status < 3 in
          subst P (sym (meant.refused first.0 first.1)) (status_of-small first.0)
    ]

IsReply-small : (command : Command) (text : List ℕ) (reply : Reply) → IsReply command text reply → reply.status < 3
IsReply-small Log text reply meant = by_links-small Log text reply meant
IsReply-small Verify text reply meant = by_links-small Verify text reply meant
IsReply-small Consistency text reply meant = by_links-small Consistency text reply meant
IsReply-small Audit text reply meant = decided-small _ _ _ reply meant
IsReply-small Witness text reply meant = witness-small text reply meant
IsReply-small Gate text reply meant = gate-small text reply meant
IsReply-small LogQuestions text reply meant = by_links-small LogQuestions text reply meant
IsReply-small VerifyQuestions text reply meant = by_links-small VerifyQuestions text reply meant
IsReply-small ConsistencyQuestions text reply meant = by_links-small ConsistencyQuestions text reply meant
IsReply-small AuditQuestions text reply meant = decided-small _ _ _ reply meant
IsReply-small WitnessQuestions text reply meant = questions-small text reply meant
IsReply-small GateQuestions text reply meant = gate-questions-small text reply meant

-- that of an explained reply is the command's
IsExplained-small : (what : Explained) (text : List ℕ) (reply : Reply) → IsExplained what text reply → reply.status < 3
IsExplained-small what text reply meant =
    let P : ℕ → Type 0 = λ n. n < 3 in
    subst P (sym (ap (λ (r : Reply). r.status) meant.are))
    (IsReply-small (explained_command what) text meant.plain meant.replies)

pub IsReplyOf-small : (asked : Invocation) (old new : Option (List ℕ)) (reply : Reply) → IsReplyOf asked old new reply
    → reply.status < 3
IsReplyOf-small (invocation.Reply command) old new reply replies =
    IsReply-small command replies.text reply replies.meant
IsReplyOf-small (invocation.Explanation what) old new reply replies =
    IsExplained-small what replies.text reply replies.meant
IsReplyOf-small (invocation.Demo count) old new reply (same, is) =
    let P : Reply → Type 0 = λ r. r.status < 3 in subst P (sym is) (lit< tt)

-- a write of the line for other words that failed
pub WriteFaulted-usage : (words : List (List ℕ)) (left_old left_new : Option (List ℕ)) (before now : ℕ)
    (taken_old taken_new : Option (List ℕ))
    → ¬ IsInvocation words → Rose before now → AppendsFront taken_old taken_new usage_line
    → WriteFaulted words left_old left_new before now taken_old taken_new
WriteFaulted-usage words left_old left_new before now taken_old taken_new other rose written =
    record { bytes = usage_line; output = inr (other, refl); rose = rose; written = written }

-- a write of a reply that failed
pub WriteFaulted-reply : (words : List (List ℕ)) (asked : Invocation) (left_old left_new : Option (List ℕ))
    (before now : ℕ) (taken_old taken_new : Option (List ℕ)) (reply : Reply)
    → Invokes words asked → IsReplyOf asked left_old left_new reply → Rose before now
    → AppendsFront taken_old taken_new reply.text
    → WriteFaulted words left_old left_new before now taken_old taken_new
WriteFaulted-reply words asked left_old left_new before now taken_old taken_new reply named replies rose written =
    record {
      bytes = reply.text;
      output = inl (asked, named, (reply, replies, refl));
      rose = rose;
      written = written;
    }

pub faulted-reply : (words : List (List ℕ)) (asked : Invocation) (left_old left_new : Option (List ℕ)) (before now : ℕ)
    (taken_old taken_new : Option (List ℕ)) (reply : Reply) (text : List ℕ)
    → text ≡ reply.text → Invokes words asked → IsReplyOf asked left_old left_new reply → Rose before now
    → AppendsFront taken_old taken_new text
    → WriteFaulted words left_old left_new before now taken_old taken_new
faulted-reply words asked left_old left_new before now taken_old taken_new reply text same named replies rose written
    =
    WriteFaulted-reply words asked left_old left_new before now taken_old taken_new reply named replies rose
    (subst (AppendsFront taken_old taken_new) same written)

-- the pieces of the line for other words, and of a reply
pub WritesRests-usage : (words : List (List ℕ)) (left_old left_new : Option (List ℕ))
    (handed_old handed_new : Option (List (List ℕ)))
    → ¬ IsInvocation words → HandsRests handed_old handed_new usage_line
    → WritesRests words left_old left_new handed_old handed_new
WritesRests-usage words left_old left_new handed_old handed_new other rests =
    inr (usage_line, inr (other, refl), rests)

pub WritesRests-reply : (words : List (List ℕ)) (asked : Invocation) (left_old left_new : Option (List ℕ))
    (handed_old handed_new : Option (List (List ℕ))) (reply : Reply)
    → Invokes words asked → IsReplyOf asked left_old left_new reply → HandsRests handed_old handed_new reply.text
    → WritesRests words left_old left_new handed_old handed_new
WritesRests-reply words asked left_old left_new handed_old handed_new reply named replies rests =
    inr (reply.text, inl (asked, named, (reply, replies, refl)), rests)

-- what was written of a reply to the words of `demo`
pub demo-written : (words : List (List ℕ)) (asked : Invocation) (left_old left_new : Option (List ℕ)) (reply : Reply)
    (count result : ℕ) (taken_old taken_new : Option (List ℕ)) (text : List ℕ)
    → Invokes words asked → IsReplyOf asked left_old left_new reply → text ≡ reply.text
    → (result < 71 → (result ≡ reply.status) × Appends taken_old taken_new text) → IsDemo words count → result < 3
    → (result ≡ 0) × Appends taken_old taken_new (demo_text count)
demo-written words asked left_old left_new reply count result taken_old taken_new text named replies same written is few
    =
    let which : asked ≡ invocation.Demo count = demo-asked words asked count named is in
    let P : Invocation → Type 0 = λ a. IsReplyOf a left_old left_new reply in
    let made : reply ≡ demo_reply count = (subst P which replies).1 in
    let both = written (omega (arith, few)) in (
      both.0 ∙ ap (λ (r : Reply). r.status) made,
      subst (Appends taken_old taken_new) (same ∙ ap (λ (r : Reply). r.text) made) both.1,
    )

pub ruleset runs = (
  RepliesTo-whole,
  RepliesTo-long,
  ExplainsTo-whole,
  ExplainsTo-long,
  IsReplyOf-small,
  WriteFaulted-usage,
  WriteFaulted-reply,
  WritesRests-usage,
  WritesRests-reply,
  IsCommand-many,
  IsCommand-none,
  is_one_word,
  are_two_words,
)
