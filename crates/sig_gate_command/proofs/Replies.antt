-- The reply of `gate`, from what its request is.
use Rattle.std.proofs.Common.{◌≡◌, ◌<◌, ◌≤◌, ◌+◌, ◌∙◌, ℕ, Bool, true, false, List, [], ◌∷◌, length, inl, inr, Option, Some, None}
use Rattle.std.proofs.Common.{Result, IfOk, ap, arith, lit<, refl, subst, sym}
use Rattle.std.proofs.lemmas.List.Elements.{Contains-append_right}
use Rattle.std.proofs.lemmas.Result.{IfOk-weaker}
use Rattle.std.specs.List.{AllZip, list_all}
use Rattle.std.specs.Prelude.{Contains, if◌then◌else◌}
use Rattle.sig_base.specs.declared.memory.OutOfMemory.{OutOfMemory}
use Rattle.sig_gate.specs.BundleVerdict.{IsBundleVerdict}
use Rattle.sig_gate.specs.Gate.{IsGate, IsVerdict}
use Rattle.sig_gate.specs.Report.{is_admitted}
use Rattle.sig_gate.specs.declared.verdict.BundleVerdict.{BundleVerdict}
use Rattle.sig_gate.specs.declared.verdict.Verdict.{Verdict}
use Rattle.sig_gate_command.proofs.Requests.{one_manifest}
use Rattle.sig_gate_command.specs.Reply.{AreJudged, IsArtifactJudged, IsBundleJudged, IsGateReply, IsReportOf, checker_with}
use Rattle.sig_gate_command.specs.Reply.{reported}
use Rattle.sig_gate_command.specs.Request.{IsGateText, IsReadFrom, IsUnread, parts_of}
use Rattle.sig_gate_command.specs.declared.request.GateRequest.{GateRequest}
use Rattle.sig_manifest.specs.Artifact.{Asked}
use Rattle.sig_manifest.specs.Manifest.{Gate}
use Rattle.sig_manifest.specs.Read.{Parts}
use Rattle.sig_reply.specs.Reply.{no_request}
use Rattle.sig_reply.specs.declared.reply.Reply.{Reply}
use Rattle.sig_request.specs.Limit.{most_bytes}
use Rattle.sig_verify.specs.Verdict.{Checker}
use Rattle.sig_witness_command.proofs.DistinctRows.{here}

-- ---- lists side by side

-- what holds of elements side by side, and gives another thing for each element of the left list, gives it side by side
pub zip-weaker : {A B : Type 0} (P Q : A → B → Type 0) (xs : List A) (ys : List B)
    → ((x : A) → Contains xs x → (y : B) → P x y → Q x y) → AllZip P xs ys → AllZip Q xs ys
zip-weaker P Q [] [] each all = all
zip-weaker P Q [] (y ∷ ys) each all = all
zip-weaker P Q (x ∷ xs) [] each all = all
zip-weaker {A} {B} P Q (x ∷ xs) (y ∷ ys) each all = (
  each x (here x xs) y all.0,
  zip-weaker P Q xs ys (λ z there. each z (Contains-append_right (x ∷ []) xs z there)) all.1,
)

-- ---- the verdicts

module _ (k : Checker) (gate : Gate) where
  bundle-judged : (x : Asked) (bundle : List ℕ) (verdict : BundleVerdict) → IsBundleVerdict k gate x bundle verdict
      → IsBundleJudged k gate x bundle verdict
  bundle-judged x bundle verdict is = (is.root, is.root_is, (is.policy, is.policy_is, is.links))

  artifact-judged : (x : Asked) (verdict : Verdict) → IsVerdict k gate x verdict → IsArtifactJudged k gate x verdict
  artifact-judged x verdict is = record {
    bundles =
        zip-weaker (IsBundleVerdict k gate x) (IsBundleJudged k gate x) x.bundles verdict.bundles
        (λ bundle _ v. bundle-judged x bundle v) is.bundles;
    decided = is.decided;
  }

  gate-judged : (verdicts : List Verdict) → IsGate k gate verdicts → AreJudged k gate verdicts
  gate-judged verdicts =
      zip-weaker (IsVerdict k gate) (IsArtifactJudged k gate) gate.artifacts verdicts (λ x _ v. artifact-judged x v)

pub report-made : (request : GateRequest) (verdicts : List Verdict) (r : Result Reply OutOfMemory)
    → IsGate (checker_with request.accepted) (parts_of request).0 verdicts
    → IfOk r (λ reply. reply ≡ reported (parts_of request).0.artifacts verdicts)
    → IfOk r (IsReportOf (parts_of request))
report-made request verdicts r are =
    IfOk-weaker r (λ reply. reply ≡ reported (parts_of request).0.artifacts verdicts) (IsReportOf (parts_of request))
    (λ reply made. record {
      verdicts = verdicts;
      are = gate-judged (checker_with request.accepted) (parts_of request).0 verdicts are;
      made = made;
    })

-- ---- the replies

two-values : (all : Bool) → ◌≡◌ {A = ℕ} (if all then 0 else 1) 2 → ⊥
two-values true e = cc
two-values false e = cc

small-status : (artifacts : List Asked) (verdicts : List Verdict) → (reported artifacts verdicts).status ≡ 2 → ⊥
small-status artifacts verdicts e = two-values (list_all is_admitted verdicts) e

pub manifest-reply : (text : List ℕ) (parts : Parts) (reply : Reply) → IsGateText text parts → IsReportOf parts reply
    → IsGateReply text reply
manifest-reply text parts reply is made = record {
  decided = inl (record { parts = parts; is = is });
  replied = λ other read. subst (λ (p : Parts). IsReportOf p reply) (one_manifest text parts other is read) made;
  refused = λ none. absurd (none parts is);
  status = (
    λ two. absurd (small-status parts.0.artifacts made.verdicts (sym (ap (λ (r : Reply). r.status) made.made) ∙ two)),
    λ none. absurd (none parts is),
  );
}

pub unread-reply : (text : List ℕ) (reply : Reply) → IsUnread text → reply ≡ no_request → IsGateReply text reply
unread-reply text reply none same = record {
  decided = inr none;
  replied = λ parts is. absurd (none parts is);
  refused = λ _. same;
  status = (λ _. none, λ _. ap (λ (r : Reply). r.status) same);
}

-- what was read is the text's manifest
pub its-manifest : (text : List ℕ) (found : Option GateRequest) (request : GateRequest) → found ≡ Some request
    → IsReadFrom text found → IsGateText text (parts_of request)
its-manifest text found request some read = subst (IsReadFrom text) some read

pub no-manifest : (text : List ℕ) (found : Option GateRequest) → found ≡ None → IsReadFrom text found → IsUnread text
no-manifest text found none read = subst (IsReadFrom text) none read

pub manifest-replied : (text : List ℕ) (request : GateRequest) (r : Result Reply OutOfMemory)
    → IsGateText text (parts_of request) → IfOk r (IsReportOf (parts_of request)) → IfOk r (IsGateReply text)
manifest-replied text request r is =
    IfOk-weaker r (IsReportOf (parts_of request)) (IsGateReply text)
    (λ reply. manifest-reply text (parts_of request) reply is)

pub no-manifest-replied : (text : List ℕ) (found : Option GateRequest) (r : Result Reply OutOfMemory)
    → IfOk r (λ reply. reply ≡ no_request) → found ≡ None → IsReadFrom text found → IfOk r (IsGateReply text)
no-manifest-replied text found r made none read =
    IfOk-weaker r (λ reply. reply ≡ no_request) (IsGateReply text)
    (λ reply. unread-reply text reply (no-manifest text found none read)) made

-- a text that is too long is none
pub long-manifest : (text : List ℕ) → most_bytes + 1 ≤ length text → IsUnread text
long-manifest text long parts is = omega (arith, is.short, long)

pub long-gate : (text : List ℕ) → most_bytes + 1 ≤ length text → IsGateReply text no_request
long-gate text long = unread-reply text no_request (long-manifest text long) refl

-- ---- the status is small

small-values : (all : Bool) → (if all then 0 else 1) < 3
small-values true = lit< tt
small-values false = lit< tt

reported-small : (artifacts : List Asked) (verdicts : List Verdict) → (reported artifacts verdicts).status < 3
reported-small artifacts verdicts = small-values (list_all is_admitted verdicts)

pub gate-small : (text : List ℕ) (reply : Reply) → IsGateReply text reply → reply.status < 3
gate-small text reply is =
    elim is.decided [
      | inl has ↦
          let made = is.replied has.parts has.is in
          let P : Reply → Type 0 = λ r. r.status < 3 in
          subst P (sym made.made) (reported-small has.parts.0.artifacts made.verdicts)
      | inr none ↦ let two = is.status.1 none in omega (arith, two)
    ]
