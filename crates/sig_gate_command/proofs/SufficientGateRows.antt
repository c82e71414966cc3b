-- Nothing but the listed signatures decides the reply of `gate`.
use Rattle.std.proofs.Common.{◌≡◌, ◌↔◌, ℕ, List, [], ◌∷◌, map, inl, inr, Some, ap, subst, sym}
use Rattle.std.proofs.lemmas.List.Elements.{Contains-append_left, Contains-append_right}
use Rattle.std.specs.Cmp.{both_ways}
use Rattle.std.specs.List.{AllByRecursion}
use Rattle.std.specs.Prelude.{Contains}
use Rattle.sig_base.proofs.AcceptedRows.{accepted-rows, as_row}
use Rattle.sig_base.specs.ByText.{text_lookup}
use Rattle.sig_base.specs.Checker.{accepted}
use Rattle.sig_base.specs.Scheme.{name_of}
use Rattle.sig_base.specs.declared.checker.AcceptedRow.{AcceptedRow}
use Rattle.sig_base.specs.declared.checker.Operation.{Operation}
use Rattle.sig_base.specs.declared.checker.Operation.TheVariants.{Message, Prehash, Point, Certificate}
use Rattle.sig_gate.specs.BundleVerdict.{inputs, outside}
use Rattle.sig_gate.specs.Gate.{AreVerified, IsVerified}
use Rattle.sig_gate.specs.declared.verdict.BundleVerdict.{BundleVerdict}
use Rattle.sig_gate.specs.declared.verdict.Verdict.{Verdict}
use Rattle.sig_gate_command.proofs.LinkAgreement.{every-link-same, judged-same}
use Rattle.sig_gate_command.proofs.Replies.{manifest-reply, zip-weaker}
use Rattle.sig_gate_command.specs.Questions.{artifact_inputs, gate_inputs, inputs_of_all, inputs_under}
use Rattle.sig_gate_command.specs.Reply.{IsArtifactJudged, IsBundleJudged, IsGateReply, IsReportOf, checker_with}
use Rattle.sig_gate_command.specs.Request.{IsGateText}
use Rattle.sig_gate_command.specs.Suffice.{AgreeOnAsked, GateQuestionsSuffice}
use Rattle.sig_manifest.specs.Artifact.{Asked}
use Rattle.sig_manifest.specs.Manifest.{Gate}
use Rattle.sig_policy.specs.declared.request.RequestPolicy.{RequestPolicy}
use Rattle.sig_questions.specs.Asked.{IsAskedBy}
use Rattle.sig_questions.specs.Questions.{AgreeWhere, HoldsUnasked, QuestionsSuffice, SameLinks, question_links}
use Rattle.sig_questions.specs.Rows.{certificate_row, message_row, point_row, prehash_row}
use Rattle.sig_reply.specs.declared.reply.Reply.{Reply}
use Rattle.sig_verify.specs.Links.{Inputs}
use Rattle.sig_verify.specs.declared.logged_entry.LoggedEntry.{LoggedEntry}
use Rattle.sig_witness_command.proofs.DistinctRows.{first-or-later, here, later}
use Rattle.sig_questions.proofs.RowLaws.{empty_has}

-- ---- the checkers of two lists that agree on what is asked

module _ (one other : List AcceptedRow) where
  same-accepted : (o : Operation) (s k m g : List ℕ) → Contains one (as_row o s k m g) ↔ Contains other (as_row o s k m g)
      → accepted one o s k m g ≡ accepted other o s k m g
  same-accepted o s k m g same =
      let here = accepted-rows one o s k m g in
      let there = accepted-rows other o s k m g in
      both_ways (accepted one o s k m g) (accepted other o s k m g) (λ e. there.1 (same.0 (here.0 e)))
      (λ e. here.1 (same.1 (there.0 e)))

  pub agree-on : (Holds : AcceptedRow → Type 0)
      → ((row : AcceptedRow) → Holds row → Contains one row ↔ Contains other row)
      → AgreeWhere Holds (checker_with one) (checker_with other)
  agree-on Holds same = record {
    message = λ scheme spki message signature asks.
        same-accepted Message (name_of scheme) spki message signature
        (same (message_row scheme spki message signature) asks);
    prehash = λ scheme spki digest signature asks.
        same-accepted Prehash (name_of scheme) spki digest signature
        (same (prehash_row scheme spki digest signature) asks);
    point = λ point message signature asks.
        same-accepted Point [] point message signature (same (point_row point message signature) asks);
    certificate = λ issuer algorithm tbs signature asks.
        same-accepted Certificate algorithm issuer tbs signature
        (same (certificate_row issuer algorithm tbs signature) asks);
  }

-- ---- the bundles of a manifest

in-mapped : {X Y : Type 0} (f : X → Y) (xs : List X) (x : X) → Contains xs x → Contains (map f xs) (f x)
in-mapped {X} f [] x there = absurd (empty_has x there)
in-mapped {X} f (y ∷ ys) x there = elim (first-or-later y x ys there) [
  | inl same ↦ subst (λ (z : X). Contains (f y ∷ map f ys) (f z)) same (here (f y) (map f ys))
  | inr after ↦ later (f y) (f x) (map f ys) (in-mapped f ys x after)
]

in-artifact : (gate : Gate) (x : Asked) (root bundle : List ℕ) → text_lookup x.root gate.roots ≡ Some root
    → Contains x.bundles bundle → Contains (artifact_inputs gate x) (inputs gate x root bundle)
in-artifact gate x root bundle named inside =
    subst (λ (is : List Inputs). Contains is (inputs gate x root bundle)) (sym (ap (inputs_under gate x) named))
    (in-mapped (inputs gate x root) x.bundles bundle inside)

in-all : (gate : Gate) (xs : List Asked) (x : Asked) (i : Inputs) → Contains xs x → Contains (artifact_inputs gate x) i
    → Contains (inputs_of_all gate xs) i
in-all gate [] x i there inside = absurd (empty_has x there)
in-all gate (y ∷ ys) x i there inside = elim (first-or-later y x ys there) [
  | inl same ↦
      Contains-append_left (artifact_inputs gate y) (inputs_of_all gate ys) i
      (subst (λ (z : Asked). Contains (artifact_inputs gate z) i) (sym same) inside)
  | inr after ↦
      Contains-append_right (artifact_inputs gate y) (inputs_of_all gate ys) i (in-all gate ys x i after inside)
]

-- ---- the verdicts by two lists of accepted signatures

module _ (suffice : QuestionsSuffice) (gate : Gate) (one other : List AcceptedRow) (agree : AgreeOnAsked gate one other)
  where
    same-links : (i : Inputs) (policy : RequestPolicy) → Contains (gate_inputs gate) i
        → AllByRecursion (HoldsUnasked i) question_links
        → SameLinks i (outside (checker_with one) policy) (outside (checker_with other) policy)
    same-links i policy inside links =
        suffice i (checker_with one) (checker_with other) (outside (checker_with one) policy).policy
        (agree-on one other (IsAskedBy i) (λ row asks. agree row (i, inside, (links, asks))))

    module _ (x : Asked) (there : Contains gate.artifacts x) where
      its-links : (root bundle : List ℕ) (policy : RequestPolicy) → text_lookup x.root gate.roots ≡ Some root
          → Contains x.bundles bundle → AllByRecursion (HoldsUnasked (inputs gate x root bundle)) question_links
          → SameLinks (inputs gate x root bundle) (outside (checker_with one) policy)
          (outside (checker_with other) policy)
      its-links root bundle policy named inside =
          same-links (inputs gate x root bundle) policy
          (in-all gate gate.artifacts x (inputs gate x root bundle) there (in-artifact gate x root bundle named inside))

      bundle-same : (bundle : List ℕ) → Contains x.bundles bundle → (verdict : BundleVerdict)
          → IsBundleJudged (checker_with one) gate x bundle verdict → IsBundleJudged (checker_with other) gate x bundle verdict
      bundle-same bundle inside verdict (root, named, (policy, chosen, judged)) = (
        root,
        named,
        (
          policy,
          chosen,
          judged-same (outside (checker_with one) policy) (outside (checker_with other) policy) (inputs gate x root bundle)
              (its-links root bundle policy named inside) verdict judged,
        ),
      )

      verified-same : (bundle : List ℕ) → Contains x.bundles bundle → IsVerified (checker_with one) gate x bundle
          → IsVerified (checker_with other) gate x bundle
      verified-same bundle inside (root, named, (policy, chosen, every)) = (
        root,
        named,
        (
          policy,
          chosen,
          every-link-same (outside (checker_with one) policy) (outside (checker_with other) policy)
              (inputs gate x root bundle) (its-links root bundle policy named inside) every,
        ),
      )

back-agree : (gate : Gate) (one other : List AcceptedRow) → AgreeOnAsked gate one other → AgreeOnAsked gate other one
back-agree gate one other agree row asks = let both = agree row asks in (both.1, both.0)

module _ (suffice : QuestionsSuffice) (gate : Gate) (one other : List AcceptedRow) (agree : AgreeOnAsked gate one other)
  where
    module _ (x : Asked) (there : Contains gate.artifacts x) where
      entries-same : (bundles : List (List ℕ)) (entries : List LoggedEntry)
          → ((bundle : List ℕ) → Contains bundles bundle → Contains x.bundles bundle)
          → AreVerified (checker_with one) gate x bundles entries → AreVerified (checker_with other) gate x bundles entries
      entries-same [] entries inside are = are
      entries-same (bundle ∷ rest) entries inside (inl (verified, (entry, others, split, its, are))) =
          inl (
            verified-same suffice gate one other agree x there bundle (inside bundle (here bundle rest)) verified,
            (
              entry,
              others,
              split,
              its,
              entries-same rest others (λ b after. inside b (later bundle b rest after)) are,
            ),
          )
      entries-same (bundle ∷ rest) entries inside (inr (unverified, are)) =
          inr (
            λ verified. unverified (verified-same suffice gate other one (back-agree gate one other agree) x there bundle
                (inside bundle (here bundle rest)) verified),
            entries-same rest entries (λ b after. inside b (later bundle b rest after)) are,
          )

      artifact-same : (verdict : Verdict) → IsArtifactJudged (checker_with one) gate x verdict
          → IsArtifactJudged (checker_with other) gate x verdict
      artifact-same verdict is = record {
        bundles =
            zip-weaker (IsBundleJudged (checker_with one) gate x) (IsBundleJudged (checker_with other) gate x) x.bundles
            verdict.bundles (bundle-same suffice gate one other agree x there) is.bundles;
        decided = record {
          entries = is.decided.entries;
          verified = entries-same x.bundles is.decided.entries (λ b inside. inside) is.decided.verified;
          decided = is.decided.decided;
        };
      }

    report-same : (reply : Reply) → IsReportOf (gate, one) reply → IsReportOf (gate, other) reply
    report-same reply is = record {
      verdicts = is.verdicts;
      are =
          zip-weaker (IsArtifactJudged (checker_with one) gate) (IsArtifactJudged (checker_with other) gate) gate.artifacts
          is.verdicts artifact-same is.are;
      made = is.made;
    }

    one-way : (text changed : List ℕ) → IsGateText text (gate, one) → IsGateText changed (gate, other) → (reply : Reply)
        → IsGateReply text reply → IsGateReply changed reply
    one-way text changed is other_is reply made =
        manifest-reply changed (gate, other) reply other_is (report-same reply (made.replied (gate, one) is))

pub gate_suffices : QuestionsSuffice → GateQuestionsSuffice
gate_suffices suffice text other gate rows changed is other_is agree reply = (
  one-way suffice gate rows changed agree text other is other_is reply,
  one-way suffice gate changed rows (back-agree gate rows changed agree) other text other_is is reply,
)
