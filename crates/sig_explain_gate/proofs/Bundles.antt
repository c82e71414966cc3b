-- What is shown of a bundle, from what the chain of trust says of it.
use Rattle.std.proofs.Common.{◌≡◌, inl, inr, Option, Some, None, Result, Ok, Err, IfOk, refl, sym, subst, ◌∙◌}
use Rattle.sig_base.proofs.OptionSteps.{some_is}
use Rattle.sig_base.proofs.ResultSteps.{err_is}
use Rattle.sig_base.specs.Answers.{UnlessMemory}
use Rattle.sig_base.specs.Rules.{FailsFirst}
use Rattle.sig_explain_gate.specs.Bundle.{IsBundleShown, IsFoundHere, IsRefusedHere, chain_inputs, chain_outside}
use Rattle.sig_explain_gate.specs.declared.bundle.Finding.{Finding}
use Rattle.sig_explain_verify.specs.Inputs.{Inputs as Explained}
use Rattle.sig_explain_verify.specs.RefusedTree.{IsRefusedTree}
use Rattle.sig_explain_verify.specs.Verified.{IsVerifiedTree}
use Rattle.sig_gate.specs.BundleVerdict.{outside}
use Rattle.sig_gate.specs.declared.verdict.BundleVerdict.{BundleVerdict}
use Rattle.sig_gate.specs.declared.verdict.BundleVerdict.TheVariants.{Verified, Refused}
use Rattle.sig_gate_command.specs.Reply.{checker_with}
use Rattle.sig_json.specs.Data.{Data}
use Rattle.sig_json.specs.Tree.{document_tree}
use Rattle.sig_json.specs.declared.error.JsonError.{JsonError}
use Rattle.sig_policy.specs.declared.request.RequestPolicy.{RequestPolicy}
use Rattle.sig_root.specs.RootRecord.{trusted_root_in}
use Rattle.sig_verify.specs.HeldRoot.{IsHeldIn}
use Rattle.sig_verify.specs.Judged.{Judged}
use Rattle.sig_verify.specs.LinkLaws.{IsKept}
use Rattle.sig_verify.specs.Links.{HoldsOf, Inputs, OfPassed, Outside, chain_links}
use Rattle.sig_verify.specs.OfflineErrors.{link_of}
use Rattle.sig_verify.specs.OfflineVerdict.{IsOffline, Outcome}
use Rattle.sig_verify.specs.declared.link.Link.{Link}
use Rattle.sig_verify.specs.declared.link.Link.TheVariants.{RootJson}
use Rattle.sig_verify.specs.declared.logged_entry.LoggedEntry.{LoggedEntry}
use Rattle.sig_verify.specs.declared.offline_error.OfflineError.{OfflineError}
use Rattle.sig_verify.specs.declared.offline_error.OfflineError.TheVariants.{Json, OutOfMemory as Memory}
use Rattle.sig_verify.specs.declared.offline_error.Part.TheVariants.{Root}

-- a result that is a value is not `OutOfMemory`
with_value : (entry : LoggedEntry) (P : Type 0) → UnlessMemory {X = LoggedEntry} Memory (Ok entry) P → P
with_value entry P (inl memory) = cc
with_value entry P (inr holds) = holds

-- an error that has a link is not `OutOfMemory`, which has none
no_link : (link : Link) → ◌≡◌ {A = Option Link} None (Some link) → ⊥
no_link link e = cc

with_link : (error : OfflineError) (link : Link) (P : Type 0) → link_of error ≡ Some link
    → UnlessMemory {X = LoggedEntry} Memory (Err error) P → P
with_link error link P named (inl memory) =
    absurd (no_link link (subst (λ (e : OfflineError). link_of e ≡ Some link) (err_is error Memory memory) named))
with_link error link P named (inr holds) = holds

module _ (i : Explained) where
  abbrev o : Outside
  o = chain_outside i

  abbrev c : Inputs
  c = chain_inputs i

  abbrev pub Steps : Outcome → Type 0
  Steps result = IsOffline o.checker o.policy i.root i.now i.digest i.bundle result

  verified-as : (entry : LoggedEntry) (tree : Data)
      → UnlessMemory {X = LoggedEntry} Memory (Ok entry) (Judged {A = LoggedEntry} (HoldsOf o c) chain_links (Ok entry))
      → OfPassed c (λ p. IsKept p.entry entry) → UnlessMemory {X = LoggedEntry} Memory (Ok entry) (Steps (Ok entry))
      → IsVerifiedTree i entry tree → IsBundleShown i (Verified entry) tree
  verified-as entry tree links kept steps shown = record {
    links = (with_value entry (Judged {A = LoggedEntry} (HoldsOf o c) chain_links (Ok entry)) links, kept);
    result = Ok entry;
    offline = with_value entry (Steps (Ok entry)) steps;
    said = refl;
    shown = shown;
  }

  refused-as : (error : OfflineError) (link : Link) (tree : Data) → link_of error ≡ Some link
      → FailsFirst (HoldsOf o c) chain_links link → Steps (Err error) → IsRefusedTree i error tree
      → IsBundleShown i (Refused link) tree
  refused-as error link tree named links steps shown = record {
    links = links;
    result = Err error;
    offline = steps;
    said = rw named refl;
    shown = shown;
  }

  -- with the verdict that was made
  with_verdict : (verdict made : BundleVerdict) (tree : Data) → made ≡ verdict → IsBundleShown i verdict tree
      → IsBundleShown i made tree
  with_verdict verdict made tree same shown = subst (λ (v : BundleVerdict). IsBundleShown i v tree) (sym same) shown

  pub verified-found : (entry : LoggedEntry) (found : Finding)
      → UnlessMemory {X = LoggedEntry} Memory (Ok entry) (Judged {A = LoggedEntry} (HoldsOf o c) chain_links (Ok entry))
      → OfPassed c (λ p. IsKept p.entry entry) → UnlessMemory {X = LoggedEntry} Memory (Ok entry) (Steps (Ok entry))
      → found.verdict ≡ Verified entry → IsVerifiedTree i entry (document_tree found.document) → IsFoundHere i found
  verified-found entry found links kept steps verdict shown =
      with_verdict (Verified entry) found.verdict (document_tree found.document) verdict
      (verified-as entry (document_tree found.document) links kept steps shown)

  -- the first link that fails, of an error that has one
  first-fails : (error : OfflineError) (link : Link) → link_of error ≡ Some link
      → Judged {A = LoggedEntry} (HoldsOf o c) chain_links (Err error) → FailsFirst (HoldsOf o c) chain_links link
  first-fails error link named judged =
      let same : judged.0 ≡ link = some_is judged.0 link (sym judged.1 ∙ named) in
      subst (λ (l : Link). FailsFirst (HoldsOf o c) chain_links l) same judged.2

  pub refused-found : (error : OfflineError) (found : Finding)
      → UnlessMemory {X = LoggedEntry} Memory (Err error) (Judged {A = LoggedEntry} (HoldsOf o c) chain_links (Err error))
      → UnlessMemory {X = LoggedEntry} Memory (Err error) (Steps (Err error)) → IsRefusedHere i error found
      → IsFoundHere i found
  refused-found error found links steps is =
      with_verdict (Refused is.link) found.verdict (document_tree found.document) is.verdict
      (refused-as error is.link (document_tree found.document) is.named
      (first-fails error is.link is.named
      (with_link error is.link (Judged {A = LoggedEntry} (HoldsOf o c) chain_links (Err error)) is.named links))
      (with_link error is.link (Steps (Err error)) is.named steps) is.shown)

  -- a text that is not a trusted root
  no_root-as : (why : JsonError) (tree : Data) → trusted_root_in i.root ≡ Err why → IsRefusedTree i (Json Root why) tree
      → IsBundleShown i (Refused RootJson) tree
  no_root-as why tree is shown = record {
    links = inl ((λ root. let read = root.1 in absurd cc), refl);
    result = Err (Json Root why);
    offline = rw is refl;
    said = refl;
    shown = shown;
  }

  -- its error is that of the link `root-json`
  of-root : (error : OfflineError) (why : JsonError) (found : Finding) → error ≡ Json Root why
      → IsRefusedHere i error found → IsRefusedHere i (Json Root why) found
  of-root error why found same is = subst (λ (e : OfflineError). IsRefusedHere i e found) same is

  pub no_root-found : (error : OfflineError) (found : Finding) → IsHeldIn i.root i.now (Err error)
      → IsRefusedHere i error found → IsFoundHere i found
  no_root-found error found held is =
      let refused = of-root error held.0 found held.2 is in
      let link : refused.link ≡ RootJson = some_is refused.link RootJson (sym refused.named) in
      with_verdict (Refused RootJson) found.verdict (document_tree found.document)
      (subst (λ (l : Link). found.verdict ≡ Refused l) link refused.verdict)
      (no_root-as held.0 (document_tree found.document) held.1 refused.shown)

-- what the chain of trust says under a policy that equals that of the inputs
module _ (i : Explained) (policy : RequestPolicy) (same : i.policy ≡ policy) where
  abbrev asked : RequestPolicy → Outside
  asked p = outside (checker_with i.accepted) p

  abbrev pub Links : RequestPolicy → Outcome → Type 0
  Links p result =
      UnlessMemory {X = LoggedEntry} Memory result
      (Judged {A = LoggedEntry} (HoldsOf (asked p) (chain_inputs i)) chain_links result)

  abbrev pub Chain : RequestPolicy → Outcome → Type 0
  Chain p result =
      UnlessMemory {X = LoggedEntry} Memory result
      (IsOffline (asked p).checker (asked p).policy i.root i.now i.digest i.bundle result)

  pub links_here : (result : Outcome) → Links policy result → Links i.policy result
  links_here result links = subst (λ (p : RequestPolicy). Links p result) (sym same) links

  pub chain_here : (result : Outcome) → Chain policy result → Chain i.policy result
  chain_here result chain = subst (λ (p : RequestPolicy). Chain p result) (sym same) chain

-- two facts of a result, as a third
pub both-ok : {A E : Type 0} → (r : Result A E) (P Q R : A → Type 0) → ((x : A) → P x → Q x → R x) → IfOk r P → IfOk r Q
    → IfOk r R
both-ok (Ok x) P Q R both p q = both x p q
both-ok (Err e) P Q R both p q = tt
