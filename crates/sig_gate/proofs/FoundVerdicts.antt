-- The verdict on a bundle, from what the chain of trust says of it.
use Rattle.std.proofs.Common.{◌≡◌, ℕ, inl, inr, List, Option, Some, None, Ok, Err, refl, sym, subst, ◌∙◌}
use Rattle.sig_base.proofs.OptionSteps.{some_is}
use Rattle.sig_base.proofs.ResultSteps.{err_is}
use Rattle.sig_base.specs.Answers.{UnlessMemory}
use Rattle.sig_base.specs.ByText.{text_lookup}
use Rattle.sig_base.specs.Rules.{FailsFirst}
use Rattle.sig_gate.specs.BundleVerdict.{IsBundleVerdict}
use Rattle.sig_gate.specs.FoundVerdict.{IsFound, IsFoundUnder, IsRefusedBy}
use Rattle.sig_gate.specs.NamedRoots.{IsRootNamed}
use Rattle.sig_gate.specs.declared.verdict.BundleVerdict.{BundleVerdict}
use Rattle.sig_gate.specs.declared.verdict.BundleVerdict.TheVariants.{Verified, Refused}
use Rattle.sig_gate.specs.declared.named_roots.NamedRoot.{NamedRoot}
use Rattle.sig_json.specs.declared.error.JsonError.{JsonError}
use Rattle.sig_manifest.specs.Artifact.{Asked}
use Rattle.sig_manifest.specs.Manifest.{Gate}
use Rattle.sig_policy.specs.declared.request.RequestPolicy.{RequestPolicy}
use Rattle.sig_root.specs.RootRecord.{trusted_root_in}
use Rattle.sig_verify.specs.Judged.{Judged}
use Rattle.sig_verify.specs.LinkLaws.{IsKept}
use Rattle.sig_verify.specs.Links.{HoldsOf, Inputs, OfPassed, Outside, chain_links}
use Rattle.sig_verify.specs.OfflineErrors.{link_of}
use Rattle.sig_verify.specs.OfflineVerdict.{IsOffline, Outcome}
use Rattle.sig_verify.specs.Verdict.{Checker}
use Rattle.sig_verify.specs.declared.link.Link.{Link}
use Rattle.sig_verify.specs.declared.link.Link.TheVariants.{RootJson}
use Rattle.sig_verify.specs.declared.logged_entry.LoggedEntry.{LoggedEntry}
use Rattle.sig_verify.specs.declared.offline_error.OfflineError.{OfflineError}
use Rattle.sig_verify.specs.declared.offline_error.OfflineError.TheVariants.{Json, OutOfMemory as Memory}
use Rattle.sig_verify.specs.declared.offline_error.Part.TheVariants.{Root}

-- a result that is a value is not `OutOfMemory`
with_value : (entry : LoggedEntry) (P : Type 0) → UnlessMemory {X = LoggedEntry} Memory (Ok entry) P → P
with_value entry P (inl memory) = cc
with_value entry P (inr holds) = holds

-- an error that has a link is not `OutOfMemory`, which has none
no_link : (link : Link) → ◌≡◌ {A = Option Link} None (Some link) → ⊥
no_link link e = cc

with_link : (error : OfflineError) (link : Link) (P : Type 0) → link_of error ≡ Some link
    → UnlessMemory {X = LoggedEntry} Memory (Err error) P → P
with_link error link P named (inl memory) =
    absurd (no_link link (subst (λ (e : OfflineError). link_of e ≡ Some link) (err_is error Memory memory) named))
with_link error link P named (inr holds) = holds

module _ (o : Outside) (i : Inputs) where
  abbrev pub Steps : Outcome → Type 0
  Steps result = IsOffline o.checker o.policy i.root i.now i.digest i.bundle result

  pub verified-found : (entry : LoggedEntry)
      → UnlessMemory {X = LoggedEntry} Memory (Ok entry) (Judged {A = LoggedEntry} (HoldsOf o i) chain_links (Ok entry))
      → OfPassed i (λ c. IsKept c.entry entry) → UnlessMemory {X = LoggedEntry} Memory (Ok entry) (Steps (Ok entry))
      → IsFound o i (Verified entry)
  verified-found entry links kept steps = record {
    links = (with_value entry (Judged {A = LoggedEntry} (HoldsOf o i) chain_links (Ok entry)) links, kept);
    offline = (Ok entry, with_value entry (Steps (Ok entry)) steps, refl);
  }

  pub refused-found : (error : OfflineError) (link : Link) → link_of error ≡ Some link
      → UnlessMemory {X = LoggedEntry} Memory (Err error) (Judged {A = LoggedEntry} (HoldsOf o i) chain_links (Err error))
      → UnlessMemory {X = LoggedEntry} Memory (Err error) (Steps (Err error)) → IsFound o i (Refused link)
  refused-found error link named links steps =
      let judged = with_link error link (Judged {A = LoggedEntry} (HoldsOf o i) chain_links (Err error)) named links in
      let same : judged.0 ≡ link = some_is judged.0 link (sym judged.1 ∙ named) in record {
        links = subst (λ (l : Link). FailsFirst (HoldsOf o i) chain_links l) same judged.2;
        offline = (Err error, with_link error link (Steps (Err error)) named steps, rw named refl);
      }

  -- the same by a link that may be none
  pub refused-by : (error : OfflineError) (link : Option Link) (verdict : BundleVerdict) → link ≡ link_of error
      → IsRefusedBy link verdict
      → UnlessMemory {X = LoggedEntry} Memory (Err error) (Judged {A = LoggedEntry} (HoldsOf o i) chain_links (Err error))
      → UnlessMemory {X = LoggedEntry} Memory (Err error) (Steps (Err error)) → IsFound o i verdict
  refused-by error None verdict is refused links steps = absurd refused
  refused-by error (Some link) verdict is refused links steps =
      subst (IsFound o i) (sym refused) (refused-found error link (sym is) links steps)

  -- a text that is not a trusted root
  pub not_root-found : (why : JsonError) → trusted_root_in i.root ≡ Err why → IsFound o i (Refused RootJson)
  not_root-found why is = record {
    links = inl ((λ root. let read = root.1 in absurd cc), refl);
    offline = (Err (Json Root why), rw is refl, refl);
  }

-- ---- the verdict on a bundle of an artifact

pub bundle-verdict : (k : Checker) (gate : Gate) (x : Asked) (bundle seen : List ℕ) (policy : RequestPolicy)
    (root : NamedRoot) (verdict : BundleVerdict) → IsRootNamed gate x.root root
    → text_lookup x.policy gate.policies ≡ Some policy → seen ≡ bundle
    → IsFoundUnder k policy root x.digest seen verdict → IsBundleVerdict k gate x bundle verdict
bundle-verdict k gate x bundle seen policy root verdict named there same under =
    let found = under named.text gate.now named.of_text in
    subst (λ (text : List ℕ). IsBundleVerdict k gate x text verdict) same (record {
      root = named.text;
      root_is = named.there;
      policy = policy;
      policy_is = there;
      links = found.links;
      offline = found.offline;
    })
