-- A text has one explanation: what is wrong with it is a function of it, and a request has one first link that fails.
use Rattle.std.proofs.Common.{◌≡◌, ◌⊎◌, ◌∙◌, ℕ, inl, inr, List, Option, Some, None, Result, Ok, ap, refl, subst, sym}
use Rattle.sig_base.proofs.OptionSteps.{some_is}
use Rattle.sig_base.proofs.RuleLaws.{none_fails, one_fails}
use Rattle.sig_base.specs.declared.memory.OutOfMemory.{OutOfMemory}
use Rattle.sig_explain_log.specs.Consistency.{consistency_tree}
use Rattle.sig_explain_log.specs.Log.{log_tree}
use Rattle.sig_explain_log.specs.Request.{request_tree}
use Rattle.sig_json.specs.Data.{Data}
use Rattle.sig_program.specs.ConsistencyLink.{HoldsOfConsistency, consistency_links}
use Rattle.sig_program.specs.Explanation.{HasOneExplanation, IsFaultTree, IsVerdictTree}
use Rattle.sig_program.specs.Link.{HoldsOfLog, log_links}
use Rattle.sig_program.specs.Verdict.{IsLinkVerdict}
use Rattle.sig_program.specs.declared.explained.Explained.TheVariants.{Log, Consistency}
use Rattle.sig_request.proofs.RequestTexts.{one_request}
use Rattle.sig_request.specs.ConsistencyRequest.{consistency_request}
use Rattle.sig_request.specs.ReadFrom.{IsRequestOf}
use Rattle.sig_request.specs.Request.{log_request}
use Rattle.sig_request_fault.proofs.RequestFaults.{none_if_request}
use Rattle.sig_request_fault.proofs.RequestTables.{consistency_is, log_is}
use Rattle.sig_request_fault.specs.RequestFault.{IsRequest, request_fault_in}
use Rattle.sig_request_fault.specs.RequestTable.{consistency_table, log_table}
use Rattle.sig_request_fault.specs.declared.fault.RequestFault.{RequestFault}
use Rattle.sig_table.specs.Table.{Table}
use Rattle.sig_table.specs.TableOf.{IsTableOf}
use Rattle.sig_verify.specs.declared.link.Link.{Link}

-- links have one verdict
one_verdict : (Holds : Link → Type 0) (ls : List Link) (one other : Option Link) → IsLinkVerdict Holds ls one
    → IsLinkVerdict Holds ls other → one ≡ other
one_verdict Holds ls None None a b = refl
one_verdict Holds ls None (Some link) a b = absurd (none_fails Holds ls link a b)
one_verdict Holds ls (Some link) None a b = absurd (none_fails Holds ls link b a)
one_verdict Holds ls (Some link) (Some last) a b = ap (λ l. Some l) (one_fails Holds ls link last a b)

-- a text has one fault
one_fault : (table : Table) (text : List ℕ) (one other : Data) → IsFaultTree table text one
    → IsFaultTree table text other → one ≡ other
one_fault table text one other (fault, is, made) (last, last_is, last_made) =
    let same : fault ≡ last = some_is fault last (sym is ∙ last_is) in made ∙ ap request_tree same ∙ sym last_made

no_fault : (fault : RequestFault) → ◌≡◌ {A = Option RequestFault} None (Some fault) → ⊥
no_fault fault e = cc

module _ {R : Type 0} (meaning : Data → Option R) (table : Table) (is_table : IsTableOf meaning table) (text : List ℕ)
  where
    -- nothing is wrong with a request
    no_fault_of : IsRequest meaning text → (shown : Data) → IsFaultTree table text shown → ⊥
    no_fault_of request shown (fault, found, wrong) =
        let answer : Result (Option RequestFault) OutOfMemory = Ok (request_fault_in table text) in
        let none = (none_if_request meaning table is_table text answer refl).1 request in
        no_fault fault (sym none ∙ found)

    module _ (Shows : R → Data → Type 0) (only : (request : R) (one other : Data) → Shows request one
        → Shows request other → one ≡ other) where
      -- the text is a request, and the tree is of the request
      abbrev pub IsOfRequest : Data → Type 0
      IsOfRequest tree = (request : R) × IsRequestOf meaning text request × Shows request tree

      one_of_request : (one other : Data) → IsOfRequest one → IsOfRequest other → one ≡ other
      one_of_request one other (request, is, shown) (last, last_is, told) =
          let same : last ≡ request = one_request meaning text last request last_is is in
          only request one other shown (subst (λ (r : R). Shows r other) same told)

      -- where a request has one tree, so has a text
      pub one_of_text : (one other : Data) → IsFaultTree table text one ⊎ IsOfRequest one
          → IsFaultTree table text other ⊎ IsOfRequest other → one ≡ other
      one_of_text one other (inl fault) (inl last) = one_fault table text one other fault last
      one_of_text one other (inl fault) (inr last) = absurd (no_fault_of (last.0, last.1) one fault)
      one_of_text one other (inr shown) (inl last) = absurd (no_fault_of (shown.0, shown.1) other last)
      one_of_text one other (inr shown) (inr last) = one_of_request one other shown last

module _ {R : Type 0} (meaning : Data → Option R) (table : Table) (is_table : IsTableOf meaning table)
    (Of : R → Link → Type 0) (ls : List Link) (tree_of : R → Option Link → Data) (text : List ℕ) where
  abbrev pub ShowsVerdict : Data → Type 0
  ShowsVerdict =
      IsVerdictTree (IsRequestOf meaning text) (λ request verdict. IsLinkVerdict (Of request) ls verdict) tree_of

  -- the tree of a verdict on a request
  abbrev OfVerdict : R → Data → Type 0
  OfVerdict request tree =
      (verdict : Option Link) × IsLinkVerdict (Of request) ls verdict × (tree ≡ tree_of request verdict)

  one_of_verdict : (request : R) (one other : Data) → OfVerdict request one → OfVerdict request other → one ≡ other
  one_of_verdict request one other (verdict, judged, made) (found, last_judged, last_made) =
      made ∙ ap (tree_of request) (one_verdict (Of request) ls verdict found judged last_judged) ∙ sym last_made

  by_request : (tree : Data) → IsFaultTree table text tree ⊎ ShowsVerdict tree
      → IsFaultTree table text tree ⊎ IsOfRequest meaning table is_table text OfVerdict one_of_verdict tree
  by_request tree (inl fault) = inl fault
  by_request tree (inr (request, verdict, is, judged, made)) = inr (request, is, (verdict, judged, made))

  pub one_tree : (one other : Data) → IsFaultTree table text one ⊎ ShowsVerdict one
      → IsFaultTree table text other ⊎ ShowsVerdict other → one ≡ other
  one_tree one other p q =
      one_of_text meaning table is_table text OfVerdict one_of_verdict one other (by_request one p) (by_request other q)

pub one_of_log : HasOneExplanation Log
one_of_log text = one_tree log_request log_table log_is HoldsOfLog log_links log_tree text

pub one_of_consistency : HasOneExplanation Consistency
one_of_consistency text =
    one_tree consistency_request consistency_table consistency_is HoldsOfConsistency consistency_links consistency_tree
    text
