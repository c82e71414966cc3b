-- The tables of artifacts and of manifests are those of their records.
use Rattle.std.proofs.Common.{◌≡◌, ℕ, ℤ, List, [], ◌∷◌, codes, Bool, true, false, ◌&&◌, if◌then◌else◌, Option, Some, None, is_some}
use Rattle.std.proofs.Common.{refl, sym, subst, ap, ◌∙◌}
use Rattle.sig_base.proofs.OptionSteps.{some_is}
use Rattle.sig_base.specs.OptionSteps.{◌>>=◌}
use Rattle.sig_base.specs.declared.checker.AcceptedRow.{AcceptedRow}
use Rattle.sig_json.specs.Data.{Data, null, boolean, number, string, array, object, Members}
use Rattle.sig_json.specs.Find.{as_null, as_object, get_member}
use Rattle.sig_json.specs.Kinds.{i64_of, text_map_of, text_of}
use Rattle.sig_json.specs.Member.{list_each, member_of, not_null, required, there_or}
use Rattle.sig_manifest.specs.Artifact.{Asked, artifact_of, name_kind}
use Rattle.sig_manifest.specs.Manifest.{Gate, is_within, kept_within, manifest_members, with_accepted}
use Rattle.sig_manifest.specs.Policies.{ByName, policies_of}
use Rattle.sig_manifest.specs.Read.{Parts}
use Rattle.sig_manifest.specs.RuleTable.{of_at_most, rule_of, rule_within}
use Rattle.sig_manifest_fault.proofs.AscendingNames.{Ascends, ValuesAscend, member-ascends}
use Rattle.sig_manifest_fault.proofs.RuleTables.{nested_is, two_rows}
use Rattle.sig_manifest_fault.proofs.ValueTables.{IsAscendingTableOf, policies_are, roots_are}
use Rattle.sig_manifest_fault.specs.ManifestTable.{artifact_table, artifacts_kind, manifest_table, name_table, within}
use Rattle.sig_manifest_fault.specs.Range.{range_table}
use Rattle.sig_manifest_fault.specs.RuleTable.{nested}
use Rattle.sig_manifest_fault.specs.Values.{values_table}
use Rattle.sig_request.specs.Accepted.{with_rows}
use Rattle.sig_request.specs.DigestText.{digest_kind}
use Rattle.sig_request_fault.proofs.RequestTables.{all_then, holds, rows_first, rows_unread}
use Rattle.sig_request_fault.proofs.RowTables.{i64_is, text_is}
use Rattle.sig_request_fault.specs.PolicyTable.{policy_table}
use Rattle.sig_request_fault.specs.RequestTable.{digest_table}
use Rattle.sig_table.proofs.RecordTables.{elements_table, not_required, optional_or_holds, other_kind_table, record_is}
use Rattle.sig_table.proofs.RecordTables.{required_holds, step}
use Rattle.sig_table.specs.Kinds.{i64_table, text_table}
use Rattle.sig_table.specs.Table.{Table, elements, fits, member_in, passes, required_row, row_holds}
use Rattle.sig_table.specs.TableOf.{IsTableOf}

-- ---- an artifact

digest_is : IsTableOf digest_kind digest_table
unfolding digest_table
digest_is = other_kind_table digest_kind

-- what is read is made into something else
as_read : {A B : Type 0} → (found : Option A) (f : A → B) → is_some found ≡ is_some (found >>= λ x. Some (f x))
as_read None f = refl
as_read (Some x) f = refl

-- a required member that is read in two steps
required_then : {A B : Type 0} → (kind : Data → Option A) (more : A → Option B) (name : List ℕ) (ms : Members)
    → (required kind name (object ms) >>= more) ≡ required (λ d. kind d >>= more) name (object ms)
unfolding required member_of
required_then kind more name ms = by_member (member_in name (object ms)) where
  by_member : (found : Option Data)
      → (there_or None kind found >>= more) ≡ there_or None (λ d. kind d >>= more) found
  by_member None = refl
  by_member (Some d) = refl

module _ (ms : Members) where
  -- the two rows of the rule
  rule_rows : (row_holds (required_row (codes "rule") (nested 64)) (object ms)
      && (row_holds (required_row (codes "rule") (range_table rule_of)) (object ms) && true))
      ≡ is_some (required rule_of (codes "rule") (object ms))
  unfolding rule_of
  rule_rows =
      two_rows (rule_within 64) (nested 64) (nested_is 64) (of_at_most 64) (codes "rule") ms
      ∙ ap is_some (required_then (rule_within 64) (of_at_most 64) (codes "rule") ms)

  artifact_object : fits artifact_table (object ms) ≡ is_some (artifact_of (object ms))
  unfolding artifact_table artifact_of
  artifact_object =
      step _ _ _ _ (required_holds name_kind name_table (other_kind_table name_kind) (codes "name") ms)
      (λ _ _. step _ _ _ _ (required_holds digest_kind digest_table digest_is (codes "digest") ms)
      (λ _ _. step _ _ _ _ (required_holds text_of text_table text_is (codes "root") ms)
      (λ _ _. step _ _ _ _ (required_holds text_of text_table text_is (codes "policy") ms)
      (λ _ _. step _ _ _ _ (optional_or_holds [] (list_each text_of) (elements text_table)
      (elements_table text_of text_table text_is) (codes "bundles") ms)
      (λ _ _. rule_rows ∙ as_read (required rule_of (codes "rule") (object ms)) _)))))

artifact_unread : (d : Data) → as_object d ≡ None → artifact_of d ≡ None
unfolding artifact_of
artifact_unread d none = rw (not_required name_kind (codes "name") d none) refl

artifact_unfit : (d : Data) → as_object d ≡ None → fits artifact_table d ≡ false
unfolding artifact_table
artifact_unfit d none = rw none refl

pub artifact_is : IsTableOf artifact_of artifact_table
artifact_is = record_is artifact_of artifact_table artifact_object artifact_unread artifact_unfit

-- ---- a manifest

not_null_is : (d e : Data) (b : Bool) → (if b then None else Some d) ≡ Some e → d ≡ e
not_null_is d e true is = cc
not_null_is d e false is = some_is d e is

-- a member of an object whose names ascend
module _ {A : Type 0} (kind : Data → Option A) (t : Table) (is : IsAscendingTableOf kind t) where
  unless_null : (d : Data) (found : Option Data) → not_null d ≡ found → Ascends d
      → passes false (fits t) found ≡ is_some (there_or None kind found)
  unless_null d None same up = refl
  unless_null d (Some e) same up = is e (subst Ascends (not_null_is d e (is_some (as_null d)) same) up)

  by_found : (found : Option Data) → ((d : Data) → found ≡ Some d → Ascends d)
      → passes false (fits t) (found >>= not_null) ≡ is_some (there_or None kind (found >>= not_null))
  by_found None up = refl
  by_found (Some d) up = unless_null d (not_null d) refl (up d refl)

  ascending_holds : (name : List ℕ) (ms : Members) → ValuesAscend ms
      → row_holds (required_row name t) (object ms) ≡ is_some (required kind name (object ms))
  unfolding required member_of
  ascending_holds name ms up = by_found (get_member name ms) (member-ascends name ms up)

-- a manifest of these artifacts
abbrev gate_of : ℤ → List (List ℕ × List ℕ) → ByName → List Asked → Gate
gate_of now roots policies artifacts =
    record { now = now; roots = roots; policies = policies; artifacts = artifacts }

-- the artifacts, and how many they are
artifacts_within : (now : ℤ) (roots : List (List ℕ × List ℕ)) (policies : ByName) (rows : List AcceptedRow)
    (found : Option (List Asked)) → is_some {T = List Asked} (found >>= within)
    ≡ is_some {T = Parts} ((found >>= λ xs. kept_within (gate_of now roots policies xs)) >>= λ gate. Some (gate, rows))
artifacts_within now roots policies rows None = refl
artifacts_within now roots policies rows (Some xs) = by (is_within xs) where
  by : (b : Bool) → is_some {T = List Asked} (if b then Some xs else None)
      ≡ is_some {T = Parts} ((if b then Some (gate_of now roots policies xs) else None) >>= λ gate. Some (gate, rows))
  by true = refl
  by false = refl

-- a step inside of what is read in two steps
step_in : {A B C : Type 0} → (found : Option A) (next : A → Option B) (more : B → Option C) (row rest : Bool)
    → row ≡ is_some found → ((x : A) → rest ≡ is_some (next x >>= more))
    → (row && rest) ≡ is_some ((found >>= next) >>= more)
step_in None next more row rest is goes_on = rw is refl
step_in (Some x) next more row rest is goes_on = rw is (goes_on x)

module _ (ms : Members) (up : ValuesAscend ms) where
  -- the rows before that of `accepted`
  abbrev before : List Bool
  before =
      holds ms (required_row (codes "now") i64_table)
      ∷ holds ms (required_row (codes "roots") (values_table text_table))
      ∷ holds ms (required_row (codes "policies") (values_table policy_table))
      ∷ []

  -- those after it
  abbrev artifacts_hold : Bool
  artifacts_hold =
      holds ms (required_row (codes "artifacts") (elements artifact_table))
      && (holds ms (required_row (codes "artifacts") (range_table artifacts_kind)) && true)

  artifact_rows : artifacts_hold ≡ is_some (required (list_each artifact_of) (codes "artifacts") (object ms) >>= within)
  unfolding artifacts_kind
  artifact_rows =
      two_rows (list_each artifact_of) (elements artifact_table) (elements_table artifact_of artifact_table artifact_is)
      within (codes "artifacts") ms

  manifest_rest : (rows : List AcceptedRow) → all_then before artifacts_hold ≡ is_some (with_accepted rows (object ms))
  unfolding manifest_members
  manifest_rest rows =
      step_in _ _ _ _ _ (required_holds i64_of i64_table i64_is (codes "now") ms)
      (λ now. step_in _ _ _ _ _ (ascending_holds text_map_of (values_table text_table) roots_are (codes "roots") ms up)
      (λ roots. step_in _ _ _ _ _
      (ascending_holds policies_of (values_table policy_table) policies_are (codes "policies") ms up)
      (λ policies. artifact_rows
      ∙ artifacts_within now roots policies rows (required (list_each artifact_of) (codes "artifacts") (object ms)))))

  manifest_object : fits manifest_table (object ms) ≡ is_some (with_rows with_accepted (object ms))
  unfolding manifest_table
  manifest_object = rows_first ms with_accepted before artifacts_hold manifest_rest

manifest_unfit : (d : Data) → as_object d ≡ None → fits manifest_table d ≡ false
unfolding manifest_table
manifest_unfit d none = rw none refl

unread : (d : Data) → as_object d ≡ None → fits manifest_table d ≡ is_some (with_rows with_accepted d)
unread d none = manifest_unfit d none ∙ sym (ap is_some (rows_unread with_accepted d none))

pub manifest_is : IsAscendingTableOf (with_rows with_accepted) manifest_table
manifest_is null up = unread null refl
manifest_is (boolean b) up = unread (boolean b) refl
manifest_is (number n) up = unread (number n) refl
manifest_is (string s) up = unread (string s) refl
manifest_is (array ds) up = unread (array ds) refl
manifest_is (object ms) up = manifest_object ms up.1
