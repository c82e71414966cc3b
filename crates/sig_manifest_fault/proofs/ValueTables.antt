-- The tables of objects of free names are those of their readers, of trees whose names ascend.
use Rattle.std.proofs.Common.{◌≡◌, ℕ, List, [], ◌∷◌, Bool, true, false, Option, Some, None, is_some}
use Rattle.std.proofs.Common.{refl, sym, ap, ◌∙◌}
use Rattle.std.specs.List.{list_all}
use Rattle.sig_base.specs.ByText.{KeysAscend, text_put}
use Rattle.sig_base.specs.OptionSteps.{◌>>=◌}
use Rattle.sig_json.specs.Data.{Data, null, boolean, number, string, array, object, Members}
use Rattle.sig_json.specs.Find.{as_object, get_member}
use Rattle.sig_json.specs.Kinds.{text_map_of, text_of, texts_by_name}
use Rattle.sig_json.specs.Member.{not_null}
use Rattle.sig_json.specs.Members.{members_list, members_of}
use Rattle.sig_manifest.specs.Policies.{ByName, policies_beside, policies_of}
use Rattle.sig_manifest_fault.proofs.AscendingNames.{AreFoundIn, Ascends, each-found}
use Rattle.sig_manifest_fault.proofs.RuleTables.{both}
use Rattle.sig_manifest_fault.specs.Values.{value_rows, values_table}
use Rattle.sig_policy.specs.declared.request.RequestPolicy.{RequestPolicy}
use Rattle.sig_request.specs.Policy.{request_policy_of}
use Rattle.sig_request_fault.proofs.PolicyTables.{policy_is}
use Rattle.sig_request_fault.proofs.RowTables.{text_is}
use Rattle.sig_request_fault.specs.PolicyTable.{all_table, policy_table}
use Rattle.sig_table.proofs.RecordTables.{step}
use Rattle.sig_table.specs.Kinds.{text_table}
use Rattle.sig_table.specs.Table.{Table, fits, passes, rows_hold, rows_of}
use Rattle.sig_table.specs.TableOf.{IsTableOf}

-- the same of trees whose names ascend
abbrev pub IsAscendingTableOf : {A : Type 0} → (Data → Option A) → Table → Type 0
IsAscendingTableOf kind table = (d : Data) → Ascends d → fits table d ≡ is_some (kind d)

-- ---- the value of each member

module _ {A : Type 0} (kind : Data → Option A) (t : Table) (is : IsTableOf kind t) (no_null : kind null ≡ None) where
  -- a null is absent, and no value of the kind
  value_passes : (v : Data) → passes false (fits t) (not_null v) ≡ is_some (kind v)
  value_passes null = sym (ap is_some no_null)
  value_passes (boolean b) = is (boolean b)
  value_passes (number n) = is (number n)
  value_passes (string s) = is (string s)
  value_passes (array ds) = is (array ds)
  value_passes (object ms) = is (object ms)

  abbrev each_reads : List (List ℕ × Data) → Bool
  each_reads ms = list_all (λ m. is_some (kind m.1)) ms

  found_passes : (found : Option Data) (v : Data) → found ≡ Some v
      → passes false (fits t) (found >>= not_null) ≡ is_some (kind v)
  found_passes None v found = cc
  found_passes (Some w) v found = let same : w ≡ v = cc in rw same (value_passes v)

  rows_pass : (all : Members) (left : List (List ℕ × Data)) → AreFoundIn all left
      → rows_hold (rows_of (value_rows t left)) (object all) ≡ each_reads left
  rows_pass all [] found = refl
  rows_pass all (m ∷ left) found =
      both (found_passes (get_member m.0 all) m.1 found.0) (rows_pass all left found.1)

  values_pass : (ms : Members) → KeysAscend (members_list ms)
      → fits (values_table t) (object ms) ≡ each_reads (members_list ms)
  unfolding values_table
  values_pass ms up = rows_pass ms (members_list ms) (each-found ms up)

  -- beside what reads all members, and nothing that is not an object
  pub values_are : {B : Type 0} → (whole : Data → Option B)
      → ((ms : Members) → each_reads (members_list ms) ≡ is_some (whole (object ms)))
      → ((d : Data) → as_object d ≡ None → whole d ≡ None) → IsAscendingTableOf whole (values_table t)
  unfolding values_table
  values_are whole reads unread null up = sym (ap is_some (unread null refl))
  values_are whole reads unread (boolean b) up = sym (ap is_some (unread (boolean b) refl))
  values_are whole reads unread (number n) up = sym (ap is_some (unread (number n) refl))
  values_are whole reads unread (string s) up = sym (ap is_some (unread (string s) refl))
  values_are whole reads unread (array ds) up = sym (ap is_some (unread (array ds) refl))
  values_are whole reads unread (object ms) up = values_pass ms up.0 ∙ reads ms

-- ---- trusted roots

text_null : text_of null ≡ None
unfolding text_of
text_null = refl

texts_read : (ms : List (List ℕ × Data)) → list_all (λ m. is_some (text_of m.1)) ms ≡ is_some (texts_by_name ms)
texts_read [] = refl
texts_read (m ∷ ms) =
    step (text_of m.1) _ _ _ refl (λ text _. texts_read ms ∙ one_more text (texts_by_name ms)) where
      one_more : (text : List ℕ) (found : Option (List (List ℕ × List ℕ)))
          → is_some found ≡ is_some (found >>= λ texts. Some ((m.0, text) ∷ texts))
      one_more text None = refl
      one_more text (Some texts) = refl

no_members_of : (d : Data) → as_object d ≡ None → members_of d ≡ None
no_members_of d none = rw none refl

texts_unread : (d : Data) → as_object d ≡ None → text_map_of d ≡ None
unfolding text_map_of
texts_unread d none = rw (no_members_of d none) refl

texts_object : (ms : Members) → list_all (λ m. is_some (text_of m.1)) (members_list ms) ≡ is_some (text_map_of (object ms))
unfolding text_map_of
texts_object ms = texts_read (members_list ms)

pub roots_are : IsAscendingTableOf text_map_of (values_table text_table)
roots_are = values_are text_of text_table text_is text_null text_map_of texts_object texts_unread

-- ---- policies

policies_read : (there : ByName) (ms : List (List ℕ × Data))
    → list_all (λ m. is_some (request_policy_of m.1)) ms ≡ is_some (policies_beside there ms)
policies_read there [] = refl
policies_read there (m ∷ ms) =
    step (request_policy_of m.1) _ _ _ refl (λ policy _. policies_read (text_put m.0 policy there) ms)

policies_unread : (d : Data) → as_object d ≡ None → policies_of d ≡ None
unfolding policies_of
policies_unread d none = rw (no_members_of d none) refl

policies_object : (ms : Members)
    → list_all (λ m. is_some (request_policy_of m.1)) (members_list ms) ≡ is_some (policies_of (object ms))
unfolding policies_of
policies_object ms = policies_read [] (members_list ms)

null_unfit : fits policy_table null ≡ false
unfolding policy_table all_table
null_unfit = refl

policy_null : request_policy_of null ≡ None
policy_null = by (request_policy_of null) (policy_is null) where
  by : (found : Option RequestPolicy) → fits policy_table null ≡ is_some found → found ≡ None
  by None same = refl
  by (Some policy) same = absurd (let wrong : false ≡ true = sym null_unfit ∙ same in cc)

pub policies_are : IsAscendingTableOf policies_of (values_table policy_table)
policies_are = values_are request_policy_of policy_table policy_is policy_null policies_of policies_object policies_unread
