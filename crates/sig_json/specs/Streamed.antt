-- For private clauses: a list that is read as it comes, and the members beside it.
use Rattle.std.specs.Prelude.{◌≡◌, ◌++◌, ℕ, Bool, false, List, [], ◌∷◌, Option, Some, None}
use Rattle.json.specs.Token.{Token}
use Rattle.serde_json.specs.Data.{Data, object, Members}
use Rattle.serde_json.specs.Find.{get_member}
use Rattle.serde_json.specs.Read.{read}
use Rattle.sig_base.specs.OptionSteps.{◌>>=◌}
use Rattle.sig_json.specs.List.{items_list}
use Rattle.sig_json.specs.Member.{each, list_each, not_null, there_or}
use Rattle.sig_json.specs.Skipped.{PassesValue, PassesItems, AreKeptMembers, members_meant}

-- one element more of a list; none where it, or one before it, is not of the kind
abbrev pub with_element : {A : Type 0} → Option A → Option (List A) → Option (List A)
with_element element None = None
with_element None (Some xs) = None
with_element (Some x) (Some xs) = Some (xs ++ x ∷ [])

-- the next value of a list: if it has no float, it is one element more of those before
pub record StreamsElement {A : Type 0} (kind : Data → Option A) (float : Bool) (depth : ℕ) (ts rest : List Token)
    (before after : Option (List A)) : Type 0 where
  pub passed : PassesValue float depth ts rest
  pub read : float ≡ false → after ≡ with_element (kind passed.value) before

-- the elements of a list: if none has a float, what they are under the kind
pub record StreamsItems {A : Type 0} (kind : Data → Option A) (float : Bool) (depth : ℕ) (ts rest : List Token)
    (found : Option (List A)) : Type 0 where
  pub passed : PassesItems float depth ts rest
  pub read : float ≡ false → each kind (items_list passed.items) ≡ found

-- the elements of the list that a member is, none where it is absent or null
abbrev pub listed_in : {A : Type 0} → (Data → Option A) → Option Data → Option (List A)
listed_in kind found = there_or (Some []) (list_each kind) (found >>= not_null)

-- the value of that member: if it has no float, its elements
pub record StreamsList {A : Type 0} (kind : Data → Option A) (float : Bool) (depth : ℕ) (ts rest : List Token)
    (found : Option (List A)) : Type 0 where
  pub passed : PassesValue float depth ts rest
  pub read : float ≡ false → listed_in kind (Some passed.value) ≡ found

-- of all members these are kept, this is whether the others have a float, and if none has, the elements of the list
pub record ArePartsOf {A : Type 0} (kind : Data → Option A) (names : List (List ℕ)) (list : List ℕ) (float : Bool)
    (all kept : Members) (found : Option (List A)) : Type 0 where
  pub part : AreKeptMembers float names all kept
  pub listed : float ≡ false → listed_in kind (get_member list all) ≡ found

-- the tokens are those of members of which these are the parts
pub record StreamsMembers {A : Type 0} (kind : Data → Option A) (names : List (List ℕ)) (list : List ℕ) (float : Bool)
    (depth : ℕ) (ts rest : List Token) (kept : Members) (found : Option (List A)) : Type 0 where
  pub all : Members
  pub are : members_meant depth ts ≡ Some (all, rest)
  pub parts : ArePartsOf kind names list float all kept found

-- the text is an object, of which these are the parts
pub record StreamsOf {A : Type 0} (kind : Data → Option A) (names : List (List ℕ)) (list : List ℕ) (float : Bool)
    (text : List ℕ) (kept : Members) (found : Option (List A)) : Type 0 where
  pub all : Members
  pub is : read text ≡ Some (object all)
  pub parts : ArePartsOf kind names list float all kept found
