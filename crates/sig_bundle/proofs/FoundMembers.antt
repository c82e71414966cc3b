-- Members of an object that is written, as a reader finds them.
use Rattle.std.proofs.Common.{◌≡◌, ℕ, List, [], ◌∷◌, true, Option, Some, None, option_map, refl, ap, ◌∙◌, inl, inr}
use Rattle.std.proofs.lemmas.Bool.{cases_Bool}
use Rattle.std.proofs.lemmas.Slice.Eq.{bytes_eq-Decides}
use Rattle.std.specs.Prelude.{bytes_eq, unwrap_or, if◌then◌else◌}
use Rattle.sig_base.specs.OptionSteps.{◌>>=◌}
use Rattle.sig_json.specs.Data.{Data, Members, no_members}
use Rattle.sig_json.specs.Find.{get_member}
use Rattle.sig_json.proofs.Views.{get_member-put, get_member-put_other}
use Rattle.sig_json.specs.Writing.{TreeMember, put_some, members_into, object_of, IsReadAs, OptionIsRead}
use Rattle.sig_json.specs.Member.{member_of, not_null, optional, optional_or}

-- ---- a member, as the rows give it: the last row of its name whose value is there

abbrev pub over : Option Data → Option Data → Option Data
over None value = value
over (Some before) value = Some (unwrap_or value before)

abbrev pub find_from : List ℕ → Option Data → List TreeMember → Option Data
find_from name found [] = found
find_from name found (row ∷ rows) = find_from name (if bytes_eq name row.0 then over found row.1 else found) rows

abbrev pub find : List ℕ → List TreeMember → Option Data
find name rows = find_from name None rows

-- ---- as the reader finds it

over-none : (found : Option Data) → found ≡ over found None
over-none None = refl
over-none (Some d) = refl

over-some : (found : Option Data) (value : Data) → Some value ≡ over found (Some value)
over-some None value = refl
over-some (Some d) value = refl

get_member-put_same : (name k : List ℕ) (value : Option Data) (ms : Members) → name ≡ k
    → get_member name (put_some k value ms) ≡ over (get_member name ms) value
get_member-put_same name k None ms same = over-none (get_member name ms)
get_member-put_same name k (Some d) ms same = rw same (get_member-put k d ms ∙ over-some (get_member k ms) d)

get_member-put_none : (name k : List ℕ) (value : Option Data) (ms : Members) → (name ≡ k → ⊥)
    → get_member name (put_some k value ms) ≡ get_member name ms
get_member-put_none name k None ms other = refl
get_member-put_none name k (Some d) ms other = get_member-put_other name k d ms other

get_member-put_some : (name k : List ℕ) (value : Option Data) (ms : Members)
    → get_member name (put_some k value ms) ≡ (if bytes_eq name k then over (get_member name ms) value
    else get_member name ms)
get_member-put_some name k value ms =
    elim (cases_Bool (bytes_eq name k)) [
      | inl same ↦ rw same (get_member-put_same name k value ms ((bytes_eq-Decides name k).0 same))
      | inr other ↦ rw other (get_member-put_none name k value ms
          (λ e. let same : bytes_eq name k ≡ true = (bytes_eq-Decides name k).1 e in cc))
    ]

get_member-rows : (name : List ℕ) (ms : Members) (rows : List TreeMember)
    → get_member name (members_into ms rows) ≡ find_from name (get_member name ms) rows
get_member-rows name ms [] = refl
get_member-rows name ms (row ∷ rows) =
    get_member-rows name (put_some row.0 row.1 ms) rows ∙ ap (λ found. find_from name found rows)
    (get_member-put_some name row.0 row.1 ms)

member_of-object_of : (name : List ℕ) (rows : List TreeMember)
    → member_of name (object_of rows) ≡ Some (find name rows >>= not_null)
unfolding member_of
member_of-object_of name rows = ap (λ found. Some (found >>= not_null)) (get_member-rows name no_members rows)

-- a member that is there
pub found : {A : Type 0} → (absent : A) (kind : Data → Option A) (name : List ℕ) (rows : List TreeMember) (d : Data)
    (x : A)
    → find name rows ≡ Some d → IsReadAs kind d x → optional_or absent kind name (object_of rows) ≡ Some x
unfolding optional_or
found absent kind name rows d x there back = rw (member_of-object_of name rows, there, back.1, back.0) refl

-- a member that may be absent
pub found_option : {A : Type 0}
    → (kind : Data → Option A) (written : A → Data) (name : List ℕ) (rows : List TreeMember) (o : Option A)
    → find name rows ≡ option_map written o → OptionIsRead kind written o
    → optional kind name (object_of rows) ≡ Some o
unfolding optional_or
found_option kind written name rows None there back = rw (member_of-object_of name rows, there) refl
found_option kind written name rows (Some x) there back =
    rw (member_of-object_of name rows, there, back.1, back.0) refl
