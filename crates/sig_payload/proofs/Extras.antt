-- Annotations: whether there are any, and how they are moved out of a payload.
use Rattle.std.proofs.Common.{◌≡◌, ℕ, ℤ, true, false, List, [], ◌∷◌, codes, Option, Some, None, Ok, IsSome, is_some}
use Rattle.std.proofs.Common.{refl, subst}
use Rattle.sig_json.proofs.ReaderResults.{is_read}
use Rattle.sig_json.specs.Data.{Data}
use Rattle.sig_json.specs.Find.{as_null, as_object, get}
use Rattle.sig_json.specs.Kinds.{text_of}
use Rattle.sig_json.specs.Member.{member_of, optional, optional_or, required}
use Rattle.sig_json.specs.Members.{members_of}
use Rattle.sig_json.specs.NumberKinds.{i64_number_of}
use Rattle.sig_json.specs.Only.{without}
use Rattle.sig_json.specs.OrMember.{or_member}
use Rattle.sig_payload.specs.Annotations.{is_empty_extra}
use Rattle.sig_payload.specs.Signing.{optional_in, own_names, unless_null}

abbrev Named : Type 0
Named = List ℕ × Data

pub empty-none : (d : Data) → None ≡ members_of d → true ≡ is_empty_extra d
unfolding is_empty_extra
empty-none d is = rw (← is) refl

pub empty-nil : (d : Data) (ms : List Named) → Some ms ≡ members_of d → ms ≡ [] → true ≡ is_empty_extra d
unfolding is_empty_extra
empty-nil d ms is none = rw (← is, none) refl

pub empty-first : (d : Data) (ms rest : List Named) (m : Named) → Some ms ≡ members_of d → ms ≡ m ∷ rest
    → false ≡ is_empty_extra d
unfolding is_empty_extra
empty-first d ms rest m is first = rw (← is, first) refl

pub ruleset empties = (empty-none, empty-nil, empty-first)

-- ---- what is moved out of a payload

pub optional_read : (d extra : Data) (creator : Option (List ℕ)) (timestamp : Option ℤ) → false ≡ is_some (as_null d)
    → or_member (optional text_of (codes "creator") d) ≡ Ok creator
    → or_member (optional i64_number_of (codes "timestamp") d) ≡ Ok timestamp → extra ≡ without own_names d
    → or_member (unless_null optional_in d)
    ≡ Ok (Some (record { creator = creator; timestamp = timestamp; extra = extra }))
unfolding optional_in
optional_read d extra creator timestamp there first second is =
    rw (← there, is_read first, is_read second, is) refl

module _ {B : Type 0} (kind : Data → Option B) (key : List ℕ) (d : Data) (is : IsSome (as_object d)) where
  pub optional_there : (v : Data) → Some v ≡ get key d → optional kind key d ≡ unless_null kind v
  unfolding member_of optional_or
  optional_there v found =
      elim (as_object d) as (λ o. as_object d ≡ o → optional kind key d ≡ unless_null kind v) [
        | None ↦ λ none. let never = subst IsSome none is in absurd cc
        | Some ms ↦ λ some. rw (some, ← found) refl
      ] refl

  pub optional_absent : None ≡ get key d → optional kind key d ≡ Some None
  unfolding member_of optional_or
  optional_absent none =
      elim (as_object d) as (λ o. as_object d ≡ o → optional kind key d ≡ Some None) [
        | None ↦ λ no. let never = subst IsSome no is in absurd cc
        | Some ms ↦ λ some. rw (some, ← none) refl
      ] refl

pub ruleset moved = (optional_there, optional_absent)

-- a value of which a member was read is an object
pub read_of_object : {A : Type 0} (kind : Data → Option A) (name : List ℕ) (d : Data) (x : A)
    → or_member (required kind name d) ≡ Ok x → IsSome (as_object d)
unfolding member_of required
read_of_object kind name d x read =
    elim (as_object d) as (λ o. as_object d ≡ o → IsSome o) [
      | None ↦ λ none. absurd (let nothing : required kind name d ≡ None = rw none refl in cc)
      | Some ms ↦ λ some. refl
    ] refl
