-- The rows of a member table: a name, a kind, and whether the member is required. Null is the same as absent.
use Rattle.std.specs.Prelude.{ℕ, ℤ, pos, List, [], ◌∷◌, Option, Some, None, option_map, is_some, if◌then◌else◌}
use Rattle.sig_base.specs.OptionSteps.{◌>>=◌}
use Rattle.serde_json.specs.Data.{Data}
use Rattle.serde_json.specs.Find.{get, as_null, as_object}
use Rattle.sig_json.specs.Kinds.{text_of, bytes_of, hash_of, u64_of, i64_of}
use Rattle.sig_json.specs.List.{list_of}

-- the value, unless it is null
abbrev pub not_null : Data → Option Data
not_null d = if is_some (as_null d) then None else Some d

-- the member of an object, `None` where it is absent or null; nothing where the value is not an object
unfoldable pub member_of : List ℕ → Data → Option (Option Data)
member_of name d = as_object d >>= λ _. Some (get name d >>= not_null)

-- what is there has to be of the kind, and what is absent means `absent`
abbrev pub there_or : {A : Type 0} → Option A → (Data → Option A) → Option Data → Option A
there_or absent kind None = absent
there_or absent kind (Some d) = kind d

-- a required member: its value under the kind
unfoldable pub required : {A : Type 0} → (Data → Option A) → List ℕ → Data → Option A
required kind name d = member_of name d >>= there_or None kind

-- an optional member, which means `absent` where it is absent or null
unfoldable pub optional_or : {A : Type 0} → A → (Data → Option A) → List ℕ → Data → Option A
optional_or absent kind name d = member_of name d >>= there_or (Some absent) kind

-- an optional member that may be none
abbrev pub optional : {A : Type 0} → (Data → Option A) → List ℕ → Data → Option (Option A)
optional kind = optional_or None (λ d. option_map Some (kind d))

-- every element of a list under one kind; a null is an element as any other
abbrev pub each : {A : Type 0} → (Data → Option A) → List Data → Option (List A)
each kind [] = Some []
each kind (d ∷ ds) = kind d >>= λ x. each kind ds >>= λ xs. Some (x ∷ xs)

-- a list whose elements are of one kind
unfoldable pub list_each : {A : Type 0} → (Data → Option A) → Data → Option (List A)
list_each kind d = list_of d >>= each kind

abbrev pub required_text : List ℕ → Data → Option (List ℕ)
required_text = required text_of

abbrev pub required_bytes : List ℕ → Data → Option (List ℕ)
required_bytes = required bytes_of

abbrev pub required_hash : List ℕ → Data → Option (List ℕ)
required_hash = required hash_of

abbrev pub required_u64 : List ℕ → Data → Option ℕ
required_u64 = required u64_of

abbrev pub required_i64 : List ℕ → Data → Option ℤ
required_i64 = required i64_of

abbrev pub optional_text : List ℕ → Data → Option (List ℕ)
optional_text = optional_or [] text_of

abbrev pub optional_bytes : List ℕ → Data → Option (List ℕ)
optional_bytes = optional_or [] bytes_of

abbrev pub optional_u64 : List ℕ → Data → Option ℕ
optional_u64 = optional_or 0 u64_of

abbrev pub optional_i64 : List ℕ → Data → Option ℤ
optional_i64 = optional_or (pos 0) i64_of

abbrev pub required_list : {A : Type 0} → (Data → Option A) → List ℕ → Data → Option (List A)
required_list kind = required (list_each kind)

abbrev pub optional_list : {A : Type 0} → (Data → Option A) → List ℕ → Data → Option (List A)
optional_list kind = optional_or [] (list_each kind)
