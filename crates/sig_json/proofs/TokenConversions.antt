-- What tokens mean as data, where the grammar reads them as JSON and the JSON is converted: the turns of its loops.
use Rattle.std.proofs.Common.{◌≡◌, ℕ, zero, suc, ◌-◌, ◌<◌, ◌≤◌, List, [], ◌∷◌, length, Option, Some, None, option_map}
use Rattle.std.proofs.Common.{option_and_then, refl, sym, ap, ◌∙◌, arith}
use Rattle.json.proofs.Grammar.{items_end, items_more, items_fail, members_end, members_no_key, members_fail}
use Rattle.json.proofs.Grammar.{members_more}
use Rattle.json.specs.Json as json
use Rattle.json.specs.Json.{Parse, parse_map, after_end_array, read_key, items, members, if_last}
use Rattle.json.specs.Token.{Token}
use Rattle.serde_json.specs.Data.{Data, array, object, Items, no_items, item, Members, no_members, put}
use Rattle.serde_json.specs.Read.{of_json, of_items, of_members, converted}

-- ---- a conversion that gives data, or none

abbrev pub with_rest : {A : Type 0} → List Token → Option A → Option (A × List Token)
with_rest rest found = option_map (λ a. (a, rest)) found

with_rest-map : {A B : Type 0} → (f : A → B) (rest : List Token) (found : Option A)
    → with_rest rest (option_map f found) ≡ parse_map f (with_rest rest found)
with_rest-map f rest None = refl
with_rest-map f rest (Some a) = refl

abbrev either : {A : Type 0} → A → Option A → A
either a None = a
either a (Some b) = b

with_rest-some : {A : Type 0} → (rest other : List Token) (found : Option A) (a : A)
    → with_rest rest found ≡ Some (a, other) → (found ≡ Some a) × (rest ≡ other)
with_rest-some rest other None a is = absurd cc
with_rest-some rest other (Some b) a is =
    let same = ap (either (b, rest)) is in (ap (λ p. Some p.0) same, ap (λ p. p.1) same)

with_rest-none : {A : Type 0} → (rest : List Token) (found : Option A) → with_rest rest found ≡ None → found ≡ None
with_rest-none rest None is = refl
with_rest-none rest (Some b) is = absurd cc

-- the JSON that stands between
pub through : {A B : Type 0} → (f : A → Option B) (parsed : Option (A × List Token)) (b : B) (rest : List Token)
    → converted f parsed ≡ Some (b, rest) → (a : A) × (parsed ≡ Some (a, rest)) × (f a ≡ Some b)
through f None b rest is = absurd cc
through f (Some p) b rest is =
    let both = with_rest-some p.1 rest (f p.0) b is in
    (p.0, ap (λ r. Some (p.0, r)) both.1, both.0)

pub converted-array : (parsed : Option (json.Items × List Token))
    → converted of_json (parse_map json.array parsed) ≡ parse_map array (converted of_items parsed)
converted-array None = refl
converted-array (Some p) = with_rest-map array p.1 (of_items p.0)

pub converted-object : (parsed : Option (json.Members × List Token))
    → converted of_json (parse_map json.object parsed)
    ≡ parse_map object (converted (λ ms. of_members ms no_members) parsed)
converted-object None = refl
converted-object (Some p) = with_rest-map object p.1 (of_members p.0 no_members)

pub as_it_is : (parsed : Option (Items × List Token)) → parsed ≡ parse_map (λ ds. ds) parsed
as_it_is None = refl
as_it_is (Some p) = refl

-- ---- one turn of a list

item_converted : (j : json.Json) (d : Data) (others : Option (json.Items × List Token)) → of_json j ≡ Some d
    → converted of_items (parse_map (json.item j) others) ≡ parse_map (item d) (converted of_items others)
item_converted j d None is = refl
item_converted j d (Some p) is = rw is (with_rest-map (item d) p.1 (of_items p.0))

item_not_converted : (j : json.Json) (others : Option (json.Items × List Token)) → of_json j ≡ None
    → converted of_items (parse_map (json.item j) others) ≡ None
item_not_converted j None is = refl
item_not_converted j (Some p) is = rw is refl

module _ (p : Parse json.Json) where
  pub item_read : (turns : ℕ) (ts rest : List Token) (d : Data) → 0 < turns → after_end_array ts ≡ None
      → converted of_json (p ts) ≡ Some (d, rest)
      → converted of_items (items p turns ts) ≡ parse_map (item d) (converted of_items (items p (turns - 1) rest))
  item_read turns ts rest d some going is =
      let j = through of_json (p ts) d rest is in
      ap (converted of_items) (items_more p turns ts rest j.0 some going j.1) ∙ item_converted j.0 d _ j.2

  pub item_refused : (turns : ℕ) (ts : List Token) → after_end_array ts ≡ None → converted of_json (p ts) ≡ None
      → converted of_items (items p turns ts) ≡ None
  unfolding items
  item_refused zero ts going is = refl
  item_refused (suc turns) ts going is = refused (p ts) refl where
    refused : (parsed : Option (json.Json × List Token)) → p ts ≡ parsed
        → converted of_items (items p (suc turns) ts) ≡ None
    refused None parsed_is = ap (converted of_items) (items_fail p (suc turns) ts going parsed_is)
    refused (Some q) parsed_is =
        let none : of_json q.0 ≡ None =
        with_rest-none q.1 (of_json q.0) (ap (converted of_json) (sym parsed_is) ∙ is) in
        ap (converted of_items) (items_more p (suc turns) ts q.1 q.0 (omega arith) going parsed_is)
        ∙ item_not_converted q.0 _ none

  pub items_over : (turns : ℕ) (ts rest : List Token) → length ts ≤ turns → after_end_array ts ≡ Some rest
      → converted of_items (items p turns ts) ≡ Some (no_items, rest)
  items_over turns ts rest enough end = ap (converted of_items) (items_end p turns ts rest enough end)

-- ---- one turn of an object

abbrev pub into : Members → json.Members → Option Members
into old ms = of_members ms old

member_converted :
    (k : List ℕ) (j : json.Json) (d : Data) (old : Members) (others : Option (json.Members × List Token))
    → of_json j ≡ Some d
    → converted (into old) (parse_map (json.member k j) others) ≡ converted (into (put k d old)) others
member_converted k j d old None is = refl
member_converted k j d old (Some p) is = rw is refl

member_not_converted : (k : List ℕ) (j : json.Json) (old : Members) (others : Option (json.Members × List Token))
    → of_json j ≡ None → converted (into old) (parse_map (json.member k j) others) ≡ None
member_not_converted k j old None is = refl
member_not_converted k j old (Some p) is = rw is refl

module _ (p : Parse json.Json) (old : Members) where
  pub member_read : (turns : ℕ) (k : List ℕ) (ts inner rest : List Token) (d : Data) → 0 < turns
      → read_key ts ≡ Some (Some k, inner) → converted of_json (p inner) ≡ Some (d, rest)
      → converted (into old) (members p turns ts) ≡ converted (into (put k d old)) (members p (turns - 1) rest)
  member_read turns k ts inner rest d some key is =
      let j = through of_json (p inner) d rest is in
      ap (converted (into old)) (members_more p turns k ts inner rest j.0 some key j.1)
      ∙ member_converted k j.0 d old _ j.2

  pub member_refused : (turns : ℕ) (k : List ℕ) (ts inner : List Token) → read_key ts ≡ Some (Some k, inner)
      → converted of_json (p inner) ≡ None → converted (into old) (members p turns ts) ≡ None
  unfolding members
  member_refused zero k ts inner key is = refl
  member_refused (suc turns) k ts inner key is = refused (p inner) refl where
    refused : (parsed : Option (json.Json × List Token)) → p inner ≡ parsed
        → converted (into old) (members p (suc turns) ts) ≡ None
    refused None parsed_is = ap (converted (into old)) (members_fail p (suc turns) k ts inner key parsed_is)
    refused (Some q) parsed_is =
        let none : of_json q.0 ≡ None =
        with_rest-none q.1 (of_json q.0) (ap (converted of_json) (sym parsed_is) ∙ is) in
        ap (converted (into old)) (members_more p (suc turns) k ts inner q.1 q.0 (omega arith) key parsed_is)
        ∙ member_not_converted k q.0 old _ none

  pub key_refused : (turns : ℕ) (ts : List Token) → read_key ts ≡ None
      → converted (into old) (members p turns ts) ≡ None
  key_refused turns ts none = ap (converted (into old)) (members_no_key p turns ts none)

  pub members_over : (turns : ℕ) (ts rest : List Token) → length ts ≤ turns → read_key ts ≡ Some (None, rest)
      → converted (into old) (members p turns ts) ≡ Some (old, rest)
  members_over turns ts rest enough end = ap (converted (into old)) (members_end p turns ts rest enough end)

-- ---- the whole text

abbrev pub last_alone : Option (json.Json × List Token) → Option Data
last_alone parsed = option_and_then of_json (option_and_then (λ p. if_last p.0 p.1) parsed)

pub whole_read : (parsed : Option (json.Json × List Token)) (d : Data) → converted of_json parsed ≡ Some (d, [])
    → last_alone parsed ≡ Some d
whole_read parsed d is = let j = through of_json parsed d [] is in ap last_alone j.1 ∙ j.2

pub whole_and_more : (parsed : Option (json.Json × List Token)) (d : Data) (t : Token) (rest : List Token)
    → converted of_json parsed ≡ Some (d, t ∷ rest) → last_alone parsed ≡ None
whole_and_more parsed d t rest is = ap last_alone (through of_json parsed d (t ∷ rest) is).1

pub whole_refused : (parsed : Option (json.Json × List Token)) → converted of_json parsed ≡ None
    → last_alone parsed ≡ None
whole_refused None is = refl
whole_refused (Some (j, [])) is = with_rest-none [] (of_json j) is
whole_refused (Some (j, t ∷ rest)) is = refl
