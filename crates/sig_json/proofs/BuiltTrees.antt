-- What is found in the trees that the builders make.
use Rattle.std.proofs.Common.{◌≡◌, ◌≢◌, ℕ, List, [], ◌∷◌, ◌++◌, Some, refl, ap, ◌∙◌}
use Rattle.std.specs.Option.{IsSome}
use Rattle.serde_json.proofs.Views.{get_member-put, get_member-put_other}
use Rattle.serde_json.specs.Data.{Data, null, boolean, number, string, array, object, Items, no_items, item}
use Rattle.serde_json.specs.Find.{as_object, get}
use Rattle.sig_json.specs.Builders.{items_with_last, with_last, with_member}
use Rattle.sig_json.specs.List.{items_list, list_of}

pub found_where_set : (name : List ℕ) (value tree : Data) → IsSome (as_object tree)
    → get name (with_member name value tree) ≡ Some value
found_where_set name value null is = absurd cc
found_where_set name value (boolean b) is = absurd cc
found_where_set name value (number n) is = absurd cc
found_where_set name value (string s) is = absurd cc
found_where_set name value (array ds) is = absurd cc
found_where_set name value (object ms) is = get_member-put name value ms

pub others_stay : (name other : List ℕ) (value tree : Data) → other ≢ name
    → get other (with_member name value tree) ≡ get other tree
others_stay name other value null apart = refl
others_stay name other value (boolean b) apart = refl
others_stay name other value (number n) apart = refl
others_stay name other value (string s) apart = refl
others_stay name other value (array ds) apart = refl
others_stay name other value (object ms) apart = get_member-put_other other name value ms apart

items_list-last : (ds : Items) (value : Data) → items_list (items_with_last ds value) ≡ items_list ds ++ value ∷ []
items_list-last no_items value = refl
items_list-last (item d ds) value = ap (λ rest. d ∷ rest) (items_list-last ds value)

pub added_last : (value tree : Data) (elements : List Data) → list_of tree ≡ Some elements
    → list_of (with_last value tree) ≡ Some (elements ++ value ∷ [])
added_last value null elements is = absurd cc
added_last value (boolean b) elements is = absurd cc
added_last value (number n) elements is = absurd cc
added_last value (string s) elements is = absurd cc
added_last value (array ds) elements is =
    let same : items_list ds ≡ elements = cc in
    ap Some (items_list-last ds value ∙ ap (λ front. front ++ value ∷ []) same)
added_last value (object ms) elements is = absurd cc
