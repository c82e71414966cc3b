-- A walk over the elements of a list, by their indices.
use Rattle.std.proofs.Common.{◌≡◌, ℕ, zero, suc, ◌+◌, ◌<◌, List, [], ◌∷◌, length, drop, Option, Some, None, option_map}
use Rattle.std.proofs.Common.{unwrap_or, get_or, Ok, Err, inl, inr, refl, sym, ap, ◌∙◌, arith}
use Rattle.std.proofs.lemmas.List.{drop_more}
use Rattle.std.proofs.Math.Seq.{drop-length}
use Rattle.sig_json.specs.Data.{Data, null, boolean, number, string, array, object, Items, no_items, item}
use Rattle.sig_json.specs.Find.{at, get_item}
use Rattle.sig_json.specs.List.{items_list, list_of}
use Rattle.sig_base.specs.Answers.{OrMemory}
use Rattle.sig_base.specs.OptionSteps.{or_else}
use Rattle.sig_table.specs.Fault.{elements_fault, error_under, list_fault, or_fault, under}
use Rattle.sig_table.specs.declared.fault.MemberFault.{MemberFault}
use Rattle.sig_table.specs.declared.fault.TableError.{TableError}
use Rattle.sig_table.specs.declared.fault.TableError.TheVariants.{Fault, OutOfMemory}
use Rattle.sig_table.specs.declared.path.Step.{Step}
use Rattle.sig_table.specs.declared.path.Step.TheVariants.{Index}

-- the elements of a list, and none of any other value
abbrev pub elements_of : Data → List Data
elements_of d = unwrap_or (list_of d) []

-- how many a list has
abbrev pub count_of : Data → Option ℕ
count_of d = option_map (λ es. length es) (list_of d)

-- the element at an index is the first of those from there on
item_at : (ds : Items) (i : ℕ) → i < length (items_list ds) → get_item i ds ≡ Some (get_or (items_list ds) i null)
item_at no_items i h = absurd (omega arith)
item_at (item d ds) zero h = refl
item_at (item d ds) (suc i) h = item_at ds i (omega arith)

item_from : (ds : Items) (i : ℕ) → i < length (items_list ds)
    → (d : Data) × (get_item i ds ≡ Some d) × (drop i (items_list ds) ≡ d ∷ drop (i + 1) (items_list ds))
item_from ds i h = (get_or (items_list ds) i null, item_at ds i h, drop_more (items_list ds) i null h)

at_from : (d : Data) (count i : ℕ) → Some count ≡ count_of d → i < count
    → (e : Data) × (at i d ≡ Some e) × (drop i (elements_of d) ≡ e ∷ drop (i + 1) (elements_of d))
at_from null count i counted h = cc
at_from (boolean b) count i counted h = cc
at_from (number n) count i counted h = cc
at_from (string s) count i counted h = cc
at_from (array ds) count i counted h =
    let same : count ≡ length (items_list ds) = cc in item_from ds i (omega arith)
at_from (object ms) count i counted h = cc

pub element_there : (d : Data) (count i : ℕ) → Some count ≡ count_of d → i < count → None ≡ at i d → ⊥
element_there d count i counted h none = let found = at_from d count i counted h in let e = found.1 in cc

next_element : (d e : Data) (count i : ℕ) → Some count ≡ count_of d → i < count → Some e ≡ at i d
    → drop i (elements_of d) ≡ e ∷ drop (i + 1) (elements_of d)
next_element d e count i counted h is =
    let found = at_from d count i counted h in
    let there : at i d ≡ Some found.0 = found.1 in
    let same : found.0 ≡ e = cc in
    found.2 ∙ ap (λ x. x ∷ drop (i + 1) (elements_of d)) same

pub start_of_list : (inside : Data → Option MemberFault) (d : Data) (count : ℕ) → Some count ≡ count_of d
    → list_fault inside (list_of d) ≡ elements_fault inside 0 (drop 0 (elements_of d))
start_of_list inside null count counted = cc
start_of_list inside (boolean b) count counted = cc
start_of_list inside (number n) count counted = cc
start_of_list inside (string s) count counted = cc
start_of_list inside (array ds) count counted = refl
start_of_list inside (object ms) count counted = cc

pub end_of_list : (d : Data) (count : ℕ) → Some count ≡ count_of d → drop count (elements_of d) ≡ []
end_of_list null count counted = cc
end_of_list (boolean b) count counted = cc
end_of_list (number n) count counted = cc
end_of_list (string s) count counted = cc
end_of_list (array ds) count counted =
    let same : count ≡ length (items_list ds) = cc in rw same (drop-length (items_list ds))
end_of_list (object ms) count counted = cc

pub no_list : (d : Data) → None ≡ count_of d → list_of d ≡ None
no_list null none = refl
no_list (boolean b) none = refl
no_list (number n) none = refl
no_list (string s) none = refl
no_list (array ds) none = cc
no_list (object ms) none = refl

-- ---- an element that is sound, and one that is not

none_wrong : (found : Option MemberFault) → or_fault found ≡ Ok tt → found ≡ None
none_wrong None sound = refl
none_wrong (Some fault) sound = cc

pub element_sound : (inside : Data → Option MemberFault) (d e : Data) (count i : ℕ) → Some count ≡ count_of d
    → i < count → Some e ≡ at i d → or_fault (inside e) ≡ Ok tt
    → elements_fault inside i (drop i (elements_of d)) ≡ elements_fault inside (i + 1) (drop (i + 1) (elements_of d))
element_sound inside d e count i counted h is sound =
    rw (next_element d e count i counted h is, none_wrong (inside e) sound) refl

wrong_after : (found others : Option MemberFault) (step : Step) (error result : TableError)
    → OrMemory OutOfMemory error (or_fault found ≡ Err error)
    → OrMemory OutOfMemory result (result ≡ error_under step error)
    → OrMemory OutOfMemory result (or_fault (or_else (option_map (under step) found) others) ≡ Err result)
wrong_after found others step error result wrong (inl memory) = inl memory
wrong_after found others step error result (inl memory) (inr is) = inl (rw memory at is)
wrong_after None others step error result (inr wrong) (inr is) = cc
wrong_after (Some fault) others step error result (inr wrong) (inr is) =
    let same : error ≡ Fault fault = cc in
    let told : result ≡ Fault (under step fault) = rw same at is in
    inr (ap Err (sym told))

pub element_wrong : (inside : Data → Option MemberFault) (d e : Data) (count i : ℕ) (error result : TableError)
    (whole : Option MemberFault) → Some count ≡ count_of d → i < count → Some e ≡ at i d
    → OrMemory OutOfMemory error (or_fault (inside e) ≡ Err error)
    → OrMemory OutOfMemory result (result ≡ error_under (Index i) error)
    → whole ≡ elements_fault inside i (drop i (elements_of d))
    → OrMemory OutOfMemory result (or_fault whole ≡ Err result)
element_wrong inside d e count i error result whole counted h is wrong after so_far =
    rw (so_far, next_element d e count i counted h is)
    (wrong_after (inside e) (elements_fault inside (i + 1) (drop (i + 1) (elements_of d))) (Index i) error result wrong after)

pub ruleset elements = (element_there, element_sound, element_wrong, start_of_list, end_of_list, no_list)
