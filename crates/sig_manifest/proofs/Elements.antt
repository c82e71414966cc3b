-- A list of rules, read item by item: what is read so far, and what is left.
use Rattle.std.proofs.Common.{◌≡◌, ℕ, zero, suc, ◌+◌, ◌<◌, ◌≤◌, List, [], ◌∷◌, ◌++◌, length, drop, Option, Some, None}
use Rattle.std.proofs.Common.{option_map, refl, sym, ap, subst, ◌∙◌, append_assoc, append-nil, arith, add-one}
use Rattle.std.proofs.lemmas.List.{at_drop_all}
use Rattle.sig_base.specs.OptionSteps.{◌>>=◌}
use Rattle.sig_json.specs.Find.{at, get_item}
use Rattle.sig_json.specs.Data.{Data, null, boolean, number, string, array, object, Items, no_items, item}
use Rattle.sig_json.specs.List.{items_list, list_of}
use Rattle.sig_json.specs.Member.{each, list_each}
use Rattle.sig_manifest.specs.Formula.{Formula}
use Rattle.sig_manifest.specs.RuleTable.{rules_in, some_rules}

abbrev or_no_list : Option (List Data) → List Data
or_no_list None = []
or_no_list (Some ds) = ds

-- the elements of a list; none of another value
abbrev pub elements_of : Data → List Data
elements_of d = or_no_list (list_of d)

-- what is read so far, and after it what is left
abbrev pub read_with : (Data → Option Formula) → List Formula → List Data → Option (List Formula)
read_with kind done left = each kind left >>= λ rest. Some (done ++ rest)

-- ---- an item

left-item : (ds : Items) (i : ℕ) (x : Data) → get_item i ds ≡ Some x
    → drop i (items_list ds) ≡ x ∷ drop (i + 1) (items_list ds)
left-item no_items i x is = cc
left-item (item d ds) zero x is = let e : d ≡ x = cc in ap (λ y. y ∷ items_list ds) e
left-item (item d ds) (suc i) x is =
    let rest = left-item ds i x is in
    rw (add-one (suc i)) (rest ∙ ap (λ n. x ∷ drop n (items_list ds)) (add-one i))

left-at : (d : Data) (i : ℕ) (x : Data) → at i d ≡ Some x → drop i (elements_of d) ≡ x ∷ drop (i + 1) (elements_of d)
left-at null i x is = cc
left-at (boolean b) i x is = cc
left-at (number n) i x is = cc
left-at (string s) i x is = cc
left-at (array ds) i x is = left-item ds i x is
left-at (object ms) i x is = cc

item-there : (ds : Items) (i : ℕ) → i < length (items_list ds) → ¬ (None ≡ get_item i ds)
item-there no_items i below is = omega arith
item-there (item d ds) zero below is = cc
item-there (item d ds) (suc i) below is = item-there ds i (omega arith) is

-- an item below the length is there
pub at-there : (d : Data) (i n : ℕ) → Some n ≡ option_map length (list_of d) → i < n → None ≡ at i d → ⊥
at-there null i n long below is = cc
at-there (boolean b) i n long below is = cc
at-there (number b) i n long below is = cc
at-there (string s) i n long below is = cc
at-there (array ds) i n long below is =
    let e : n ≡ length (items_list ds) = cc in
    item-there ds i (omega (arith, e, below)) is
at-there (object ms) i n long below is = cc

-- ---- all items

some_is : (a b : ℕ) → Some a ≡ Some b → a ≡ b
some_is a b e = cc

drop-past : (ds : List Data) (i : ℕ) → length ds ≤ i → drop i ds ≡ []
drop-past ds i past = at_drop_all (λ l. l) ds i past

module _ (kind : Data → Option Formula) where
  nothing_before : (found : Option (List Formula)) → found ≡ (found >>= λ rest. Some ([] ++ rest))
  nothing_before None = refl
  nothing_before (Some rest) = refl

  one_more : (done : List Formula) (x : Formula) (found : Option (List Formula))
      → (found >>= (λ xs. Some (x ∷ xs)) >>= λ rest. Some (done ++ rest))
      ≡ (found >>= λ rest. Some ((done ++ x ∷ []) ++ rest))
  one_more done x None = refl
  one_more done x (Some rest) = ap Some (sym (append_assoc done (x ∷ []) rest))

  pub items-start : (d : Data) (done : List Formula) → done ≡ []
      → each kind (elements_of d) ≡ read_with kind done (drop 0 (elements_of d))
  items-start d done none = rw none (nothing_before (each kind (elements_of d)))

  pub items-more : (d : Data) (i : ℕ) (x : Data) (f : Formula) (done after : List Formula)
      → Some x ≡ at i d → kind x ≡ Some f → after ≡ done ++ f ∷ []
      → each kind (elements_of d) ≡ read_with kind done (drop i (elements_of d))
      → each kind (elements_of d) ≡ read_with kind after (drop (i + 1) (elements_of d))
  items-more d i x f done after is read pushed so_far =
      so_far ∙ rw (left-at d i x (sym is), read, pushed)
      (one_more done f (each kind (drop (i + 1) (elements_of d))))

  -- of a list, its elements decide
  list-elements : (d : Data) (n : ℕ) → Some n ≡ option_map length (list_of d)
      → list_each kind d ≡ each kind (elements_of d)
  unfolding list_each
  list-elements d n long = by_list (list_of d) long where
    by_list : (found : Option (List Data)) → Some n ≡ option_map length found
        → (found >>= each kind) ≡ each kind (or_no_list found)
    by_list None long = cc
    by_list (Some ds) long = refl

  pub items-refused : (d : Data) (n i : ℕ) (x : Data) (done : List Formula)
      → Some n ≡ option_map length (list_of d) → Some x ≡ at i d → kind x ≡ None
      → each kind (elements_of d) ≡ read_with kind done (drop i (elements_of d))
      → rules_in kind d ≡ None
  unfolding rules_in
  items-refused d n i x done long is refused so_far =
      let none : each kind (elements_of d) ≡ None = so_far ∙ rw (left-at d i x (sym is), refused) refl in
      rw (list-elements d n long, none) refl

  pub items-no_list : (d : Data) → None ≡ option_map length (list_of d) → rules_in kind d ≡ None
  unfolding rules_in list_each
  items-no_list d none = by_list (list_of d) none where
    by_list : (found : Option (List Data)) → None ≡ option_map length found
        → (found >>= each kind >>= some_rules) ≡ None
    by_list None none = refl
    by_list (Some ds) none = cc

  pub items-empty : (d : Data) → Some 0 ≡ option_map length (list_of d) → rules_in kind d ≡ None
  unfolding rules_in list_each
  items-empty d empty = by_list (list_of d) empty where
    by_list : (found : Option (List Data)) → Some 0 ≡ option_map length found
        → (found >>= each kind >>= some_rules) ≡ None
    by_list None none = refl
    by_list (Some []) none = refl
    by_list (Some (x ∷ ds)) none = absurd (omega (arith, some_is 0 (suc (length ds)) none))

  some-read : (x : Data) (ds : List Data) (done : List Formula) → each kind (x ∷ ds) ≡ Some done
      → some_rules done ≡ Some done
  some-read x ds [] read = absurd (by_first (kind x) (each kind ds) read) where
    by_first : (first : Option Formula) (rest : Option (List Formula))
        → (first >>= λ f. rest >>= λ fs. Some (f ∷ fs)) ≡ Some [] → ⊥
    by_first None rest e = cc
    by_first (Some f) None e = cc
    by_first (Some f) (Some fs) e = cc
  some-read x ds (f ∷ fs) read = refl

  pub items-end : (d : Data) (n i : ℕ) (done : List Formula)
      → Some n ≡ option_map length (list_of d) → ¬ (n ≡ 0) → n ≤ i
      → each kind (elements_of d) ≡ read_with kind done (drop i (elements_of d))
      → rules_in kind d ≡ Some done
  unfolding rules_in list_each
  items-end d n i done long some end so_far = by_list (list_of d) long so_far where
    all_left : (ds : List Data) → length ds ≤ i → read_with kind done (drop i ds) ≡ Some done
    all_left ds past = rw (drop-past ds i past) (ap Some (append-nil done))

    by_list : (found : Option (List Data)) → Some n ≡ option_map length found
        → each kind (or_no_list found) ≡ read_with kind done (drop i (or_no_list found))
        → (found >>= each kind >>= some_rules) ≡ Some done
    by_list None long so_far = cc
    by_list (Some []) long so_far = absurd (some (some_is n 0 long))
    by_list (Some (x ∷ ds)) long so_far =
        let read : each kind (x ∷ ds) ≡ Some done =
        so_far ∙ all_left (x ∷ ds) (omega (arith, end, some_is n (length (x ∷ ds)) long)) in
        rw read (some-read x ds done read)

pub ruleset elements = (items-start, items-more, items-refused, items-no_list, items-empty, items-end, at-there)
