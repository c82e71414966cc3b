-- Notes of members that hold a float: one more of them, and what all of them say.
use Rattle.std.proofs.Common.{◌≡◌, ℕ, ◌||◌, Bool, true, false, true≢false, List, [], ◌∷◌, Some, None, length, refl}
use Rattle.std.proofs.Common.{Result, Ok, Err, OnOk, sym, ap, ◌∙◌, arith}
use Rattle.std.proofs.lemmas.Bool.{or_from, or_parts}
use Rattle.std.proofs.lemmas.Slice.Eq.{bytes_eq-Decides}
use Rattle.std.specs.Cmp.Lexicographic.{slice_cmp}
use Rattle.std.specs.Cow.{cow_str_bytes}
use Rattle.std.specs.List.{AllByRecursion, list_any}
use Rattle.std.specs.List.Sorted.{IsStrictlySortedBy}
use Rattle.std.specs.Map.{keys_of}
use Rattle.std.specs.Ordering.{nat_cmp}
use Rattle.std.specs.Str.{bytes_eq}
use Rattle.std.specs.declared.cmp.Ordering.TheVariants.{Less}
use Rattle.serde_json.proofs.Views.{get_member-put, get_member-put_other}
use Rattle.serde_json.specs.Data.{Data, Members, no_members, member, put}
use Rattle.serde_json.specs.Find.{get_member}
use Rattle.serde_json.specs.Written.{has_float, members_have_float}
use Rattle.sig_base.specs.ByText.{KeysAscend}
use Rattle.sig_json.proofs.NamedTrees.{keys-put}
use Rattle.sig_json.proofs.NamedMembers.{put_first}
use Rattle.sig_json.proofs.OrderedMembers.{in_order-none}
use Rattle.sig_json.proofs.OrderingChoices.{holds_of_choice}
use Rattle.sig_json.proofs.Trees.{view-Bool}
use Rattle.sig_json.specs.Gathered.{Entry, AreInOrderIfFew, gathered, put_each}
use Rattle.sig_json.specs.Members.{members_list}
use Rattle.sig_json.specs.Noted.{AreNoted, NotesOneMore, Tells, passes, says}
use Rattle.sig_json.specs.View.{Words, view, members_view}
use Rattle.sig_json.specs.declared.notes.Notes.{Notes}
use Rattle.sig_json.specs.declared.tree.Tree.{Bool as Truth}

-- ---- a test of members, by their names

abbrev pub any_passes : (Data → Bool) → Members → Bool
any_passes test no_members = false
any_passes test (member k d ms) = test d || any_passes test ms

-- one more goes in
passes_put : (f g : Data → Bool) (k name : List ℕ) (s d : Data) (one other : Members) → f s ≡ g d
    → passes f (get_member name one) ≡ passes g (get_member name other)
    → passes f (get_member name (put k s one)) ≡ passes g (get_member name (put k d other))
passes_put f g k name s d one other same so_far =
    elim (bytes_eq name k) as
    (λ b. bytes_eq name k ≡ b → passes f (get_member name (put k s one)) ≡ passes g (get_member name (put k d other))) [
      | true ↦ λ is.
          let here : name ≡ k = (bytes_eq-Decides name k).0 is in
          rw here (ap (passes f) (get_member-put k s one) ∙ same ∙ sym (ap (passes g) (get_member-put k d other)))
      | false ↦ λ is.
          let apart : name ≡ k → ⊥ = λ here. true≢false (sym ((bytes_eq-Decides name k).1 here) ∙ is) in
          ap (passes f) (get_member-put_other name k s one apart) ∙ so_far
          ∙ sym (ap (passes g) (get_member-put_other name k d other apart))
    ] refl

-- no member of a name below all others
get_below : (k : List ℕ) (ms : Members)
    → AllByRecursion (λ other. slice_cmp nat_cmp k other ≡ Less) (keys_of (members_list ms)) → get_member k ms ≡ None
get_below k no_members below = refl
get_below k (member l e ms) below = rw below.0 (get_below k ms below.1)

module _ (test : Data → Bool) where
  -- none passes, one by one
  none_of_each : (ms : Members) → KeysAscend (members_list ms)
      → ((name : List ℕ) → passes test (get_member name ms) ≡ false) → any_passes test ms ≡ false
  unfolding IsStrictlySortedBy
  none_of_each no_members up none = refl
  none_of_each (member l e ms) up none =
      let first : get_member l (member l e ms) ≡ Some e =
      ap (get_member l) (sym (put_first (λ _. true) l e ms up.0)) ∙ get_member-put l e ms in
      let one : test e ≡ false = sym (ap (passes test) first) ∙ none l in
      or_from (test e) (any_passes test ms) one (none_of_each ms up.1 (rest up.0)) where
        rest : AllByRecursion (λ other. slice_cmp nat_cmp l other ≡ Less) (keys_of (members_list ms)) → (name : List ℕ)
            → passes test (get_member name ms) ≡ false
        rest below name =
            elim (bytes_eq name l) as (λ b. bytes_eq name l ≡ b → passes test (get_member name ms) ≡ false) [
              | true ↦ λ is.
                  let here : name ≡ l = (bytes_eq-Decides name l).0 is in
                  ap (passes test) (ap (λ n. get_member n ms) here ∙ get_below l ms below)
              | false ↦ λ is.
                  let apart : name ≡ l → ⊥ = λ here. true≢false (sym ((bytes_eq-Decides name l).1 here) ∙ is) in
                  ap (passes test) (sym (get_member-put_other name l e ms apart) ∙ ap (get_member name)
                  (put_first (λ _. true) l e ms below))
                  ∙ none name
            ] refl

  pub each_of_none : (ms : Members) → any_passes test ms ≡ false → (name : List ℕ)
      → passes test (get_member name ms) ≡ false
  each_of_none no_members none name = refl
  each_of_none (member k v ms) none name =
      let parts = or_parts (test v) (any_passes test ms) none in
      let rest = each_of_none ms parts.1 name in
      holds_of_choice (λ found. passes test found ≡ false) (slice_cmp nat_cmp name k) (get_member name ms) (Some v)
      (get_member name ms) rest parts.0 rest

-- where the members of each name agree, so do all
both_agree : (f g : Data → Bool) (one other : Members) → KeysAscend (members_list one)
    → KeysAscend (members_list other)
    → ((name : List ℕ) → passes f (get_member name one) ≡ passes g (get_member name other))
    → any_passes f one ≡ any_passes g other
both_agree f g one other up up_other same =
    elim (any_passes f one) as (λ b. any_passes f one ≡ b → b ≡ any_passes g other) [
      | false ↦ λ is. sym (none_of_each g other up_other (λ name. sym (same name) ∙ each_of_none f one is name))
      | true ↦ λ is. sym (
          elim (any_passes g other) as (λ b. any_passes g other ≡ b → b ≡ true) [
            | true ↦ λ so. refl
            | false ↦ λ so. absurd (true≢false (sym is
                ∙ none_of_each f one up (λ name. same name ∙ each_of_none g other so name)))
          ] refl)
    ] refl

pub floats_of : (ms : Members) → any_passes has_float ms ≡ members_have_float ms
floats_of no_members = refl
floats_of (member k d ms) = ap (λ b. has_float d || b) (floats_of ms)

said_by : (es : List Entry) → list_any (λ note. says (view note.1)) es ≡ any_passes says (members_view es)
said_by [] = refl
said_by (e ∷ es) = ap (λ b. says (view e.1) || b) (said_by es)

put_each-ascends : (es : List Entry) (ms : Members) → KeysAscend (members_list ms)
    → KeysAscend (members_list (put_each es ms))
put_each-ascends [] ms up = up
put_each-ascends (e ∷ es) ms up =
    put_each-ascends es (put (cow_str_bytes e.0) (view e.1) ms) (keys-put (cow_str_bytes e.0) (view e.1) ms up)

gathered-ascends : (es : List Entry) → KeysAscend (members_list (gathered es))
unfolding IsStrictlySortedBy
gathered-ascends es = put_each-ascends es no_members tt

-- ---- notes

pub none_noted : (notes : Notes) → notes.noted.items ≡ [] → AreNoted no_members notes
none_noted notes none =
    record {
      few = rw none (λ few. in_order-none);
      same = λ name. ap (λ es. passes says (get_member name (gathered es))) none;
    }

no_entries : (es : List Entry) → length es ≡ 0 → es ≡ []
no_entries [] none = refl
no_entries (e ∷ es) none = absurd (omega (arith, none))

-- without a note no name has a float
unsaid : (notes : Notes) → length notes.noted.items ≡ 0 → (name : List ℕ)
    → passes says (get_member name (gathered notes.noted.items)) ≡ false
unsaid notes none name =
    ap (λ es. passes says (get_member name (gathered es))) (no_entries notes.noted.items none)

-- a member without a float goes in
pub none_goes_in : (name : List ℕ) (float : Bool) (notes : Notes) → float ≡ false → length notes.noted.items ≡ 0
    → NotesOneMore name float notes notes
unfolding NotesOneMore
none_goes_in name float notes free none all d noted one =
    record { few = noted.few; same = λ at. unsaid notes none at ∙ sym (here at) }
  where
    here : (at : List ℕ) → passes has_float (get_member at (put name d all)) ≡ false
    here at =
        elim (bytes_eq at name) as
        (λ b. bytes_eq at name ≡ b → passes has_float (get_member at (put name d all)) ≡ false) [
          | true ↦ λ is.
              let same : at ≡ name = (bytes_eq-Decides at name).0 is in
              rw same (ap (passes has_float) (get_member-put name d all) ∙ one ∙ free)
          | false ↦ λ is.
              let apart : at ≡ name → ⊥ = λ same. true≢false (sym ((bytes_eq-Decides at name).1 same) ∙ is) in
              ap (passes has_float) (get_member-put_other at name d all apart) ∙ sym (noted.same at) ∙ unsaid notes none at
        ] refl

goes_in : (name : List ℕ) (float : Bool) (key : Words) (before after : Notes) → cow_str_bytes key ≡ name
    → gathered after.noted.items ≡ put (cow_str_bytes key) (view (Truth float)) (gathered before.noted.items)
    → AreInOrderIfFew after.noted.items → NotesOneMore name float before after
unfolding NotesOneMore
goes_in name float key before after named added few all d noted one =
    record {
      few = few;
      same = λ at. ap (λ ms. passes says (get_member at ms))
          (added ∙ ap (λ k. put k (view (Truth float)) (gathered before.noted.items)) named)
          ∙ passes_put says has_float name at (view (Truth float)) d (gathered before.noted.items) all
          (ap says (view-Bool float) ∙ sym one) (noted.same at);
    }

pub put_noted : {A E : Type 0} (r : Result A E) (name : List ℕ) (float : Bool) (key : Words) (before after : Notes)
    → cow_str_bytes key ≡ name
    → OnOk r (gathered after.noted.items ≡ put (cow_str_bytes key) (view (Truth float)) (gathered before.noted.items))
    → OnOk r (AreInOrderIfFew after.noted.items) → OnOk r (NotesOneMore name float before after)
put_noted (Ok done) name float key before after named added few = goes_in name float key before after named added few
put_noted (Err e) name float key before after named added few = tt

pub ruleset one_more = (none_goes_in)

pub none_tell : (notes : Notes) → length notes.noted.items ≡ 0 → Tells false notes
unfolding Tells
none_tell notes none all up noted =
    sym (floats_of all) ∙ none_of_each has_float all up
    (λ name. sym (noted.same name) ∙ unsaid notes none name)

pub some_tell : (float : Bool) (notes : Notes) (ordered : List Entry)
    → members_view ordered ≡ gathered notes.noted.items → float ≡ list_any (λ note. says (view note.1)) ordered
    → Tells float notes
unfolding Tells
some_tell float notes ordered same is all up noted =
    sym (floats_of all)
    ∙ sym (both_agree says has_float (gathered notes.noted.items) all (gathered-ascends notes.noted.items) up noted.same)
    ∙ sym (is ∙ said_by ordered ∙ ap (any_passes says) same)

pub ruleset told = (none_tell, some_tell)
