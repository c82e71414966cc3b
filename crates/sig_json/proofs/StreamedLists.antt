-- A list that is read as it comes: its elements, an object of whose members one is the list, and the text that it is.
use Rattle.std.proofs.Common.{◌≡◌, ◌||◌, ℕ, zero, suc, ◌-◌, ◌<◌, Bool, true, false, true≢false, List, [], ◌∷◌, ◌++◌, length, map}
use Rattle.std.proofs.Common.{Option, Some, None, option_map, Vec, Global, refl, inl, inr, sym, ap, subst, ◌∙◌, arith}
use Rattle.std.proofs.Common.{Ok, Err, append-nil, append_assoc}
use Rattle.std.proofs.lemmas.Bool.{not_from_false, or_parts}
use Rattle.std.specs.Prelude.{not}
use Rattle.std.proofs.lemmas.List.{map-append}
use Rattle.std.proofs.lemmas.Slice.Eq.{bytes_eq-Decides}
use Rattle.std.specs.Str.{IsUtf8, bytes_eq}
use Rattle.json.proofs.Grammar.{value_is, value-begin_object, read_key-shorter, after_end_array-shorter}
use Rattle.json.specs.Json.{value, after_end_array, read_key}
use Rattle.json.specs.Lex.{tokens}
use Rattle.json.specs.Reads.{token_of}
use Rattle.json.specs.Token.{Token}
use Rattle.json.specs.declared.token.Token.TheVariants as code
use Rattle.json.specs.declared.token.Token.{Token as Word}
use Rattle.serde_json.proofs.Views.{get_member-put, get_member-put_other}
use Rattle.serde_json.specs.Data.{Num, Data, null, boolean, number, string, array, object, Items, no_items, item, Members}
use Rattle.serde_json.specs.Data.{no_members, put}
use Rattle.serde_json.specs.Find.{get_member}
use Rattle.serde_json.specs.Read.{max_depth, number_of, of_json, converted, read}
use Rattle.serde_json.specs.Written.{has_float, members_have_float}
use Rattle.sig_base.specs.OptionSteps.{◌>>=◌}
use Rattle.sig_json.proofs.KeptMembers.{KeptAt, at_start, at_same, at_more, at_end, at_part, at_named, kept_refused}
use Rattle.sig_json.proofs.KeptReading.{float-where}
use Rattle.sig_json.proofs.NamedMembers.{floatless-both, get_member-where}
use Rattle.sig_json.proofs.DocumentSteps.{document_of-float, document_of-not_utf8, document_of-read, document_of-unread}
use Rattle.sig_json.proofs.NotedMembers.{each_of_none, floats_of}
use Rattle.sig_json.proofs.SkippedValues.{ListAt, list_at_start, list_at_step, list_at_end, list_at_fault, or_none}
use Rattle.sig_json.proofs.SkippedValues.{array_is, object_is, number_none}
use Rattle.sig_json.proofs.TokenConversions.{member_refused, key_refused}
use Rattle.sig_json.proofs.Tokens.{Means, array_refused, array_too_deep, object_refused, object_too_deep}
use Rattle.sig_json.proofs.Tokens.{nothing_means_nothing}
use Rattle.sig_json.proofs.Tokens.{text_read, text_and_more, text_refused}
use Rattle.sig_json.proofs.Trees.{view-Object}
use Rattle.sig_json.specs.Document.{document_of}
use Rattle.sig_json.specs.Gathered.{Entry, AreInOrderIfFew, gathered}
use Rattle.sig_json.specs.List.{items_list}
use Rattle.sig_json.specs.Member.{each, list_each, optional_list, optional_or, member_of}
use Rattle.sig_json.specs.NamedTree.{NamesAscend, HasNamedValues}
use Rattle.sig_json.specs.Noted.{NotesOneMore, Tells, passes}
use Rattle.sig_json.specs.Only.{is_among, members_where, only}
use Rattle.sig_json.specs.OrMember.{or_member}
use Rattle.sig_json.specs.Record.{record_in, members_and_list}
use Rattle.sig_json.specs.Skipped.{PassesValue, TakesValue, others_of, value_meant, items_meant, members_meant}
use Rattle.sig_json.specs.Streamed.{StreamsElement, StreamsItems, StreamsList, StreamsMembers, StreamsOf}
use Rattle.sig_json.specs.Streamed.{listed_in, with_element}
use Rattle.sig_json.specs.View.{view, members_view}
use Rattle.sig_json.specs.declared.error.JsonError.TheVariants.{Float, NotJson, Member}
use Rattle.sig_json.specs.declared.error.MemberError.TheVariants as member
use Rattle.sig_json.specs.declared.notes.Notes.{Notes}
use Rattle.sig_json.specs.declared.tree.Tree.{Object}

-- ---- one element

-- once there is none, values are passed over
pub element_passed : {A X : Type 0} (kind : Data → Option A) (seen : X → A) (float : Bool) (depth : ℕ)
    (ts rest : List Token) (found : Option (List X)) → found ≡ None → PassesValue float depth ts rest
    → StreamsElement kind float depth ts rest (option_map (map seen) found) None
element_passed kind seen float depth ts rest found none passed =
    rw none (record { passed = passed; read = λ free. refl })

pub element_float : {A : Type 0} (kind : Data → Option A) (depth : ℕ) (ts rest : List Token) (d : Data)
    (before after : Option (List A)) → Means depth ts rest d → has_float d ≡ true
    → StreamsElement kind true depth ts rest before after
element_float kind depth ts rest d before after means float =
    record { passed = record { value = d; is = means; held = float }; read = λ never. absurd (true≢false never) }

pub element_read : {A X : Type 0} (kind : Data → Option A) (seen : X → A) (depth : ℕ) (ts rest : List Token)
    (d : Data) (found : Option (List X)) (xs : List X) (after : Option (List A)) → found ≡ Some xs
    → Means depth ts rest d → has_float d ≡ false → after ≡ with_element (kind d) (Some (map seen xs))
    → StreamsElement kind false depth ts rest (option_map (map seen) found) after
element_read kind seen depth ts rest d found xs after some means whole is =
    rw some (record { passed = record { value = d; is = means; held = whole }; read = λ free. is })

pub ruleset element_streamed = (element_passed, element_float, element_read)

pub element_more : {A X : Type 0} (found : Option A) (seen : X → A) (xs more : List X) (x : X)
    → or_member found ≡ Ok (seen x) → more ≡ xs ++ x ∷ []
    → Some (map seen more) ≡ with_element found (Some (map seen xs))
element_more None seen xs more x read pushed = absurd cc
element_more (Some a) seen xs more x read pushed =
    let same : a ≡ seen x = cc in
    ap (λ ys. Some (map seen ys)) pushed ∙ ap Some (map-append seen xs (x ∷ []))
    ∙ ap (λ one. Some (map seen xs ++ one ∷ [])) (sym same)

pub element_none : {A : Type 0} (found : Option A) (xs : List A) → or_member found ≡ Err member.Member
    → None ≡ with_element found (Some xs)
element_none None xs refused = refl
element_none (Some a) xs refused = absurd cc

pub ruleset element_added = (element_more, element_none)

-- ---- a list so far

-- the elements so far, and after them those that the tokens that are left mean
pub record ItemsSoFar {A : Type 0} (kind : Data → Option A) (float : Bool) (depth : ℕ) (start left : List Token)
    (done : Option (List A)) : Type 0 where
  pub behind : Items → Items
  pub at : ListAt float depth start left behind
  pub read : float ≡ false → (ds : Items)
      → each kind (items_list (behind ds)) ≡ (done >>= λ xs. option_map (λ ys. xs ++ ys) (each kind (items_list ds)))

as_found : {A : Type 0} (found : Option (List A)) → found ≡ option_map (λ ys. [] ++ ys) found
as_found None = refl
as_found (Some xs) = refl

pub items_start : {A X : Type 0} (kind : Data → Option A) (seen : X → A) (depth : ℕ) (start : List Token)
    (found : List X) → found ≡ []
    → ItemsSoFar kind false depth start start (option_map (map seen) (Some found))
items_start kind seen depth start found none =
    rw none (record {
      behind = λ ds. ds;
      at = list_at_start depth start;
      read = λ free ds. as_found (each kind (items_list ds));
    })

one_more : {A : Type 0} (done : Option (List A)) (x : Option A) (others : Option (List A))
    → (done >>= λ xs. option_map (λ ys. xs ++ ys) (x >>= λ one. others >>= λ ys. Some (one ∷ ys)))
    ≡ (with_element x done >>= λ xs. option_map (λ ys. xs ++ ys) others)
one_more None x others = refl
one_more (Some xs) None others = refl
one_more (Some xs) (Some one) None = refl
one_more (Some xs) (Some one) (Some ys) = ap Some (sym (append_assoc xs (one ∷ []) ys))

pub items_step : {A : Type 0} (kind : Data → Option A) (float met : Bool) (depth : ℕ) (start left next : List Token)
    (before after : Option (List A)) → ItemsSoFar kind float depth start left before → after_end_array left ≡ None
    → StreamsElement kind met depth left next before after → length next < length left
    → ItemsSoFar kind (float || met) depth start next after
items_step kind float met depth start left next before after so_far going streamed less =
    let d = streamed.passed.value in
    record {
      behind = λ ds. so_far.behind (item d ds);
      at = list_at_step float met depth start left next so_far.behind so_far.at going streamed.passed less;
      read = λ free ds.
          let both = or_parts float met free in
          so_far.read both.0 (item d ds) ∙ one_more before (kind d) (each kind (items_list ds))
          ∙ ap (λ done. done >>= λ xs. option_map (λ ys. xs ++ ys) (each kind (items_list ds)))
          (sym (streamed.read both.1));
    }

pub items_fault : {A : Type 0} (kind : Data → Option A) (float : Bool) (depth : ℕ) (start left : List Token)
    (done : Option (List A)) → ItemsSoFar kind float depth start left done → after_end_array left ≡ None
    → value_meant depth left ≡ None → items_meant depth start ≡ None
items_fault kind float depth start left before so_far = list_at_fault float depth start left so_far.behind so_far.at

all_found : {A : Type 0} (done : Option (List A)) → (done >>= λ xs. Some (xs ++ [])) ≡ done
all_found None = refl
all_found (Some xs) = ap Some (append-nil xs)

pub items_end : {A : Type 0} (kind : Data → Option A) (float : Bool) (depth : ℕ) (start left rest : List Token)
    (done : Option (List A)) → ItemsSoFar kind float depth start left done → after_end_array left ≡ Some rest
    → StreamsItems kind float depth start rest done
items_end kind float depth start left rest done so_far end =
    record {
      passed = record {
        items = so_far.behind no_items;
        are = list_at_end float depth start left rest so_far.behind so_far.at end;
        held = so_far.at.held no_items ∙ or_none float;
      };
      read = λ free. so_far.read free no_items ∙ all_found done;
    }

pub ruleset items = (items_start, items_step, items_fault, items_end, after_end_array-shorter)

-- ---- the list

pub list_of_items : {A : Type 0} (kind : Data → Option A) (float : Bool) (depth : ℕ) (ts inner rest : List Token)
    (found : Option (List A)) → 0 < depth → ts ≡ Token.begin_array ∷ inner
    → StreamsItems kind float (depth - 1) inner rest found → StreamsList kind float depth ts rest found
unfolding list_each
list_of_items kind float depth ts inner rest found some is streamed =
    record {
      passed = record {
        value = array streamed.passed.items;
        is = array_is depth ts inner rest streamed.passed.items some is streamed.passed.are;
        held = streamed.passed.held;
      };
      read = streamed.read;
    }

pub list_null : {A X : Type 0} (kind : Data → Option A) (seen : X → A) (depth : ℕ) (ts rest : List Token)
    (found : List X) → ts ≡ Token.null ∷ rest → found ≡ []
    → StreamsList kind false depth ts rest (option_map (map seen) (Some found))
list_null kind seen depth ts rest found is none =
    rw none (record {
      passed = record { value = null; is = rw (is, value_is depth (Token.null ∷ rest)) refl; held = refl };
      read = λ free. refl;
    })

abbrev value_of : Option (Data × List Token) → Data
value_of None = null
value_of (Some p) = p.0

-- the value of another token is neither a list nor null
module _ {A : Type 0} (kind : Data → Option A) (depth : ℕ) (ts rest : List Token) (d : Data) where
  no_meaning : (us : List Token) → value_meant depth us ≡ None → value_meant depth us ≡ Some (d, rest)
      → listed_in kind (Some d) ≡ None
  no_meaning us none is = let never = sym none ∙ is in absurd cc

  no_value : (us : List Token) → value depth us ≡ None → value_meant depth us ≡ Some (d, rest)
      → listed_in kind (Some d) ≡ None
  no_value us none is = no_meaning us (ap (converted of_json) none) is

  of_number : (s : List ℕ) (n : Option Num) → number_of s ≡ n
      → value_meant depth (Token.number s ∷ ts) ≡ Some (d, rest) → listed_in kind (Some d) ≡ None
  unfolding list_each
  of_number s None number_is is = no_meaning (Token.number s ∷ ts) (number_none depth (Token.number s ∷ ts) ts s refl number_is) is
  of_number s (Some n) number_is is =
      let read : value_meant depth (Token.number s ∷ ts) ≡ Some (number n, ts) =
      rw (value_is depth (Token.number s ∷ ts), number_is) refl in
      let same : number n ≡ d = ap value_of (sym read ∙ is) in rw (← same) refl

  of_object : (found : Option (Members × List Token)) → 0 < depth → members_meant (depth - 1) ts ≡ found
      → value_meant depth (Token.begin_object ∷ ts) ≡ Some (d, rest) → listed_in kind (Some d) ≡ None
  unfolding list_each
  of_object None some members_are is =
      no_meaning (Token.begin_object ∷ ts) (object_refused depth (Token.begin_object ∷ ts) ts some refl members_are) is
  of_object (Some (ms, inner)) some members_are is =
      let read = object_is depth (Token.begin_object ∷ ts) ts inner ms some refl members_are in
      let same : object ms ≡ d = ap value_of (sym read ∙ is) in rw (← same) refl

  at_depth : (n : ℕ) → depth ≡ n → value_meant depth (Token.begin_object ∷ ts) ≡ Some (d, rest)
      → listed_in kind (Some d) ≡ None
  at_depth zero none is =
      no_meaning (Token.begin_object ∷ ts) (object_too_deep depth (Token.begin_object ∷ ts) ts none refl) is
  at_depth (suc n) some is = of_object (members_meant (depth - 1) ts) (omega (arith, some)) refl is

  another : (token : Word) → (token ≡ code.BeginArray → ⊥) → (token ≡ code.Null → ⊥)
      → value_meant depth (token_of token ∷ ts) ≡ Some (d, rest) → listed_in kind (Some d) ≡ None
  unfolding list_each
  another code.BeginArray other full is = absurd (other refl)
  another code.Null other full is = absurd (full refl)
  another (code.String s) other full is =
      let read : value_meant depth (Token.string s.now ∷ ts) ≡ Some (string s.now, ts) =
      rw (value_is depth (Token.string s.now ∷ ts)) refl in
      let same : string s.now ≡ d = ap value_of (sym read ∙ is) in rw (← same) refl
  another (code.Bool b) other full is =
      let read : value_meant depth (Token.boolean b ∷ ts) ≡ Some (boolean b, ts) =
      rw (value_is depth (Token.boolean b ∷ ts)) refl in
      let same : boolean b ≡ d = ap value_of (sym read ∙ is) in rw (← same) refl
  another (code.Number s) other full is = of_number s.now (number_of s.now) refl is
  another code.BeginObject other full is = at_depth depth refl is
  another code.EndObject other full is =
      no_value (Token.end_object ∷ ts) (rw (value_is depth (Token.end_object ∷ ts)) refl) is
  another code.EndArray other full is =
      no_value (Token.end_array ∷ ts) (rw (value_is depth (Token.end_array ∷ ts)) refl) is
  another (code.Key s) other full is =
      no_value (Token.key s.now ∷ ts) (rw (value_is depth (Token.key s.now ∷ ts)) refl) is
  another code.Bad other full is =
      no_value (Token.bad ∷ ts) (rw (value_is depth (Token.bad ∷ ts)) refl) is

pub list_other : {A : Type 0} (kind : Data → Option A) (float : Bool) (depth : ℕ) (token : Word)
    (ts inner rest : List Token) → (token ≡ code.BeginArray → ⊥) → (token ≡ code.Null → ⊥)
    → ts ≡ token_of token ∷ inner → PassesValue float depth (token_of token ∷ inner) rest
    → StreamsList kind float depth ts rest None
list_other kind float depth token ts inner rest other full is passed =
    rw is (record {
      passed = passed;
      read = λ free. another kind depth inner rest passed.value token other full passed.is;
    })

pub ruleset list_streamed = (list_of_items, list_null, array_refused, array_too_deep, nothing_means_nothing)

-- ---- members so far

-- the members so far, of which one may be the list
pub record PartsSoFar {A : Type 0} (kind : Data → Option A) (names : List (List ℕ)) (list : List ℕ) (depth : ℕ)
    (start left : List Token) (found : List Entry) (notes : Notes) (xs : Option (List A)) : Type 0 where
  pub all : Members
  pub at : KeptAt names depth start left all found notes
  pub listed : passes has_float (get_member list all) ≡ false → listed_in kind (get_member list all) ≡ xs

pub parts_start : {A X : Type 0} (kind : Data → Option A) (seen : X → A) (names : List (List ℕ)) (list : List ℕ)
    (depth : ℕ) (start : List Token) (found : List Entry) (notes : Notes) (elements : List X) → found ≡ []
    → notes.noted.items ≡ [] → elements ≡ []
    → PartsSoFar kind names list depth start start found notes (option_map (map seen) (Some elements))
parts_start kind seen names list depth start found notes elements none no_notes no_elements =
    record {
      all = no_members;
      at = at_start names depth start found notes none no_notes;
      listed = λ free. ap (λ xs. Some (map seen xs)) (sym no_elements);
    }

pub parts_few : {A : Type 0} (kind : Data → Option A) (names : List (List ℕ)) (list : List ℕ) (depth : ℕ)
    (start left : List Token) (found : List Entry) (notes : Notes) (xs : Option (List A))
    → PartsSoFar kind names list depth start left found notes xs → AreInOrderIfFew notes.noted.items
parts_few kind names list depth start left found notes xs so_far = so_far.at.noted.few

-- another name than the list's
apart_of : (k list : List ℕ) → bytes_eq k list ≡ false → list ≡ k → ⊥
apart_of k list other same =
    let is : bytes_eq k list ≡ true = (bytes_eq-Decides k list).1 (sym same) in
    true≢false (sym is ∙ other)

module _ {A : Type 0} (kind : Data → Option A) (names : List (List ℕ)) (list : List ℕ) (depth : ℕ)
    (start left inner next : List Token) (k : List ℕ) (key : read_key left ≡ Some (Some k, inner))
    (less : length next < length inner) (found : List Entry) (notes : Notes) (xs : Option (List A))
    (so_far : PartsSoFar kind names list depth start left found notes xs) where
  -- what is listed stays where a member of another name goes in
  listed_still : (d : Data) → bytes_eq k list ≡ false
      → passes has_float (get_member list (put k d so_far.all)) ≡ false
      → listed_in kind (get_member list (put k d so_far.all)) ≡ xs
  listed_still d other free =
      let stays = get_member-put_other list k d so_far.all (apart_of k list other) in
      ap (listed_in kind) stays ∙ so_far.listed (ap (passes has_float) (sym stays) ∙ free)

  -- a member that is kept or passed over
  pub parts_taken : (more : List Entry) (now : Notes) → bytes_eq k list ≡ false
      → TakesValue names depth k inner next found more notes now
      → PartsSoFar kind names list depth start next more now xs
  parts_taken more now other (inl keeps) =
      subst (λ n. PartsSoFar kind names list depth start next more n xs) (sym keeps.same_notes)
      (record {
        all = put k (view keeps.value) so_far.all;
        at = at_more names depth start left inner next so_far.all found notes k so_far.at key less more keeps.key
            keeps.value keeps.listed keeps.same keeps.is keeps.named keeps.utf8 keeps.added;
        listed = listed_still (view keeps.value) other;
      })
  parts_taken more now other (inr leaves) =
      subst (λ es. PartsSoFar kind names list depth start next es now xs) (sym leaves.stays)
      (record {
        all = put k leaves.passed.value so_far.all;
        at = at_same names depth start left inner next so_far.all found notes k so_far.at key less now
            leaves.passed.value leaves.other leaves.passed.is
            (subst (λ b. NotesOneMore k b notes now) (sym leaves.passed.held) leaves.one_more);
        listed = listed_still leaves.passed.value other;
      })

  -- the list
  pub parts_list : (float : Bool) (now : Notes) (ys : Option (List A)) → bytes_eq k list ≡ true
      → is_among names list ≡ false → StreamsList kind float depth inner next ys → NotesOneMore k float notes now
      → PartsSoFar kind names list depth start next found now ys
  parts_list float now ys its unlisted streamed one_more =
      let same : k ≡ list = (bytes_eq-Decides k list).0 its in
      let d = streamed.passed.value in
      let is : get_member list (put k d so_far.all) ≡ Some d = rw (sym same) (get_member-put k d so_far.all) in
      record {
        all = put k d so_far.all;
        at = at_same names depth start left inner next so_far.all found notes k so_far.at key less now d
            (ap (is_among names) same ∙ unlisted) streamed.passed.is
            (subst (λ b. NotesOneMore k b notes now) (sym streamed.passed.held) one_more);
        listed = λ free. ap (listed_in kind) is
            ∙ streamed.read (sym streamed.passed.held ∙ sym (ap (passes has_float) is) ∙ free);
      }

module _ {A : Type 0} (kind : Data → Option A) (names : List (List ℕ)) (list : List ℕ) (depth : ℕ)
    (start left : List Token) (found : List Entry) (notes : Notes) (xs : Option (List A))
    (so_far : PartsSoFar kind names list depth start left found notes xs) where
  pub parts_key_fault : read_key left ≡ None → members_meant depth start ≡ None
  parts_key_fault none = so_far.at.meant ∙ key_refused (value depth) so_far.all so_far.at.turns left none

  pub parts_member_fault : (inner : List Token) (k : List ℕ) → read_key left ≡ Some (Some k, inner)
      → value_meant depth inner ≡ None → members_meant depth start ≡ None
  parts_member_fault inner k key none = so_far.at.meant
      ∙ member_refused (value depth) so_far.all so_far.at.turns k left inner key none

  pub parts_end : (float : Bool) (rest : List Token) (ordered : List Entry) → is_among names list ≡ false
      → read_key left ≡ Some (None, rest) → members_view ordered ≡ gathered found → Tells float notes
      → StreamsMembers kind names list float depth start rest (members_view ordered) xs
  parts_end float rest ordered unlisted end same tells =
      let part = at_part names depth start left so_far.all found notes so_far.at float ordered same tells in
      record {
        all = so_far.all;
        are = at_end names depth start left so_far.all found notes so_far.at rest end;
        parts = record {
          part = part;
          listed = λ free. so_far.listed (free_at (part.held ∙ free));
        };
      }
    where
      free_at : members_have_float (others_of names so_far.all) ≡ false
          → passes has_float (get_member list so_far.all) ≡ false
      free_at free =
          ap (passes has_float) (sym (get_member-where (λ name. not (is_among names name)) list so_far.all (not_from_false (is_among names list) unlisted)))
          ∙ each_of_none has_float (others_of names so_far.all) (floats_of (others_of names so_far.all) ∙ free) list

  pub parts_named : (ordered : List Entry) → members_view ordered ≡ gathered found
      → NamesAscend (members_view ordered) × HasNamedValues (members_view ordered)
  parts_named ordered same = at_named names depth start left so_far.all found notes so_far.at ordered same

pub ruleset parts = (
  parts_start,
  parts_few,
  parts_key_fault,
  parts_member_fault,
  parts_end,
  parts_named,
  read_key-shorter,
)

-- ---- the whole text

pub text_streamed : {A : Type 0} (kind : Data → Option A) (names : List (List ℕ)) (list : List ℕ) (float : Bool)
    (text : List ℕ) (inner : List Token) (kept : Members) (xs : Option (List A))
    → tokens text ≡ Token.begin_object ∷ inner
    → StreamsMembers kind names list float (max_depth - 1) inner [] kept xs
    → StreamsOf kind names list float text kept xs
text_streamed kind names list float text inner kept xs begins streamed =
    record {
      all = streamed.all;
      is = text_read text (object streamed.all)
          (object_is max_depth (tokens text) inner [] streamed.all (omega arith) begins streamed.are);
      parts = streamed.parts;
    }

pub streamed_and_more : {A : Type 0} (kind : Data → Option A) (names : List (List ℕ)) (list : List ℕ) (float : Bool)
    (text : List ℕ) (inner rest : List Token) (t : Token) (kept : Members) (xs : Option (List A))
    → tokens text ≡ Token.begin_object ∷ inner
    → StreamsMembers kind names list float (max_depth - 1) inner (t ∷ rest) kept xs → read text ≡ None
streamed_and_more kind names list float text inner rest t kept xs begins streamed =
    text_and_more text (object streamed.all) t rest
    (object_is max_depth (tokens text) inner (t ∷ rest) streamed.all (omega arith) begins streamed.are)

pub ruleset texts = (text_streamed, streamed_and_more, kept_refused)

-- ---- what was asked for

list_of_object : {A : Type 0} (kind : Data → Option A) (list : List ℕ) (ms : Members) (xs : Option (List A))
    → listed_in kind (get_member list ms) ≡ xs → optional_list kind list (object ms) ≡ xs
unfolding member_of optional_or
list_of_object kind list ms xs is = is

module _ {A : Type 0} (kind : Data → Option A) (names : List (List ℕ)) (list text : List ℕ) where
  pub streamed_not_utf8 : (IsUtf8 text → ⊥) → record_in (members_and_list names list kind) text ≡ Err NotJson
  unfolding record_in
  streamed_not_utf8 not_utf8 = rw (document_of-not_utf8 text not_utf8) refl

  pub streamed_unread : IsUtf8 text → read text ≡ None
      → record_in (members_and_list names list kind) text ≡ Err NotJson
  unfolding record_in
  streamed_unread utf8 none = rw (document_of-unread text utf8 none) refl

  -- a float in what was kept, or in the others, is one of the whole
  pub streamed_float : (float : Bool) (v : Vec Entry Global) (xs : Option (List A)) → IsUtf8 text
      → StreamsOf kind names list float text (members_view v.items) xs
      → has_float (view (Object v)) ≡ true → record_in (members_and_list names list kind) text ≡ Err Float
  unfolding record_in
  streamed_float float v xs utf8 streamed held =
      let kept : members_have_float (members_where (is_among names) streamed.all)
      ≡ true = ap members_have_float streamed.parts.part.are ∙ sym (ap has_float (view-Object v)) ∙ held in
      let whole = float-where (is_among names) streamed.all kept in
      rw (document_of-float text (object streamed.all) utf8 streamed.is whole) refl

  pub streamed_float_beside : (float : Bool) (kept : Members) (xs : Option (List A)) → IsUtf8 text
      → StreamsOf kind names list float text kept xs → float ≡ true
      → record_in (members_and_list names list kind) text ≡ Err Float
  unfolding record_in
  streamed_float_beside float kept xs utf8 streamed held =
      let whole = float-where (λ name. not (is_among names name)) streamed.all (streamed.parts.part.held ∙ held) in
      rw (document_of-float text (object streamed.all) utf8 streamed.is whole) refl

  module _ (float : Bool) (v : Vec Entry Global) (xs : Option (List A)) (utf8 : IsUtf8 text)
      (streamed : StreamsOf kind names list float text (members_view v.items) xs) (free : float ≡ false)
      (none : has_float (view (Object v)) ≡ false) where
    document : document_of text ≡ Ok (object streamed.all)
    document =
        let kept : members_have_float (members_where (is_among names) streamed.all)
        ≡ false = ap members_have_float streamed.parts.part.are ∙ sym (ap has_float (view-Object v)) ∙ none in
        document_of-read text (object streamed.all) utf8 streamed.is
        (floatless-both (is_among names) streamed.all kept (streamed.parts.part.held ∙ free))

    pub streamed_read : (ys : List A) → xs ≡ Some ys
        → record_in (members_and_list names list kind) text ≡ Ok (view (Object v), ys)
    unfolding only record_in
    streamed_read ys found =
        let listed = list_of_object kind list streamed.all (Some ys) (streamed.parts.listed free ∙ found) in
        let shown : only names (object streamed.all)
        ≡ view (Object v) = ap object streamed.parts.part.are ∙ sym (view-Object v) in
        rw (document, listed) (ap (λ d. Ok (d, ys)) shown)

    pub streamed_refused : xs ≡ None → record_in (members_and_list names list kind) text ≡ Err Member
    unfolding record_in
    streamed_refused nothing =
        let listed = list_of_object kind list streamed.all None (streamed.parts.listed free ∙ nothing) in
        rw (document, listed) refl

pub ruleset streamed = (
  streamed_not_utf8,
  streamed_unread,
  streamed_float,
  streamed_float_beside,
  streamed_read,
  streamed_refused,
)
