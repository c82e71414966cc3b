-- An object of whose members some are kept and the others are noted, a member at a time, and the text that it is.
use Rattle.std.proofs.Common.{◌≡◌, ℕ, ◌-◌, ◌<◌, ◌≤◌, Bool, true, false, not, List, [], ◌∷◌, ◌++◌, length, Some, None, refl, inl, inr}
use Rattle.std.proofs.Common.{sym, ap, subst, ◌∙◌, arith}
use Rattle.std.proofs.lemmas.Bool.{not_from_false, not_from_true}
use Rattle.std.specs.Cow.{cow_str_bytes}
use Rattle.std.specs.List.Sorted.{IsStrictlySortedBy}
use Rattle.std.specs.Str.{IsUtf8}
use Rattle.json.proofs.Grammar.{read_key-shorter}
use Rattle.json.specs.Json.{value, read_key}
use Rattle.json.specs.Lex.{tokens}
use Rattle.json.specs.Token.{Token}
use Rattle.serde_json.specs.Data.{Data, object, Members, no_members, member, put}
use Rattle.serde_json.specs.Read.{max_depth, read}
use Rattle.serde_json.specs.Written.{has_float}
use Rattle.sig_base.specs.ByText.{KeysAscend}
use Rattle.sig_json.proofs.TokenConversions.{member_read, member_refused, key_refused, members_over}
use Rattle.sig_json.proofs.NamedTrees.{ascend-put, keys-put, values-put}
use Rattle.sig_json.proofs.NamedMembers.{ascend_where, where_put_yes, where_put_no}
use Rattle.sig_json.proofs.NotedMembers.{none_noted}
use Rattle.sig_json.proofs.OrderedMembers.{gathered_more}
use Rattle.sig_json.proofs.SkippedValues.{object_is}
use Rattle.sig_json.proofs.Tokens.{Means, object_meant, object_refused, text_read, text_and_more, text_refused}
use Rattle.sig_json.specs.Gathered.{Entry, AreInOrderIfFew, gathered}
use Rattle.sig_json.specs.Members.{members_list}
use Rattle.sig_json.specs.NamedTree.{IsNamedTree, NamesAscend, HasNamedValues}
use Rattle.sig_json.specs.Noted.{AreNoted, NotesOneMore, Tells}
use Rattle.sig_json.specs.Only.{is_among, members_where}
use Rattle.sig_json.specs.Skipped.{PassesValue, PassesMembers, TakesValue, AreKeptMembers, KeepsMembers, KeepsOf}
use Rattle.sig_json.specs.Skipped.{others_of, value_meant, members_meant}
use Rattle.sig_json.specs.View.{Words, view, members_view}
use Rattle.sig_json.specs.declared.notes.Notes.{Notes}
use Rattle.sig_json.specs.declared.tree.Tree.{Tree}

-- ---- members so far

abbrev others : List (List ℕ) → List ℕ → Bool
others names name = not (is_among names name)

-- the object is what was read, put one after another, and what the tokens that are left put into it
pub record KeptAt (names : List (List ℕ)) (depth : ℕ) (start left : List Token) (all : Members) (found : List Entry)
    (notes : Notes) : Type 0 where
  pub turns : ℕ
  pub enough : length left ≤ turns
  pub meant : object_meant depth (length start) start no_members ≡ object_meant depth turns left all
  pub below : length left ≤ length start
  pub all_ascend : KeysAscend (members_list all)
  pub are : members_where (is_among names) all ≡ gathered found
  pub noted : AreNoted (others_of names all) notes
  pub ascend : NamesAscend (gathered found)
  pub named : HasNamedValues (gathered found)

pub at_start : (names : List (List ℕ)) (depth : ℕ) (start : List Token) (found : List Entry) (notes : Notes)
    → found ≡ [] → notes.noted.items ≡ [] → KeptAt names depth start start no_members found notes
unfolding IsStrictlySortedBy
at_start names depth start found notes none no_notes =
    rw none (record {
      turns = length start;
      enough = omega arith;
      meant = refl;
      below = omega arith;
      all_ascend = tt;
      are = refl;
      noted = none_noted notes no_notes;
      ascend = (tt, tt);
      named = tt;
    })

module _ (names : List (List ℕ)) (depth : ℕ) (start left inner next : List Token) (all : Members)
    (found : List Entry) (notes : Notes) (k : List ℕ) (so_far : KeptAt names depth start left all found notes)
    (key : read_key left ≡ Some (Some k, inner)) (less : length next < length inner) where
  -- one more, of a name that is listed
  pub at_more : (more : List Entry) (name : Words) (tree : Tree)
      → is_among names k ≡ true → cow_str_bytes name ≡ k
      → Means depth inner next (view tree) → IsNamedTree (view tree)
      → IsUtf8 (cow_str_bytes name) → more ≡ found ++ (name, tree) ∷ []
      → KeptAt names depth start next (put k (view tree) all) more notes
  at_more more name tree listed same means one utf8 pushed =
      let d = view tree in
      let within = read_key-shorter left (Some k) inner key in
      let put_in : gathered more ≡ put k d (gathered found) = rw
      (pushed, gathered_more found (name, tree) no_members, same) refl in
      let text = subst IsUtf8 same utf8 in
      record {
        turns = so_far.turns - 1;
        enough = omega (arith, so_far.enough);
        meant = so_far.meant
            ∙ member_read (value depth) all so_far.turns k left inner next d (omega (arith, so_far.enough)) key means;
        below = omega (arith, so_far.below);
        all_ascend = keys-put k d all so_far.all_ascend;
        are = where_put_yes (is_among names) k d all listed so_far.all_ascend ∙ ap (put k d) so_far.are ∙ sym put_in;
        noted = subst (λ ms. AreNoted ms notes)
            (sym (where_put_no (others names) k d all (not_from_true (is_among names k) listed))) so_far.noted;
        ascend = subst NamesAscend (sym put_in) (ascend-put k d (gathered found) text so_far.ascend);
        named = subst HasNamedValues (sym put_in) (values-put k d (gathered found) one so_far.named);
      }

  -- one more, of another name
  pub at_same : (now : Notes) (d : Data) → is_among names k ≡ false → Means depth inner next d
      → NotesOneMore k (has_float d) notes now → KeptAt names depth start next (put k d all) found now
  unfolding NotesOneMore
  at_same now d other means one_more =
      let within = read_key-shorter left (Some k) inner key in
      let goes_in = where_put_yes (others names) k d all (not_from_false (is_among names k) other) so_far.all_ascend in
      record {
        turns = so_far.turns - 1;
        enough = omega (arith, so_far.enough);
        meant = so_far.meant
            ∙ member_read (value depth) all so_far.turns k left inner next d (omega (arith, so_far.enough)) key means;
        below = omega (arith, so_far.below);
        all_ascend = keys-put k d all so_far.all_ascend;
        are = where_put_no (is_among names) k d all other ∙ so_far.are;
        noted = subst (λ ms. AreNoted ms now) (sym goes_in) (one_more (others_of names all) d so_far.noted refl);
        ascend = so_far.ascend;
        named = so_far.named;
      }

module _ (names : List (List ℕ)) (depth : ℕ) (start left : List Token) (all : Members) (found : List Entry)
    (notes : Notes) (so_far : KeptAt names depth start left all found notes) where
  pub at_end : (rest : List Token) → read_key left ≡ Some (None, rest) → members_meant depth start ≡ Some (all, rest)
  at_end rest end = so_far.meant ∙ members_over (value depth) all so_far.turns left rest so_far.enough end

  pub at_part : (float : Bool) (ordered : List Entry) → members_view ordered ≡ gathered found → Tells float notes
      → AreKeptMembers float names all (members_view ordered)
  unfolding Tells
  at_part float ordered same tells =
      record {
        are = so_far.are ∙ sym same;
        held = tells (others_of names all) (ascend_where (others names) all so_far.all_ascend) so_far.noted;
      }

  pub at_named : (ordered : List Entry) → members_view ordered ≡ gathered found
      → NamesAscend (members_view ordered) × HasNamedValues (members_view ordered)
  at_named ordered same = rw same (so_far.ascend, so_far.named)

-- ---- the same of some object

pub record KeptSoFar (names : List (List ℕ)) (depth : ℕ) (start left : List Token) (found : List Entry)
    (notes : Notes) : Type 0 where
  pub all : Members
  pub at : KeptAt names depth start left all found notes

pub kept_start : (names : List (List ℕ)) (depth : ℕ) (start : List Token) (found : List Entry) (notes : Notes)
    → found ≡ [] → notes.noted.items ≡ [] → KeptSoFar names depth start start found notes
kept_start names depth start found notes none no_notes =
    record { all = no_members; at = at_start names depth start found notes none no_notes }

pub kept_few : (names : List (List ℕ)) (depth : ℕ) (start left : List Token) (found : List Entry) (notes : Notes)
    → KeptSoFar names depth start left found notes → AreInOrderIfFew notes.noted.items
kept_few names depth start left found notes so_far = so_far.at.noted.few

-- a value that was passed over
pub kept_passed : (float : Bool) (names : List (List ℕ)) (depth : ℕ) (start left inner next : List Token)
    (found : List Entry) (notes now : Notes) (k : List ℕ) → KeptSoFar names depth start left found notes
    → read_key left ≡ Some (Some k, inner) → length next < length inner → is_among names k ≡ false
    → PassesValue float depth inner next → NotesOneMore k float notes now
    → KeptSoFar names depth start next found now
kept_passed float names depth start left inner next found notes now k so_far key less other passed one_more =
    record {
      all = put k passed.value so_far.all;
      at = at_same names depth start left inner next so_far.all found notes k so_far.at key less now passed.value other
          passed.is (subst (λ b. NotesOneMore k b notes now) (sym passed.held) one_more);
    }

-- one more, kept or passed over
pub kept_taken : (names : List (List ℕ)) (depth : ℕ) (start left inner next : List Token) (found more : List Entry)
    (notes now : Notes) (k : List ℕ) → KeptSoFar names depth start left found notes
    → read_key left ≡ Some (Some k, inner) → TakesValue names depth k inner next found more notes now
    → length next < length inner → KeptSoFar names depth start next more now
kept_taken names depth start left inner next found more notes now k so_far key (inl keeps) less =
    subst (KeptSoFar names depth start next more) (sym keeps.same_notes)
    (record {
      all = put k (view keeps.value) so_far.all;
      at = at_more names depth start left inner next so_far.all found notes k so_far.at key less more keeps.key
          keeps.value keeps.listed keeps.same keeps.is keeps.named keeps.utf8 keeps.added;
    })
kept_taken names depth start left inner next found more notes now k so_far key (inr leaves) less =
    subst (λ es. KeptSoFar names depth start next es now) (sym leaves.stays)
    (kept_passed leaves.float names depth start left inner next found notes now k so_far key less leaves.other
    leaves.passed leaves.one_more)

pub kept_key_fault : (names : List (List ℕ)) (depth : ℕ) (start left : List Token) (found : List Entry)
    (notes : Notes) → KeptSoFar names depth start left found notes → read_key left ≡ None
    → members_meant depth start ≡ None
kept_key_fault names depth start left found notes so_far none = so_far.at.meant
    ∙ key_refused (value depth) so_far.all so_far.at.turns left none

pub kept_member_fault : (names : List (List ℕ)) (depth : ℕ) (start left inner : List Token) (found : List Entry)
    (notes : Notes) (k : List ℕ) → KeptSoFar names depth start left found notes
    → read_key left ≡ Some (Some k, inner) → value_meant depth inner ≡ None → members_meant depth start ≡ None
kept_member_fault names depth start left inner found notes k so_far key none = so_far.at.meant
    ∙ member_refused (value depth) so_far.all so_far.at.turns k left inner key none

pub kept_end : (float : Bool) (names : List (List ℕ)) (depth : ℕ) (start left rest : List Token)
    (found ordered : List Entry) (notes : Notes) → KeptSoFar names depth start left found notes
    → read_key left ≡ Some (None, rest) → members_view ordered ≡ gathered found → Tells float notes
    → KeepsMembers float names depth start rest (members_view ordered)
kept_end float names depth start left rest found ordered notes so_far end same tells =
    record {
      all = so_far.all;
      are = at_end names depth start left so_far.all found notes so_far.at rest end;
      part = at_part names depth start left so_far.all found notes so_far.at float ordered same tells;
    }

pub kept_named : (names : List (List ℕ)) (depth : ℕ) (start left : List Token) (found ordered : List Entry)
    (notes : Notes) → KeptSoFar names depth start left found notes → members_view ordered ≡ gathered found
    → NamesAscend (members_view ordered) × HasNamedValues (members_view ordered)
kept_named names depth start left found ordered notes so_far same =
    at_named names depth start left so_far.all found notes so_far.at ordered same

pub ruleset kept = (
  kept_start,
  kept_few,
  kept_key_fault,
  kept_member_fault,
  kept_end,
  kept_named,
  read_key-shorter,
)

-- ---- an object that is passed over, of which none is kept

where_all : (ms : Members) → members_where (others []) ms ≡ ms
where_all no_members = refl
where_all (member k d ms) = ap (member k d) (where_all ms)

pub members_end : (float : Bool) (depth : ℕ) (start left rest : List Token) (notes : Notes)
    → KeptSoFar [] depth start left [] notes → read_key left ≡ Some (None, rest) → Tells float notes
    → PassesMembers float depth start rest
unfolding Tells
members_end float depth start left rest notes so_far end tells =
    record {
      all = so_far.all;
      are = at_end [] depth start left so_far.all [] notes so_far.at rest end;
      held = tells so_far.all so_far.at.all_ascend
          (subst (λ ms. AreNoted ms notes) (where_all so_far.all) so_far.at.noted);
    }

pub ruleset passed = (kept_start, kept_few, kept_key_fault, kept_member_fault, members_end, read_key-shorter)

-- ---- the whole text

pub kept_text : (floats : Bool) (names : List (List ℕ)) (text : List ℕ) (inner : List Token) (kept : Members)
    → tokens text ≡ Token.begin_object ∷ inner → KeepsMembers floats names (max_depth - 1) inner [] kept
    → KeepsOf floats names text kept
kept_text floats names text inner kept begins keeps =
    record {
      all = keeps.all;
      is = text_read text (object keeps.all)
          (object_is max_depth (tokens text) inner [] keeps.all (omega arith) begins keeps.are);
      part = keeps.part;
    }

pub kept_and_more : (floats : Bool) (names : List (List ℕ)) (text : List ℕ) (inner rest : List Token) (t : Token) (kept : Members)
    → tokens text ≡ Token.begin_object ∷ inner → KeepsMembers floats names (max_depth - 1) inner (t ∷ rest) kept
    → read text ≡ None
kept_and_more floats names text inner rest t kept begins keeps =
    text_and_more text (object keeps.all) t rest
    (object_is max_depth (tokens text) inner (t ∷ rest) keeps.all (omega arith) begins keeps.are)

pub kept_refused : (text : List ℕ) (inner : List Token) → tokens text ≡ Token.begin_object ∷ inner
    → members_meant (max_depth - 1) inner ≡ None → read text ≡ None
kept_refused text inner begins none = text_refused text
    (object_refused max_depth (tokens text) inner (omega arith) begins none)

pub ruleset texts = (kept_text, kept_and_more, kept_refused)
