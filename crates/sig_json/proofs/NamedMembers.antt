-- Members of some names, and what is left without those of some: how they are found and how more of them go in.
use Rattle.std.proofs.Common.{◌≡◌, ℕ, Bool, true, false, not, true≢false, List, [], ◌∷◌, Option, Some}
use Rattle.std.proofs.Common.{None, refl, sym, ap, subst, ◌∙◌}
use Rattle.std.proofs.lemmas.Cmp.{nat_list_cmp_total}
use Rattle.std.proofs.lemmas.Bool.{not_from_false, not_from_true, or_parts, or_from}
use Rattle.std.specs.Cmp.Lexicographic.{slice_cmp}
use Rattle.std.specs.List.{AllByRecursion}
use Rattle.std.specs.List.Sorted.{IsStrictlySortedBy}
use Rattle.std.specs.Map.{keys_of}
use Rattle.std.specs.Ordering.{nat_cmp, match_ordering}
use Rattle.std.specs.Str.{IsUtf8}
use Rattle.std.specs.declared.cmp.Ordering.{Ordering}
use Rattle.std.specs.declared.cmp.Ordering.TheVariants.{Less, Equal, Greater}
use Rattle.serde_json.specs.Data.{Data, null, boolean, number, string, array, object, Members, no_members, member}
use Rattle.serde_json.specs.Data.{put}
use Rattle.serde_json.specs.Find.{get, get_member, as_object}
use Rattle.serde_json.specs.Written.{has_float, members_have_float}
use Rattle.sig_base.specs.ByText.{KeysAscend}
use Rattle.sig_json.proofs.OrderedMembers.{same_from_tie}
use Rattle.sig_base.specs.OptionSteps.{◌>>=◌}
use Rattle.sig_json.specs.Member.{member_of, not_null, there_or, required, optional_or}
use Rattle.sig_json.specs.Members.{members_list}
use Rattle.sig_json.specs.NamedTree.{NamesAscend, HasNamedValues, IsNamedTree}
use Rattle.sig_json.specs.Only.{is_among, members_where, object_where, only, without}

abbrev compare : List ℕ → List ℕ → Ordering
compare = slice_cmp nat_cmp

module _ (test : List ℕ → Bool) where
  where_yes : (l : List ℕ) (e : Data) (ms : Members) → test l ≡ true
      → members_where test (member l e ms) ≡ member l e (members_where test ms)
  where_yes l e ms passing = rw passing refl

  where_no : (l : List ℕ) (e : Data) (ms : Members) → test l ≡ false
      → members_where test (member l e ms) ≡ members_where test ms
  where_no l e ms failing = rw failing refl

  -- one of the two holds of a head, whatever it is
  by_test : (P : Type 0) (l : List ℕ) → (test l ≡ true → P) → (test l ≡ false → P) → P
  by_test P l passing failing = elim (test l) as (λ b. test l ≡ b → P) [ true ↦ passing | false ↦ failing ] refl

  -- ---- what is found

  pub get_member-where : (name : List ℕ) (ms : Members) → test name ≡ true
      → get_member name (members_where test ms) ≡ get_member name ms
  get_member-where name no_members passing = refl
  get_member-where name (member l e ms) passing =
      let rest = get_member-where name ms passing in
      by_test (get_member name (members_where test (member l e ms)) ≡ get_member name (member l e ms)) l
      (λ is. ap (get_member name) (where_yes l e ms is)
      ∙ ap (λ found. match_ordering (compare name l) found (Some e) found) rest)
      (λ is. ap (get_member name) (where_no l e ms is) ∙ rest ∙ passed l e ms is)
    where
      passed : (l : List ℕ) (e : Data) (ms : Members) → test l ≡ false
          → get_member name ms ≡ get_member name (member l e ms)
      passed l e ms failing =
          elim (compare name l) as (λ o. compare name l ≡ o → get_member name ms ≡ get_member name (member l e ms)) [
            | Less ↦ λ is. rw is refl
            | Equal ↦ λ is. absurd (true≢false (sym passing ∙ ap test (same_from_tie name l is) ∙ failing))
            | Greater ↦ λ is. rw is refl
          ] refl

  pub get_member-none : (name : List ℕ) (ms : Members) → test name ≡ false
      → get_member name (members_where test ms) ≡ None
  get_member-none name no_members failing = refl
  get_member-none name (member l e ms) failing =
      let rest = get_member-none name ms failing in
      by_test (get_member name (members_where test (member l e ms)) ≡ None) l
      (λ is. ap (get_member name) (where_yes l e ms is) ∙ passed l e is rest)
      (λ is. ap (get_member name) (where_no l e ms is) ∙ rest)
    where
      passed : (l : List ℕ) (e : Data) → test l ≡ true → get_member name (members_where test ms) ≡ None
          → get_member name (member l e (members_where test ms)) ≡ None
      passed l e passing none =
          elim (compare name l) as (λ o. compare name l ≡ o
          → get_member name (member l e (members_where test ms)) ≡ None) [
            | Less ↦ λ is. rw is none
            | Equal ↦ λ is. absurd (true≢false (sym passing ∙ ap test (sym (same_from_tie name l is)) ∙ failing))
            | Greater ↦ λ is. rw is none
          ] refl

  -- ---- one more goes in

  -- of a name that fails the test
  pub where_put_no : (k : List ℕ) (d : Data) (ms : Members) → test k ≡ false
      → members_where test (put k d ms) ≡ members_where test ms
  where_put_no k d no_members failing = where_no k d no_members failing
  where_put_no k d (member l e ms) failing =
      elim (compare k l) as (λ o. compare k l ≡ o
      → members_where test (put k d (member l e ms)) ≡ members_where test (member l e ms)) [
        | Less ↦ λ is. rw is (where_no k d (member l e ms) failing)
        | Equal ↦ λ is. let fails : test l ≡ false = ap test (sym (same_from_tie k l is)) ∙ failing in
            rw is (where_no l d ms fails ∙ sym (where_no l e ms fails))
        | Greater ↦ λ is. rw (is, where_put_no k d ms failing) refl
      ] refl

  -- what holds of every name holds of those that are left
  all_where : (P : List ℕ → Type 0) (ms : Members) → AllByRecursion P (keys_of (members_list ms))
      → AllByRecursion P (keys_of (members_list (members_where test ms)))
  all_where P no_members all = tt
  all_where P (member l e ms) all =
      let rest = all_where P ms all.1 in
      let Holds : Members → Type 0 = λ left. AllByRecursion P (keys_of (members_list left)) in
      by_test (Holds (members_where test (member l e ms))) l
      (λ passing. subst Holds (sym (where_yes l e ms passing)) (all.0, rest))
      (λ failing. subst Holds (sym (where_no l e ms failing)) rest)

  pub ascend_where : (ms : Members) → KeysAscend (members_list ms) → KeysAscend (members_list (members_where test ms))
  unfolding IsStrictlySortedBy
  ascend_where no_members up = tt
  ascend_where (member l e ms) up =
      let rest = ascend_where ms up.1 in
      let Holds : Members → Type 0 = λ left. KeysAscend (members_list left) in
      by_test (Holds (members_where test (member l e ms))) l
      (λ passing. subst Holds (sym (where_yes l e ms passing))
      (all_where (λ other. compare l other ≡ Less) ms up.0, rest))
      (λ failing. subst Holds (sym (where_no l e ms failing)) rest)

  pub names-where : (ms : Members) → NamesAscend ms → NamesAscend (members_where test ms)
  names-where ms up = (all_where IsUtf8 ms up.0, ascend_where ms up.1)

  pub values-where : (ms : Members) → HasNamedValues ms → HasNamedValues (members_where test ms)
  values-where no_members named = tt
  values-where (member l e ms) named =
      let rest = values-where ms named.1 in
      by_test (HasNamedValues (members_where test (member l e ms))) l
      (λ passing. subst HasNamedValues (sym (where_yes l e ms passing)) (named.0, rest))
      (λ failing. subst HasNamedValues (sym (where_no l e ms failing)) rest)

  pub put_first : (k : List ℕ) (d : Data) (ms : Members)
      → AllByRecursion (λ other. compare k other ≡ Less) (keys_of (members_list ms)) → put k d ms ≡ member k d ms
  put_first k d no_members below = refl
  put_first k d (member l e ms) below = rw below.0 refl

  below_all : (k l : List ℕ) (names : List (List ℕ)) → compare k l ≡ Less
      → AllByRecursion (λ other. compare l other ≡ Less) names
      → AllByRecursion (λ other. compare k other ≡ Less) names
  below_all k l [] less below = tt
  below_all k l (n ∷ ns) less below = (nat_list_cmp_total.trans k l n less below.0, below_all k l ns less below.1)

  -- of a name that passes it
  pub where_put_yes : (k : List ℕ) (d : Data) (ms : Members) → test k ≡ true → KeysAscend (members_list ms)
      → members_where test (put k d ms) ≡ put k d (members_where test ms)
  unfolding IsStrictlySortedBy
  where_put_yes k d no_members passing up = where_yes k d no_members passing
  where_put_yes k d (member l e ms) passing up =
      let Same : Members
      → Type 0 = λ after. members_where test after ≡ put k d (members_where test (member l e ms)) in
      elim (compare k l) as (λ o. compare k l ≡ o → Same (put k d (member l e ms))) [
        | Less ↦ λ is. rw is (
            where_yes k d (member l e ms) passing
            ∙ sym (put_first k d (members_where test (member l e ms))
            (all_where (λ other. compare k other ≡ Less) (member l e ms)
            (is, below_all k l (keys_of (members_list ms)) is up.0))))
        | Equal ↦ λ is. let passes : test l ≡ true = ap test (sym (same_from_tie k l is)) ∙ passing in
            rw is (where_yes l d ms passes ∙ sym (ap (put k d) (where_yes l e ms passes) ∙ rw is refl))
        | Greater ↦ λ is. rw is (further l e ms (where_put_yes k d ms passing up.1) is)
      ] refl
    where
      further : (l : List ℕ) (e : Data) (ms : Members)
          → members_where test (put k d ms) ≡ put k d (members_where test ms) → compare k l ≡ Greater
          → members_where test (member l e (put k d ms)) ≡ put k d (members_where test (member l e ms))
      further l e ms rest is =
          by_test (members_where test (member l e (put k d ms)) ≡ put k d (members_where test (member l e ms))) l
          (λ passes. where_yes l e (put k d ms) passes ∙ ap (member l e) rest
          ∙ sym (ap (put k d) (where_yes l e ms passes) ∙ rw is refl))
          (λ fails. where_no l e (put k d ms) fails ∙ rest ∙ sym (ap (put k d) (where_no l e ms fails)))

  -- ---- floats

  pub floatless-where : (ms : Members) → members_have_float ms ≡ false
      → members_have_float (members_where test ms) ≡ false
  floatless-where no_members none = refl
  floatless-where (member l e ms) none =
      let parts = or_parts (has_float e) (members_have_float ms) none in
      let rest = floatless-where ms parts.1 in
      by_test (members_have_float (members_where test (member l e ms)) ≡ false) l
      (λ passing. ap members_have_float (where_yes l e ms passing)
      ∙ or_from (has_float e) (members_have_float (members_where test ms)) parts.0 rest)
      (λ failing. ap members_have_float (where_no l e ms failing) ∙ rest)

-- neither those that pass nor those that fail
pub floatless-both : (test : List ℕ → Bool) (ms : Members) → members_have_float (members_where test ms) ≡ false
    → members_have_float (members_where (λ name. not (test name)) ms) ≡ false → members_have_float ms ≡ false
floatless-both test no_members some others = refl
floatless-both test (member l e ms) some others =
    by_test test (members_have_float (member l e ms) ≡ false) l
    (λ passing.
    let parts = or_parts (has_float e) (members_have_float (members_where test ms))
    (ap members_have_float (sym (where_yes test l e ms passing)) ∙ some) in
    let rest = floatless-both test ms parts.1
    (ap members_have_float (sym (where_no (λ name. not (test name)) l e ms (not_from_true (test l) passing)))
    ∙ others) in
    or_from (has_float e) (members_have_float ms) parts.0 rest)
    (λ failing.
    let parts = or_parts (has_float e) (members_have_float (members_where (λ name. not (test name)) ms))
    (ap members_have_float (sym (where_yes (λ name. not (test name)) l e ms (not_from_false (test l) failing)))
    ∙ others) in
    let rest = floatless-both test ms (ap members_have_float (sym (where_no test l e ms failing)) ∙ some) parts.1 in
    or_from (has_float e) (members_have_float ms) parts.0 rest)

-- ---- a whole value

module _ (test : List ℕ → Bool) where
  -- what holds of a value beside itself, and of an object beside what is left of it, holds of every value beside what
  -- is left
  by_left : (P : Data → Data → Type 0) → ((d : Data) → P d d)
      → ((ms : Members) → P (object ms) (object (members_where test ms))) → (d : Data) → P d (object_where test d)
  by_left P same left null = same null
  by_left P same left (boolean b) = same (boolean b)
  by_left P same left (number n) = same (number n)
  by_left P same left (string s) = same (string s)
  by_left P same left (array ds) = same (array ds)
  by_left P same left (object ms) = left ms

  get-passing : (name : List ℕ) (d : Data) → test name ≡ true → get name (object_where test d) ≡ get name d
  get-passing name d passing =
      by_left (λ whole left. get name left ≡ get name whole) (λ whole. refl)
      (λ ms. get_member-where test name ms passing) d

  get-failing : (name : List ℕ) (d : Data) → test name ≡ false → get name (object_where test d) ≡ None
  get-failing name null failing = refl
  get-failing name (boolean b) failing = refl
  get-failing name (number n) failing = refl
  get-failing name (string s) failing = refl
  get-failing name (array ds) failing = refl
  get-failing name (object ms) failing = get_member-none test name ms failing

  same-left : (d : Data) → as_object d ≡ None → object_where test d ≡ d
  same-left d none =
      by_left (λ whole left. as_object whole ≡ None → left ≡ whole) (λ whole other. refl)
      (λ ms other. absurd cc) d none

  named-left : (d : Data) → IsNamedTree d → IsNamedTree (object_where test d)
  named-left d named =
      by_left (λ whole left. IsNamedTree whole → IsNamedTree left) (λ whole is. is)
      (λ ms is. (names-where test ms is.0, values-where test ms is.1)) d named

  floatless-left : (d : Data) → has_float d ≡ false → has_float (object_where test d) ≡ false
  floatless-left d none =
      by_left (λ whole left. has_float whole ≡ false → has_float left ≡ false) (λ whole free. free)
      (λ ms free. floatless-where test ms free) d none

module _ (names : List (List ℕ)) where
  pub get-only : (name : List ℕ) (d : Data) → is_among names name ≡ true → get name (only names d) ≡ get name d
  unfolding only
  get-only = get-passing (is_among names)

  pub get-none : (name : List ℕ) (d : Data) → is_among names name ≡ false → get name (only names d) ≡ None
  unfolding only
  get-none = get-failing (is_among names)

  pub only-same : (d : Data) → as_object d ≡ None → only names d ≡ d
  unfolding only
  only-same = same-left (is_among names)

  pub named-only : (d : Data) → IsNamedTree d → IsNamedTree (only names d)
  unfolding only
  named-only = named-left (is_among names)

  pub floatless-only : (d : Data) → has_float d ≡ false → has_float (only names d) ≡ false
  unfolding only
  floatless-only = floatless-left (is_among names)

  abbrev other : List ℕ → Bool
  other name = not (is_among names name)

  pub get-others : (name : List ℕ) (d : Data) → is_among names name ≡ false
      → get name (without names d) ≡ get name d
  unfolding without
  get-others name d unlisted = get-passing other name d (not_from_false (is_among names name) unlisted)

  pub get-dropped : (name : List ℕ) (d : Data) → is_among names name ≡ true → get name (without names d) ≡ None
  unfolding without
  get-dropped name d listed = get-failing other name d (not_from_true (is_among names name) listed)

  pub without-same : (d : Data) → as_object d ≡ None → without names d ≡ d
  unfolding without
  without-same = same-left other

  pub named-without : (d : Data) → IsNamedTree d → IsNamedTree (without names d)
  unfolding without
  named-without = named-left other

  pub floatless-without : (d : Data) → has_float d ≡ false → has_float (without names d) ≡ false
  unfolding without
  floatless-without = floatless-left other

-- ---- the rows of a member table

pub member_of-only : (names : List (List ℕ)) (name : List ℕ) (d : Data) → is_among names name ≡ true
    → member_of name (only names d) ≡ member_of name d
unfolding member_of only
member_of-only names name d listed =
    by_left (is_among names) (λ whole kept. member_of name kept ≡ member_of name whole) (λ whole. refl)
    (λ ms. ap (λ found. Some (found >>= not_null)) (get_member-where (is_among names) name ms listed)) d

pub required-only : {A : Type 0} (kind : Data → Option A) (names : List (List ℕ)) (name : List ℕ) (d : Data)
    → is_among names name ≡ true → required kind name (only names d) ≡ required kind name d
unfolding required
required-only kind names name d listed =
    ap (λ found. found >>= there_or None kind) (member_of-only names name d listed)

pub optional_or-only : {A : Type 0} (absent : A) (kind : Data
    → Option A) (names : List (List ℕ)) (name : List ℕ) (d : Data) → is_among names name ≡ true
    → optional_or absent kind name (only names d) ≡ optional_or absent kind name d
unfolding optional_or
optional_or-only absent kind names name d listed = ap (λ found. found >>= there_or (Some absent) kind)
    (member_of-only names name d listed)
