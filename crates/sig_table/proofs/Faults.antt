-- The first fault of a tree, as one function, is what `IsFirstFault` says, and a tree has none if and only if it keeps to
-- its table.
use Rattle.std.proofs.Common.{◌≡◌, ◌⊎◌, ◌↔◌, ℕ, ◌+◌, List, [], ◌∷◌, ◌++◌, length, Bool, true, false, ◌&&◌, is_some, is_none}
use Rattle.std.proofs.Common.{Option, Some, None, option_map, cond, if◌then◌else◌, Ok, Err, inl, inr, refl, sym, ap, ◌∙◌, arith}
use Rattle.std.proofs.Common.{append_assoc, length-append}
use Rattle.std.specs.Prelude.{IsTrue, MatchOption}
use Rattle.std.specs.List.{AllByRecursion, list_all}
use Rattle.sig_base.specs.Answers.{OrMemory}
use Rattle.sig_base.specs.OptionSteps.{or_else}
use Rattle.sig_json.specs.Data.{Data, Members}
use Rattle.sig_json.specs.Find.{as_object}
use Rattle.sig_json.specs.List.{list_of}
use Rattle.sig_table.specs.Fault.{at_name, elements_fault, fault_of, fault_there, here, list_fault, object_fault}
use Rattle.sig_table.specs.Fault.{oneof_fault, or_fault, row_fault, rows_fault, under}
use Rattle.sig_table.specs.First.{After, Breaks, BreaksRow, IsFirstElement, IsFirstFault, IsFirstRow, IsHere}
use Rattle.sig_table.specs.First.{IsSecond}
use Rattle.sig_table.specs.Table.{Table, leaf, elements, members, chosen, Row, required_row, optional_row, oneof_row, Rows}
use Rattle.sig_table.specs.Table.{no_rows, row, at_most_one, each_passes, fits, is_empty, member_in, names_there, passes}
use Rattle.sig_table.specs.Table.{row_holds, rows_hold}
use Rattle.sig_table.specs.declared.fault.Cause.{Cause}
use Rattle.sig_table.specs.declared.fault.Cause.TheVariants.{Absent, OtherKind, NotAlone}
use Rattle.sig_table.specs.declared.fault.MemberFault.{MemberFault}
use Rattle.sig_table.specs.declared.fault.TableError.TheVariants.{Fault, OutOfMemory}
use Rattle.sig_table.specs.declared.path.Step.{Step}
use Rattle.sig_table.specs.declared.path.Step.TheVariants.{Name, Index}

-- ---- there is none if and only if the tree keeps to the table

none_of-map : {A B : Type 0} → (f : A → B) (found : Option A) → is_none (option_map f found) ≡ is_none found
none_of-map f None = refl
none_of-map f (Some x) = refl

none_of-or : {A : Type 0} → (found other : Option A)
    → is_none (or_else found other) ≡ (is_none found && is_none other)
none_of-or None other = refl
none_of-or (Some x) other = refl

both : (a b c d : Bool) → a ≡ c → b ≡ d → (a && b) ≡ (c && d)
both a b c d p q = rw (p, q) refl

none_from : {A : Type 0} → (found : Option A) (b : Bool) → is_none found ≡ b → IsTrue b → found ≡ None
none_from None b is h = refl
none_from (Some x) b is h = cc

module _ (inside : Data → Option MemberFault) (test : Data → Bool) (same : (d : Data) → is_none (inside d) ≡ test d)
  where
    elements_none : (i : ℕ) (ds : List Data) → is_none (elements_fault inside i ds) ≡ list_all test ds
    elements_none i [] = refl
    elements_none i (d ∷ ds) =
        none_of-or (option_map (under (Index i)) (inside d)) (elements_fault inside (i + 1) ds)
        ∙ both _ _ _ _ (none_of-map (under (Index i)) (inside d) ∙ same d) (elements_none (i + 1) ds)

    list_none : (found : Option (List Data)) → is_none (list_fault inside found) ≡ each_passes test found
    list_none None = refl
    list_none (Some ds) = elements_none 0 ds

    there_none : (absent : Option MemberFault) (name : List ℕ) (found : Option Data)
        → is_none (at_name name (fault_there absent inside found)) ≡ passes (is_none absent) test found
    there_none absent name None = none_of-map (under (Name name)) absent
    there_none absent name (Some d) = none_of-map (under (Name name)) (inside d) ∙ same d

object_none : (found : Option Members)
    → is_none {T = MemberFault} (if is_some found then None else Some (here OtherKind)) ≡ is_some found
object_none None = refl
object_none (Some ms) = refl

after_none : (names : List (List ℕ)) (d : Data)
    → is_none (oneof_fault true names d) ≡ is_empty (names_there names d)
after_none [] d = refl
after_none (name ∷ names) d =
    elim (is_some (member_in name d)) as (λ b. is_none (if b then at_name name (Some (here NotAlone))
    else oneof_fault true names d) ≡ is_empty (cond b (name ∷ names_there names d) (names_there names d))) [
      | true ↦ refl
      | false ↦ after_none names d
    ]

oneof_none : (names : List (List ℕ)) (d : Data)
    → is_none (oneof_fault false names d) ≡ at_most_one (names_there names d)
oneof_none [] d = refl
oneof_none (name ∷ names) d =
    elim (is_some (member_in name d)) as (λ b. is_none (if b then oneof_fault true names d
    else oneof_fault false names d) ≡ at_most_one (cond b (name ∷ names_there names d) (names_there names d))) [
      | true ↦ after_none names d
      | false ↦ oneof_none names d
    ]

mutual
  pub fault_none : (t : Table) (d : Data) → is_none (fault_of t d) ≡ fits t d
  fault_none (leaf cause) d = none_of-map here (cause d)
  fault_none (elements t) d = list_none (fault_of t) (fits t) (fault_none t) (list_of d)
  fault_none (members rows) d =
      none_of-or (object_fault d) (rows_fault rows d)
      ∙ both _ _ _ _ (object_none (as_object d)) (rows_none rows d)
  fault_none (chosen t) d = fault_none (t d) d

  rows_none : (rows : Rows) (d : Data) → is_none (rows_fault rows d) ≡ rows_hold rows d
  rows_none no_rows d = refl
  rows_none (row first rows) d =
      none_of-or (row_fault first d) (rows_fault rows d) ∙ both _ _ _ _ (row_none first d) (rows_none rows d)

  row_none : (r : Row) (d : Data) → is_none (row_fault r d) ≡ row_holds r d
  row_none (required_row name t) d =
      there_none (fault_of t) (fits t) (fault_none t) (Some (here Absent)) name (member_in name d)
  row_none (optional_row name t) d = there_none (fault_of t) (fits t) (fault_none t) None name (member_in name d)
  row_none (oneof_row names) d = oneof_none names d

-- ---- what is found is the first

-- of what is found, this holds
abbrev pub Says : (List Step → Cause → Type 0) → Option MemberFault → Type 0
Says P found = MatchOption found (Unit {0}) (λ fault. P fault.path fault.cause)

step_says : (step : Step) (Inside : Breaks) (d : Data) (found : Option MemberFault) → Says (Inside d) found
    → Says (After step Inside d) (option_map (under step) found)
step_says step Inside d None says = tt
step_says step Inside d (Some fault) says = (fault.path, refl, says)

or_says : (P Q : List Step → Cause → Type 0) (holds : Bool) (found other : Option MemberFault)
    → is_none found ≡ holds → Says P found → Says Q other
    → Says (λ path cause. P path cause ⊎ (IsTrue holds × Q path cause)) (or_else found other)
or_says P Q holds None None is one rest = tt
or_says P Q holds None (Some fault) is one rest = inr (sym is, rest)
or_says P Q holds (Some fault) other is one rest = inl one

leaf_says : (why : Option Cause) → Says (λ path cause. (path ≡ []) × (why ≡ Some cause)) (option_map here why)
leaf_says None = tt
leaf_says (Some cause) = (refl, refl)

object_says : (found : Option Members) (Q : List Step → Cause → Type 0) (other : Option MemberFault) → Says Q other
    → Says (λ path cause. MatchOption found (IsHere OtherKind path cause) (λ _. Q path cause))
    (or_else (if is_some found then None else Some (here OtherKind)) other)
object_says None Q other rest = (refl, refl)
object_says (Some ms) Q other rest = rest

module _ (inside : Data → Option MemberFault) (test : Data → Bool) (same : (d : Data) → is_none (inside d) ≡ test d)
    (Inside : Breaks) (says : (d : Data) → Says (Inside d) (inside d)) where
  next_says : (before ds : List Data) (d : Data) (found : Option MemberFault) → is_none found ≡ test d
      → Says (Inside d) found → AllByRecursion (λ e. IsTrue (test e)) before
      → (IsTrue (test d) → Says (IsFirstElement test Inside (before ++ d ∷ ds)) (elements_fault inside (length before + 1) ds))
      → Says (IsFirstElement test Inside (before ++ d ∷ ds))
      (or_else (option_map (under (Index (length before))) found) (elements_fault inside (length before + 1) ds))
  next_says before ds d None is one sound rest = rest (sym is)
  next_says before ds d (Some fault) is one sound rest = record {
    before = before;
    element = d;
    after = ds;
    split = refl;
    sound = sound;
    wrong = (fault.path, refl, one);
  }

  all_more : (before : List Data) (d : Data) → AllByRecursion (λ e. IsTrue (test e)) before → IsTrue (test d)
      → AllByRecursion (λ e. IsTrue (test e)) (before ++ d ∷ [])
  all_more [] d sound h = (h, tt)
  all_more (b ∷ before) d sound h = (sound.0, all_more before d sound.1 h)

  elements_say : (before ds : List Data) → AllByRecursion (λ e. IsTrue (test e)) before
      → Says (IsFirstElement test Inside (before ++ ds)) (elements_fault inside (length before) ds)
  elements_say before [] sound = tt
  elements_say before (d ∷ ds) sound =
      next_says before ds d (inside d) (same d) (says d) sound
      (λ h. rw (length-append before (d ∷ []), append_assoc before (d ∷ []) ds)
      at (elements_say (before ++ d ∷ []) ds (all_more before d sound h)))

  list_says : (found : Option (List Data))
      → Says (λ path cause. MatchOption found (IsHere OtherKind path cause) (λ ds. IsFirstElement test Inside ds path cause))
      (list_fault inside found)
  list_says None = (refl, refl)
  list_says (Some ds) = elements_say [] ds tt

  required_says : (name : List ℕ) (d : Data) (found : Option Data)
      → Says (λ path cause. MatchOption found (After (Name name) (λ _. IsHere Absent) d path cause)
      (λ value. After (Name name) Inside value path cause)) (at_name name (fault_there (Some (here Absent)) inside found))
  required_says name d None = ([], refl, (refl, refl))
  required_says name d (Some value) = step_says (Name name) Inside value (inside value) (says value)

  optional_says : (name : List ℕ) (found : Option Data)
      → Says (λ path cause. MatchOption found ⊥ (λ value. After (Name name) Inside value path cause))
      (at_name name (fault_there None inside found))
  optional_says name None = tt
  optional_says name (Some value) = step_says (Name name) Inside value (inside value) (says value)

after_says : (first : List ℕ) (names : List (List ℕ)) (d : Data)
    → Says (IsSecond (first ∷ names_there names d)) (oneof_fault true names d)
after_says first [] d = tt
after_says first (name ∷ names) d =
    elim (is_some (member_in name d)) as (λ b. Says (IsSecond (first ∷ cond b (name ∷ names_there names d)
    (names_there names d))) (if b then at_name name (Some (here NotAlone)) else oneof_fault true names d)) [
      | true ↦ record {
        first = first;
        second = name;
        others = names_there names d;
        split = refl;
        place = refl;
        why = refl;
      }
      | false ↦ after_says first names d
    ]

oneof_says : (names : List (List ℕ)) (d : Data) → Says (IsSecond (names_there names d)) (oneof_fault false names d)
oneof_says [] d = tt
oneof_says (name ∷ names) d =
    elim (is_some (member_in name d)) as (λ b. Says (IsSecond (cond b (name ∷ names_there names d)
    (names_there names d))) (if b then oneof_fault true names d else oneof_fault false names d)) [
      | true ↦ after_says name names d
      | false ↦ oneof_says names d
    ]

mutual
  pub fault_says : (t : Table) (d : Data) → Says (IsFirstFault t d) (fault_of t d)
  fault_says (leaf cause) d = leaf_says (cause d)
  fault_says (elements t) d =
      list_says (fault_of t) (fits t) (fault_none t) (IsFirstFault t) (fault_says t) (list_of d)
  fault_says (members rows) d = object_says (as_object d) (IsFirstRow rows d) (rows_fault rows d) (rows_say rows d)
  fault_says (chosen t) d = fault_says (t d) d

  rows_say : (rows : Rows) (d : Data) → Says (IsFirstRow rows d) (rows_fault rows d)
  rows_say no_rows d = tt
  rows_say (row first rows) d =
      or_says (BreaksRow first d) (IsFirstRow rows d) (row_holds first d) (row_fault first d) (rows_fault rows d)
      (row_none first d) (row_says first d) (rows_say rows d)

  row_says : (r : Row) (d : Data) → Says (BreaksRow r d) (row_fault r d)
  row_says (required_row name t) d =
      required_says (fault_of t) (fits t) (fault_none t) (IsFirstFault t) (fault_says t) name d (member_in name d)
  row_says (optional_row name t) d =
      optional_says (fault_of t) (fits t) (fault_none t) (IsFirstFault t) (fault_says t) name (member_in name d)
  row_says (oneof_row names) d = oneof_says names d

-- ---- what is the first is found

-- where this holds, it is what is found
abbrev Tells : (List Step → Cause → Type 0) → Option MemberFault → Type 0
Tells P found =
    (path : List Step) (cause : Cause) → P path cause → found ≡ Some (record { path = path; cause = cause })

step_tells : (step : Step) (Inside : Breaks) (d : Data) (found : Option MemberFault) → Tells (Inside d) found
    → Tells (After step Inside d) (option_map (under step) found)
step_tells step Inside d found tells path cause is = rw (tells is.0 cause is.2, is.1) refl

or_tells : (P Q : List Step → Cause → Type 0) (holds : Bool) (found other : Option MemberFault)
    → is_none found ≡ holds → Tells P found → Tells Q other
    → Tells (λ path cause. P path cause ⊎ (IsTrue holds × Q path cause)) (or_else found other)
or_tells P Q holds found other is one rest path cause (inl wrong) = rw (one path cause wrong) refl
or_tells P Q holds found other is one rest path cause (inr h) =
    rw (none_from found holds is h.0) (rest path cause h.1)

leaf_tells : (why : Option Cause) → Tells (λ path cause. (path ≡ []) × (why ≡ Some cause)) (option_map here why)
leaf_tells why path cause is = rw (is.1, is.0) refl

object_tells : (found : Option Members) (Q : List Step → Cause → Type 0) (other : Option MemberFault) → Tells Q other
    → Tells (λ path cause. MatchOption found (IsHere OtherKind path cause) (λ _. Q path cause))
    (or_else (if is_some found then None else Some (here OtherKind)) other)
object_tells None Q other rest path cause is = rw (is.0, is.1) refl
object_tells (Some ms) Q other rest path cause is = rest path cause is

module _ (inside : Data → Option MemberFault) (test : Data → Bool) (same : (d : Data) → is_none (inside d) ≡ test d)
    (Inside : Breaks) (tells : (d : Data) → Tells (Inside d) (inside d)) where
  elements_tell : (i k : ℕ) (before : List Data) (d : Data) (after : List Data)
      → AllByRecursion (λ e. IsTrue (test e)) before → k ≡ i + length before
      → Tells (After (Index k) Inside d) (elements_fault inside i (before ++ d ∷ after))
  elements_tell i k [] d after sound place path cause is =
      let here_it_is : k ≡ i = omega arith in
      rw (step_tells (Index i) Inside d (inside d) (tells d) path cause (rw here_it_is at is)) refl
  elements_tell i k (b ∷ before) d after sound place path cause is =
      rw (none_from (inside b) (test b) (same b) sound.0)
      (elements_tell (i + 1) k before d after sound.1 (omega arith) path cause is)

  list_tells : (found : Option (List Data))
      → Tells (λ path cause. MatchOption found (IsHere OtherKind path cause) (λ ds. IsFirstElement test Inside ds path cause))
      (list_fault inside found)
  list_tells None path cause is = rw (is.0, is.1) refl
  list_tells (Some ds) path cause is =
      rw is.split (elements_tell 0 (length is.before) is.before is.element is.after is.sound (omega arith) path cause is.wrong)

  required_tells : (name : List ℕ) (d : Data) (found : Option Data)
      → Tells (λ path cause. MatchOption found (After (Name name) (λ _. IsHere Absent) d path cause)
      (λ value. After (Name name) Inside value path cause)) (at_name name (fault_there (Some (here Absent)) inside found))
  required_tells name d None = λ path cause is. rw (is.1, is.2.0, is.2.1) refl
  required_tells name d (Some value) = step_tells (Name name) Inside value (inside value) (tells value)

  optional_tells : (name : List ℕ) (found : Option Data)
      → Tells (λ path cause. MatchOption found ⊥ (λ value. After (Name name) Inside value path cause))
      (at_name name (fault_there None inside found))
  optional_tells name None = λ path cause is. absurd is
  optional_tells name (Some value) = step_tells (Name name) Inside value (inside value) (tells value)

after_tells : (second : List ℕ) (others names : List (List ℕ)) (d : Data) → names_there names d ≡ second ∷ others
    → oneof_fault true names d ≡ at_name second (Some (here NotAlone))
after_tells second others [] d is = cc
after_tells second others (name ∷ names) d is =
    elim (is_some (member_in name d)) as (λ b. cond b (name ∷ names_there names d) (names_there names d)
    ≡ second ∷ others → (if b then at_name name (Some (here NotAlone)) else oneof_fault true names d)
    ≡ at_name second (Some (here NotAlone))) [
      | true ↦ λ e. let same : name ≡ second = cc in rw same refl
      | false ↦ λ e. after_tells second others names d e
    ] is

oneof_tells : (first second : List ℕ) (others names : List (List ℕ)) (d : Data)
    → names_there names d ≡ first ∷ second ∷ others
    → oneof_fault false names d ≡ at_name second (Some (here NotAlone))
oneof_tells first second others [] d is = cc
oneof_tells first second others (name ∷ names) d is =
    elim (is_some (member_in name d)) as (λ b. cond b (name ∷ names_there names d) (names_there names d)
    ≡ first ∷ second ∷ others → (if b then oneof_fault true names d else oneof_fault false names d)
    ≡ at_name second (Some (here NotAlone))) [
      | true ↦ λ e. let rest : names_there names d ≡ second ∷ others = cc in after_tells second others names d rest
      | false ↦ λ e. oneof_tells first second others names d e
    ] is

mutual
  fault_tells : (t : Table) (d : Data) → Tells (IsFirstFault t d) (fault_of t d)
  fault_tells (leaf cause) d = leaf_tells (cause d)
  fault_tells (elements t) d =
      list_tells (fault_of t) (fits t) (fault_none t) (IsFirstFault t) (fault_tells t) (list_of d)
  fault_tells (members rows) d =
      object_tells (as_object d) (IsFirstRow rows d) (rows_fault rows d) (rows_tell rows d)
  fault_tells (chosen t) d = fault_tells (t d) d

  rows_tell : (rows : Rows) (d : Data) → Tells (IsFirstRow rows d) (rows_fault rows d)
  rows_tell no_rows d = λ path cause is. absurd is
  rows_tell (row first rows) d =
      or_tells (BreaksRow first d) (IsFirstRow rows d) (row_holds first d) (row_fault first d) (rows_fault rows d)
      (row_none first d) (row_tells first d) (rows_tell rows d)

  row_tells : (r : Row) (d : Data) → Tells (BreaksRow r d) (row_fault r d)
  row_tells (required_row name t) d =
      required_tells (fault_of t) (fits t) (fault_none t) (IsFirstFault t) (fault_tells t) name d (member_in name d)
  row_tells (optional_row name t) d =
      optional_tells (fault_of t) (fits t) (fault_none t) (IsFirstFault t) (fault_tells t) name (member_in name d)
  row_tells (oneof_row names) d = λ path cause is.
      rw (is.place, is.why) (oneof_tells is.first is.second is.others names d is.split)

-- ---- both ways

pub none_if_fits : (t : Table) (d : Data) → (fault_of t d ≡ None) ↔ IsTrue (fits t d)
none_if_fits t d = ((λ e. sym (fault_none t d) ∙ ap is_none e), none_from (fault_of t d) (fits t d) (fault_none t d))

found_if_first : (t : Table) (d : Data) (found : Option MemberFault) (fault : MemberFault)
    → Says (IsFirstFault t d) found → Tells (IsFirstFault t d) found
    → (found ≡ Some fault) ↔ IsFirstFault t d fault.path fault.cause
found_if_first t d None fault says tells = ((λ e. cc), tells fault.path fault.cause)
found_if_first t d (Some other) fault says tells =
    ((λ e. let same : other ≡ fault = cc in rw same at says), tells fault.path fault.cause)

pub some_if_first : (t : Table) (d : Data) (fault : MemberFault)
    → (fault_of t d ≡ Some fault) ↔ IsFirstFault t d fault.path fault.cause
some_if_first t d fault = found_if_first t d (fault_of t d) fault (fault_says t d) (fault_tells t d)

-- ---- what a check tells

told_none : (t : Table) (d : Data) (found : Option MemberFault) → is_none found ≡ fits t d → or_fault found ≡ Ok tt
    → IsTrue (fits t d)
told_none t d None none told = sym none
told_none t d (Some fault) none told = cc

pub none_told : (t : Table) (d : Data) → or_fault (fault_of t d) ≡ Ok tt → IsTrue (fits t d)
none_told t d = told_none t d (fault_of t d) (fault_none t d)

told_first : (t : Table) (d : Data) (found : Option MemberFault) (fault : MemberFault) → Says (IsFirstFault t d) found
    → OrMemory OutOfMemory (Fault fault) (or_fault found ≡ Err (Fault fault))
    → IsFirstFault t d fault.path fault.cause
told_first t d found fault says (inl memory) = cc
told_first t d None fault says (inr told) = cc
told_first t d (Some other) fault says (inr told) = let same : other ≡ fault = cc in rw same at says

pub first_told : (t : Table) (d : Data) (fault : MemberFault)
    → OrMemory OutOfMemory (Fault fault) (or_fault (fault_of t d) ≡ Err (Fault fault))
    → IsFirstFault t d fault.path fault.cause
first_told t d fault = told_first t d (fault_of t d) fault (fault_says t d)
