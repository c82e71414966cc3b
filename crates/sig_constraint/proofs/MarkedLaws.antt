-- What a marked layer's annotations are.
use Rattle.std.proofs.Common.{◌≡◌, ◌≢◌, ◌↔◌, ℕ, zero, suc, ◌<◌, Bool, true, false, not, ◌&&◌, cond, List, [], ◌∷◌, length, Option, Some, None}
use Rattle.std.proofs.Common.{refl, sym, ap, subst, ◌∙◌, arith}
use Rattle.std.specs.Prelude.{All, Any, IsSome, bytes_eq}
use Rattle.std.specs.List.{AllByRecursion, list_all}
use Rattle.std.specs.List.Sorted.{IsStrictlySortedBy}
use Rattle.std.specs.Map.{keys_of}
use Rattle.std.specs.Ordering.{nat_cmp}
use Rattle.std.specs.Cmp.Lexicographic.{slice_cmp}
use Rattle.std.specs.declared.cmp.Ordering.{Ordering}
use Rattle.std.specs.declared.cmp.Ordering.TheVariants.{Less, Equal}
use Rattle.std.proofs.lemmas.Bool.{true≢false}
use Rattle.std.proofs.lemmas.Cmp.{nat_list_cmp_total, tied_itself}
use Rattle.std.proofs.lemmas.List.Elements.{All-cons, All-head, All-tail}
use Rattle.std.proofs.lemmas.Slice.Eq.{bytes_eq-Decides}
use Rattle.sig_base.specs.ByText.{KeysAscend}
use Rattle.sig_json.specs.Builders.{with_member}
use Rattle.sig_json.specs.Data.{Data, null, boolean, number, string, array, object, Members, no_members, member}
use Rattle.sig_json.specs.Find.{as_object, as_str, get}
use Rattle.sig_json.specs.Members.{members_list, members_of}
use Rattle.sig_json.proofs.BuiltTrees.{found_where_set, others_stay}
use Rattle.sig_json.proofs.StableKinds.{is_object-with_member}
use Rattle.sig_payload.specs.Annotations.{Asked, are_annotated, is_annotated, is_empty_extra, is_no_member, is_said, satisfies}
use Rattle.sig_payload.specs.Signing.{Beside, Signing}
use Rattle.sig_cosign.specs.Layer.{Layer}
use Rattle.sig_constraint.specs.Marked.{annotation, annotations_of, are_free, is_free, is_none_or_string, is_string, object_or_empty}
use Rattle.sig_constraint.specs.Marked.{marked, marked_payload, marker_gives, with_extra, with_texts}
use Rattle.sig_constraint.specs.Marked.{AreFree, HaveTexts, KeepOthers}

-- ---- texts that are set

apart_from : (name k : List ℕ) → slice_cmp nat_cmp name k ≡ Less → name ≢ k
apart_from name k less same =
    let equal : slice_cmp nat_cmp name k ≡ Equal =
    ap (λ (x : List ℕ). slice_cmp nat_cmp name x) (sym same) ∙ tied_itself nat_list_cmp_total name in
    let clash : Less ≡ Equal = sym less ∙ equal in
    absurd cc

-- the texts of greater names leave the value of a name
stays : (name : List ℕ) (asked : Asked) (d : Data)
    → AllByRecursion (λ k. slice_cmp nat_cmp name k ≡ Less) (keys_of asked)
    → get name (with_texts asked d) ≡ get name d
stays name [] d above = refl
stays name (a ∷ rest) d above =
    stays name rest (with_member a.0 (string a.1) d) above.1
    ∙ others_stay a.0 name (string a.1) d (apart_from name a.0 above.0)

texts_are_set : (asked : Asked) (d : Data) → KeysAscend asked → IsSome (as_object d)
    → All (λ a. get a.0 (with_texts asked d) ≡ Some (string a.1)) asked
unfolding IsStrictlySortedBy
texts_are_set [] d up is = λ k e below. absurd (omega (arith, below))
texts_are_set (a ∷ rest) d up is =
    All-cons (λ b. get b.0 (with_texts (a ∷ rest) d) ≡ Some (string b.1)) a rest
    (stays a.0 rest (with_member a.0 (string a.1) d) up.0 ∙ found_where_set a.0 (string a.1) d is)
    (texts_are_set rest (with_member a.0 (string a.1) d) up.1 (is_object-with_member a.0 (string a.1) d is))

-- a name that is not asked for keeps its value
kept : (name : List ℕ) (asked : Asked) (d : Data) → ¬ Any (λ a. a.0 ≡ name) asked
    → get name (with_texts asked d) ≡ get name d
kept name [] d none = refl
kept name (a ∷ rest) d none =
    kept name rest (with_member a.0 (string a.1) d)
    (λ among. none (suc among.0, among.1, omega (arith, among.2), among.3, among.4))
    ∙ others_stay a.0 name (string a.1) d (λ same. none (zero, a, omega arith, refl, sym same))

-- ---- the annotations that are there

is_object : (beside : Option Beside) → IsSome (as_object (annotations_of beside))
is_object None = refl
is_object (Some b) = by (as_object b.extra) where
  by : (o : Option Members) → IsSome (as_object (elim o [ None ↦ object no_members | Some ms ↦ object ms ]))
  by None = refl
  by (Some ms) = refl

found_in : (name : List ℕ) (d : Data)
    → get name (elim (as_object d) [ None ↦ object no_members | Some ms ↦ object ms ]) ≡ get name d
found_in name null = refl
found_in name (boolean b) = refl
found_in name (number n) = refl
found_in name (string s) = refl
found_in name (array ds) = refl
found_in name (object ms) = refl

found : (beside : Option Beside) (name : List ℕ) → get name (annotations_of beside) ≡ annotation beside name
found None name = refl
found (Some b) name = found_in name b.extra

extra_is : (d : Data) (beside : Option Beside) → (with_extra d beside).extra ≡ d
extra_is d None = refl
extra_is d (Some b) = refl

-- ---- a name that is free

string_is : (text : List ℕ) (value : Data) → is_string text value ≡ true → value ≡ string text
string_is text null e = absurd (true≢false (sym e))
string_is text (boolean b) e = absurd (true≢false (sym e))
string_is text (number n) e = absurd (true≢false (sym e))
string_is text (string s) e = ap (λ (x : List ℕ). string x) ((bytes_eq-Decides s text).0 e)
string_is text (array ds) e = absurd (true≢false (sym e))
string_is text (object ms) e = absurd (true≢false (sym e))

bytes_same : (text : List ℕ) → bytes_eq text text ≡ true
bytes_same text = (bytes_eq-Decides text text).1 refl

free_at : (text : List ℕ) (there : Option Data) → is_none_or_string text there ≡ true
    → (value : Data) → there ≡ Some value → value ≡ string text
free_at text None e value is = absurd cc
free_at text (Some v) e value is =
    let same : v ≡ value = cc in sym same ∙ string_is text v e

is_free_at : (text : List ℕ) (there : Option Data)
    → ((value : Data) → there ≡ Some value → value ≡ string text) → is_none_or_string text there ≡ true
is_free_at text None only = refl
is_free_at text (Some v) only =
    ap (λ (x : Data). is_string text x) (only v refl) ∙ bytes_same text

and_first : (a b : Bool) → (a && b) ≡ true → a ≡ true
and_first true b e = refl
and_first false b e = e

and_second : (a b : Bool) → (a && b) ≡ true → b ≡ true
and_second true b e = e
and_second false b e = absurd (true≢false (sym e))

and_both : (a b : Bool) → a ≡ true → b ≡ true → (a && b) ≡ true
and_both true b a_is b_is = b_is
and_both false b a_is b_is = absurd (true≢false (sym a_is))

free_are : (beside : Option Beside) (asked : Asked) → are_free beside asked ≡ true → AreFree beside asked
free_are beside [] e = λ k d below. absurd (omega (arith, below))
free_are beside (a ∷ rest) e =
    All-cons (λ b. (value : Data) → annotation beside b.0 ≡ Some value → value ≡ string b.1) a rest
    (free_at a.1 (annotation beside a.0) (and_first (is_free beside a) (are_free beside rest) e))
    (free_are beside rest (and_second (is_free beside a) (are_free beside rest) e))

are_free_from : (beside : Option Beside) (asked : Asked) → AreFree beside asked → are_free beside asked ≡ true
are_free_from beside [] all = refl
are_free_from beside (a ∷ rest) all =
    and_both (is_free beside a) (are_free beside rest)
    (is_free_at a.1 (annotation beside a.0)
    (All-head (λ b. (value : Data) → annotation beside b.0 ≡ Some value → value ≡ string b.1) a rest all))
    (are_free_from beside rest
    (All-tail (λ b. (value : Data) → annotation beside b.0 ≡ Some value → value ≡ string b.1) a rest all))

-- ---- the layer that is given

given_if : (b : Bool) (l : Layer) → b ≡ true → cond b (Some l) None ≡ Some l
given_if true l e = refl
given_if false l e = absurd (true≢false (sym e))

if_given : (b : Bool) (l m : Layer) → cond b (Some l) None ≡ Some m → b ≡ true
if_given true l m e = refl
if_given false l m e = absurd cc

pub given_law : (asked : Asked) (l : Layer)
    → (marker_gives asked l ≡ Some (marked asked l)) ↔ AreFree l.simple_signing.optional asked
given_law asked l = (
  λ e. free_are l.simple_signing.optional asked
      (if_given (are_free l.simple_signing.optional asked) (marked asked l) (marked asked l) e),
  λ all. given_if (are_free l.simple_signing.optional asked) (marked asked l)
      (are_free_from l.simple_signing.optional asked all),
)

-- ---- its annotations

said_in : (name : List ℕ) (d : Data) (beside : Option Beside)
    → annotation (Some (with_extra d beside)) name ≡ get name d
said_in name d None = refl
said_in name d (Some b) = refl

pub texts_law : (asked : Asked) (l : Layer) → KeysAscend asked
    → HaveTexts (marked asked l).simple_signing.optional asked
texts_law asked l up =
    let d : Data = with_texts asked (annotations_of l.simple_signing.optional) in
    let all = texts_are_set asked (annotations_of l.simple_signing.optional) up (is_object l.simple_signing.optional) in
    λ k e below. said_in _ d l.simple_signing.optional ∙ all k e below

pub others_law : (asked : Asked) (l : Layer)
    → KeepOthers l.simple_signing.optional (marked asked l).simple_signing.optional asked
others_law asked l name none =
    said_in name (with_texts asked (annotations_of l.simple_signing.optional)) l.simple_signing.optional
    ∙ kept name asked (annotations_of l.simple_signing.optional) none
    ∙ found l.simple_signing.optional name

-- ---- what a verifier says of it

empty_has_none : (name : List ℕ) (value d : Data) → get name d ≡ Some value → is_empty_extra d ≡ false
unfolding is_empty_extra
empty_has_none name value null e = absurd cc
empty_has_none name value (boolean b) e = absurd cc
empty_has_none name value (number n) e = absurd cc
empty_has_none name value (string s) e = absurd cc
empty_has_none name value (array ds) e = absurd cc
empty_has_none name value (object no_members) e = absurd cc
empty_has_none name value (object (member k v ms)) e = refl

said_text : (text : List ℕ) → is_said (string text) text ≡ true
unfolding is_said
said_text text = bytes_same text

annotated_at : (d : Data) (a : List ℕ × List ℕ) → get a.0 d ≡ Some (string a.1) → is_annotated d a ≡ true
annotated_at d a is = rw is (said_text a.1)

all_annotated : (d : Data) (asked : Asked) → All (λ a. get a.0 d ≡ Some (string a.1)) asked
    → are_annotated d asked ≡ true
all_annotated d [] all = refl
all_annotated d (a ∷ rest) all =
    and_both (is_annotated d a) (are_annotated d rest)
    (annotated_at d a (All-head (λ b. get b.0 d ≡ Some (string b.1)) a rest all))
    (all_annotated d rest (All-tail (λ b. get b.0 d ≡ Some (string b.1)) a rest all))

satisfied_by : (d : Data) (a : List ℕ × List ℕ) (rest : Asked)
    → All (λ b. get b.0 d ≡ Some (string b.1)) (a ∷ rest)
    → (not (is_empty_extra d) && are_annotated d (a ∷ rest)) ≡ true
satisfied_by d a rest all =
    and_both (not (is_empty_extra d)) (are_annotated d (a ∷ rest))
    (ap not (empty_has_none a.0 (string a.1) d (All-head (λ b. get b.0 d ≡ Some (string b.1)) a rest all)))
    (all_annotated d (a ∷ rest) all)

pub satisfied_law : (asked : Asked) (l : Layer) → KeysAscend asked
    → satisfies (marked asked l).simple_signing asked ≡ true
unfolding satisfies
satisfied_law [] l up = refl
satisfied_law (a ∷ rest) l up =
    let d : Data = with_texts (a ∷ rest) (annotations_of l.simple_signing.optional) in
    subst (λ (e : Data). (not (is_empty_extra e) && are_annotated e (a ∷ rest)) ≡ true)
    (sym (extra_is d l.simple_signing.optional))
    (satisfied_by d a rest
    (texts_are_set (a ∷ rest) (annotations_of l.simple_signing.optional) up (is_object l.simple_signing.optional)))

-- ---- what the code reads and makes

pub object_from : (d : Data) (beside : Option Beside) → d ≡ annotations_of beside → IsSome (as_object d)
object_from d beside is = subst (λ (e : Data). IsSome (as_object e)) (sym is) (is_object beside)

pub ruleset marking = (object_from, is_object-with_member)

-- an object is as it is, and anything else counts as an empty one
pub as_it_is : (d : Data) (ms : List (List ℕ × Data)) → Some ms ≡ members_of d → d ≡ object_or_empty (as_object d)
as_it_is null ms is = absurd cc
as_it_is (boolean b) ms is = absurd cc
as_it_is (number n) ms is = absurd cc
as_it_is (string s) ms is = absurd cc
as_it_is (array ds) ms is = absurd cc
as_it_is (object ns) ms is = refl

pub as_empty : (d : Data) → None ≡ members_of d → object no_members ≡ object_or_empty (as_object d)
as_empty null is = refl
as_empty (boolean b) is = refl
as_empty (number n) is = refl
as_empty (string s) is = refl
as_empty (array ds) is = refl
as_empty (object ns) is = absurd cc

pub ruleset reading = (as_it_is, as_empty)

pub said_is : (text s : List ℕ) (value : Data) → Some s ≡ as_str value → bytes_eq s text ≡ is_string text value
said_is text s null is = absurd cc
said_is text s (boolean b) is = absurd cc
said_is text s (number n) is = absurd cc
said_is text s (string t) is = let same : s ≡ t = cc in ap (λ (x : List ℕ). bytes_eq x text) same
said_is text s (array ds) is = absurd cc
said_is text s (object ns) is = absurd cc

pub nothing_said : (text : List ℕ) (value : Data) → None ≡ as_str value → false ≡ is_string text value
nothing_said text null is = refl
nothing_said text (boolean b) is = refl
nothing_said text (number n) is = refl
nothing_said text (string t) is = absurd cc
nothing_said text (array ds) is = refl
nothing_said text (object ns) is = refl

pub ruleset saying = (said_is, nothing_said)
