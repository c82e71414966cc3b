-- *Document* with the members of some names alone: by the outcome of each step of its reading, and by a cut through
-- the whole tree.
use Rattle.std.proofs.Common.{◌≡◌, ℕ, Bool, true, false, not, cond, List, [], ◌∷◌, Some, None, Ok, Err, IsUtf8}
use Rattle.std.proofs.Common.{Vec, Global, refl, inl, inr, sym, ap, subst, ◌∙◌}
use Rattle.std.proofs.lemmas.Bool.{both_ways}
use Rattle.std.specs.Cow.{cow_str_bytes}
use Rattle.std.specs.List.{filter}
use Rattle.std.specs.Prelude.{if◌then◌else◌}
use Rattle.sig_base.specs.Answers.{OrMemory}
use Rattle.serde_json.specs.Data.{Data, object, Members, member}
use Rattle.serde_json.specs.Find.{as_object}
use Rattle.serde_json.specs.Read.{read}
use Rattle.serde_json.specs.Written.{has_float, members_have_float}
use Rattle.serde_json.specs.declared.number.Number.{Number}
use Rattle.sig_json.proofs.NamedMembers.{floatless-where, floatless-both, floatless-only, floatless-without, named-only}
use Rattle.sig_json.proofs.NamedMembers.{named-without, only-same, without-same}
use Rattle.sig_json.proofs.DocumentSteps.{document_of-not_utf8, document_of-unread, document_of-float, document_of-read}
use Rattle.sig_json.proofs.Tokens.{object_is_named}
use Rattle.sig_json.proofs.Trees.{view-Null, view-Bool, view-Number, view-Text, view-Array, view-Object}
use Rattle.sig_json.specs.Document.{document_of}
use Rattle.sig_json.specs.Gathered.{Entry}
use Rattle.sig_json.specs.NamedTree.{IsNamedTree}
use Rattle.sig_json.specs.Only.{is_among, members_where, only, only_of, without}
use Rattle.sig_json.specs.Skipped.{KeepsOf}
use Rattle.sig_json.specs.View.{Words, view, members_view}
use Rattle.sig_json.specs.declared.error.DocumentError.{DocumentError}
use Rattle.sig_json.specs.declared.error.DocumentError.TheVariants.{NotJson, Float, OutOfMemory}
use Rattle.sig_json.specs.declared.tree.Tree.{Tree, Null, Bool as Truth, Number as Numeral, Text, Array, Object}

-- a float of a part is one of the whole
pub float-where : (test : List ℕ → Bool) (ms : Members) → members_have_float (members_where test ms) ≡ true
    → members_have_float ms ≡ true
float-where test ms float =
    elim (members_have_float ms) as (λ b. members_have_float ms ≡ b → b ≡ true) [
      | true ↦ λ is. refl
      | false ↦ λ is. absurd (both_ways (members_have_float (members_where test ms)) (floatless-where test ms is) float)
    ] refl

module _ (names : List (List ℕ)) (text : List ℕ) where
  -- ---- the whole text

  pub only_not_utf8 : (IsUtf8 text → ⊥) → only_of names (document_of text) ≡ Err NotJson
  only_not_utf8 not_utf8 = ap (only_of names) (document_of-not_utf8 text not_utf8)

  pub only_unread : IsUtf8 text → read text ≡ None → only_of names (document_of text) ≡ Err NotJson
  only_unread utf8 none = ap (only_of names) (document_of-unread text utf8 none)

  pub only_float : (d : Data) → IsUtf8 text → read text ≡ Some d → has_float d ≡ true
      → only_of names (document_of text) ≡ Err Float
  only_float d utf8 is float = ap (only_of names) (document_of-float text d utf8 is float)

  pub only_read : (d e : Data) → IsUtf8 text → read text ≡ Some d → has_float d ≡ false → e ≡ only names d
      → only_of names (document_of text) ≡ Ok e
  only_read d e utf8 is none cut = ap (only_of names) (document_of-read text d utf8 is none) ∙ ap Ok (sym cut)

  pub cut_read : (d e : Data) → document_of text ≡ Ok d → e ≡ only names d → only_of names (document_of text) ≡ Ok e
  cut_read d e is cut = ap (only_of names) is ∙ ap Ok (sym cut)

  pub cut_refused : (e : DocumentError) → OrMemory OutOfMemory e (document_of text ≡ Err e)
      → OrMemory OutOfMemory e (only_of names (document_of text) ≡ Err e)
  cut_refused e (inl memory) = inl memory
  cut_refused e (inr is) = inr (ap (only_of names) is)

  -- ---- what was kept of it

  pub kept_read : (floats : Bool) (v : Vec Entry Global) → IsUtf8 text
      → KeepsOf floats names text (members_view v.items) → floats ≡ false → has_float (view (Object v)) ≡ false
      → only_of names (document_of text) ≡ Ok (view (Object v))
  unfolding only
  kept_read floats v utf8 keeps beside none =
      let kept : members_have_float (members_where (is_among names) keeps.all)
      ≡ false = ap members_have_float keeps.part.are ∙ sym (ap has_float (view-Object v)) ∙ none in
      only_read (object keeps.all) (view (Object v)) utf8 keeps.is
      (floatless-both (is_among names) keeps.all kept (keeps.part.held ∙ beside))
      (view-Object v ∙ ap object (sym keeps.part.are))

  pub kept_float : (floats : Bool) (v : Vec Entry Global) → IsUtf8 text
      → KeepsOf floats names text (members_view v.items) → has_float (view (Object v)) ≡ true
      → only_of names (document_of text) ≡ Err Float
  kept_float floats v utf8 keeps float =
      only_float (object keeps.all) utf8 keeps.is
      (float-where (is_among names) keeps.all
      (ap members_have_float keeps.part.are ∙ sym (ap has_float (view-Object v)) ∙ float))

  pub kept_beside : (floats : Bool) (kept : Members) → IsUtf8 text → KeepsOf floats names text kept
      → floats ≡ true → only_of names (document_of text) ≡ Err Float
  kept_beside floats kept utf8 keeps float =
      only_float (object keeps.all) utf8 keeps.is
      (float-where (λ name. not (is_among names name)) keeps.all (keeps.part.held ∙ float))

pub cut_floatless : (names : List (List ℕ)) (d e : Data) → has_float d ≡ false → e ≡ only names d
    → has_float e ≡ false
cut_floatless names d e none cut = ap has_float cut ∙ floatless-only names d none

pub cut_named : (names : List (List ℕ)) (d e : Data) → IsNamedTree d → e ≡ only names d → IsNamedTree e
cut_named names d e named cut = subst IsNamedTree (sym cut) (named-only names d named)

pub ruleset kept_reading = (
  only_not_utf8,
  only_unread,
  kept_read,
  kept_float,
  kept_beside,
  cut_read,
  cut_refused,
  cut_floatless,
  cut_named,
  object_is_named,
)

pub ruleset whole_reading = (cut_floatless, cut_named)

-- ---- the cut

module _ (test : List ℕ → Bool) where
  first_where : (e : Entry) (es others : List Entry) (b : Bool)
      → members_view others ≡ members_where test (members_view es)
      → members_view (cond b (e ∷ others) others) ≡
      (if b then member (cow_str_bytes e.0) (view e.1) (members_where test (members_view es)) else members_where test
      (members_view es))
  first_where e es others true rest = ap (member (cow_str_bytes e.0) (view e.1)) rest
  first_where e es others false rest = rest

  pub filter_where : (es : List Entry)
      → members_view (filter (λ e. test (cow_str_bytes e.0)) es) ≡ members_where test (members_view es)
  filter_where [] = refl
  filter_where (e ∷ es) = first_where e es (filter (λ x. test (cow_str_bytes x.0)) es) (test (cow_str_bytes e.0))
      (filter_where es)

pub cut_object : (names : List (List ℕ)) (before after : Vec Entry Global)
    → after.items ≡ filter (λ m. is_among names (cow_str_bytes m.0)) before.items
    → view (Object after) ≡ only names (view (Object before))
unfolding only
cut_object names before after are = view-Object after ∙ ap (λ es. object (members_view es)) are
    ∙ ap object (filter_where (is_among names) before.items) ∙ sym (ap (only names) (view-Object before))

pub cut_null : (names : List (List ℕ)) → view Null ≡ only names (view Null)
cut_null names = sym (only-same names (view Null) (ap as_object view-Null))

pub cut_bool : (names : List (List ℕ)) (b : Bool) → view (Truth b) ≡ only names (view (Truth b))
cut_bool names b = sym (only-same names (view (Truth b)) (ap as_object (view-Bool b)))

pub cut_number : (names : List (List ℕ)) (n : Number) → view (Numeral n) ≡ only names (view (Numeral n))
cut_number names n = sym (only-same names (view (Numeral n)) (ap as_object (view-Number n)))

pub cut_text : (names : List (List ℕ)) (text : Words) → view (Text text) ≡ only names (view (Text text))
cut_text names text = sym (only-same names (view (Text text)) (ap as_object (view-Text text)))

pub cut_array : (names : List (List ℕ)) (v : Vec Tree Global) → view (Array v) ≡ only names (view (Array v))
cut_array names v = sym (only-same names (view (Array v)) (ap as_object (view-Array v)))

pub ruleset cut = (cut_object, cut_null, cut_bool, cut_number, cut_text, cut_array)

-- ---- what is left without some members

pub dropped_object : (names : List (List ℕ)) (before after : Vec Entry Global)
    → after.items ≡ filter (λ m. not (is_among names (cow_str_bytes m.0))) before.items
    → view (Object after) ≡ without names (view (Object before))
unfolding without
dropped_object names before after are = view-Object after ∙ ap (λ es. object (members_view es)) are
    ∙ ap object (filter_where (λ name. not (is_among names name)) before.items)
    ∙ sym (ap (without names) (view-Object before))

pub dropped_null : (names : List (List ℕ)) → view Null ≡ without names (view Null)
dropped_null names = sym (without-same names (view Null) (ap as_object view-Null))

pub dropped_bool : (names : List (List ℕ)) (b : Bool) → view (Truth b) ≡ without names (view (Truth b))
dropped_bool names b = sym (without-same names (view (Truth b)) (ap as_object (view-Bool b)))

pub dropped_number : (names : List (List ℕ)) (n : Number) → view (Numeral n) ≡ without names (view (Numeral n))
dropped_number names n = sym (without-same names (view (Numeral n)) (ap as_object (view-Number n)))

pub dropped_text : (names : List (List ℕ)) (text : Words) → view (Text text) ≡ without names (view (Text text))
dropped_text names text = sym (without-same names (view (Text text)) (ap as_object (view-Text text)))

pub dropped_array : (names : List (List ℕ)) (v : Vec Tree Global) → view (Array v) ≡ without names (view (Array v))
dropped_array names v = sym (without-same names (view (Array v)) (ap as_object (view-Array v)))

pub ruleset dropped_from = (
  dropped_object,
  dropped_null,
  dropped_bool,
  dropped_number,
  dropped_text,
  dropped_array,
)

pub dropped_floatless : (names : List (List ℕ)) (d e : Data) → has_float d ≡ false → e ≡ without names d
    → has_float e ≡ false
dropped_floatless names d e none is = ap has_float is ∙ floatless-without names d none

pub dropped_named : (names : List (List ℕ)) (d e : Data) → IsNamedTree d → e ≡ without names d → IsNamedTree e
dropped_named names d e named is = subst IsNamedTree (sym is) (named-without names d named)

pub ruleset dropped = (dropped_floatless, dropped_named)
