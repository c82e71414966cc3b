-- Whether every member of an object has one of some names.
use Rattle.std.proofs.Common.{◌≡◌, ℕ, ◌+◌, ◌<◌, List, length, drop, get_or, Bool, true, false}
use Rattle.std.proofs.Common.{sym, refl, ◌∙◌}
use Rattle.std.specs.Cow.{cow_str_bytes}
use Rattle.sig_json.specs.Closed.{are_among}
use Rattle.sig_json.specs.Gathered.{Entry}
use Rattle.sig_json.specs.Only.{is_among}
use Rattle.sig_json.specs.View.{members_view}
use Rattle.sig_json.proofs.Lists.{members_from, none_left}

pub among_more : (b : Bool) (names : List (List ℕ)) (es : List Entry) (i : ℕ) (e : Entry) → i < length es
    → e ≡ get_or es i e → true ≡ is_among names (cow_str_bytes e.0) → b ≡ are_among names (members_view (drop i es))
    → b ≡ are_among names (members_view (drop (i + 1) es))
among_more b names es i e h is listed so_far = so_far ∙ rw (members_from es i e h is, ← listed) refl

pub other_here : (b : Bool) (names : List (List ℕ)) (es : List Entry) (i : ℕ) (e : Entry) → i < length es
    → e ≡ get_or es i e → false ≡ is_among names (cow_str_bytes e.0)
    → b ≡ are_among names (members_view (drop i es)) → false ≡ b
other_here b names es i e h is other so_far = sym (so_far ∙ rw (members_from es i e h is, ← other) refl)

pub among_end : (b : Bool) (names : List (List ℕ)) (es : List Entry) (i : ℕ) → i ≡ length es
    → b ≡ are_among names (members_view (drop i es)) → true ≡ b
among_end b names es i end so_far = sym (so_far ∙ rw (none_left es i end) refl)

pub ruleset objects = (among_more, other_here, among_end)
