-- The entries of a ring: what is found after a key was added, and the ring of a list of SPKIs.
use Rattle.std.proofs.Common.{◌≡◌, ℕ, ◌+◌, ◌<◌, Bool, true, false, cond, List, [], ◌∷◌, ◌++◌, length, take, get_or}
use Rattle.std.proofs.Common.{Option}
use Rattle.std.proofs.Common.{Some, None, Ok, refl, sym, ap, ◌∙◌}
use Rattle.std.specs.Prelude.{bytes_eq, option_map}
use Rattle.std.specs.Borrow.{Bor}
use Rattle.sig_base.specs.Sha256.{sha256}
use Rattle.std.specs.Ordering.{nat_cmp, is_eq}
use Rattle.std.specs.Cmp.Lexicographic.{slice_cmp}
use Rattle.std.specs.Map.{lookup}
use Rattle.std.specs.Option.{option_or, option_copied}
use Rattle.std.proofs.lemmas.List.{take_more}
use Rattle.std.proofs.lemmas.Map.Text.{is_eq-slice_cmp}
use Rattle.sig_base.proofs.Decisions.{bytes_eq_flip}
use Rattle.sig_timestamp.specs.RingKey.{RingKey, point_at}
use Rattle.sig_timestamp.specs.Keyring.{point_if, point_of, key_of}

abbrev Ring : Type 0
Ring = List (List ℕ × RingKey)

-- ---- the tree's look-up is that of its entries

abbrev at_key : List ℕ → List ℕ → Bool
at_key id k = is_eq (slice_cmp nat_cmp id k)

abbrev points : Option RingKey → Option (List ℕ)
points o = option_map (λ (k : RingKey). k.point) o

points_cond : (b : Bool) (x : RingKey) (o : Option RingKey) (p : Option (List ℕ)) → points o ≡ p
    → points (cond b (Some x) o) ≡ cond b (Some x.point) p
points_cond true x o p e = refl
points_cond false x o p e = e

pub lookup_points : (id : List ℕ) (ring : Ring)
    → points (lookup (λ k. is_eq (slice_cmp nat_cmp id k)) ring) ≡ point_at ring id
lookup_points id [] = refl
lookup_points id (e ∷ ring) =
    rw (is_eq-slice_cmp id e.0)
    (points_cond (bytes_eq id e.0) e.1 (lookup (at_key id) ring) (point_at ring id) (lookup_points id ring))

borrowed_points : (r : Option (Bor RingKey)) (o : Option RingKey) → option_copied r ≡ o
    → option_map (λ (k : Bor RingKey). k.now.point) r ≡ points o
borrowed_points None o e = rw (← e) refl
borrowed_points (Some k) o e = rw (← e) refl

pub borrowed_is : (id : List ℕ) (ring : Ring) (r : Option (Bor RingKey))
    → option_copied r ≡ lookup (λ k. is_eq (slice_cmp nat_cmp id k)) ring
    → option_map (λ (k : Bor RingKey). k.now.point) r ≡ point_at ring id
borrowed_is id ring r e = borrowed_points r _ e ∙ lookup_points id ring

-- ---- a key added

pub added : (id spki name : List ℕ) (k : RingKey) (before after : Ring) → point_of spki ≡ Ok k.point
    → name ≡ sha256 spki
    → lookup (λ q. is_eq (slice_cmp nat_cmp id q)) after ≡ cond (is_eq (slice_cmp nat_cmp name id)) (Some k)
    (lookup (λ q. is_eq (slice_cmp nat_cmp id q)) before)
    → point_at after id ≡ option_or (point_if id spki) (point_at before id)
added id spki name k before after is named found =
    sym (lookup_points id after) ∙ ap points found
    ∙ points_cond (at_key name id) k (lookup (at_key id) before) (point_at before id) (lookup_points id before)
    ∙ rw (is_eq-slice_cmp name id, bytes_eq_flip name id, named, is) (by_cases (bytes_eq id (sha256 spki)))
  where
    by_cases : (b : Bool)
        → cond b (Some k.point) (point_at before id) ≡ option_or (cond b (Some k.point) None) (point_at before id)
    by_cases true = refl
    by_cases false = refl

-- ---- a list of SPKIs

option_or_assoc : (a b c : Option (List ℕ)) → option_or (option_or a b) c ≡ option_or a (option_or b c)
option_or_assoc None b c = refl
option_or_assoc (Some x) b c = refl

option_or_none : (a : Option (List ℕ)) → option_or a None ≡ a
option_or_none None = refl
option_or_none (Some x) = refl

pub key_of_none : (id : List ℕ) → None ≡ key_of [] id
unfolding key_of
key_of_none id = refl

key_of_push : (keys : List (List ℕ)) (spki id : List ℕ)
    → key_of (keys ++ spki ∷ []) id ≡ option_or (point_if id spki) (key_of keys id)
unfolding key_of
key_of_push [] spki id = sym (option_or_none (point_if id spki))
key_of_push (k ∷ keys) spki id =
    ap (λ (o : Option (List ℕ)). option_or o (point_if id k)) (key_of_push keys spki id)
    ∙ option_or_assoc (point_if id spki) (key_of keys id) (point_if id k)

-- one turn of the loop over the list: the items are walked in the list's own memory
pub key_of_more : (keys items : List (List ℕ)) (i : ℕ) (spki item id : List ℕ) (before after : Ring) → items ≡ keys
    → i < length items → item ≡ get_or items i item → spki ≡ item
    → point_at after id ≡ option_or (point_if id spki) (point_at before id)
    → point_at before id ≡ key_of (take i keys) id → point_at after id ≡ key_of (take (i + 1) keys) id
key_of_more keys items i spki item id before after same lt there seen e h =
    let below : i < length keys = rw (sym same) lt in
    let got : spki ≡ get_or keys i spki = rw (seen, sym same) there in
    e ∙ ap (λ (o : Option (List ℕ)). option_or (point_if id spki) o) h ∙ sym (key_of_push (take i keys) spki id)
    ∙ ap (λ (xs : List (List ℕ)). key_of xs id)
    (ap (λ (x : List ℕ). take i keys ++ x ∷ []) got ∙ sym (take_more keys i spki below))
