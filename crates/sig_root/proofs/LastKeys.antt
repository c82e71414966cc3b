-- Which key is found at a log id, after one instance after another was put.
use Rattle.std.proofs.Common.{◌≡◌, ◌≢◌, ℕ, zero, suc, ◌<◌, ℤ, List, [], ◌∷◌, Bool, true, false, Option, Some, None}
use Rattle.std.proofs.Common.{inl, inr, refl, sym, ap, subst, ◌∙◌, arith}
use Rattle.std.specs.Prelude.{◌⊎◌, bytes_eq}
use Rattle.std.specs.List.Sorted.{IsStrictlySortedBy}
use Rattle.std.specs.Cmp.Lexicographic.{bytes_decides}
use Rattle.sig_base.specs.ByText.{KeysAscend, text_lookup, text_put}
use Rattle.sig_base.proofs.TextEntries.{put_ascends, put_found, put_others}
use Rattle.sig_base.proofs.OptionSteps.{some_is}
use Rattle.sig_root.specs.Picked.{key_at, keys_of, put_instances, put_instance, put_key}
use Rattle.sig_root.specs.PickedLaws.{GivesAt, IsLastKey}
use Rattle.sig_root.specs.declared.record.TransparencyLogInstance.{TransparencyLogInstance as Instance}

abbrev Keys : Type 0
Keys = List (List ℕ × List ℕ)

-- no instance gives a key for the log id
abbrev NoneGives : ℤ → List Instance → List ℕ → Type 0
NoneGives now instances id = (index : ℕ) (key : List ℕ) → ¬ GivesAt now instances index id key

none_after : (now : ℤ) (i : Instance) (is : List Instance) (id : List ℕ) → NoneGives now (i ∷ is) id
    → NoneGives now is id
none_after now i is id none index key gives = none (suc index) key gives

-- what an instance puts at another log id does not matter
other_put : (id : List ℕ) (found : Option (List ℕ × List ℕ)) (keys : Keys) → ((key : List ℕ) → found ≢ Some (id, key))
    → text_lookup id (put_key found keys) ≡ text_lookup id keys
other_put id None keys apart = refl
other_put id (Some k) keys apart =
    put_others k.0 id k.1 keys (λ same. apart k.1 (ap (λ (t : List ℕ). Some (t, k.1)) (sym same)))

kept : (now : ℤ) (is : List Instance) (id : List ℕ) (keys : Keys) → NoneGives now is id
    → text_lookup id (put_instances now is keys) ≡ text_lookup id keys
kept now [] id keys none = refl
kept now (i ∷ is) id keys none =
    kept now is id (put_instance now i keys) (none_after now i is id none)
    ∙ other_put id (key_at now i) keys (λ key gives. none zero key (i, refl, gives))

-- the last instance of the id is found
pub last_found : (now : ℤ) (is : List Instance) (id key : List ℕ) (keys : Keys) → (last : IsLastKey now is id key)
    → text_lookup id (put_instances now is keys) ≡ Some key
last_found now is id key keys last = at now is id key keys last.index last.gives last.last
  where
    at : (now : ℤ) (is : List Instance) (id key : List ℕ) (keys : Keys) (index : ℕ) → GivesAt now is index id key
        → ((later : ℕ) (other : List ℕ) → index < later → ¬ GivesAt now is later id other)
        → text_lookup id (put_instances now is keys) ≡ Some key
    at now [] id key keys index gives last = absurd (let no = gives.1 in cc)
    at now (i ∷ is) id key keys zero gives last =
        let same : i ≡ gives.0 = some_is _ _ gives.1 in
        let put : key_at now i ≡ Some (id, key) = ap (key_at now) same ∙ gives.2 in
        kept now is id (put_instance now i keys) (λ index other its. last (suc index) other (omega arith) its)
        ∙ ap (λ k. text_lookup id (put_key k keys)) put ∙ put_found id key keys
    at now (i ∷ is) id key keys (suc index) gives last =
        at now is id key (put_instance now i keys) index gives
        (λ later other lt its. last (suc later) other (omega (arith, lt)) its)

-- what is found is the key of the last instance of the id, or was there before
abbrev Found : ℤ → List Instance → List ℕ → List ℕ → Keys → Type 0
Found now is id key keys = IsLastKey now is id key ⊎ (NoneGives now is id × (text_lookup id keys ≡ Some key))

further : (now : ℤ) (i : Instance) (is : List Instance) (id key : List ℕ) → IsLastKey now is id key
    → IsLastKey now (i ∷ is) id key
further now i is id key last = record { index = suc last.index; gives = last.gives; last = after }
  where
    after : (later : ℕ) (other : List ℕ) → suc last.index < later → ¬ GivesAt now (i ∷ is) later id other
    after zero other lt gives = omega (arith, lt)
    after (suc later) other lt gives = last.last later other (omega (arith, lt)) gives

module _ (now : ℤ) (i : Instance) (is : List Instance) (id key : List ℕ) (none : NoneGives now is id) where
  none_ahead : ((key : List ℕ) → key_at now i ≢ Some (id, key)) → NoneGives now (i ∷ is) id
  none_ahead apart zero other gives = apart other (ap (key_at now) (some_is _ _ gives.1) ∙ gives.2)
  none_ahead apart (suc index) other gives = none index other gives

  here : (found : Option (List ℕ × List ℕ)) (keys : Keys) → key_at now i ≡ found
      → text_lookup id (put_key found keys) ≡ Some key
      → Found now (i ∷ is) id key keys
  here None keys e found = inr (none_ahead (λ other gives. let no = sym e ∙ gives in cc), found)
  here (Some k) keys e found = by (bytes_eq id k.0) refl
    where
      first : (later : ℕ) (other : List ℕ) → zero < later → ¬ GivesAt now (i ∷ is) later id other
      first zero other lt gives = omega (arith, lt)
      first (suc later) other lt gives = none later other gives

      by : (b : Bool) → bytes_eq id k.0 ≡ b → Found now (i ∷ is) id key keys
      by true same =
          let named : id ≡ k.0 = (bytes_decides id k.0).0 same in
          let value : k.1 ≡ key = some_is _ _ (sym (put_found k.0 k.1 keys) ∙ subst
          (λ (t : List ℕ). text_lookup t (text_put k.0 k.1 keys) ≡ Some key) named found) in
          let gives : key_at now i ≡ Some (id, key) = e ∙ ap (λ (t : List ℕ). Some (t, k.1)) (sym named)
          ∙ ap (λ (v : List ℕ). Some (id, v)) value in
          inl (record { index = zero; gives = (i, refl, gives); last = first })
      by false apart =
          let other : id ≢ k.0 = λ same. let yes = (bytes_decides id k.0).1 same in cc in
          inr (
            none_ahead (λ v gives. other (sym (ap (λ (w : List ℕ × List ℕ). w.0) (some_is _ _ (sym e ∙ gives))))),
            sym (put_others k.0 id k.1 keys other) ∙ found,
          )

pub found_last : (now : ℤ) (is : List Instance) (id key : List ℕ) (keys : Keys)
    → text_lookup id (put_instances now is keys) ≡ Some key
    → Found now is id key keys
found_last now [] id key keys found = inr ((λ index other gives. let no = gives.1 in cc), found)
found_last now (i ∷ is) id key keys found = by (found_last now is id key (put_instance now i keys) found)
  where
    by : Found now is id key (put_instance now i keys) → Found now (i ∷ is) id key keys
    by (inl last) = inl (further now i is id key last)
    by (inr before) = here now i is id key before.0 (key_at now i) keys refl before.1

pub only_last : (now : ℤ) (is : List Instance) (id key : List ℕ) → text_lookup id (keys_of now is) ≡ Some key
    → IsLastKey now is id key
only_last now is id key found = by (found_last now is id key [] found)
  where
    by : Found now is id key [] → IsLastKey now is id key
    by (inl last) = last
    by (inr before) = absurd (let no = before.1 in cc)

-- the log ids stay in byte order
pub put_key_ascends : (found : Option (List ℕ × List ℕ)) (keys : Keys) → KeysAscend keys
    → KeysAscend (put_key found keys)
put_key_ascends None keys up = up
put_key_ascends (Some k) keys up = put_ascends k.0 k.1 keys up

pub none_ascend : KeysAscend {V = List ℕ} []
unfolding IsStrictlySortedBy
none_ascend = tt

pub each_ascends : (now : ℤ) (is : List Instance) (keys : Keys) → KeysAscend keys
    → KeysAscend (put_instances now is keys)
each_ascends now [] keys up = up
each_ascends now (i ∷ is) keys up = each_ascends now is (put_instance now i keys)
    (put_key_ascends (key_at now i) keys up)
