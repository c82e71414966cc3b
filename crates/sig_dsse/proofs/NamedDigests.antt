-- The digests that are taken are those of the entries with a known name, one each and in order.
use Rattle.std.proofs.Common.{◌≡◌, ◌≢◌, ◌≤◌, ◌↔◌, inl, inr, ℕ, Bool, true, false, cond, ◌||◌, nat_lt, List, [], ◌∷◌}
use Rattle.std.proofs.Common.{◌++◌, length, Result, Ok, Err, refl, sym, ap, subst, ◌∙◌, arith}
use Rattle.std.proofs.lemmas.Bool.{cases_Bool, ltb-false, le-ltb}
use Rattle.std.proofs.lemmas.Slice.Eq.{bytes_eq-Decides}
use Rattle.std.specs.Bool.{Decides}
use Rattle.std.specs.List.{AllByRecursion, filter, flat_map}
use Rattle.std.specs.Prelude.{codes, bytes_eq, ⊤}
use Rattle.sig_base.proofs.ResultSteps.{ok_is, bind_ok, guard_ok}
use Rattle.sig_base.specs.ResultSteps.{◌>>=◌}
use Rattle.hex.specs.Hex.{decode_sized}
use Rattle.sig_dsse.specs.declared.artifact_digest.ArtifactDigest.{ArtifactDigest}
use Rattle.sig_dsse.specs.declared.artifact_digest.ArtifactDigest.TheVariants.{Sha256, Sha512}
use Rattle.sig_dsse.specs.declared.recognized.DigestName.{DigestName}
use Rattle.sig_dsse.specs.declared.recognized.DigestName.TheVariants.{Sha256 as NamedSha256, Sha512 as NamedSha512}
use Rattle.sig_dsse.specs.declared.recognized.SubjectFault.{SubjectFault}
use Rattle.sig_dsse.specs.declared.recognized.SubjectFault.TheVariants.{TooManySubjects, TooManyDigests}
use Rattle.sig_dsse.specs.declared.recognized.SubjectFault.TheVariants.{NoneRecognized}
use Rattle.sig_dsse.specs.NamedDigest.{is_known, named, IsWithinLimits, IsEntryOf, AreEntriesOf, AreTaken}
use Rattle.sig_dsse.specs.NamedDigest.{TakesTheNamed}
use Rattle.sig_dsse.specs.NamedDigest.{FindsNone}
use Rattle.sig_dsse.specs.Recognized.{digest_or_malformed, digests_of_each, entry_digest, map_digests, not_none}
use Rattle.sig_dsse.specs.Recognized.{digests_of_maps, digests_or_fault, most_digests, most_subjects}
use Rattle.sig_dsse.specs.Statement.{DigestTexts, Statement, digest_maps}

abbrev Collected : Type 0
Collected = Result (List ArtifactDigest) SubjectFault

abbrev Entry : Type 0
Entry = List ℕ × List ℕ

-- ---- entry by entry

one-only : (d : ArtifactDigest) (ds : List ArtifactDigest) (e : Entry) → AreEntriesOf (d ∷ ds) (e ∷ [])
    → (IsEntryOf d e) × (ds ≡ [])
one-only d [] e all = (all.0, refl)
one-only d (other ∷ ds) e all = absurd all.1

none-only : (ds : List ArtifactDigest) → AreEntriesOf ds [] → ds ≡ []
none-only [] all = refl
none-only (d ∷ ds) all = absurd all

joined : (a b : List ArtifactDigest) (u v : List Entry) → AreEntriesOf a u → AreEntriesOf b v
    → AreEntriesOf (a ++ b) (u ++ v)
joined [] b [] v one other = other
joined [] b (e ∷ u) v one other = absurd one
joined (d ∷ a) b [] v one other = absurd one
joined (d ∷ a) b (e ∷ u) v one other = (one.0, joined a b u v one.1 other)

-- the digests of two lists of entries, one after the other
pub record Parted (ds : List ArtifactDigest) (u v : List Entry) : Type 0 where
  pub front : List ArtifactDigest
  pub back : List ArtifactDigest
  pub whole : front ++ back ≡ ds
  pub of_front : AreEntriesOf front u
  pub of_back : AreEntriesOf back v

parted : (ds : List ArtifactDigest) (u v : List Entry) → AreEntriesOf ds (u ++ v) → Parted ds u v
parted ds [] v all = record { front = []; back = ds; whole = refl; of_front = tt; of_back = all }
parted [] (e ∷ u) v all = absurd all
parted (d ∷ ds) (e ∷ u) v all =
    let rest = parted ds u v all.1 in
    record {
      front = d ∷ rest.front;
      back = rest.back;
      whole = ap (λ x. d ∷ x) rest.whole;
      of_front = (all.0, rest.of_front);
      of_back = rest.of_back;
    }

-- ---- an entry

names-differ : codes "sha256" ≢ codes "sha512"
names-differ same = let f : ◌≡◌ {A = ℕ} 50 53 = cc in omega arith

-- a digest of an entry of this name is of the name's kind
only_sha256 : (name text : List ℕ) → name ≡ codes "sha256" → (d : ArtifactDigest) → IsEntryOf d (name, text)
    → (bytes : List ℕ) × (d ≡ Sha256 bytes)
only_sha256 name text is (Sha256 bytes) entry = (bytes, refl)
only_sha256 name text is (Sha512 bytes) entry = absurd (names-differ (sym is ∙ entry.0))

only_sha512 : (name text : List ℕ) → name ≡ codes "sha512" → (d : ArtifactDigest) → IsEntryOf d (name, text)
    → (bytes : List ℕ) × (d ≡ Sha512 bytes)
only_sha512 name text is (Sha512 bytes) entry = (bytes, refl)
only_sha512 name text is (Sha256 bytes) entry = absurd (names-differ (sym entry.0 ∙ is))

-- what the text of an entry decodes to are the bytes of a digest of this kind
abbrev Reads : {E : Type 0} → (List ℕ → ArtifactDigest) → Result (List ℕ) E → Entry → Type 0
Reads kind decoded entry = (bytes : List ℕ) → (decoded ≡ Ok bytes) ↔ IsEntryOf (kind bytes) entry

digest-taken : {E : Type 0} → (label : DigestName) (kind : List ℕ → ArtifactDigest) (decoded : Result (List ℕ) E)
    (entry : Entry) → Reads kind decoded entry → (ds : List ArtifactDigest)
    → digest_or_malformed label kind decoded ≡ Ok ds → AreEntriesOf ds (entry ∷ [])
digest-taken label kind (Err e) entry reads ds taken = cc
digest-taken label kind (Ok bytes) entry reads ds taken =
    subst (λ x. AreEntriesOf x (entry ∷ [])) (ok_is (kind bytes ∷ []) ds taken) ((reads bytes).0 refl, tt)

one_digest : (d other : ArtifactDigest) (ds : List ArtifactDigest) → d ≡ other → ds ≡ []
    → ◌≡◌ {A = Collected} (Ok (other ∷ [])) (Ok (d ∷ ds))
one_digest d other ds same none = rw (same, none) refl

digest-takes : {E : Type 0} → (label : DigestName) (kind : List ℕ → ArtifactDigest) (decoded : Result (List ℕ) E)
    (entry : Entry) → Reads kind decoded entry
    → ((d : ArtifactDigest) → IsEntryOf d entry → (bytes : List ℕ) × (d ≡ kind bytes)) → (ds : List ArtifactDigest)
    → AreEntriesOf ds (entry ∷ []) → digest_or_malformed label kind decoded ≡ Ok ds
digest-takes label kind decoded entry reads only [] all = absurd all
digest-takes label kind decoded entry reads only (d ∷ ds) all =
    let one = one-only d ds entry all in
    let (bytes, is) = only d one.0 in
    rw ((reads bytes).1 (subst (λ x. IsEntryOf x entry) is one.0)) (one_digest d (kind bytes) ds is one.1)

-- the entry, where its name is known
abbrev known : Entry → List Entry
known e = cond (is_known e) (e ∷ []) []

by_tests : (name text : List ℕ) (short long : Bool) → Decides short (name ≡ codes "sha256")
    → Decides long (name ≡ codes "sha512") → (ds : List ArtifactDigest)
    → (cond short (digest_or_malformed NamedSha256 Sha256 (decode_sized text 32))
    (cond long (digest_or_malformed NamedSha512 Sha512 (decode_sized text 64)) (Ok [])) ≡ Ok ds)
    ↔ AreEntriesOf ds (cond (short || long) ((name, text) ∷ []) [])
by_tests name text true long told_short told_long ds =
    let is = told_short.0 refl in
    let reads : Reads Sha256 (decode_sized text 32) (name, text) = λ bytes. ((λ e. (is, e)), (λ entry. entry.1)) in (
      digest-taken NamedSha256 Sha256 (decode_sized text 32) (name, text) reads ds,
      digest-takes NamedSha256 Sha256 (decode_sized text 32) (name, text) reads (only_sha256 name text is) ds,
    )
by_tests name text false true told_short told_long ds =
    let is = told_long.0 refl in
    let reads : Reads Sha512 (decode_sized text 64) (name, text) = λ bytes. ((λ e. (is, e)), (λ entry. entry.1)) in (
      digest-taken NamedSha512 Sha512 (decode_sized text 64) (name, text) reads ds,
      digest-takes NamedSha512 Sha512 (decode_sized text 64) (name, text) reads (only_sha512 name text is) ds,
    )
by_tests name text false false told_short told_long ds =
    ((λ e. subst (λ x. AreEntriesOf x []) (ok_is [] ds e) tt), (λ all. rw (none-only ds all) refl))

entry_taken : (e : Entry) (ds : List ArtifactDigest) → (entry_digest e ≡ Ok ds) ↔ AreEntriesOf ds (known e)
unfolding entry_digest
entry_taken e ds =
    by_tests e.0 e.1 (bytes_eq e.0 (codes "sha256")) (bytes_eq e.0 (codes "sha512"))
    (bytes_eq-Decides e.0 (codes "sha256")) (bytes_eq-Decides e.0 (codes "sha512")) ds

-- ---- one thing after another

-- what is taken of a thing: the digests of these entries, where this holds
abbrev Takes : {A : Type 0} → (A → Collected) → (A → Type 0) → (A → List Entry) → Type 0
Takes {A} f L entries = (x : A) (ds : List ArtifactDigest) → (f x ≡ Ok ds) ↔ (L x × AreEntriesOf ds (entries x))

each-taken : {A : Type 0} → (f : A → Collected) (L : A → Type 0) (entries : A → List Entry) → Takes f L entries
    → (xs : List A) (ds : List ArtifactDigest) → digests_of_each f xs ≡ Ok ds
    → AllByRecursion L xs × AreEntriesOf ds (flat_map entries xs)
each-taken f L entries takes [] ds e = (tt, subst (λ x. AreEntriesOf x []) (ok_is [] ds e) tt)
each-taken f L entries takes (x ∷ xs) ds e =
    let first = bind_ok (f x) _ ds e in
    let others = bind_ok (digests_of_each f xs) _ ds first.2 in
    let here = (takes x first.0).0 first.1 in
    let there = each-taken f L entries takes xs others.0 others.1 in (
      (here.0, there.0),
      subst (λ y. AreEntriesOf y (entries x ++ flat_map entries xs))
          (ok_is (first.0 ++ others.0) ds others.2) (joined first.0 others.0 (entries x) (flat_map entries xs) here.1
          there.1),
    )

each-takes : {A : Type 0} → (f : A → Collected) (L : A → Type 0) (entries : A → List Entry) → Takes f L entries
    → (xs : List A) (ds : List ArtifactDigest) → AllByRecursion L xs → AreEntriesOf ds (flat_map entries xs)
    → digests_of_each f xs ≡ Ok ds
each-takes f L entries takes [] ds within all = rw (none-only ds all) refl
each-takes f L entries takes (x ∷ xs) ds within all =
    let two = parted ds (entries x) (flat_map entries xs) all in
    let here = (takes x two.front).1 (within.0, two.of_front) in
    let there = each-takes f L entries takes xs two.back within.1 two.of_back in
    rw (here, there) (ap Ok two.whole)

-- ---- a subject

known-filter : (es : List Entry) → flat_map known es ≡ filter is_known es
known-filter [] = refl
known-filter (e ∷ es) =
    elim (cases_Bool (is_known e)) [
      | inl there ↦ rw (there, known-filter es) refl
      | inr other ↦ rw
          (other, known-filter es) refl
    ]

entries_take : Takes entry_digest (λ _. ⊤) known
entries_take e ds = ((λ taken. (tt, (entry_taken e ds).0 taken)), (λ all. (entry_taken e ds).1 all.1))

all-nothing : (es : List Entry) → AllByRecursion (λ (_ : Entry). ⊤) es
all-nothing [] = tt
all-nothing (e ∷ es) = (tt, all-nothing es)

abbrev IsShort : DigestTexts → Type 0
IsShort digests = length digests ≤ most_digests

-- a limit that is kept, where something is taken
unless_many : (n limit : ℕ) (fault : SubjectFault) (found : Collected) (ds : List ArtifactDigest)
    → cond (nat_lt limit n) (Err fault) found ≡ Ok ds → (n ≤ limit) × (found ≡ Ok ds)
unless_many n limit fault found ds e =
    let few = guard_ok (nat_lt limit n) fault found ds e in (ltb-false limit n few.0, few.1)

maps_take : Takes map_digests IsShort (filter is_known)
unfolding map_digests
maps_take m ds = (there, back) where
  there : map_digests m ≡ Ok ds → IsShort m × AreEntriesOf ds (filter is_known m)
  there taken =
      let found = unless_many (length m) most_digests (TooManyDigests (length m)) (digests_of_each entry_digest m) ds
      taken in
      (found.0, rw known-filter at (each-taken entry_digest (λ _. ⊤) known entries_take m ds found.1).1)

  back : IsShort m × AreEntriesOf ds (filter is_known m) → map_digests m ≡ Ok ds
  back all =
      rw (le-ltb most_digests (length m) all.0)
      (each-takes entry_digest (λ _. ⊤) known entries_take m ds (all-nothing m) (rw known-filter all.1))

-- ---- a statement

some_same : (found ds : List ArtifactDigest) → not_none found ≡ Ok ds → (found ≡ ds) × (ds ≢ [])
some_same [] ds e = cc
some_same (x ∷ found) ds e =
    let same = ok_is (x ∷ found) ds e in (same, λ none. let two : x ∷ found ≡ [] = same ∙ none in cc)

some_back : (ds : List ArtifactDigest) → ds ≢ [] → not_none ds ≡ Ok ds
some_back [] some = absurd (some refl)
some_back (d ∷ ds) some = refl

within-few : (statement : Statement) → IsWithinLimits statement
    → digests_or_fault statement ≡ (digests_of_each map_digests (digest_maps statement) >>= not_none)
unfolding digests_of_maps
within-few statement within = rw (le-ltb most_subjects (length (digest_maps statement)) within.subjects) refl

pub takes_the_named : TakesTheNamed
unfolding digests_of_maps
takes_the_named statement ds = (there, back) where
  there : digests_or_fault statement ≡ Ok ds → AreTaken statement ds
  there taken =
      let few = unless_many (length (digest_maps statement)) most_subjects _ _ ds taken in
      let found = bind_ok (digests_of_each map_digests (digest_maps statement)) not_none ds few.1 in
      let same = some_same found.0 ds found.2 in
      let each = each-taken map_digests IsShort (filter is_known) maps_take (digest_maps statement) found.0 found.1 in
      record {
        within = record { subjects = few.0; digests = each.0 };
        entries = subst (λ x. AreEntriesOf x (named statement)) same.0 each.1;
        some = same.1;
      }

  back : AreTaken statement ds → digests_or_fault statement ≡ Ok ds
  back all =
      within-few statement all.within
      ∙ rw (each-takes map_digests IsShort (filter is_known) maps_take (digest_maps statement) ds all.within.digests
      all.entries) (some_back ds all.some)

-- ---- no fault of an entry is that there is none

abbrev IsAnother : Collected → Type 0
IsAnother found = found ≡ Err NoneRecognized → ⊥

malformed-another : {E : Type 0}
    → (name : DigestName) (digest : List ℕ → ArtifactDigest) (decoded : Result (List ℕ) E)
    → IsAnother (digest_or_malformed name digest decoded)
malformed-another name digest (Ok bytes) e = cc
malformed-another name digest (Err fault) e = cc

tests-another : (short long : Bool) (one other : Collected) → IsAnother one → IsAnother other
    → IsAnother (cond short one (cond long other (Ok [])))
tests-another true long one other p q e = p e
tests-another false true one other p q e = q e
tests-another false false one other p q e = cc

entry-another : (e : Entry) → IsAnother (entry_digest e)
unfolding entry_digest
entry-another e =
    tests-another (bytes_eq e.0 (codes "sha256")) (bytes_eq e.0 (codes "sha512")) _ _
    (malformed-another NamedSha256 Sha256 (decode_sized e.1 32))
    (malformed-another NamedSha512 Sha512 (decode_sized e.1 64))

added-another : (first rest : Collected) → IsAnother first → IsAnother rest
    → IsAnother (first >>= λ a. rest >>= λ b. Ok (a ++ b))
added-another (Err fault) rest p q e = p e
added-another (Ok a) (Err fault) p q e = q e
added-another (Ok a) (Ok b) p q e = cc

each-another : {A : Type 0} → (f : A → Collected) → ((x : A) → IsAnother (f x)) → (xs : List A)
    → IsAnother (digests_of_each f xs)
each-another f other [] e = cc
each-another f other (x ∷ xs) e = added-another (f x) (digests_of_each f xs) (other x) (each-another f other xs) e

many-another : (many : Bool) (n : ℕ) (found : Collected) → IsAnother found
    → IsAnother (cond many (Err (TooManyDigests n)) found)
many-another true n found p e = cc
many-another false n found p e = p e

map-another : (m : DigestTexts) → IsAnother (map_digests m)
unfolding map_digests
map-another m =
    many-another (nat_lt most_digests (length m)) (length m) (digests_of_each entry_digest m)
    (each-another entry_digest entry-another m)

-- ---- none

none_found : (found : Collected) → IsAnother found → (found >>= not_none) ≡ Err NoneRecognized → found ≡ Ok []
none_found (Err fault) other e = absurd (other e)
none_found (Ok []) other e = refl
none_found (Ok (d ∷ ds)) other e = cc

unless_many_too : (n limit : ℕ) (found : Collected)
    → cond (nat_lt limit n) (Err (TooManySubjects n)) found ≡ Err NoneRecognized
    → (n ≤ limit) × (found ≡ Err NoneRecognized)
unless_many_too n limit found e =
    elim (cases_Bool (nat_lt limit n)) [
      | inl many ↦ absurd (refused (rw many at e))
      | inr few ↦ (ltb-false limit n few, rw few at e)
    ] where
      refused : ◌≡◌ {A = Collected} (Err (TooManySubjects n)) (Err NoneRecognized) → ⊥
      refused is = cc

no_entries : (es : List Entry) → AreEntriesOf [] es → es ≡ []
no_entries [] all = refl
no_entries (e ∷ es) all = absurd all

pub finds_none : FindsNone
unfolding digests_of_maps
finds_none statement = (there, back) where
  there : digests_or_fault statement ≡ Err NoneRecognized → IsWithinLimits statement × (named statement ≡ [])
  there none =
      let maps = digest_maps statement in
      let few = unless_many_too (length maps) most_subjects (digests_of_each map_digests maps >>= not_none) none in
      let found = none_found (digests_of_each map_digests maps) (each-another map_digests map-another maps) few.1 in
      let each = each-taken map_digests IsShort (filter is_known) maps_take maps [] found in
      (record { subjects = few.0; digests = each.0 }, no_entries (named statement) each.1)

  back : IsWithinLimits statement × (named statement ≡ []) → digests_or_fault statement ≡ Err NoneRecognized
  back none =
      within-few statement none.0
      ∙ rw (each-takes map_digests IsShort (filter is_known) maps_take (digest_maps statement) [] none.0.digests
      (subst (λ es. AreEntriesOf [] es) (sym none.1) tt)) refl
