-- Each fault of a statement comes if and only if it has its cause.
use Rattle.std.proofs.Common.{◌≡◌, ◌≢◌, ◌≤◌, ◌<◌, ◌⊎◌, inl, inr, ℕ, Bool, true, false, cond, nat_lt, List, [], ◌∷◌}
use Rattle.std.proofs.Common.{◌++◌, length, Result, Ok, Err, refl, sym, ap, subst, ◌∙◌, arith}
use Rattle.std.proofs.lemmas.Bool.{ltb-false, ltb-true, le-ltb, lt-ltb}
use Rattle.std.proofs.lemmas.Slice.Eq.{bytes_eq-Decides}
use Rattle.std.specs.Bool.{Decides}
use Rattle.std.specs.List.{AllByRecursion}
use Rattle.std.specs.Prelude.{codes, bytes_eq, IsOk, ◌↔◌}
use Rattle.sha2.proofs.Facts256.{length-sha256}
use Rattle.sha2.proofs.Facts512.{length-sha512}
use Rattle.sig_base.proofs.ResultSteps.{bind_ok, guard_ok}
use Rattle.sig_base.specs.ResultSteps.{◌>>=◌}
use Rattle.hex.proofs.HexLemmas.{IsOk-decode_sized}
use Rattle.hex.specs.Hex.{decode_sized}
use Rattle.sig_dsse.specs.declared.artifact_digest.ArtifactDigest.{ArtifactDigest}
use Rattle.sig_dsse.specs.declared.artifact_digest.ArtifactDigest.TheVariants.{Sha256, Sha512}
use Rattle.sig_dsse.specs.declared.recognized.DigestName.{DigestName}
use Rattle.sig_dsse.specs.declared.recognized.DigestName.TheVariants.{Sha256 as NamedSha256, Sha512 as NamedSha512}
use Rattle.sig_dsse.specs.declared.recognized.SubjectFault.{SubjectFault}
use Rattle.sig_dsse.specs.declared.recognized.SubjectFault.TheVariants.{TooManySubjects, TooManyDigests, Malformed}
use Rattle.sig_dsse.specs.declared.recognized.SubjectFault.TheVariants.{NoneRecognized, OutOfMemory}
use Rattle.sig_dsse.specs.Faults.{IsFirst, spelling, IsHexDigest, IsMalformed, IsWellFormed, IsSound, HasTooMany}
use Rattle.sig_dsse.specs.Faults.{HasMalformed, IsCauseOf, DigitsAreOfTheHash, FaultsHaveTheirCause}
use Rattle.sig_dsse.specs.NamedDigest.{named}
use Rattle.sig_dsse.specs.Recognized.{digest_or_malformed, digests_of_each, entry_digest, map_digests, not_none}
use Rattle.sig_dsse.specs.Recognized.{digests_of_maps, digests_or_fault, most_digests}
use Rattle.sig_dsse.specs.Statement.{DigestTexts, Statement, digest_maps}
use Rattle.sig_dsse.proofs.NamedDigests.{finds_none}

abbrev Collected : Type 0
Collected = Result (List ArtifactDigest) SubjectFault

abbrev Entry : Type 0
Entry = List ℕ × List ℕ

pub digits_are_of_the_hash : DigitsAreOfTheHash
digits_are_of_the_hash message = (rw (length-sha256 message) refl, rw (length-sha512 message) refl)

-- ---- one thing after another

-- of a thing that is good there are digests, and each fault comes if and only if it has its cause
record Tells {A : Type 0} (f : A → Collected) (Good : A → Type 0) (Cause : SubjectFault → A → Type 0) : Type 0 where
  good : (x : A) (ds : List ArtifactDigest) → f x ≡ Ok ds → Good x
  taken : (x : A) → Good x → (ds : List ArtifactDigest) × (f x ≡ Ok ds)
  caused : (x : A) (fault : SubjectFault) → f x ≡ Err fault → Cause fault x
  told : (x : A) (fault : SubjectFault) → Cause fault x → f x ≡ Err fault

good_first : {A : Type 0} (Good Bad : A → Type 0) (x : A) (xs : List A) → Good x → IsFirst Good Bad xs
    → IsFirst Good Bad (x ∷ xs)
good_first Good Bad x xs good i =
    record {
      before = x ∷ i.before;
      first = i.first;
      after = i.after;
      whole = ap (λ l. x ∷ l) i.whole;
      good = (good, i.good);
      bad = i.bad;
    }

each-good : {A : Type 0} (f : A → Collected) (Good : A → Type 0) (Cause : SubjectFault → A → Type 0)
    → Tells f Good Cause
    → (xs : List A) (ds : List ArtifactDigest) → digests_of_each f xs ≡ Ok ds → AllByRecursion Good xs
each-good f Good Cause t [] ds e = tt
each-good f Good Cause t (x ∷ xs) ds e =
    let first = bind_ok (f x) _ ds e in
    let others = bind_ok (digests_of_each f xs) _ ds first.2 in
    (t.good x first.0 first.1, each-good f Good Cause t xs others.0 others.1)

each-taken : {A : Type 0} (f : A → Collected) (Good : A → Type 0) (Cause : SubjectFault → A → Type 0)
    → Tells f Good Cause
    → (xs : List A) → AllByRecursion Good xs → (ds : List ArtifactDigest) × (digests_of_each f xs ≡ Ok ds)
each-taken f Good Cause t [] all = ([], refl)
each-taken f Good Cause t (x ∷ xs) all =
    let first = t.taken x all.0 in
    let others = each-taken f Good Cause t xs all.1 in
    (first.0 ++ others.0, rw (first.1, others.1) refl)

step-caused : {A : Type 0} (f : A → Collected) (Good : A → Type 0) (Cause : SubjectFault → A → Type 0)
    → Tells f Good Cause
    → (x : A) (xs : List A) (fault : SubjectFault) (found rest : Collected) → f x ≡ found → digests_of_each f xs ≡ rest
    → (digests_of_each f xs ≡ Err fault → IsFirst Good (Cause fault) xs)
    → (found >>= λ first. rest >>= λ others. Ok (first ++ others)) ≡ Err fault → IsFirst Good (Cause fault) (x ∷ xs)
step-caused f Good Cause t x xs fault (Err other) rest is is_rest later e =
    record { before = []; first = x; after = xs; whole = refl; good = tt; bad = t.caused x fault (is ∙ e) }
step-caused f Good Cause t x xs fault (Ok ds) (Err other) is is_rest later e =
    good_first Good (Cause fault) x xs (t.good x ds is) (later (is_rest ∙ e))
step-caused f Good Cause t x xs fault (Ok ds) (Ok more) is is_rest later e = absurd cc

each-caused : {A : Type 0} (f : A → Collected) (Good : A → Type 0) (Cause : SubjectFault → A → Type 0)
    → Tells f Good Cause
    → (xs : List A) (fault : SubjectFault) → digests_of_each f xs ≡ Err fault → IsFirst Good (Cause fault) xs
each-caused f Good Cause t [] fault e = absurd cc
each-caused f Good Cause t (x ∷ xs) fault e =
    step-caused f Good Cause t x xs fault (f x) (digests_of_each f xs) refl refl
    (each-caused f Good Cause t xs fault) e

told-at : {A : Type 0} (f : A → Collected) (Good : A → Type 0) (Cause : SubjectFault → A → Type 0) → Tells f Good Cause
    → (before : List A) (x : A) (after : List A) (fault : SubjectFault) → AllByRecursion Good before → Cause fault x
    → digests_of_each f (before ++ (x ∷ after)) ≡ Err fault
told-at f Good Cause t [] x after fault good bad = rw (t.told x fault bad) refl
told-at f Good Cause t (y ∷ before) x after fault good bad =
    let first = t.taken y good.0 in
    rw (first.1, told-at f Good Cause t before x after fault good.1 bad) refl

each-told : {A : Type 0} (f : A → Collected) (Good : A → Type 0) (Cause : SubjectFault → A → Type 0)
    → Tells f Good Cause
    → (xs : List A) (fault : SubjectFault) → IsFirst Good (Cause fault) xs → digests_of_each f xs ≡ Err fault
each-told f Good Cause t xs fault i =
    subst (λ l. digests_of_each f l ≡ Err fault) (sym i.whole)
    (told-at f Good Cause t i.before i.first i.after fault i.good i.bad)

-- ---- an entry

abbrev EntryCause : SubjectFault → Entry → Type 0
EntryCause (Malformed name) e = IsMalformed name e
EntryCause _ e = ⊥

names-apart : (one other : DigestName) → spelling one ≡ spelling other → one ≡ other
names-apart NamedSha256 NamedSha256 same = refl
names-apart NamedSha256 NamedSha512 same = let f : ◌≡◌ {A = ℕ} 50 53 = cc in absurd (omega arith)
names-apart NamedSha512 NamedSha256 same = let f : ◌≡◌ {A = ℕ} 53 50 = cc in absurd (omega arith)
names-apart NamedSha512 NamedSha512 same = refl

-- what is made of a text under a name
abbrev read_under : DigestName → List ℕ → Collected
read_under NamedSha256 text = digest_or_malformed NamedSha256 Sha256 (decode_sized text 32)
read_under NamedSha512 text = digest_or_malformed NamedSha512 Sha512 (decode_sized text 64)

-- it is a digest, or the name's fault
abbrev Judged : DigestName → Type 0 → Collected → Type 0
Judged name D found = (D × ((ds : List ArtifactDigest) × (found ≡ Ok ds))) ⊎ ((¬ D) × (found ≡ Err (Malformed name)))

judged : {E D : Type 0} (name : DigestName) (digest : List ℕ → ArtifactDigest) (decoded : Result (List ℕ) E)
    → IsOk decoded ↔ D
    → Judged name D (digest_or_malformed name digest decoded)
judged name digest (Ok bytes) tells = inl (tells.0 refl, (digest bytes ∷ [], refl))
judged name digest (Err e) tells = inr ((λ d. let no = tells.1 d in cc), refl)

read-judged : (name : DigestName) (text : List ℕ) → Judged name (IsHexDigest name text) (read_under name text)
read-judged NamedSha256 text = judged NamedSha256 Sha256 (decode_sized text 32) (IsOk-decode_sized text 32)
read-judged NamedSha512 text = judged NamedSha512 Sha512 (decode_sized text 64) (IsOk-decode_sized text 64)

-- an entry has one of the names, and is read under it, or it has neither and nothing is read
abbrev Named_as : DigestName → Entry → Type 0
Named_as name e = (e.0 ≡ spelling name) × (entry_digest e ≡ read_under name e.1)

abbrev Unnamed : Entry → Type 0
Unnamed e = ((name : DigestName) → e.0 ≢ spelling name) × (entry_digest e ≡ Ok [])

by_tests : (e : Entry) (short long : Bool) → Decides short (e.0 ≡ codes "sha256") → Decides long (e.0 ≡ codes "sha512")
    → entry_digest e ≡ cond short (read_under NamedSha256 e.1) (cond long (read_under NamedSha512 e.1) (Ok []))
    → ((name : DigestName) × Named_as name e) ⊎ Unnamed e
by_tests e true long told_short told_long is = inl (NamedSha256, (told_short.0 refl, is))
by_tests e false true told_short told_long is = inl (NamedSha512, (told_long.0 refl, is))
by_tests e false false told_short told_long is = inr (other, is) where
  other : (name : DigestName) → e.0 ≢ spelling name
  other NamedSha256 same = let wrong = told_short.1 same in cc
  other NamedSha512 same = let wrong = told_long.1 same in cc

by_name : (e : Entry) → ((name : DigestName) × Named_as name e) ⊎ Unnamed e
unfolding entry_digest
by_name e =
    by_tests e (bytes_eq e.0 (codes "sha256")) (bytes_eq e.0 (codes "sha512")) (bytes_eq-Decides e.0 (codes "sha256"))
    (bytes_eq-Decides e.0 (codes "sha512")) refl

-- it is well formed and read, or malformed under one name
abbrev EntryJudged : Entry → Type 0
EntryJudged e =
    (IsWellFormed e × ((ds : List ArtifactDigest) × (entry_digest e ≡ Ok ds))) ⊎
    ((name : DigestName) × IsMalformed name e × (entry_digest e ≡ Err (Malformed name)))

named-judged : (name : DigestName) (e : Entry) → Named_as name e
    → Judged name (IsHexDigest name e.1) (read_under name e.1) → EntryJudged e
named-judged name e named (inl read) =
    inl (
      (λ other malformed. malformed.1 (subst (λ n. IsHexDigest n e.1)
          (names-apart name other (sym named.0 ∙ malformed.0)) read.0)),
      (read.1.0, named.1 ∙ read.1.1),
    )
named-judged name e named (inr refused) = inr (name, (named.0, refused.0), named.1 ∙ refused.1)

entry-judged : (e : Entry) → EntryJudged e
entry-judged e =
    elim (by_name e) [
      | inl named ↦ named-judged named.0 e named.1 (read-judged named.0 e.1)
      | inr unnamed ↦ inl ((λ name malformed. unnamed.0 name malformed.0), ([], unnamed.1))
    ]

entry-good : (e : Entry) → EntryJudged e → (ds : List ArtifactDigest) → entry_digest e ≡ Ok ds → IsWellFormed e
entry-good e (inl fine) ds is = fine.0
entry-good e (inr wrong) ds is = let two = sym wrong.2 ∙ is in absurd cc

entry-taken : (e : Entry) → EntryJudged e → IsWellFormed e → (ds : List ArtifactDigest) × (entry_digest e ≡ Ok ds)
entry-taken e (inl fine) good = fine.1
entry-taken e (inr wrong) good = absurd (good wrong.0 wrong.1)

entry-caused : (e : Entry) → EntryJudged e → (fault : SubjectFault) → entry_digest e ≡ Err fault → EntryCause fault e
entry-caused e (inl fine) fault is = let two = sym fine.1.1 ∙ is in absurd cc
entry-caused e (inr wrong) fault is =
    let two = sym wrong.2 ∙ is in
    let same : Malformed wrong.0 ≡ fault = cc in
    subst (λ k. EntryCause k e) same wrong.1

entry-told : (e : Entry) → EntryJudged e → (fault : SubjectFault) → EntryCause fault e → entry_digest e ≡ Err fault
entry-told e (inl fine) (Malformed name) cause = absurd (fine.0 name cause)
entry-told e (inr wrong) (Malformed name) cause =
    wrong.2 ∙ ap (λ n. Err (Malformed n)) (names-apart wrong.0 name (sym wrong.1.0 ∙ cause.0))
entry-told e judged _ cause = absurd cause

entries-tell : Tells entry_digest IsWellFormed EntryCause
entries-tell = record {
  good = λ e. entry-good e (entry-judged e);
  taken = λ e. entry-taken e (entry-judged e);
  caused = λ e. entry-caused e (entry-judged e);
  told = λ e. entry-told e (entry-judged e);
}

-- ---- a subject

abbrev SubjectCause : SubjectFault → DigestTexts → Type 0
SubjectCause (TooManyDigests count) m = HasTooMany count m
SubjectCause (Malformed name) m = HasMalformed name m
SubjectCause _ m = ⊥

subject-good : (m : DigestTexts) (ds : List ArtifactDigest) → map_digests m ≡ Ok ds → IsSound m
unfolding map_digests
subject-good m ds is =
    let few = guard_ok (nat_lt 32 (length m)) (TooManyDigests (length m)) (digests_of_each entry_digest m) ds is in
    (ltb-false 32 (length m) few.0, each-good entry_digest IsWellFormed EntryCause entries-tell m ds few.1)

subject-taken : (m : DigestTexts) → IsSound m → (ds : List ArtifactDigest) × (map_digests m ≡ Ok ds)
unfolding map_digests
subject-taken m sound =
    let found = each-taken entry_digest IsWellFormed EntryCause entries-tell m sound.1 in
    (found.0, rw (le-ltb 32 (length m) sound.0) found.1)

by_entry : (fault : SubjectFault) (m : DigestTexts) → length m ≤ 32 → IsFirst IsWellFormed (EntryCause fault) m
    → SubjectCause fault m
by_entry (Malformed name) m few i = (few, i)
by_entry (TooManySubjects count) m few i = absurd i.bad
by_entry (TooManyDigests count) m few i = absurd i.bad
by_entry NoneRecognized m few i = absurd i.bad
by_entry OutOfMemory m few i = absurd i.bad

many-caused : (many : Bool) (m : DigestTexts) (fault : SubjectFault) → nat_lt 32 (length m) ≡ many
    → cond many (Err (TooManyDigests (length m))) (digests_of_each entry_digest m) ≡ Err fault → SubjectCause fault m
many-caused true m fault test is =
    let same : TooManyDigests (length m) ≡ fault = cc in
    subst (λ k. SubjectCause k m) same (refl, ltb-true 32 (length m) test)
many-caused false m fault test is =
    by_entry fault m (ltb-false 32 (length m) test)
    (each-caused entry_digest IsWellFormed EntryCause entries-tell m fault is)

subject-caused : (m : DigestTexts) (fault : SubjectFault) → map_digests m ≡ Err fault → SubjectCause fault m
unfolding map_digests
subject-caused m fault is = many-caused (nat_lt 32 (length m)) m fault refl is

many-told : (m : DigestTexts) (count : ℕ) → length m ≡ count → 32 < count → map_digests m ≡ Err (TooManyDigests count)
unfolding map_digests
many-told m count is many = rw (is, lt-ltb 32 count many) refl

malformed-told : (m : DigestTexts) (name : DigestName) → length m ≤ 32
    → digests_of_each entry_digest m ≡ Err (Malformed name) → map_digests m ≡ Err (Malformed name)
unfolding map_digests
malformed-told m name few is = rw (le-ltb 32 (length m) few) is

subject-told : (m : DigestTexts) (fault : SubjectFault) → SubjectCause fault m → map_digests m ≡ Err fault
subject-told m (TooManyDigests count) cause = many-told m count cause.0 cause.1
subject-told m (Malformed name) cause =
    malformed-told m name cause.0 (each-told entry_digest IsWellFormed EntryCause entries-tell m
    (Malformed name) cause.1)
subject-told m _ cause = absurd cause

subjects-tell : Tells map_digests IsSound SubjectCause
subjects-tell = record { good = subject-good; taken = subject-taken; caused = subject-caused; told = subject-told }

-- ---- a statement

by_subject : (fault : SubjectFault) (statement : Statement) → length (digest_maps statement) ≤ 1024
    → IsFirst IsSound (SubjectCause fault) (digest_maps statement) → IsCauseOf fault statement
by_subject (TooManyDigests count) statement few i = (few, i)
by_subject (Malformed name) statement few i = (few, i)
by_subject (TooManySubjects count) statement few i = absurd i.bad
by_subject NoneRecognized statement few i = absurd i.bad
by_subject OutOfMemory statement few i = absurd i.bad

short-each : (maps : List DigestTexts) → AllByRecursion IsSound maps
    → AllByRecursion (λ digests. length digests ≤ most_digests) maps
short-each [] all = tt
short-each (m ∷ maps) all = (all.0.0, short-each maps all.1)

few-found : (statement : Statement) → length (digest_maps statement) ≤ 1024
    → digests_or_fault statement ≡ (digests_of_each map_digests (digest_maps statement) >>= not_none)
unfolding digests_of_maps
few-found statement few = rw (le-ltb 1024 (length (digest_maps statement)) few) refl

found-caused : (statement : Statement) (fault : SubjectFault) (found : Collected)
    → digests_of_each map_digests (digest_maps statement) ≡ found
    → length (digest_maps statement) ≤ 1024 → (found >>= not_none) ≡ Err fault → IsCauseOf fault statement
found-caused statement fault (Err other) found few is =
    by_subject fault statement few (each-caused map_digests IsSound SubjectCause subjects-tell (digest_maps statement)
    fault (found ∙ is))
found-caused statement fault (Ok []) found few is =
    let same : NoneRecognized ≡ fault = cc in
    subst (λ k. IsCauseOf k statement) same (
      few,
      each-good map_digests IsSound SubjectCause subjects-tell (digest_maps statement) [] found,
      ((finds_none statement).0 (few-found statement few ∙ rw found refl)).1,
    )
found-caused statement fault (Ok (d ∷ ds)) found few is = absurd cc

many-subjects : (many : Bool) (statement : Statement) (fault : SubjectFault)
    → nat_lt 1024 (length (digest_maps statement)) ≡ many
    → cond many (Err (TooManySubjects (length (digest_maps statement))))
    (digests_of_each map_digests (digest_maps statement) >>= not_none) ≡ Err fault
    → IsCauseOf fault statement
many-subjects true statement fault test is =
    let same : TooManySubjects (length (digest_maps statement)) ≡ fault = cc in
    subst (λ k. IsCauseOf k statement) same (refl, ltb-true 1024 (length (digest_maps statement)) test)
many-subjects false statement fault test is =
    found-caused statement fault (digests_of_each map_digests (digest_maps statement)) refl
    (ltb-false 1024 (length (digest_maps statement)) test) is

statement-caused : (statement : Statement) (fault : SubjectFault) → digests_or_fault statement ≡ Err fault
    → IsCauseOf fault statement
unfolding digests_of_maps
statement-caused statement fault is =
    many-subjects (nat_lt 1024 (length (digest_maps statement))) statement fault refl is

subjects-told : (statement : Statement) (count : ℕ) → length (digest_maps statement) ≡ count → 1024 < count
    → digests_or_fault statement ≡ Err (TooManySubjects count)
unfolding digests_of_maps
subjects-told statement count is many = rw (is, lt-ltb 1024 count many) refl

first-told : (statement : Statement) (fault : SubjectFault) → length (digest_maps statement) ≤ 1024
    → IsFirst IsSound (SubjectCause fault) (digest_maps statement) → digests_or_fault statement ≡ Err fault
first-told statement fault few i =
    few-found statement few ∙ rw (each-told map_digests IsSound SubjectCause subjects-tell (digest_maps statement)
    fault i) refl

statement-told : (statement : Statement) (fault : SubjectFault) → IsCauseOf fault statement
    → digests_or_fault statement ≡ Err fault
statement-told statement (TooManySubjects count) cause = subjects-told statement count cause.0 cause.1
statement-told statement (TooManyDigests count) cause = first-told statement (TooManyDigests count) cause.0 cause.1
statement-told statement (Malformed name) cause = first-told statement (Malformed name) cause.0 cause.1
statement-told statement NoneRecognized cause =
    (finds_none statement).1 (
      record { subjects = cause.0; digests = short-each (digest_maps statement) cause.1 },
      cause.2,
    )
statement-told statement OutOfMemory cause = absurd cause

pub faults_have_their_cause : FaultsHaveTheirCause
faults_have_their_cause statement fault = (statement-caused statement fault, statement-told statement fault)
