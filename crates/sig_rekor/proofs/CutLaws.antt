-- What `cut_at`, `parts_between` and `trimmed` find is what the relations say, and only that.
use Rattle.std.proofs.Common.{◌≡◌, ◌≢◌, ℕ, zero, suc, ◌-◌, ◌<◌, ◌≤◌, List, [], ◌∷◌, ◌++◌, length, drop, Option, Some}
use Rattle.std.proofs.Common.{None, refl, sym, ◌∙◌, ap, subst, inl, inr, arith, add-one, option_map, MatchOption}
use Rattle.std.proofs.Common.{IfSome, append_assoc, length-append, take-append-drop, reverse, replicate}
use Rattle.std.proofs.lemmas.List.{drop_at, drop_all, reverse-append, reverse-reverse, replicate_more, append-nil}
use Rattle.std.proofs.lemmas.Option.{some_pair_parts}
use Rattle.std.proofs.lemmas.Str.Pattern.{drop_at_char}
use Rattle.std.proofs.lemmas.Str.{encode_ascii, len_utf8_bounds}
use denote.Ref.{Bor}
use Rattle.std.proofs.lemmas.Bool.{cases_eq, cases_lt, eq-eqb, ne_eqb}
use Rattle.std.specs.Str.Pattern.{CutsPrefixes, CutsSuffixes, IsTrimStartMatches, IsTrimEndMatches, FindsCharPrefix}
use Rattle.std.specs.Str.Pattern.{FindsCharSuffix, FindsText, SplitsAroundMatch}
use Rattle.sig_rekor.specs.TextCuts.{IsTrimmed, Lacks, IsCut, IsParts, without_front, without_back, trimmed}
use Rattle.sig_rekor.specs.TextCuts.{after_separator, cut_here, cut_at, parts_of_cut, parts_within, parts_between}

-- a separator at the front
pub after_separator-at : (separator rest : List ℕ) → after_separator separator (separator ++ rest) ≡ Some rest
after_separator-at [] rest = refl
after_separator-at (s ∷ separator) rest = rw (eq-eqb s s refl) (after_separator-at separator rest)

pub after_separator-some : (separator text rest : List ℕ) → after_separator separator text ≡ Some rest
    → text ≡ separator ++ rest
after_separator-some [] text rest e = cc
after_separator-some (s ∷ separator) [] rest e = cc
after_separator-some (s ∷ separator) (b ∷ text) rest e =
    elim (cases_eq s b) [
      | inl same ↦ let t = rw (eq-eqb s b same) at e in let h = after_separator-some separator text rest t in cc
      | inr other ↦ let t = rw (ne_eqb s b other) at e in cc
    ]

pub after_separator-none : (separator text : List ℕ) → ((rest : List ℕ) → text ≢ separator ++ rest)
    → after_separator separator text ≡ None
after_separator-none separator text lacks = none _ refl where
  none : (o : Option (List ℕ)) → after_separator separator text ≡ o → after_separator separator text ≡ None
  none None e = e
  none (Some rest) e = absurd (lacks rest (after_separator-some separator text rest e))

-- the cut is where the separator stands first
pub cut_at-cut : (separator text before after : List ℕ) → 0 < length separator → IsCut separator text before after
    → cut_at separator text ≡ Some (before, after)
unfolding cut_at
cut_at-cut separator [] before after some cut =
    absurd (omega (
      arith,
      ap length cut.whole,
      length-append before
          (separator ++ after),
      length-append separator after,
    ))
cut_at-cut separator (b ∷ text) [] after some cut =
    ap (λ o. cut_here b o (cut_at separator text))
    (ap (after_separator separator) cut.whole ∙ after_separator-at separator after)
cut_at-cut separator (b ∷ text) (c ∷ before) after some cut =
    let later : IsCut separator text before after = record {
      whole = (let w = cut.whole in cc);
      first = λ front back w. (let le = cut.first (b ∷ front) back (ap (λ t. b ∷ t) w) in omega arith);
    } in
    let here = after_separator-none separator (b ∷ text) (λ rest w. (let le = cut.first [] rest w in omega arith)) in
    let same : b ≡ c = (let w = cut.whole in cc) in
    ap (λ o. cut_here b o (cut_at separator text)) here
    ∙ ap (cut_here b None) (cut_at-cut separator text before after some later)
    ∙ ap (λ x. Some (x ∷ before, after)) same

-- after the first byte, where the separator does not stand at it
cut_later : (separator text before after : List ℕ) (b : ℕ) → ((rest : List ℕ) → b ∷ text ≢ separator ++ rest)
    → IsCut separator text before after → IsCut separator (b ∷ text) (b ∷ before) after
cut_later separator text before after b lacks cut = record {
  whole = ap (λ t. b ∷ t) cut.whole;
  first = no_sooner;
} where
  no_sooner : (front back : List ℕ) → b ∷ text ≡ front ++ (separator ++ back) → suc (length before) ≤ length front
  no_sooner [] back w = absurd (lacks back w)
  no_sooner (f ∷ front) back w =
      let t : text ≡ front ++ (separator ++ back) = cc in let le = cut.first front back t in omega arith

pub cut_at-some : (separator text before after : List ℕ) → cut_at separator text ≡ Some (before, after)
    → IsCut separator text before after
unfolding cut_at
cut_at-some separator [] before after e = cc
cut_at-some separator (b ∷ text) before after e = found _ _ refl refl (cut_at-some separator text) e where
  found : (here : Option (List ℕ)) (later : Option (List ℕ × List ℕ)) → after_separator separator (b ∷ text) ≡ here
      → cut_at separator text ≡ later → ((x y : List ℕ) → cut_at separator text ≡ Some (x, y)
      → IsCut separator text x y) → cut_here b here later ≡ Some (before, after)
      → IsCut separator (b ∷ text) before after
  found (Some rest) later h l deeper e =
      let nothing : [] ≡ before = (some_pair_parts _ _ _ _ e).0 in
      let same : rest ≡ after = (some_pair_parts _ _ _ _ e).1 in
      subst (λ x. IsCut separator (b ∷ text) x after) nothing
      (record {
        whole = after_separator-some separator (b ∷ text) after
            (h ∙ ap Some same);
        first = λ front back w. omega arith;
      })
  found None None h l deeper e = cc
  found None (Some cut) h l deeper e =
      let longer : b ∷ cut.0 ≡ before = (some_pair_parts _ _ _ _ e).0 in
      let same : cut.1 ≡ after = (some_pair_parts _ _ _ _ e).1 in
      let lacks : (rest : List ℕ) → b ∷ text ≢ separator ++ rest =
      λ rest w. (let at : after_separator separator (b ∷ text) ≡ Some rest = ap (after_separator separator) w
      ∙ after_separator-at separator rest in cc) in
      subst (λ x. IsCut separator (b ∷ text) x after) longer
      (cut_later separator text cut.0 after b lacks (deeper cut.0 after (l ∙ ap (λ y. Some (cut.0, y)) same)))

pub cut_at-none : (separator text : List ℕ) → 0 < length separator → cut_at separator text ≡ None
    → Lacks separator text
unfolding cut_at
cut_at-none separator [] some e before after w =
    absurd (omega (arith, ap length w, length-append before (separator ++ after), length-append separator after))
cut_at-none separator (b ∷ text) some e before after w =
    nowhere _ _ refl refl (cut_at-none separator text some) e before w where
      nowhere : (here : Option (List ℕ)) (later : Option (List ℕ × List ℕ))
          → after_separator separator (b ∷ text) ≡ here
          → cut_at separator text ≡ later → (cut_at separator text ≡ None → Lacks separator text)
          → cut_here b here later ≡ None → (before : List ℕ) → b ∷ text ≡ before ++ (separator ++ after) → ⊥
      nowhere (Some rest) later h l deeper e before w = cc
      nowhere None (Some cut) h l deeper e before w = cc
      nowhere None None h l deeper e [] w =
          let at : after_separator separator (b ∷ text) ≡ Some after =
          ap (after_separator separator) w ∙ after_separator-at separator after in cc
      nowhere None None h l deeper e (c ∷ before) w =
          deeper l before after (let t : text ≡ before ++ (separator ++ after) = cc in t)

pub cut_at-lacks : (separator text : List ℕ) → Lacks separator text → cut_at separator text ≡ None
cut_at-lacks separator text lacks = none _ refl where
  none : (o : Option (List ℕ × List ℕ)) → cut_at separator text ≡ o → cut_at separator text ≡ None
  none None e = e
  none (Some cut) e = absurd (lacks cut.0 cut.1 (cut_at-some separator text cut.0 cut.1 e).whole)

-- what `split_once` says is this cut
pub cut_at-split_once : (separator text : List ℕ) (r : Option (Bor (List ℕ) × Bor (List ℕ))) → 0 < length separator
    → MatchOption r (FindsText separator text None) (λ x. SplitsAroundMatch (FindsText separator) text x.0.now x.1.now)
    → option_map (λ x. (x.0.now, x.1.now)) r ≡ cut_at separator text
cut_at-split_once separator text None some said = sym (cut_at-lacks separator text (λ before after w.
    let size = ap length w ∙ length-append before (separator ++ after) in
    said (length before) (omega arith) after (ap (drop (length before)) w
    ∙ drop_at before (separator ++ after) (length before) refl)))
cut_at-split_once separator text (Some x) some said = sym (cut_at-cut separator text x.0.now x.1.now some (record {
  whole = sym (take-append-drop said.0 text) ∙ rw (said.3, said.4, said.2.1.split) refl;
  first = no_sooner;
})) where
  no_sooner : (front back : List ℕ) → text ≡ front ++ (separator ++ back) → length x.0.now ≤ length front
  no_sooner front back w = elim (cases_lt (length front) said.0) [
    | inl sooner ↦ absurd (said.2.0 (length front) sooner back
        (ap (drop (length front)) w ∙ drop_at front (separator ++ back) (length front) refl))
    | inr later ↦ omega (arith, said.6)
  ]

-- a mark at the front, and at the end
without_front-mark : (mark : ℕ) (rest : List ℕ) → without_front mark (mark ∷ rest) ≡ without_front mark rest
without_front-mark mark rest = rw (eq-eqb mark mark refl) refl

without_back-mark : (mark : ℕ) (rest : List ℕ) → without_back mark (rest ++ mark ∷ []) ≡ without_back mark rest
unfolding without_back
without_back-mark mark rest =
    ap (λ t. reverse (without_front mark t)) (reverse-append rest (mark ∷ []))
    ∙ ap reverse (without_front-mark mark (reverse rest))

without_front-kept : (mark : ℕ) (text : List ℕ) → ((rest : List ℕ) → text ≢ mark ∷ rest)
    → without_front mark text ≡ text
without_front-kept mark [] kept = refl
without_front-kept mark (b ∷ text) kept = rw (ne_eqb b mark (λ same. kept text (ap (λ x. x ∷ text) same))) refl

without_back-kept : (mark : ℕ) (text : List ℕ) → ((rest : List ℕ) → text ≢ rest ++ mark ∷ [])
    → without_back mark text ≡ text
unfolding without_back
without_back-kept mark text kept =
    ap reverse (without_front-kept mark (reverse text)
    (λ rest w. kept (reverse rest) (sym (reverse-reverse text) ∙ ap reverse w ∙ reverse-append (mark ∷ []) rest)))
    ∙ reverse-reverse text

-- what `trim_start_matches` and `trim_end_matches` say at an ASCII character
front_cuts : (mark : ℕ) (text : List ℕ) (ns : List ℕ) (r : List ℕ) → mark < 128
    → CutsPrefixes (FindsCharPrefix mark) text ns r → without_front mark text ≡ without_front mark r
front_cuts mark text [] r low said = ap (without_front mark) (sym said)
front_cuts mark text (n ∷ ns) r low said =
    front_cuts mark text ns said.0 low said.1 ∙ ap (without_front mark)
    (drop_at_char mark said.0 0 n said.2 low ∙ ap (λ t. mark ∷ t) (sym said.3)) ∙ without_front-mark mark r

pub without_front-trim : (mark : ℕ) (text r : List ℕ) → mark < 128 → IsTrimStartMatches (FindsCharPrefix mark) text r
    → r ≡ without_front mark text
without_front-trim mark text r low said =
    sym (front_cuts mark text said.0.0 r low said.0.1
    ∙ without_front-kept mark r (stopped said.1.0 said.1.1 said.1.2)) where
      stopped : (o : Option ℕ) → FindsCharPrefix mark r o → IfSome o (λ n. n ≡ 0) → (rest : List ℕ) → r ≢ mark ∷ rest
      stopped None finds none rest w = finds rest (w ∙ ap (λ t. t ++ rest) (sym (encode_ascii mark low)))
      stopped (Some n) finds none rest w = omega (arith, finds.ends, none, (len_utf8_bounds mark).0)

back_cuts : (mark : ℕ) (text : List ℕ) (ns : List ℕ) (r : List ℕ) → mark < 128
    → CutsSuffixes (FindsCharSuffix mark) text ns r → without_back mark text ≡ without_back mark r
back_cuts mark text [] r low said = ap (without_back mark) (sym said)
back_cuts mark text (n ∷ ns) r low said =
    let m = said.0 in
    let ends : m ≡ r ++ mark ∷ [] = sym (take-append-drop (length m - n) m)
    ∙ rw (
      ← said.3,
      drop_at_char mark m (length m - n) (length m) said.2.1 low,
      drop_all (length m) m
          (omega arith),
    ) refl in
    back_cuts mark text ns m low said.1 ∙ ap (without_back mark) ends ∙ without_back-mark mark r

pub without_back-trim : (mark : ℕ) (text r : List ℕ) → mark < 128 → IsTrimEndMatches (FindsCharSuffix mark) text r
    → r ≡ without_back mark text
without_back-trim mark text r low said =
    sym (back_cuts mark text said.0.0 r low said.0.1
    ∙ without_back-kept mark r (stopped said.1.0 said.1.1 said.1.2)) where
      stopped : (o : Option ℕ) → FindsCharSuffix mark r o → IfSome o (λ n. n ≡ 0) → (rest : List ℕ)
          → r ≢ rest ++ mark ∷ []
      stopped None finds none rest w = finds rest (w ∙ ap (λ t. rest ++ t) (sym (encode_ascii mark low)))
      stopped (Some n) finds none rest w = omega (arith, finds.0, none, (len_utf8_bounds mark).0)

-- what the two say one after the other
pub trimmed_by_both : (mark : ℕ) (text middle r : List ℕ) → mark < 128
    → IsTrimStartMatches (FindsCharPrefix mark) text middle → IsTrimEndMatches (FindsCharSuffix mark) middle r
    → r ≡ trimmed mark text
unfolding trimmed
trimmed_by_both mark text middle r low front back =
    without_back-trim mark middle r low back ∙ ap (without_back mark) (without_front-trim mark text middle low front)

-- the parts are those of the cuts, however many are allowed
after_cut : (separator text before after : List ℕ) → 0 < length separator
    → cut_at separator text ≡ Some (before, after) → length after < length text
after_cut separator text before after some e =
    let cut = cut_at-some separator text before after e in
    omega (arith, ap length cut.whole, length-append before (separator ++ after), length-append separator after)

parts_within-enough : (n m : ℕ) (separator text : List ℕ) → 0 < length separator → length text ≤ n → length text ≤ m
    → parts_within n separator text ≡ parts_within m separator text
unfolding parts_within cut_at
parts_within-enough zero zero separator text some n_is m_is = refl
parts_within-enough zero (suc m) separator [] some n_is m_is = refl
parts_within-enough zero (suc m) separator (b ∷ text) some n_is m_is = absurd (omega arith)
parts_within-enough (suc n) zero separator [] some n_is m_is = refl
parts_within-enough (suc n) zero separator (b ∷ text) some n_is m_is = absurd (omega arith)
parts_within-enough (suc n) (suc m) separator text some n_is m_is = at _ refl (parts_within-enough n m separator) where
  at : (o : Option (List ℕ × List ℕ)) → cut_at separator text ≡ o
      → ((t : List ℕ) → 0 < length separator → length t ≤ n → length t ≤ m
      → parts_within n separator t ≡ parts_within m separator t)
      → parts_of_cut text (parts_within n separator) (cut_at separator text)
      ≡ parts_of_cut text (parts_within m separator) (cut_at separator text)
  at None e deeper = rw e refl
  at (Some cut) e deeper =
      let less = after_cut separator text cut.0 cut.1 some e in
      rw e (ap (λ rest. cut.0 ∷ rest) (deeper cut.1 some (omega arith) (omega arith)))

pub parts_between-whole : (separator text : List ℕ) → cut_at separator text ≡ None → parts_between separator text
    ≡ text ∷ []
unfolding parts_between parts_within
parts_between-whole separator [] e = refl
parts_between-whole separator (b ∷ text) e = rw e refl

pub parts_between-cut : (separator text before after : List ℕ) → 0 < length separator
    → cut_at separator text ≡ Some (before, after) → parts_between separator text
    ≡ before ∷ parts_between separator after
unfolding parts_between parts_within
parts_between-cut separator [] before after some e = absurd (omega (arith, after_cut separator [] before after some e))
parts_between-cut separator (b ∷ text) before after some e =
    let less = after_cut separator (b ∷ text) before after some e in
    rw e (ap (λ rest. before ∷ rest) (parts_within-enough (length text) (length after) separator after some
    (omega arith) (omega arith)))

-- what the relation says, the parts are
pub parts_between-only : (separator text : List ℕ) (ps : List (List ℕ)) → 0 < length separator
    → IsParts separator text ps
    → parts_between separator text ≡ ps
parts_between-only separator text [] some are = absurd are
parts_between-only separator text (part ∷ []) some are =
    parts_between-whole separator text (cut_at-lacks separator text are.1) ∙ ap (λ t. t ∷ []) are.0
parts_between-only separator text (part ∷ next ∷ ps) some are =
    parts_between-cut separator text part are.0 some (cut_at-cut separator text part are.0 some are.1)
    ∙ ap (λ rest. part ∷ rest) (parts_between-only separator are.0 (next ∷ ps) some are.2)

IsParts-more : (separator text before after : List ℕ) (ps : List (List ℕ)) → IsCut separator text before after
    → IsParts separator after ps → IsParts separator text (before ∷ ps)
IsParts-more separator text before after [] cut are = absurd are
IsParts-more separator text before after (next ∷ ps) cut are = (after, cut, are)

parts_between-found_within : (n : ℕ) (separator text : List ℕ) → 0 < length separator → length text < n
    → IsParts separator text (parts_between separator text)
parts_between-found_within zero separator text some size = absurd (omega arith)
parts_between-found_within (suc n) separator text some size = found _ refl
    (parts_between-found_within n separator) where
      found : (o : Option (List ℕ × List ℕ)) → cut_at separator text ≡ o
          → ((t : List ℕ) → 0 < length separator → length t < n → IsParts separator t (parts_between separator t))
          → IsParts separator text (parts_between separator text)
      found None e deeper =
          subst (IsParts separator text) (sym (parts_between-whole separator text e))
          (refl, cut_at-none separator text some e)
      found (Some cut) e deeper =
          let less = after_cut separator text cut.0 cut.1 some e in
          subst (IsParts separator text) (sym (parts_between-cut separator text cut.0 cut.1 some e))
          (IsParts-more separator text cut.0 cut.1 (parts_between separator cut.1)
          (cut_at-some separator text cut.0 cut.1 e)
          (deeper cut.1 some (omega arith)))

pub parts_between-found : (separator text : List ℕ) → 0 < length separator → IsParts separator text
    (parts_between separator text)
parts_between-found separator text some = parts_between-found_within (suc (length text)) separator text some
    (omega arith)

-- the marks that were trimmed
front_marks : (mark : ℕ) (text : List ℕ) → (n : ℕ) × (text ≡ replicate n mark ++ without_front mark text)
front_marks mark [] = (0, refl)
front_marks mark (b ∷ text) = elim (cases_eq b mark) [
  | inl same ↦ let deeper =
      front_marks mark text in (
        suc deeper.0,
        rw (eq-eqb b mark same)
            (ap (λ x. x ∷ text) same ∙ ap (λ t. mark ∷ t) deeper.1),
      )
  | inr other ↦ (0, rw (ne_eqb b mark other) refl)
]

front_stops : (mark : ℕ) (text rest : List ℕ) → without_front mark text ≢ mark ∷ rest
front_stops mark [] rest w = cc
front_stops mark (b ∷ text) rest w = elim (cases_eq b mark) [
  | inl same ↦ front_stops mark text rest (rw (eq-eqb b mark same) at w)
  | inr other ↦ other (let t = rw (ne_eqb b mark other) at w in cc)
]

-- there is always a part
pub parts_between-first : (separator text : List ℕ) → (part : List ℕ) × (ps : List (List ℕ))
    × (parts_between separator text ≡ part ∷ ps)
unfolding parts_between parts_within
parts_between-first separator text = within (length text) text where
  within : (n : ℕ) (t : List ℕ) → (part : List ℕ) × (ps : List (List ℕ)) × (parts_within n separator t ≡ part ∷ ps)
  within zero t = (t, [], refl)
  within (suc n) t = of_cut (cut_at separator t) where
    of_cut : (o : Option (List ℕ × List ℕ)) → (part : List ℕ) × (ps : List (List ℕ))
        × (parts_of_cut t (parts_within n separator) o ≡ part ∷ ps)
    of_cut None = (t, [], refl)
    of_cut (Some cut) = (cut.0, parts_within n separator cut.1, refl)

-- copies of a mark, turned round and one more
reverse-marks : (mark n : ℕ) → reverse (replicate n mark) ≡ replicate n mark
reverse-marks mark zero = refl
reverse-marks mark (suc n) =
    reverse-append (mark ∷ []) (replicate n mark) ∙ ap (λ t. t ++ mark ∷ []) (reverse-marks mark n)
    ∙ replicate_more n mark ∙ rw add-one refl

back_marks : (mark : ℕ) (text : List ℕ) → (n : ℕ) × (text ≡ without_back mark text ++ replicate n mark)
unfolding without_back
back_marks mark text =
    let turned = front_marks mark (reverse text) in (
      turned.0,
      sym (reverse-reverse text) ∙ ap reverse turned.1
          ∙ reverse-append (replicate turned.0 mark) (without_front mark (reverse text))
          ∙ ap (λ t. reverse (without_front mark (reverse text)) ++ t) (reverse-marks mark turned.0),
    )

back_stops : (mark : ℕ) (text rest : List ℕ) → without_back mark text ≢ rest ++ mark ∷ []
unfolding without_back
back_stops mark text rest w =
    front_stops mark (reverse text) (reverse rest)
    (sym (reverse-reverse (without_front mark (reverse text))) ∙ ap reverse w ∙ reverse-append rest (mark ∷ []))

-- what is trimmed stands between marks
pub trimmed-found : (mark : ℕ) (text : List ℕ) → IsTrimmed mark text (trimmed mark text)
unfolding trimmed
trimmed-found mark text =
    let inner = without_front mark text in
    let front = front_marks mark text in
    let back = back_marks mark inner in
    record {
      before = front.0;
      after = back.0;
      whole = front.1 ∙ ap (λ t. replicate front.0 mark ++ t) back.1;
      front =
          λ rest w. front_stops mark text (rest ++ replicate back.0 mark)
          (back.1 ∙ ap (λ t. t ++ replicate back.0 mark) w);
      back = back_stops mark inner;
    }

front_marks-off : (mark n : ℕ) (text : List ℕ) → without_front mark (replicate n mark ++ text)
    ≡ without_front mark text
front_marks-off mark zero text = refl
front_marks-off mark (suc n) text = without_front-mark mark (replicate n mark ++ text) ∙ front_marks-off mark n text

back_marks-off : (mark n : ℕ) (text : List ℕ) → without_back mark (text ++ replicate n mark) ≡ without_back mark text
back_marks-off mark zero text = ap (without_back mark) (append-nil text)
back_marks-off mark (suc n) text =
    let longer : text ++ replicate (suc n) mark ≡ (text ++ replicate n mark) ++ mark ∷ [] =
    ap (λ t. text ++ t) (sym (replicate_more n mark ∙ rw add-one refl))
    ∙ sym (append_assoc text (replicate n mark) (mark ∷ [])) in
    ap (without_back mark) longer ∙ without_back-mark mark (text ++ replicate n mark) ∙ back_marks-off mark n text

without_back-nil : (mark : ℕ) → without_back mark [] ≡ []
unfolding without_back
without_back-nil mark = refl

-- what stands between marks is what is trimmed
pub trimmed-only : (mark : ℕ) (text body : List ℕ) → IsTrimmed mark text body → trimmed mark text ≡ body
unfolding trimmed
trimmed-only mark text body is =
    ap (λ t. without_back mark (without_front mark t)) is.whole
    ∙ ap (without_back mark) (front_marks-off mark is.before (body ++ replicate is.after mark))
    ∙ bare_body body is.front is.back where
      bare_body : (t : List ℕ) → ((rest : List ℕ) → t ≢ mark ∷ rest) → ((rest : List ℕ) → t ≢ rest ++ mark ∷ [])
          → without_back mark (without_front mark (t ++ replicate is.after mark)) ≡ t
      bare_body [] front back =
          ap (without_back mark) (ap (without_front mark) (sym (append-nil (replicate is.after mark)))
          ∙ front_marks-off mark is.after []) ∙ without_back-nil mark
      bare_body (x ∷ t) front back =
          let kept : without_front mark ((x ∷ t) ++ replicate is.after mark) ≡ (x ∷ t) ++ replicate is.after mark =
          rw (ne_eqb x mark (λ same. front t (ap (λ y. y ∷ t) same))) refl in
          ap (without_back mark) kept ∙ back_marks-off mark is.after (x ∷ t) ∙ without_back-kept mark (x ∷ t) back
