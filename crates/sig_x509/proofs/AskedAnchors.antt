-- The trust anchors that a checker is asked about are found one anchor after another.
use Rattle.std.proofs.Common.{◌≡◌, ◌↔◌, ℕ, ◌+◌, ◌<◌, ◌≤◌, Bool, true, false, cond, List, []}
use Rattle.std.proofs.Common.{◌∷◌, ◌++◌, length, Some, slice_get, refl, sym, ap, ◌∙◌}
use Rattle.std.proofs.Common.{Ordering, Equal, arith}
use Rattle.std.specs.Borrow.{Bor}
use Rattle.std.specs.List.{All, AllPairs}
use Rattle.std.specs.Ordering.{nat_cmp, ordering_then}
use Rattle.std.specs.Cmp.Lexicographic.{slice_cmp}
use Rattle.std.specs.BTreeMap.{is_at}
use Rattle.std.specs.BTreeSet.{BTreeSet, contains, Updates}
use Rattle.std.specs.Cmp.{Equal-is}
use borrow.Author.Count.{below_more}
use Rattle.std.proofs.lemmas.Bool.{cond_both, both_ways}
use Rattle.std.proofs.lemmas.Cmp.{tied_itself, nat_list_cmp_total}
use Rattle.std.proofs.lemmas.List.{length_push}
use Rattle.std.proofs.lemmas.List.Elements.{All-nil, All-push, All-weaker, Contains-append_left, Contains-push}
use Rattle.std.proofs.lemmas.List.Quantifiers.{all_pairs_push}
use Rattle.std.proofs.lemmas.Map.Lookups.{exact_bytes}
use Rattle.std.proofs.lemmas.Option.{same_Some, slice_get_within}
use Rattle.sig_base.proofs.Orderings.{both_tie}
use Rattle.sig_certificate.specs.Certificate.{Cert}
use Rattle.sig_x509.specs.AskedAnchors.{IsFirstOfItsKey, IsCovered, AreFewAsked}

-- ---- the set of the subjects and SPKIs so far

-- a subject and an SPKI, as the set has them
abbrev pub Key : Type 0
Key = Bor (List ℕ) × Bor (List ℕ)

abbrev pub key_order : Key → Key → Ordering
key_order k q = ordering_then (slice_cmp nat_cmp k.0.now q.0.now) (slice_cmp nat_cmp k.1.now q.1.now)

tied_parts : (k q : Key) → key_order k q ≡ Equal → (k.0.now ≡ q.0.now) × (k.1.now ≡ q.1.now)
tied_parts k q e =
    let both = both_tie _ _ e in (exact_bytes k.0.now q.0.now both.0, exact_bytes k.1.now q.1.now both.1)

tied_from : (k q : Key) → k.0.now ≡ q.0.now → k.1.now ≡ q.1.now → key_order k q ≡ Equal
tied_from k q subject spki =
    rw (subject, spki, tied_itself nat_list_cmp_total q.0.now) (tied_itself nat_list_cmp_total q.1.now)

-- the subject and the SPKI of one of the first n anchors
pub record IsSeen (anchors : List Cert) (n : ℕ) (q : Key) : Type 0 where
  pub at : ℕ
  pub anchor : Cert
  pub below : at < n
  pub there : slice_get anchors at ≡ Some anchor
  pub subject : q.0.now ≡ anchor.subject
  pub spki : q.1.now ≡ anchor.spki

abbrev pub HasSeen : List Cert → ℕ → BTreeSet Key → Type 0
HasSeen anchors n seen = (q : Key) → (contains key_order seen q ≡ true) ↔ IsSeen anchors n q

-- ---- what is asked of the first n anchors

pub record AreAskedSoFar (anchors : List Cert) (n : ℕ) (seen : BTreeSet Key) (asked : List ℕ) : Type 0 where
  pub has_seen : HasSeen anchors n seen
  pub firsts : All (IsFirstOfItsKey anchors) asked
  pub covers : (index : ℕ) (x : Cert) → index < n → slice_get anchors index ≡ Some x → IsCovered anchors asked index x
  pub ascends : AllPairs (λ one later. one < later) asked
  pub below : All (λ index. index < n) asked
  pub within : n ≤ length anchors
  pub few : length asked ≤ n

-- before the first anchor
pub none_so_far : (anchors : List Cert) (seen : BTreeSet Key) (asked : List ℕ) → seen.keys ≡ [] → asked ≡ []
    → AreAskedSoFar anchors 0 seen asked
none_so_far anchors seen asked no_keys none = record {
  has_seen = λ q.
      ((λ held. let wrong : false ≡ true = rw no_keys at held in absurd cc), (λ is. absurd (omega (arith, is.below))));
  firsts = rw none (All-nil (IsFirstOfItsKey anchors));
  covers = λ index x lt got. absurd (omega (arith, lt));
  ascends = rw none (λ i j d lt within. absurd (omega arith));
  below = rw none (All-nil (λ index. index < 0));
  within = omega arith;
  few = omega (arith, ap (λ (is : List ℕ). length is) none);
}

-- after the last
pub all_asked : (anchors : List Cert) (n : ℕ) (seen : BTreeSet Key) (asked : List ℕ) → length anchors ≤ n
    → AreAskedSoFar anchors n seen asked → AreFewAsked anchors asked
all_asked anchors n seen asked done so_far = (
  record {
    firsts = so_far.firsts;
    covers = λ index x got. so_far.covers index x (let within = slice_get_within anchors index x got in omega arith) got;
    ascends = so_far.ascends;
  },
  omega (arith, so_far.few, so_far.within),
)

-- ---- one anchor more

module _ (anchors : List Cert) (n : ℕ) (x : Cert) (there : slice_get anchors n ≡ Some x) (k : Key)
    (subject : k.0.now ≡ x.subject) (spki : k.1.now ≡ x.spki) (seen : BTreeSet Key) (asked : List ℕ)
    (so_far : AreAskedSoFar anchors n seen asked) where
  module _ (grown : BTreeSet Key) (put : Updates key_order seen grown k true) where
    seen_to : (q : Key) → contains key_order grown q ≡ true → IsSeen anchors (n + 1) q
    seen_to q held = by_tie (is_at (key_order k) q) refl (sym (put.0 q) ∙ held)
      where
        by_tie : (b : Bool) → is_at (key_order k) q ≡ b
            → cond (is_at (key_order k) q) true (contains key_order seen q) ≡ true → IsSeen anchors (n + 1) q
        by_tie true e h =
            let same = tied_parts k q ((Equal-is (key_order k q)).0 e) in
            record {
              at = n;
              anchor = x;
              below = omega arith;
              there = there;
              subject = sym same.0 ∙ subject;
              spki = sym same.1 ∙ spki;
            }
        by_tie false e h =
            let is = (so_far.has_seen q).0 (rw e at h) in
            record {
              at = is.at;
              anchor = is.anchor;
              below = omega (arith, is.below);
              there = is.there;
              subject = is.subject;
              spki = is.spki;
            }

    seen_from : (q : Key) → IsSeen anchors (n + 1) q → contains key_order grown q ≡ true
    seen_from q is =
        put.0 q
        ∙ below_more (λ at. slice_get anchors at ≡ Some is.anchor
        → cond (is_at (key_order k) q) true (contains key_order seen q) ≡ true)
        n before last is.at is.below is.there
      where
        before : (at : ℕ) → at < n → slice_get anchors at ≡ Some is.anchor
            → cond (is_at (key_order k) q) true (contains key_order seen q) ≡ true
        before at less got =
            cond_both (is_at (key_order k) q) true (contains key_order seen q) (λ (b : Bool). b ≡ true) (λ _. refl)
            (λ _. (so_far.has_seen q).1 (record {
              at = at;
              anchor = is.anchor;
              below = less;
              there = got;
              subject = is.subject;
              spki = is.spki;
            }))

        last : slice_get anchors n ≡ Some is.anchor
            → cond (is_at (key_order k) q) true (contains key_order seen q) ≡ true
        last got =
            let one : is.anchor ≡ x = same_Some is.anchor x (sym got ∙ there) in
            let tied = tied_from k q (subject ∙ sym (ap (λ (c : Cert). c.subject) one) ∙ sym is.subject)
            (spki ∙ sym (ap (λ (c : Cert). c.spki) one) ∙ sym is.spki) in
            rw tied refl

    -- the first of its subject and SPKI is asked
    pub one_more_asked : (more : List ℕ) → more ≡ asked ++ n ∷ [] → contains key_order seen k ≡ false
        → AreAskedSoFar anchors (n + 1) grown more
    one_more_asked more are fresh = record {
      has_seen = λ q. (seen_to q, seen_from q);
      firsts = rw are (All-push (IsFirstOfItsKey anchors) asked n so_far.firsts (record {
        anchor = x;
        there = there;
        first = λ earlier y lt got same.
            both_ways (contains key_order seen k) fresh ((so_far.has_seen k).1 (record {
              at = earlier;
              anchor = y;
              below = lt;
              there = got;
              subject = subject ∙ sym same.subject;
              spki = spki ∙ sym same.spki;
            }));
      }));
      covers = λ index y lt. below_more (λ at. slice_get anchors at ≡ Some y → IsCovered anchors more at y) n
          (λ at less got. before at y got less) (λ got. last y got) index lt;
      ascends = rw are (all_pairs_push (λ one later. one < later) asked n so_far.ascends so_far.below);
      below = rw are (All-push (λ index. index < n + 1) asked n
          (All-weaker (λ index. index < n) (λ index. index < n + 1) (λ index lt. omega arith) asked so_far.below)
          (omega arith));
      within = let lt = slice_get_within anchors n x there in omega (arith, lt);
      few = omega (arith, so_far.few, ap (λ (is : List ℕ). length is) are ∙ length_push asked n);
    }
      where
        before : (index : ℕ) (y : Cert) → slice_get anchors index ≡ Some y → index < n → IsCovered anchors more index y
        before index y got less =
            let is = so_far.covers index y less got in
            record {
              first = is.first;
              anchor = is.anchor;
              is_asked = rw are (Contains-append_left asked (n ∷ []) is.first is.is_asked);
              before = is.before;
              there = is.there;
              same = is.same;
            }

        last : (y : Cert) → slice_get anchors n ≡ Some y → IsCovered anchors more n y
        last y got =
            let one : y ≡ x = same_Some y x (sym got ∙ there) in
            record {
              first = n;
              anchor = x;
              is_asked = rw are (Contains-push asked n);
              before = omega arith;
              there = there;
              same = record {
                subject = sym (ap (λ (c : Cert). c.subject) one);
                spki = sym (ap (λ (c : Cert). c.spki) one);
              };
            }

    -- another of one subject and SPKI is not
    pub no_more_asked : contains key_order seen k ≡ true → AreAskedSoFar anchors (n + 1) grown asked
    no_more_asked held = record {
      has_seen = λ q. (seen_to q, seen_from q);
      firsts = so_far.firsts;
      covers = λ index y lt. below_more (λ at. slice_get anchors at ≡ Some y → IsCovered anchors asked at y) n
          (λ at less got. so_far.covers at y less got) (λ got. last y got) index lt;
      ascends = so_far.ascends;
      below = All-weaker (λ index. index < n) (λ index. index < n + 1) (λ index lt. omega arith) asked so_far.below;
      within = let lt = slice_get_within anchors n x there in omega (arith, lt);
      few = omega (arith, so_far.few);
    }
      where
        last : (y : Cert) → slice_get anchors n ≡ Some y → IsCovered anchors asked n y
        last y got =
            let one : y ≡ x = same_Some y x (sym got ∙ there) in
            let before = (so_far.has_seen k).0 held in
            let is = so_far.covers before.at before.anchor before.below before.there in
            record {
              first = is.first;
              anchor = is.anchor;
              is_asked = is.is_asked;
              before = omega (arith, is.before, before.below);
              there = is.there;
              same = record {
                subject = is.same.subject ∙ sym before.subject ∙ subject ∙ sym (ap (λ (c : Cert). c.subject) one);
                spki = is.same.spki ∙ sym before.spki ∙ spki ∙ sym (ap (λ (c : Cert). c.spki) one);
              };
            }
