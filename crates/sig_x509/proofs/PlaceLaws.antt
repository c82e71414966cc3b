-- A path, place by place: with one certificate more it is a path to that one, as if it were trusted.
use Rattle.std.proofs.Common.{◌≡◌, ℕ, zero, suc, ◌+◌, ◌≤◌, ℤ, ◌≤ℤ◌, Bool, true, List, [], ◌∷◌, ◌++◌, length}
use Rattle.std.proofs.Common.{Option, Some, None, Ok, Err, slice_get, inl, inr, refl, sym, ap, subst, ◌∙◌, arith}
use Rattle.std.specs.Prelude.{Contains}
use Rattle.std.specs.List.{AllByRecursion}
use Rattle.std.proofs.lemmas.List.{length-append}
use Rattle.sig_certificate.specs.declared.values.BasicConstraints.{BasicConstraints as Constraints}
use Rattle.sig_certificate.specs.Certificate.{Cert}
use Rattle.sig_certificate.specs.Profile.{Held, constraints, code_signing}
use Rattle.sig_x509.specs.Issuance.{Accepts}
use Rattle.sig_x509.specs.Issued.{IsSignedBy}
use Rattle.sig_x509.specs.Path.{AllowsBetween, AreSignedUp, IsPath}
use Rattle.sig_x509.specs.PathPlaces.{HasRoomFor, IsLast, trusting}
use Rattle.sig_x509.specs.Pool.{Pool}
use Rattle.sig_x509.proofs.Elements.{all_at, all_from, contains_at}
use Rattle.sig_x509.proofs.PathTable.{AreStanding, allows_as_many, standing_at, standing_from}

-- ---- path lengths

same_held : (x : Cert) (a b : Bool × Constraints) → constraints x ≡ Ok (Some a) → constraints x ≡ Ok (Some b) → a ≡ b
same_held x a b e f = let same : Ok (Some a) ≡ Ok (Some b) = sym e ∙ f in cc

pub room_from : (x : Cert) (others : ℕ) → AllowsBetween x others → HasRoomFor x others
room_from x others allows = by_held (constraints x) refl
  where
    by_limit : (b : Bool × Constraints) → constraints x ≡ Ok (Some b) → (o : Option ℕ) → b.1.path_len ≡ o
        → HasRoomFor x others
    by_limit b is None e =
        inl (λ most has. let wrong : Some most ≡ None =
        sym has.2 ∙ ap (λ (d : Bool × Constraints). d.1.path_len) (same_held x has.0 b has.1 is) ∙ e in cc)
    by_limit b is (Some most) e = inr (most, (b, is, e), allows b most is e)

    by_held : (h : Held (Bool × Constraints)) → constraints x ≡ h → HasRoomFor x others
    by_held (Err error) is = inl (λ most has. let wrong = sym has.1 ∙ is in cc)
    by_held (Ok None) is = inl (λ most has. let wrong = sym has.1 ∙ is in cc)
    by_held (Ok (Some b)) is = by_limit b is b.1.path_len refl

pub room_is : (x : Cert) (others : ℕ) → HasRoomFor x others → AllowsBetween x others
room_is x others (inl none) b most said limit = absurd (none most (b, said, limit))
room_is x others (inr (least, has, le)) b most said limit =
    let limits : Some least ≡ Some most =
    sym has.2 ∙ ap (λ (d : Bool × Constraints). d.1.path_len) (same_held x has.0 b has.1 said) ∙ limit in
    let same : least ≡ most = cc in subst (λ (n : ℕ). others ≤ n) same le

-- ---- lists that are joined

pub standing_as : (t : ℤ) (xs : List Cert) (m n : ℕ) → m ≡ n → AreStanding t m xs → AreStanding t n xs
standing_as t xs m n same are = subst (λ (k : ℕ). AreStanding t k xs) same are

pub standing_parts : (t : ℤ) (others : ℕ) (xs ys : List Cert) → AreStanding t others (xs ++ ys)
    → AreStanding t others xs × AreStanding t (others + length xs) ys
standing_parts t others [] ys are = (tt, standing_as t ys others (others + 0) (omega arith) are)
standing_parts t others (x ∷ xs) ys are =
    let rest = standing_parts t (suc others) xs ys are.1 in (
      (are.0, rest.0),
      standing_as t ys (suc others + length xs) (others + suc (length xs)) (omega arith) rest.1,
    )

pub standing_joined : (t : ℤ) (others : ℕ) (xs ys : List Cert) → AreStanding t others xs
    → AreStanding t (others + length xs) ys → AreStanding t others (xs ++ ys)
standing_joined t others [] ys first then = standing_as t ys (others + 0) others (omega arith) then
standing_joined t others (x ∷ xs) ys first then = (
  first.0,
  standing_joined t (suc others) xs ys first.1
      (standing_as t ys (others + suc (length xs)) (suc others + length xs) (omega arith) then),
)

pub all_parts : {X : Type 0} (P : X → Type 0) (xs ys : List X) → AllByRecursion P (xs ++ ys)
    → AllByRecursion P xs × AllByRecursion P ys
all_parts P [] ys all = (tt, all)
all_parts P (x ∷ xs) ys all = let rest = all_parts P xs ys all.1 in ((all.0, rest.0), rest.1)

pub all_joined : {X : Type 0} (P : X → Type 0) (xs ys : List X) → AllByRecursion P xs → AllByRecursion P ys
    → AllByRecursion P (xs ++ ys)
all_joined P [] ys first then = then
all_joined P (x ∷ xs) ys first then = (first.0, all_joined P xs ys first.1 then)

-- ---- a path by the conditions of each certificate

abbrev pub IsGiven : Pool → Cert → Type 0
IsGiven pool y = Contains pool.intermediates (Some y)

module _ (accepts : Accepts) (pool : Pool) (c : Cert) (t : ℤ) where
  pub standing_of : (over : List Cert) (anchor : Cert) → IsPath accepts pool c t over anchor → AreStanding t 0 over
  standing_of over anchor path =
      standing_from t 0 over path.may_issue (λ k y at. allows_as_many y k (0 + k) (omega arith) (path.path_length k y at))

  pub given_of : (over : List Cert) (anchor : Cert) → IsPath accepts pool c t over anchor
      → AllByRecursion (IsGiven pool) over
  given_of over anchor path = all_from (IsGiven pool) over path.given

  pub path_by : (over : List Cert) (anchor : Cert) → c.not_before ≤ℤ t → t ≤ℤ c.not_after
      → code_signing c ≡ Ok (Some true) → length over ≤ 6 → Contains pool.anchors anchor → AreStanding t 0 over
      → AllByRecursion (IsGiven pool) over → AreSignedUp accepts c over anchor → IsPath accepts pool c t over anchor
  path_by over anchor begun lasting purpose few trusted standing given signed = record {
    begun = begun;
    lasting = lasting;
    purpose = purpose;
    few = few;
    trusted = trusted;
    given = all_at (IsGiven pool) over given;
    may_issue = λ k y at. (standing_at t 0 over standing k y at).0;
    path_length = λ k y at. allows_as_many y (0 + k) k (omega arith) (standing_at t 0 over standing k y at).1;
    signed = signed;
  }

  -- the certificate at a place has room for those before it
  pub room_at : (over : List Cert) (anchor : Cert) → IsPath accepts pool c t over anchor → (others : ℕ) (x : Cert)
      → slice_get over others ≡ Some x → HasRoomFor x others
  room_at over anchor path others x at = room_from x others (path.path_length others x at)

-- ---- one certificate more

signed_parts : (accepts : Accepts) (c : Cert) (below : List Cert) (x anchor : Cert)
    → AreSignedUp accepts c (below ++ x ∷ []) anchor → AreSignedUp accepts c below x × IsSignedBy accepts x anchor
signed_parts accepts c [] x anchor is = is
signed_parts accepts c (y ∷ below) x anchor is =
    let rest = signed_parts accepts y below x anchor is.1 in ((is.0, rest.0), rest.1)

signed_joined : (accepts : Accepts) (c : Cert) (below : List Cert) (x anchor : Cert)
    → AreSignedUp accepts c below x → IsSignedBy accepts x anchor → AreSignedUp accepts c (below ++ x ∷ []) anchor
signed_joined accepts c [] x anchor first then = (first, then)
signed_joined accepts c (y ∷ below) x anchor first then =
    (first.0, signed_joined accepts y below x anchor first.1 then)

module _ (accepts : Accepts) (pool : Pool) (c : Cert) (t : ℤ) (below : List Cert) (x anchor : Cert) where
  counted : length (below ++ x ∷ []) ≡ length below + 1
  counted = length-append below (x ∷ [])

  pub shorter : IsPath accepts pool c t (below ++ x ∷ []) anchor
      → IsPath accepts (trusting pool x) c t below x × IsLast accepts pool t (length below) x anchor
  shorter path =
      let standing = standing_parts t 0 below (x ∷ []) (standing_of accepts pool c t (below ++ x ∷ []) anchor path) in
      let given = all_parts (IsGiven pool) below (x ∷ []) (given_of accepts pool c t (below ++ x ∷ []) anchor path) in
      let signed = signed_parts accepts c below x anchor path.signed in
      let at_most : length (below ++ x ∷ []) ≤ 6 = path.few in (
        path_by accepts (trusting pool x) c t below x path.begun path.lasting path.purpose
            (omega (arith, at_most, counted)) (contains_at (x ∷ []) zero x refl) standing.0 given.0 signed.0,
        record {
          given = given.1.0;
          few = omega (arith, at_most, counted);
          may_issue = standing.1.0.0;
          room = room_from x (length below)
              (allows_as_many x (0 + length below) (length below) (omega arith) standing.1.0.1);
          trusted = path.trusted;
          signed = signed.1;
        },
      )

  pub longer : IsPath accepts (trusting pool x) c t below x × IsLast accepts pool t (length below) x anchor
      → IsPath accepts pool c t (below ++ x ∷ []) anchor
  longer (path, last) =
      path_by accepts pool c t (below ++ x ∷ []) anchor path.begun path.lasting path.purpose
      (let under = last.few in omega (arith, under, counted)) last.trusted
      (standing_joined t 0 below (x ∷ []) (standing_of accepts (trusting pool x) c t below x path) (
        (
          last.may_issue,
          allows_as_many x (length below) (0 + length below) (omega arith)
              (room_is x (length below) last.room),
        ),
        tt,
      ))
      (all_joined (IsGiven pool) below (x ∷ []) (given_of accepts (trusting pool x) c t below x path) (last.given, tt))
      (signed_joined accepts c below x anchor path.signed last.signed)
