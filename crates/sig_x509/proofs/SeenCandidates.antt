-- What is seen of borrowed candidates.
use Rattle.std.proofs.Common.{◌≡◌, ℕ, Bool, false, ◌+◌, ◌<◌, List, [], ◌∷◌, ◌++◌, get_or, length, map, take, Option, Some, None, slice_get, sym, ap, ◌∙◌}
use Rattle.std.specs.Borrow.{Bor}
use Rattle.std.specs.List.{AllZip}
use Rattle.std.specs.Prelude.{option_map}
use Rattle.std.proofs.lemmas.List.{append_assoc, length-map, map-append, take_more}
use Rattle.std.proofs.lemmas.Option.{slice_get-map}
use Rattle.sig_certificate.specs.Certificate.{Cert}
use Rattle.sig_x509.specs.Candidates.{all_seen, is_signer, seen}
use Rattle.sig_x509.specs.Issuance.{Accepts, is_signed_by}
use Rattle.sig_x509.specs.PathSearch.{of_read}
use Rattle.sig_x509.specs.Pool.{intermediate_in}

pub seen_at : (listed : List (Option (Bor Cert))) (k : ℕ) (o : Option (Option (Bor Cert))) → slice_get listed k ≡ o
    → slice_get (all_seen listed) k ≡ option_map seen o
seen_at listed k o is = slice_get-map seen listed k ∙ ap (λ (p : Option (Option (Bor Cert))). option_map seen p) is

pub seen_count : (listed : List (Option (Bor Cert))) → length (all_seen listed) ≡ length listed
seen_count listed = length-map listed seen

-- ---- the candidate at an index

module _ (listed : List (Option (Bor Cert))) (k : ℕ) where
  there : (o : Option (Option (Bor Cert))) → slice_get listed k ≡ o
      → intermediate_in (slice_get (all_seen listed) k) ≡ intermediate_in (option_map seen o)
  there o is = ap (λ (p : Option (Option Cert)). intermediate_in p) (seen_at listed k o is)

  pub candidate_there : (x : Bor Cert) → slice_get listed k ≡ Some (Some x)
      → Some x.now ≡ intermediate_in (slice_get (all_seen listed) k)
  candidate_there x is = sym (there (Some (Some x)) is)

  pub absent_there : slice_get listed k ≡ Some None → None ≡ intermediate_in (slice_get (all_seen listed) k)
  absent_there is = sym (there (Some None) is)

  pub none_there : slice_get listed k ≡ None → None ≡ intermediate_in (slice_get (all_seen listed) k)
  none_there is = sym (there None is)

pub ruleset candidate_laws = (candidate_there, absent_there, none_there)

module _ (accepts : Accepts) (c : Cert) (listed : List (Option Cert)) (k : ℕ) where
  by_candidate : (o : Option Cert) → o ≡ intermediate_in (slice_get listed k)
      → of_read (is_signed_by accepts c) o ≡ is_signer accepts c listed k
  by_candidate o is = ap (λ (p : Option Cert). of_read (is_signed_by accepts c) p) is

  pub signs_there : (o : Option (Bor Cert)) (x : Bor Cert) (b : Bool)
      → seen o ≡ intermediate_in (slice_get listed k) → o ≡ Some x → b ≡ is_signed_by accepts c x.now
      → b ≡ is_signer accepts c listed k
  signs_there o x b is one genuine =
      genuine ∙ by_candidate (Some x.now) (sym (ap (λ (p : Option (Bor Cert)). seen p) one) ∙ is)

  pub signed_by_none_there : (o : Option (Bor Cert)) → seen o ≡ intermediate_in (slice_get listed k) → o ≡ None
      → false ≡ is_signer accepts c listed k
  signed_by_none_there o is none = by_candidate None (sym (ap (λ (p : Option (Bor Cert)). seen p) none) ∙ is)

pub ruleset signer_laws = (signs_there, signed_by_none_there)

-- ---- one more

pub one_more_seen : {X : Type 0} (f : X → Option Cert) (base : List (Option Cert)) (xs : List X) (i : ℕ) (x : X)
    (before after : List (Option (Bor Cert))) (o : Option (Bor Cert)) → i < length xs → x ≡ get_or xs i x
    → seen o ≡ f x → after ≡ before ++ o ∷ [] → all_seen before ≡ base ++ map f (take i xs)
    → all_seen after ≡ base ++ map f (take (i + 1) xs)
one_more_seen f base xs i x before after o lt there is grown so_far =
    ap all_seen grown
    ∙ map-append seen before (o ∷ [])
    ∙ ap (λ (os : List (Option Cert)). os ++ seen o ∷ []) so_far
    ∙ append_assoc base (map f (take i xs)) (seen o ∷ [])
    ∙ ap (λ (os : List (Option Cert)). base ++ os)
    (ap (λ (p : Option Cert). map f (take i xs) ++ p ∷ []) (is ∙ ap f there)
    ∙ sym (map-append f (take i xs) (get_or xs i x ∷ []))
    ∙ ap (map f) (sym (take_more xs i x lt)))

pub ruleset pushed_laws = (one_more_seen)

pub zip_seen : {B : Type 0} (R : Option Cert → B → Type 0) (os : List (Option (Bor Cert))) (bs : List B)
    → AllZip (λ o b. R (seen o) b) os bs → AllZip R (all_seen os) bs
zip_seen R [] [] are = are
zip_seen R [] (b ∷ bs) are = absurd are
zip_seen R (o ∷ os) [] are = absurd are
zip_seen R (o ∷ os) (b ∷ bs) are = (are.0, zip_seen R os bs are.1)
