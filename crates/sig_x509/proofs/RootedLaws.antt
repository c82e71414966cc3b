-- What is known of who signed one certificate holds of another of which a checker is asked the same.
use Rattle.std.proofs.Common.{◌≡◌, ℕ, zero, suc, Bool, ◌&&◌, ◌||◌, List, [], ◌∷◌, Option, Some, slice_get, take, refl, sym, ap}
use Rattle.std.proofs.Common.{◌∙◌, subst}
use Rattle.std.specs.Prelude.{bytes_eq}
use Rattle.std.specs.List.{AllZip, list_any}
use Rattle.std.specs.Borrow.{Bor}
use Rattle.sig_certificate.specs.Certificate.{Cert}
use Rattle.sig_x509.specs.Candidates.{all_seen, seen}
use Rattle.sig_x509.specs.Issuance.{Accepts, is_signed_by}
use Rattle.sig_x509.specs.PathSearch.{is_rooted}
use Rattle.sig_x509.specs.Pool.{Pool, intermediate_in}
use Rattle.sig_x509.specs.Rows.{AreRooted, AsksAlike, IsLinkOf}
use Rattle.sig_x509.specs.declared.links.Link.{Link}

module _ (accepts : Accepts) (pool : Pool) where
  signed_alike : (x y : Cert) → AsksAlike x y → (a : Cert) → is_signed_by accepts x a ≡ is_signed_by accepts y a
  signed_alike x y same a =
      ap (λ (n : List ℕ). bytes_eq n a.subject && accepts a.spki x.algorithm x.tbs x.signature) same.issuer
      ∙ ap (λ (n : List ℕ). bytes_eq y.issuer a.subject && accepts a.spki n x.tbs x.signature) same.algorithm
      ∙ ap (λ (n : List ℕ). bytes_eq y.issuer a.subject && accepts a.spki y.algorithm n x.signature) same.tbs
      ∙ ap (λ (n : List ℕ). bytes_eq y.issuer a.subject && accepts a.spki y.algorithm y.tbs n) same.signature

  same_any : (p q : Cert → Bool) (xs : List Cert) → ((x : Cert) → p x ≡ q x) → list_any p xs ≡ list_any q xs
  same_any p q [] same = refl
  same_any p q (x ∷ xs) same =
      ap (λ (b : Bool). b || list_any p xs) (same x) ∙ ap (λ (b : Bool). q x || b) (same_any p q xs same)

  pub asked_alike : (listed : List (Option Cert)) (links : List Link) → AreRooted accepts pool listed links
      → (place : ℕ) (x y : Cert) (link : Link) → intermediate_in (slice_get listed place) ≡ Some x
      → slice_get links place ≡ Some link → AsksAlike x y → link.rooted ≡ is_rooted accepts pool y
  asked_alike listed links known place x y link there link_there same =
      known place x link there link_there
      ∙ same_any (is_signed_by accepts x) (is_signed_by accepts y) pool.anchors (signed_alike x y same)

  -- the links of the first candidates say it of these
  pub rooted_so_far : (all : List (Option Cert)) (n : ℕ) (listed : List (Option (Bor Cert))) (links : List Link)
      → AllZip (λ o link. IsLinkOf accepts pool all (seen o) link) (take n listed) links
      → AreRooted accepts pool (all_seen listed) links
  rooted_so_far all zero [] [] are place x link there link_there = absurd cc
  rooted_so_far all zero (o ∷ os) [] are place x link there link_there = absurd cc
  rooted_so_far all zero [] (l ∷ ls) are place x link there link_there = absurd are
  rooted_so_far all zero (o ∷ os) (l ∷ ls) are place x link there link_there = absurd are
  rooted_so_far all (suc n) [] [] are place x link there link_there = absurd cc
  rooted_so_far all (suc n) [] (l ∷ ls) are place x link there link_there = absurd are
  rooted_so_far all (suc n) (o ∷ os) [] are place x link there link_there = absurd are
  rooted_so_far all (suc n) (o ∷ os) (l ∷ ls) are zero x link there link_there =
      let same : l ≡ link = cc in
      let is = subst (λ (c : Option Cert). IsLinkOf accepts pool all c l) there are.0 in
      ap (λ (k : Link). k.rooted) (sym same) ∙ is.1
  rooted_so_far all (suc n) (o ∷ os) (l ∷ ls) are (suc place) x link there link_there =
      rooted_so_far all n os ls are.1 place x link there link_there
