-- The rows of the tables say of each intermediate where it can be in a path.
use Rattle.std.proofs.Common.{◌≡◌, ℕ, zero, suc, ◌+◌, ◌-◌, ◌≤◌, ℤ, Bool, false, ◌&&◌, ◌||◌, List, [], ◌∷◌}
use Rattle.std.proofs.Common.{map, Some, slice_get, refl, ap, ◌∙◌, arith}
use Rattle.std.specs.List.{list_any}
use Rattle.sig_certificate.specs.Certificate.{Cert}
use Rattle.sig_x509.proofs.Bits.{below_mapped, bit_at, both_any, mapped_twice}
use Rattle.sig_x509.specs.Path.{every_signature}
use Rattle.sig_x509.specs.PathSearch.{can_stand, is_rooted, leads, of_read}
use Rattle.sig_x509.specs.Pool.{Pool, pool_over, present}
use Rattle.sig_x509.specs.Possible.{any_both, bit, below, column, count, down_at, is_named, is_reached, next_of, node_leads}
use Rattle.sig_x509.specs.Possible.{node_of, node_reached, up_at, up_of}
use Rattle.sig_x509.specs.declared.reach.Node.{Node}

any_present : (p : Cert → Bool) (xs : List Cert) → list_any p xs ≡ list_any (of_read p) (present xs)
any_present p [] = refl
any_present p (x ∷ xs) = ap (λ (b : Bool). p x || b) (any_present p xs)

module _ (anchors further : List Cert) (c : Cert) (t : ℤ) where
  abbrev nodes : List Node
  nodes = map (node_of anchors further c t) further

  abbrev P : Pool
  P = pool_over anchors further

  -- ---- down from the leaf

  pub down_is : (others : ℕ) → down_at nodes others ≡ map (λ x. next_of further c t x others) further
  unfolding down_at is_reached
  down_is zero = mapped_twice (node_of anchors further c t) (λ node. false) (λ x. false) further (λ x. refl)
  down_is (suc zero) =
      mapped_twice (node_of anchors further c t) (node_reached zero (down_at nodes zero))
      (λ x. is_reached further c t zero x) further (λ x. refl)
  down_is (suc (suc others)) =
      mapped_twice (node_of anchors further c t) (node_reached (suc others) (down_at nodes (suc others)))
      (λ x. is_reached further c t (suc others) x) further
      (λ x. ap (λ (b : Bool). can_stand t (suc others) x && b)
      (ap (λ (row : List Bool). any_both (map (λ y. is_named y x) further) row) (down_is (suc others))
      ∙ both_any (λ y. is_named y x) (λ y. is_reached further c t others y) further))

  pub down_column : (place : ℕ) (x : Cert) → slice_get further place ≡ Some x
      → column (map (down_at nodes) (below count)) place ≡ map (next_of further c t x) (below count)
  down_column place x there =
      mapped_twice (down_at nodes) (λ row. bit row place) (λ others. bit (down_at nodes others) place) (below count)
      (λ others. refl)
      ∙ below_mapped (λ others. bit (down_at nodes others) place) (next_of further c t x) count
      (λ others lt. ap (λ (row : List Bool). bit row place) (down_is others)
      ∙ bit_at (λ y. next_of further c t y others) further place x there)

  -- ---- up to the trust anchors

  lead_step : (left others : ℕ) (row : List Bool)
      → row ≡ map (leads every_signature P t left (suc others)) further → (x : Cert)
      → node_leads others row (node_of anchors further c t x) ≡ leads every_signature P t (suc left) others x
  unfolding leads
  lead_step left others row is x =
      ap (λ (b : Bool). can_stand t others x && (is_rooted every_signature P x || b))
      (ap (λ (r : List Bool). any_both (map (is_named x) further) r) is
      ∙ both_any (is_named x) (leads every_signature P t left (suc others)) further
      ∙ any_present (λ y. is_named x y && leads every_signature P t left (suc others) y) further)

  none_leads : (others : ℕ) (x : Cert) → false ≡ leads every_signature P t zero others x
  unfolding leads
  none_leads others x = refl

  pub up_is : (left : ℕ) → left ≤ 6 → up_at nodes left ≡ map (λ x. up_of anchors further t x left) further
  unfolding up_at
  up_is zero le =
      mapped_twice (node_of anchors further c t) (λ node. false) (λ x. up_of anchors further t x zero) further
      (λ x. none_leads 6 x)
  up_is (suc left) le =
      let next : 6 - left ≡ suc (5 - left) = omega (arith, le) in
      let here : 5 - left ≡ 6 - suc left = omega arith in
      mapped_twice (node_of anchors further c t) (node_leads (5 - left) (up_at nodes left))
      (λ x. up_of anchors further t x (suc left)) further
      (λ x. lead_step left (5 - left) (up_at nodes left)
      (up_is left (omega (arith, le))
      ∙ ap (λ (n : ℕ). map (leads every_signature P t left n) further) next) x
      ∙ ap (λ (n : ℕ). leads every_signature P t (suc left) n x) here)

  pub up_column : (place : ℕ) (x : Cert) → slice_get further place ≡ Some x
      → column (map (up_at nodes) (below count)) place ≡ map (up_of anchors further t x) (below count)
  up_column place x there =
      mapped_twice (up_at nodes) (λ row. bit row place) (λ left. bit (up_at nodes left) place) (below count)
      (λ left. refl)
      ∙ below_mapped (λ left. bit (up_at nodes left) place) (up_of anchors further t x) count
      (λ left lt. ap (λ (row : List Bool). bit row place) (up_is left (omega (arith, lt)))
      ∙ bit_at (λ y. up_of anchors further t y left) further place x there)

-- ---- row by row

pub down_none : (nodes : List Node) → down_at nodes 0 ≡ map (λ node. false) nodes
unfolding down_at
down_none all = refl

pub down_next : (nodes : List Node) (others : ℕ)
    → down_at nodes (others + 1) ≡ map (node_reached others (down_at nodes others)) nodes
unfolding down_at
down_next nodes others = let same : others + 1 ≡ suc others = omega arith in ap (down_at nodes) same

pub up_none : (nodes : List Node) → up_at nodes 0 ≡ map (λ node. false) nodes
unfolding up_at
up_none all = refl

pub up_next : (nodes : List Node) (left : ℕ)
    → up_at nodes (left + 1) ≡ map (node_leads (5 - left) (up_at nodes left)) nodes
unfolding up_at
up_next nodes left = let same : left + 1 ≡ suc left = omega arith in ap (up_at nodes) same
