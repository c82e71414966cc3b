-- The signatures of certificates that lie on a path which would hold if every signature were genuine, by tables over
-- the place in a path and the certificate.
use Rattle.std.specs.Prelude.{◌≡◌, ◌⊎◌, ℕ, zero, suc, ◌-◌, ℤ, List, [], ◌∷◌, ◌++◌, length, map, get_or, Bool, true, false}
use Rattle.std.specs.Prelude.{◌&&◌, ◌||◌, ◌↔◌, Contains}
use Rattle.std.specs.List.{filter, list_any}
use Rattle.sig_certificate.specs.Certificate.{Cert}
use Rattle.sig_certificate.specs.Profile.{constraints}
use Rattle.sig_x509.specs.Issuance.{is_issued, is_signed_by, signs_code_at}
use Rattle.sig_x509.specs.Path.{IsPath, every_signature}
use Rattle.sig_x509.specs.PathSearch.{allows, can_stand, is_rooted, leads, may_issue, most_between}
use Rattle.sig_x509.specs.Pool.{Pool, pool_over}
use Rattle.sig_x509.specs.declared.possible.PossibleSigners.{PossibleSigners}
use Rattle.sig_x509.specs.declared.possible.Signed.{Signed}
use Rattle.sig_x509.specs.declared.possible.Signer.{Signer}
use Rattle.sig_x509.specs.declared.reach.Node.{Node}

-- ---- bits

abbrev pub bit : List Bool → ℕ → Bool
bit row k = get_or row k false

-- one of the first
unfoldable pub any_below : ℕ → (ℕ → Bool) → Bool
any_below zero p = false
any_below (suc n) p = any_below n p || p n

-- both have a bit at one place
abbrev pub any_both : List Bool → List Bool → Bool
any_both one other = any_below (length one) (λ k. bit one k && bit other k)

-- ---- what can be where in a path

-- the names say that x signed y
abbrev pub is_named : Cert → Cert → Bool
is_named y x = is_signed_by every_signature y x

-- x can be at the place with this number of others before it, reached from c
unfoldable pub is_reached : List Cert → Cert → ℤ → ℕ → Cert → Bool
is_reached further c t zero x = can_stand t zero x && is_issued every_signature c t x
is_reached further c t (suc others) x =
    can_stand t (suc others) x && list_any (λ y. is_named y x && is_reached further c t others y) further

-- the levels of a path: the numbers of others before a signer, which may be the trust anchor
unfoldable pub below : ℕ → List ℕ
below zero = []
below (suc n) = below n ++ n ∷ []

abbrev pub count : ℕ
count = 7

-- ---- the two sides of a signature

-- a certificate, and for each level whether its signer can be there
pub record SignedOne : Type 0 where
  pub certificate : Cert
  pub next : List Bool

-- a certificate that is trusted, or for each number of places left whether it leads to a trust anchor in that many
pub record SignerOne : Type 0 where
  pub certificate : Cert
  pub trusted : Bool
  pub up : List Bool

abbrev pub next_of : List Cert → Cert → ℤ → Cert → ℕ → Bool
next_of further c t z zero = false
next_of further c t z (suc others) = is_reached further c t others z

abbrev pub first_only : Bool → ℕ → Bool
first_only b zero = b
first_only b (suc n) = false

abbrev pub up_of : List Cert → List Cert → ℤ → Cert → ℕ → Bool
up_of anchors further t x left = leads every_signature (pool_over anchors further) t left (6 - left) x

abbrev pub the_leaf : Cert → ℤ → SignedOne
the_leaf c t = record { certificate = c; next = signs_code_at c t ∷ [] }

abbrev pub further_signed : List Cert → Cert → ℤ → Cert → SignedOne
further_signed further c t z = record { certificate = z; next = map (next_of further c t z) (below count) }

abbrev pub all_signed : List Cert → Cert → ℤ → List SignedOne
all_signed further c t = the_leaf c t ∷ map (further_signed further c t) further

abbrev pub anchor_signer : Cert → SignerOne
anchor_signer x = record { certificate = x; trusted = true; up = [] }

abbrev pub further_signer : List Cert → List Cert → ℤ → Cert → SignerOne
further_signer anchors further t x = record {
  certificate = x;
  trusted = false;
  up = map (up_of anchors further t x) (below count);
}

abbrev pub all_signers : List Cert → List Cert → ℤ → List SignerOne
all_signers anchors further t = map anchor_signer anchors ++ map (further_signer anchors further t) further

-- both can be at the place with this number of others before it
abbrev pub meets_at : List Bool → Bool → List Bool → ℕ → Bool
meets_at next trusted up others = bit next others && (trusted || bit up (6 - others))

-- the signature lies on a path that would hold if every signature were genuine
abbrev pub may_sign : SignedOne → SignerOne → Bool
may_sign y x = is_named y.certificate x.certificate && any_below count (meets_at y.next x.trusted x.up)

-- ---- the signers whose keys may count

-- a certificate, and the signers under whose keys its signature may be
pub record SignedUnder : Type 0 where
  pub certificate : Cert
  pub signers : List Cert

-- a certificate with those of these signers that may have signed it
abbrev pub signed_under : List SignerOne → SignedOne → SignedUnder
signed_under xs y = record {
  certificate = y.certificate;
  signers = map (λ x. x.certificate) (filter (may_sign y) xs);
}

-- the same for the trust anchors in order, and then the intermediates
abbrev pub under_all : List Cert → List Cert → ℤ → SignedOne → SignedUnder
under_all anchors further t y = signed_under (all_signers anchors further t) y

-- ---- the borrowed values

abbrev pub seen_signed : Signed → SignedOne
seen_signed y = record { certificate = y.certificate.now; next = y.next }

-- an intermediate
abbrev pub seen_signer : Signer → SignerOne
seen_signer x = record { certificate = x.certificate.now; trusted = false; up = x.up }

abbrev pub seen_under : PossibleSigners → SignedUnder
seen_under p = record { certificate = p.certificate.now; signers = map (λ x. x.now) p.signers.items }

-- the trust anchors, and then these intermediates
abbrev pub signers_with : List Cert → List Signer → List SignerOne
signers_with anchors xs = map anchor_signer anchors ++ map seen_signer xs

-- ---- the tables, by what is known of each intermediate

abbrev pub node_of : List Cert → List Cert → Cert → ℤ → Cert → Node
node_of anchors further c t x = record {
  passes = may_issue t x;
  most = most_between (constraints x);
  rooted = is_rooted every_signature (pool_over anchors further) x;
  issues = is_issued every_signature c t x;
  signers = map (is_named x) further;
  signed = map (λ y. is_named y x) further;
}

abbrev pub node_stands : ℕ → Node → Bool
node_stands others node = node.passes && allows node.most others

abbrev pub node_leads : ℕ → List Bool → Node → Bool
node_leads others next node = node_stands others node && (node.rooted || any_both node.signers next)

abbrev pub node_reached : ℕ → List Bool → Node → Bool
node_reached zero prev node = node_stands zero node && node.issues
node_reached (suc others) prev node = node_stands (suc others) node && any_both node.signed prev

-- with this number of places left, from there on
unfoldable pub up_at : List Node → ℕ → List Bool
up_at nodes zero = map (λ node. false) nodes
up_at nodes (suc left) = map (node_leads (5 - left) (up_at nodes left)) nodes

-- below a signer with this number of others before it
unfoldable pub down_at : List Node → ℕ → List Bool
down_at nodes zero = map (λ node. false) nodes
down_at nodes (suc others) = map (node_reached others (down_at nodes others)) nodes

abbrev pub column : List (List Bool) → ℕ → List Bool
column rows k = map (λ row. bit row k) rows

-- ---- the same in words

-- the first signature of a path is under the key of x, the trust anchor or not
abbrev pub IsFirstStep : List Cert → Cert → Bool → Cert → Type 0
IsFirstStep [] anchor true x = x ≡ anchor
IsFirstStep [] anchor false x = ⊥
IsFirstStep (z ∷ zs) anchor true x = ⊥
IsFirstStep (z ∷ zs) anchor false x = x ≡ z

-- y is one of the intermediates of a path, and its signature is under the key of x, the trust anchor or not
abbrev pub IsLaterStep : List Cert → Cert → Bool → Cert → Cert → Type 0
IsLaterStep [] anchor trusted y x = ⊥
IsLaterStep (z ∷ zs) anchor trusted y x =
    ((y ≡ z) × IsFirstStep zs anchor trusted x) ⊎ IsLaterStep zs anchor trusted y x

-- a path would lead from c to a trust anchor, if every signature were genuine, and of it this holds
abbrev pub OfPossiblePath : Pool → Cert → ℤ → (List Cert → Cert → Type 0) → Type 0
OfPossiblePath pool c t P = (over : List Cert) × (anchor : Cert) × IsPath every_signature pool c t over anchor × P over anchor

-- a law of the definitions: what the tables say of the leaf, and of an intermediate, under the key of a trust anchor
-- and of an intermediate, is that a path which would hold has the signature
pub record SignaturesAreOfPaths : Type 0 where
  pub leaf_under_anchor : (anchors further : List Cert) (c : Cert) (t : ℤ) (x : Cert) → Contains anchors x
      → (may_sign (the_leaf c t) (anchor_signer x) ≡ true)
      ↔ OfPossiblePath (pool_over anchors further) c t (λ path anchor. IsFirstStep path anchor true x)
  pub leaf_under_further : (anchors further : List Cert) (c : Cert) (t : ℤ) (x : Cert) → Contains further x
      → (may_sign (the_leaf c t) (further_signer anchors further t x) ≡ true)
      ↔ OfPossiblePath (pool_over anchors further) c t (λ path anchor. IsFirstStep path anchor false x)
  pub further_under_anchor : (anchors further : List Cert) (c : Cert) (t : ℤ) (y : Cert) → Contains further y
      → (x : Cert) → Contains anchors x → (may_sign (further_signed further c t y) (anchor_signer x) ≡ true)
      ↔ OfPossiblePath (pool_over anchors further) c t (λ path anchor. IsLaterStep path anchor true y x)
  pub further_under_further : (anchors further : List Cert) (c : Cert) (t : ℤ) (y : Cert) → Contains further y
      → (x : Cert) → Contains further x
      → (may_sign (further_signed further c t y) (further_signer anchors further t x) ≡ true)
      ↔ OfPossiblePath (pool_over anchors further) c t (λ path anchor. IsLaterStep path anchor false y x)
