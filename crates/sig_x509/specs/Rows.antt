-- The rows of the table, from the place after the last of a path down to the first.
use Rattle.std.specs.Prelude.{◌≡◌, ℕ, zero, suc, List, [], map, get_or, slice_get, Bool, false, ◌&&◌, ◌||◌}
use Rattle.std.specs.Prelude.{Option, Some, None}
use Rattle.std.specs.List.{AllZip, list_any}
use Rattle.sig_certificate.specs.Certificate.{Cert}
use Rattle.sig_certificate.specs.Profile.{constraints}
use Rattle.sig_x509.specs.Candidates.{AreSigners}
use Rattle.sig_x509.specs.Issuance.{Accepts}
use Rattle.sig_x509.specs.PathSearch.{allows, is_rooted, most_between}
use Rattle.sig_x509.specs.Pool.{Pool, intermediate_in}
use Rattle.sig_x509.specs.declared.links.Link.{Link}

-- what is known of an intermediate: an intermediate that may not issue has no signers
abbrev pub IsLinkOf : Accepts → Pool → List (Option Cert) → Option Cert → Link → Type 0
IsLinkOf accepts pool listed None link = (link.rooted ≡ false) × (link.signers.items ≡ [])
IsLinkOf accepts pool listed (Some x) link =
    (link.path_len ≡ most_between (constraints x)) × (link.rooted ≡ is_rooted accepts pool x)
    × AreSigners accepts x listed link.signers.items

abbrev pub AreLinksOf : Accepts → Pool → List (Option Cert) → List Link → Type 0
AreLinksOf accepts pool listed links = AllZip (IsLinkOf accepts pool listed) listed links

-- a checker is asked the same about the two, under any key
pub record AsksAlike (x y : Cert) : Type 0 where
  pub issuer : x.issuer ≡ y.issuer
  pub algorithm : x.algorithm ≡ y.algorithm
  pub tbs : x.tbs ≡ y.tbs
  pub signature : x.signature ≡ y.signature

-- the links so far say of each candidate whether a trust anchor signed it
abbrev pub AreRooted : Accepts → Pool → List (Option Cert) → List Link → Type 0
AreRooted accepts pool listed links = (place : ℕ) (x : Cert) (link : Link)
    → intermediate_in (slice_get listed place) ≡ Some x → slice_get links place ≡ Some link → link.rooted ≡ is_rooted accepts pool x

-- the intermediate at the index leads to a trust anchor from the next place
abbrev pub leads_next : List Bool → ℕ → Bool
leads_next row k = get_or row k false

-- an intermediate leads to a trust anchor from the place with this number of others before it
abbrev pub link_leads : ℕ → List Bool → Link → Bool
link_leads others row link =
    allows link.path_len others && (link.rooted || list_any (leads_next row) link.signers.items)

abbrev pub row_of : ℕ → List Bool → List Link → List Bool
row_of others row links = map (link_leads others row) links

-- for the place with this number of others before it, where at most `left` places are left
unfoldable pub rows : List Link → ℕ → ℕ → List Bool
rows links zero others = map (λ link. false) links
rows links (suc left) others = row_of others (rows links left (suc others)) links
