-- How a list of all entries compares with audited heads and watches.
use Rattle.std.specs.Prelude.{List, ℕ}
use Rattle.sig_base.specs.Collision.{IsCollision}
use Rattle.sig_merkle.specs.HashedText.{AreHashedTexts}
use Rattle.sig_audit.specs.declared.chain.ChainHead.{ChainHead}
use Rattle.sig_audit.specs.declared.heads.Watch.{Watch}
use Rattle.sig_audit.specs.declared.listing.Listing.{Listing}
use Rattle.sig_audit.specs.declared.listing.Listing.TheVariants.{Other, Listed, Collided}
use Rattle.sig_audit.specs.Audited.{AreListed}
use Rattle.sig_audit.specs.Fronts.{EndsInList}

-- the list is not the last head's; or it is, and each head and each watched entry is the list's; or it is, not all of
-- these are, and two different texts that a tree hashes have one SHA-256
abbrev pub IsListing : List (List ℕ) → List ChainHead → List Watch → Listing → Type 0
IsListing entries heads watched Other = ¬ EndsInList entries heads
IsListing entries heads watched Listed = EndsInList entries heads × AreListed entries heads watched
IsListing entries heads watched (Collided c) =
    EndsInList entries heads × ¬ AreListed entries heads watched × IsCollision c.left c.right
    × AreHashedTexts c.left c.right
