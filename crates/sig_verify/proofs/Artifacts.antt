-- What is said of a digest is said of the bytes that a source gave, and an answer about a digest is none about reading.
use Rattle.std.proofs.Common.{◌≡◌, ℕ, List, Option, Ok, Err, inl, inr, subst}
use Rattle.sig_base.specs.Answers.{UnlessMemory}
use Rattle.sig_base.specs.Sha256.{sha256}
use Rattle.sig_verify.specs.Artifact.{IsUnread, OfRest}
use Rattle.sig_verify.specs.Judged.{Judged}
use Rattle.sig_verify.specs.LinkLaws.{renamed}
use Rattle.sig_verify.specs.Verdict.{Answer}
use Rattle.sig_verify.specs.declared.error.VerificationError.TheVariants.{Input, OutOfMemory}
use Rattle.sig_verify.specs.declared.link.Link.{Link}

-- a result for a digest that is handed in never says that the bytes could not be read
pub never_unread : (Holds : Link → Type 0) (links : List Link) (result : Answer)
    → UnlessMemory OutOfMemory result (Judged Holds links (renamed result)) → ¬ IsUnread result
never_unread Holds links (Ok done) judged unread = absurd (let wrong = unread.1 in cc)
never_unread Holds links (Err (Input why)) (inl memory) unread = absurd cc
never_unread Holds links (Err (Input why)) (inr first) unread = absurd (let wrong = first.1 in cc)
never_unread Holds links (Err other) judged unread = absurd (let wrong = unread.1 in cc)

pub of_digest : (old new : Option (List ℕ)) (digest : List ℕ) (result : Answer) (P : List ℕ → Type 0)
    → OfRest old new (λ bytes. digest ≡ sha256 bytes) → UnlessMemory OutOfMemory result (P digest)
    → UnlessMemory OutOfMemory result (OfRest old new (λ bytes. P (sha256 bytes)))
of_digest old new digest result P rest (inl memory) = inl memory
of_digest old new digest result P rest (inr holds) =
    inr (record { bytes = rest.bytes; given = rest.given; few = rest.few; holds = subst P rest.holds holds })
