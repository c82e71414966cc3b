-- The second line of a reply of `audit`, from what the list is.
use Rattle.std.proofs.Common.{◌≡◌, ℕ, List, length, inl, inr, Result, IfOk}
use Rattle.std.proofs.lemmas.Result.{IfOk-weaker}
use Rattle.sig_audit.specs.Audited.{chain_of}
use Rattle.sig_audit.specs.Listing.{IsListing}
use Rattle.sig_audit.specs.declared.heads.AuditHead.{AuditHead}
use Rattle.sig_audit.specs.declared.heads.Watch.{Watch}
use Rattle.sig_audit.specs.declared.listing.Listing.TheVariants.{Other, Listed, Collided}
use Rattle.sig_base.specs.declared.collision.Collision.{Collision}
use Rattle.sig_base.specs.declared.memory.OutOfMemory.{OutOfMemory}
use Rattle.sig_reply.specs.SecondLine.{collision_line, other_line}
use Rattle.sig_audit_command.specs.Line.{IsListLineOf, prefixes_line}

module _ (entries : List (List ℕ)) (heads : List AuditHead) (watched : List Watch) (r : Result (List ℕ) OutOfMemory) where
  pub other-list : IsListing entries (chain_of heads) watched Other → IfOk r (λ line. line ≡ other_line)
      → IfOk r (IsListLineOf entries heads watched)
  other-list other =
      IfOk-weaker r (λ line. line ≡ other_line) (IsListLineOf entries heads watched) (λ line same. inl (other, same))

  pub prefixes-list : IsListing entries (chain_of heads) watched Listed
      → IfOk r (λ line. line ≡ prefixes_line (length heads)) → IfOk r (IsListLineOf entries heads watched)
  prefixes-list both =
      IfOk-weaker r (λ line. line ≡ prefixes_line (length heads)) (IsListLineOf entries heads watched)
      (λ line same. inr (inl (both.0, both.1, same)))

  pub collided-list : (c : Collision) → IsListing entries (chain_of heads) watched (Collided c)
      → IfOk r (λ line. line ≡ collision_line c.left c.right) → IfOk r (IsListLineOf entries heads watched)
  collided-list c (ends, other, collides, hashed) =
      IfOk-weaker r (λ line. line ≡ collision_line c.left c.right) (IsListLineOf entries heads watched)
      (λ line same. inr (inr (
        ends,
        other,
        record {
          left = c.left;
          right = c.right;
          collides = collides;
          hashed = hashed;
          shown = same;
        },
      )))
