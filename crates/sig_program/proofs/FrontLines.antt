-- The second line of `consistency`, from what the entries are.
use Rattle.std.proofs.Common.{◌≡◌, ◌≤◌, ℕ, inl, inr, List, length, Option, Some, Result, IfOk, arith, subst}
use Rattle.std.specs.Prelude.{IfSome}
use Rattle.std.proofs.lemmas.Result.{IfOk-weaker}
use Rattle.sig_base.specs.Collision.{IsCollision}
use Rattle.sig_base.specs.declared.collision.Collision.{Collision}
use Rattle.sig_base.specs.declared.memory.OutOfMemory.{OutOfMemory}
use Rattle.sig_merkle.specs.ConsistencyAnswer.{IsConsistent}
use Rattle.sig_merkle.specs.HashedText.{AreHashedTexts}
use Rattle.sig_merkle.specs.Root.{root}
use Rattle.sig_program.specs.ConsistencyLink.{IsGrown}
use Rattle.sig_program.specs.SecondLine.{AreOfNow, IsFront, IsFrontLineOf, prefix_line}
use Rattle.sig_reply.specs.SecondLine.{collision_line, other_line}
use Rattle.sig_request.specs.declared.consistency_request.ConsistencyRequest.{ConsistencyRequest}

-- a tree that grew has no fewer entries than it had
pub grown-sizes : (request : ConsistencyRequest) → IsGrown request → request.old_size ≤ request.tree_size
grown-sizes request (inl same) = omega (arith, same.0.0)
grown-sizes request (inr (inl empty)) = omega (arith, empty.0.0)
grown-sizes request (inr (inr led)) = omega (arith, led.0.1)

-- the proof is accepted for the list's size and root
pub consistent-in : (entries : List (List ℕ)) (request : ConsistencyRequest) → IsGrown request
    → AreOfNow entries request
    → IsConsistent request.old_size (length entries) request.hashes request.old_root (root entries)
consistent-in entries request grown tree = rw (tree.0, tree.1) grown

pub other-front : (entries : List (List ℕ)) (request : ConsistencyRequest) (r : Result (List ℕ) OutOfMemory)
    → ¬ AreOfNow entries request → IfOk r (λ line. line ≡ other_line) → IfOk r (IsFrontLineOf entries request)
other-front entries request r other is =
    IfOk-weaker r (λ line. line ≡ other_line) (IsFrontLineOf entries request) (λ line same. inl (other, same)) is

pub prefix-front : (entries : List (List ℕ)) (request : ConsistencyRequest) (r : Result (List ℕ) OutOfMemory)
    → AreOfNow entries request → IsFront entries request → IfOk r (λ line. line ≡ prefix_line request.old_size)
    → IfOk r (IsFrontLineOf entries request)
prefix-front entries request r tree front is =
    IfOk-weaker r (λ line. line ≡ prefix_line request.old_size) (IsFrontLineOf entries request)
    (λ line same. inr (inl (tree, front, same))) is

collision-front : (entries : List (List ℕ)) (request : ConsistencyRequest) (left right : List ℕ)
    (r : Result (List ℕ) OutOfMemory) → AreOfNow entries request → ¬ IsFront entries request → IsCollision left right
    → AreHashedTexts left right → IfOk r (λ line. line ≡ collision_line left right)
    → IfOk r (IsFrontLineOf entries request)
collision-front entries request left right r tree other collides hashed is =
    IfOk-weaker r (λ line. line ≡ collision_line left right) (IsFrontLineOf entries request)
    (λ line same. inr (inr (
      tree,
      other,
      record { left = left; right = right; collides = collides; hashed = hashed; shown = same },
    ))) is

-- the same of what the extractor found
pub found-front : (entries : List (List ℕ)) (request : ConsistencyRequest) (found : Option Collision) (shown : Collision)
    (r : Result (List ℕ) OutOfMemory) → AreOfNow entries request → ¬ IsFront entries request
    → found ≡ Some shown → IfSome found (λ c. IsCollision c.left c.right)
    → IfSome found (λ c. AreHashedTexts c.left c.right)
    → IfOk r (λ line. line ≡ collision_line shown.left shown.right) → IfOk r (IsFrontLineOf entries request)
found-front entries request found shown r tree other which collides hashed is =
    let C : Collision → Type 0 = λ c. IsCollision c.left c.right in
    let H : Collision → Type 0 = λ c. AreHashedTexts c.left c.right in
    let both : IsCollision shown.left shown.right =
    subst (λ (o : Option Collision). IfSome o C) which collides in
    let texts : AreHashedTexts shown.left shown.right =
    subst (λ (o : Option Collision). IfSome o H) which hashed in
    collision-front entries request shown.left shown.right r tree other both texts is

pub ruleset front_lines = (grown-sizes, consistent-in, other-front, prefix-front)
