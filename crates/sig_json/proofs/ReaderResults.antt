-- What a reader returns tells what its value means, and its refusal refuses what is read of it.
use Rattle.std.proofs.Common.{◌≡◌, ◌⊎◌, inl, inr, Option, Some, None, Ok, Err, ap}
use Rattle.sig_base.specs.OptionSteps.{◌>>=◌}
use Rattle.sig_json.specs.OrMember.{or_member}
use Rattle.sig_json.specs.declared.error.MemberError.{MemberError}
use Rattle.sig_json.specs.declared.error.MemberError.TheVariants.{Member, OutOfMemory}

pub is_read : {A : Type 0} → {found : Option A} {x : A} → or_member found ≡ Ok x → found ≡ Some x
is_read {found = None} read = cc
is_read {found = Some y} read = cc

-- the first step that fails is the refusal of all
pub first_refused : {A B : Type 0} → (found : Option A) (next : A → Option B) (e : MemberError)
    → (e ≡ OutOfMemory) ⊎ (or_member found ≡ Err e) → (e ≡ OutOfMemory) ⊎ (or_member (found >>= next) ≡ Err e)
first_refused None next e (inl memory) = inl memory
first_refused None next e (inr refused) = let same : Member ≡ e = cc in inr (ap Err same)
first_refused (Some x) next e (inl memory) = inl memory
first_refused (Some x) next e (inr refused) = cc
