-- Readers in steps: what an answer says of each step.
use Rattle.std.proofs.Common.{◌≡◌, Bool, true, false, ◌⊎◌, cond, Option, Some, None, Result, Ok, Err, refl, inl, inr}
use Rattle.std.proofs.Common.{ok_or, List, [], ◌∷◌, ◌++◌, subst, ap, IfOk}
use Rattle.std.proofs.lemmas.List.{append_assoc, flat_map_more, take_more}
use Rattle.sig_base.specs.declared.fault.CheckpointFault.{CheckpointFault}
use Rattle.std.specs.List.{AllZip, AllByRecursion}
use Rattle.sig_base.proofs.ResultSteps.{bind_ok}
use Rattle.sig_base.specs.Answers.{Answers}
use Rattle.sig_rekor.specs.declared.fault.ParseCheckpointError.{ParseCheckpointError}
use Rattle.sig_rekor.specs.declared.fault.ParseCheckpointError.TheVariants.{OutOfMemory}
use Rattle.sig_rekor.specs.Reading.{read_each, as_error}

-- what is appended, piece by piece and element by element
pub ruleset appended = (append_assoc, flat_map_more, take_more)

-- the first elements of equal lists
pub head_is : {A : Type 0} (x y : A) (xs ys : List A) → x ∷ xs ≡ y ∷ ys → x ≡ y
head_is x y xs ys e = cc

-- which way a test went
pub chosen : {A : Type 0} (b : Bool) (x y z : A) → cond b x y ≡ z → ((b ≡ true) × (x ≡ z)) ⊎ ((b ≡ false) × (y ≡ z))
chosen true x y z e = inl (refl, e)
chosen false x y z e = inr (refl, e)

pub ok_or-ok : {A E : Type 0} (o : Option A) (fault : E) (x : A) → ok_or o fault ≡ Ok x → o ≡ Some x
ok_or-ok (Some y) fault x e = (let same : y ≡ x = cc in cc)
ok_or-ok None fault x e = cc

-- a value that is returned is the one that reading gives
pub reads-value : {Y : Type 0} (y : Y) (read : Result Y CheckpointFault) → as_error read ≡ Ok y → read ≡ Ok y
reads-value y (Ok x) is = let same : x ≡ y = cc in ap Ok same
reads-value y (Err fault) is = absurd cc

-- a reading that gives a value of which P holds
pub reads-found : {X : Type 0} (P : X → Type 0) (r : Result X ParseCheckpointError) (read : Result X CheckpointFault)
    → Answers OutOfMemory (λ x. x) r (as_error read) → ((x : X) → read ≡ Ok x → P x) → IfOk r P
reads-found P (Ok x) read is found = found x (reads-value x read is)
reads-found P (Err error) read is found = tt

pub reads-only : {X : Type 0} (r : Result X ParseCheckpointError) (read : Result X CheckpointFault) (x : X)
    → Answers OutOfMemory (λ x. x) r (as_error read) → read ≡ Ok x → Answers OutOfMemory (λ x. x) r (Ok x)
reads-only r read x is same = subst (λ read. Answers OutOfMemory (λ x. x) r (as_error read)) same is

-- each of a list
pub read_each-found : {A B : Type 0} (read : A → Result B CheckpointFault) (R : A → B → Type 0)
    → ((x : A) (y : B) → read x ≡ Ok y → R x y) → (xs : List A) (ys : List B) → read_each read xs ≡ Ok ys
    → AllZip R xs ys
read_each-found read R found [] [] e = tt
read_each-found read R found [] (y ∷ ys) e = cc
read_each-found read R found (x ∷ xs) ys e =
    let a = bind_ok (read x) _ ys e in
    let b = bind_ok (read_each read xs) _ ys a.2 in
    let same : a.0 ∷ b.0 ≡ ys = (let f = b.2 in cc) in
    subst (AllZip R (x ∷ xs)) same (found x a.0 a.1, read_each-found read R found xs b.0 b.1)

pub read_each-only : {A B : Type 0} (read : A → Result B CheckpointFault) (R : A → B → Type 0)
    → ((x : A) (y : B) → R x y → read x ≡ Ok y) → (xs : List A) (ys : List B) → AllZip R xs ys
    → read_each read xs ≡ Ok ys
read_each-only read R only [] [] are = refl
read_each-only read R only [] (y ∷ ys) are = absurd are
read_each-only read R only (x ∷ xs) [] are = absurd are
read_each-only read R only (x ∷ xs) (y ∷ ys) are = rw (only x y are.0, read_each-only read R only xs ys are.1) refl

-- one more element of which P holds
pub all_push : {A : Type 0} (P : A → Type 0) (xs : List A) (x : A) → AllByRecursion P xs → P x
    → AllByRecursion P (xs ++ x ∷ [])
all_push P [] x all here = (here, tt)
all_push P (y ∷ xs) x all here = (all.0, all_push P xs x all.1 here)
