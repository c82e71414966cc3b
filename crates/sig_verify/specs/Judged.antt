-- A result that says of rules which holds: Ok if and only if all hold, and an error's link is the first that does not.
use Rattle.std.specs.Prelude.{◌≡◌, ◌↔◌, List, Some, Result, Ok, Err, IsOk}
use Rattle.std.specs.List.{AllByRecursion}
use Rattle.sig_base.specs.Rules.{FailsFirst}
use Rattle.sig_verify.specs.OfflineErrors.{link_of}
use Rattle.sig_verify.specs.declared.link.Link.{Link}
use Rattle.sig_verify.specs.declared.offline_error.OfflineError.{OfflineError}

-- the error's link is the first of these that does not hold
abbrev pub IsOfFirst : (Link → Type 0) → List Link → OfflineError → Type 0
IsOfFirst Holds links error = (link : Link) × (link_of error ≡ Some link) × FailsFirst Holds links link

-- Since only one link is the first that fails, and there is none if all hold, this is exact both ways.
abbrev pub Judged : {A : Type 0} → (Link → Type 0) → List Link → Result A OfflineError → Type 0
Judged Holds links (Ok _) = AllByRecursion Holds links
Judged Holds links (Err error) = IsOfFirst Holds links error

-- The same in full: there is a value if and only if all of the links hold, and an error of a link if and only if the
-- link is the first that does not.
pub record Tells {A : Type 0} (Holds : Link → Type 0) (links : List Link) (r : Result A OfflineError) : Type 0 where
  pub all : IsOk r ↔ AllByRecursion Holds links
  pub first : (link : Link) → FailsFirst Holds links link
      ↔ ((error : OfflineError) × (r ≡ Err error) × (link_of error ≡ Some link))
