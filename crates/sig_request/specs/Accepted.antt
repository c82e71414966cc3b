-- A request: the rows of its member `accepted`, and its other members, which mean a request with these rows.
use Rattle.std.specs.Prelude.{◌≡◌, ℕ, List, codes, Option}
use Rattle.sig_base.specs.OptionSteps.{◌>>=◌}
use Rattle.sig_base.specs.declared.checker.AcceptedRow.{AcceptedRow}
use Rattle.sig_json.specs.Data.{Data}
use Rattle.sig_json.specs.Member.{optional_list}
use Rattle.sig_json.specs.Only.{only}
use Rattle.sig_request.specs.Row.{row_of}

-- what a request means whose other members mean this with the rows of `accepted`; absent or null means no row
unfoldable pub with_rows : {R : Type 0} → (List AcceptedRow → Data → Option R) → Data → Option R
with_rows members d = optional_list row_of (codes "accepted") d >>= λ accepted. members accepted d

-- for private clauses: the other members have these names
abbrev pub AsksOnly : {R : Type 0} → List (List ℕ) → (List AcceptedRow → Data → Option R) → Type 0
AsksOnly names members =
    (accepted : List AcceptedRow) (tree : Data) → members accepted (only names tree) ≡ members accepted tree
