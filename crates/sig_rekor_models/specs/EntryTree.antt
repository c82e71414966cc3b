-- *Entry of a kind*: the object that Rekor logs and takes: an entry's kind, its version and what it says.
use Rattle.std.specs.Prelude.{ℕ, List, codes}
use Rattle.sig_json.specs.Data.{Data, object, string, member, no_members}

unfoldable pub entry_json : List ℕ → List ℕ → Data → Data
entry_json kind api_version spec =
    object (member (codes "apiVersion") (string api_version)
    (member (codes "kind") (string kind) (member (codes "spec") spec no_members)))
