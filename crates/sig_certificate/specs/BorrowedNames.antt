-- What contracts see of a borrowed name, and of an iterator over borrowed names.
use Rattle.std.specs.Prelude.{ℕ, zero, suc, List, [], ◌∷◌, length, Option, Some, None}
use Rattle.sig_certificate.specs.declared.general_name.GeneralName.{GeneralName}
use Rattle.sig_certificate.specs.declared.general_name.GeneralName.TheVariants.{Email as EmailOf, Uri as UriOf}
use Rattle.sig_certificate.specs.declared.general_name.GeneralName.TheVariants.{Other as OtherOf, Unread as UnreadOf}
use Rattle.sig_certificate.specs.declared.general_names.AlternativeNames.{AlternativeNames}
use Rattle.sig_certificate.specs.Names.{Name, Email, Uri, Other, Unread, name_at}

abbrev pub borrowed_name : GeneralName → Name
borrowed_name (EmailOf text) = Email text.now
borrowed_name (UriOf text) = Uri text.now
borrowed_name (OtherOf kind value) = Other kind.now value.now
borrowed_name UnreadOf = Unread

-- a name, and the names of its rest
abbrev pub then_names : (List ℕ → List Name) → Option (Name × List ℕ) → List Name
then_names go None = []
then_names go (Some x) = x.0 ∷ go x.1

-- The names at the front of the bytes, one after another, up to the first element that is not a name. The number bounds
-- the readings; the number of bytes suffices.
unfoldable pub front_names_within : ℕ → List ℕ → List Name
front_names_within zero bytes = []
front_names_within (suc n) bytes = then_names (front_names_within n) (name_at bytes)

unfoldable pub front_names : List ℕ → List Name
front_names bytes = front_names_within (length bytes) bytes

-- the names that an iterator has left
abbrev pub names_left : AlternativeNames → List Name
names_left names = front_names names.rest.now
