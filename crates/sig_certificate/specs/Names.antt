-- *Extension values*: subject alternative names, RFC 5280 section 4.2.1.6.
use Rattle.std.specs.Prelude.{ℕ, List, Bool, ◌&&◌, ◌||◌, Option, Some, None, nat_lt, ◌==◌, if◌then◌else◌}
use Rattle.std.specs.List.{list_all}
use Rattle.sig_base.specs.OptionSteps.{◌>>=◌}
use Rattle.sig_der.specs.FrontReaders.{take_any, take_tag, take_whole, many_at}
use Rattle.sig_der.specs.KeyInfo.{is_empty}
use Rattle.sig_der.specs.Tag.{OBJECT_IDENTIFIER, OTHER_NAME, OTHER_NAME_VALUE, RFC822_NAME, SEQUENCE}
use Rattle.sig_der.specs.Tag.{UNIFORM_RESOURCE_IDENTIFIER}

-- A name: an email, a URI, an other name with its object identifier and its value, or one of a kind that is not read.
pub data Name : Type 0 where
  Email : List ℕ → Name
  Uri : List ℕ → Name
  Other : List ℕ → List ℕ → Name
  Unread : Name

-- tags of the context 0 to 8, primitive or constructed
abbrev pub is_context : ℕ → Bool
is_context tag = (nat_lt 127 tag && nat_lt tag 137) || (nat_lt 159 tag && nat_lt tag 169)

abbrev pub is_ascii_text : List ℕ → Bool
is_ascii_text text = list_all (λ b. nat_lt b 128) text

-- an other name's value: the content of the one element in an explicit 0
unfoldable pub other_value : List ℕ → Option (List ℕ)
other_value bytes = do
  x ← take_whole OTHER_NAME_VALUE bytes
  v ← take_any x.content
  if is_empty v.1 then Some v.0.content else None

-- an other name: an object identifier that is not empty, and its value
unfoldable pub other_name : List ℕ → Option (List ℕ × List ℕ)
other_name bytes = do
  o ← take_tag OBJECT_IDENTIFIER bytes
  v ← other_value o.1
  if is_empty o.0.content then None else Some (o.0.content, v)

-- what the element of a tag and a content is
unfoldable pub general_name_of : ℕ → List ℕ → Option Name
general_name_of tag content =
    if tag == RFC822_NAME then (if is_ascii_text content then Some (Email content) else None)
    else if tag == UNIFORM_RESOURCE_IDENTIFIER then (if is_ascii_text content then Some (Uri content) else None)
    else if tag == OTHER_NAME then (other_name content >>= λ o. Some (Other o.0 o.1))
    else if is_context tag then Some Unread
    else None

unfoldable pub name_at : List ℕ → Option (Name × List ℕ)
name_at bytes = do
  x ← take_any bytes
  n ← general_name_of x.0.tag x.0.content
  Some (n, x.1)

-- a SEQUENCE of names
unfoldable pub general_names_of : List ℕ → Option (List Name)
general_names_of value = take_whole SEQUENCE value >>= λ s. many_at name_at s.content
