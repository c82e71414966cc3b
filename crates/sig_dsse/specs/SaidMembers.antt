-- What an object of JSON has under a name (RFC 8259 section 4).
use Rattle.std.specs.Prelude.{◌≡◌, ◌≢◌, ℕ, List, Option, Some, None, Ok}
use Rattle.hex.specs.Hex.{decode_sized}
use Rattle.sig_base.specs.Base64.{base64_bytes}
use Rattle.sig_json.specs.Data.{Data, null, string}
use Rattle.sig_json.specs.Find.{get}

-- this value, which is not null
pub record HasMember (name : List ℕ) (d value : Data) : Type 0 where
  pub found : get name d ≡ Some value
  pub some : value ≢ null

-- this text
abbrev pub HasText : List ℕ → Data → List ℕ → Type 0
HasText name d text = get name d ≡ Some (string text)

-- a text whose base64 these bytes are (RFC 4648 section 4)
pub record HasBytes (name : List ℕ) (d : Data) (bytes : List ℕ) : Type 0 where
  pub text : List ℕ
  pub held : HasText name d text
  pub read : base64_bytes text ≡ Some bytes

-- a text of 64 hexadecimal digits, of either case, which are these bytes (RFC 4648 section 8)
pub record HasHash (name : List ℕ) (d : Data) (bytes : List ℕ) : Type 0 where
  pub text : List ℕ
  pub held : HasText name d text
  pub read : decode_sized text 32 ≡ Ok bytes

-- a value that is this, or nothing or null if it is `None`
abbrev pub MayHave : {A : Type 0} → (Data → A → Type 0) → List ℕ → Data → Option A → Type 0
MayHave Is name d None = (value : Data) → get name d ≡ Some value → value ≡ null
MayHave Is name d (Some x) = (value : Data) × HasMember name d value × Is value x
