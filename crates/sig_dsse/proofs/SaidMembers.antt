-- What is read of a member, and what the object has under its name.
use Rattle.std.proofs.Common.{◌≡◌, ◌≢◌, ℕ, List, Option, Some, None, option_map, Ok, refl, sym, ap, ◌∙◌}
use Rattle.std.specs.Result.{result_ok}
use Rattle.hex.specs.Hex.{decode_sized}
use Rattle.sig_base.proofs.OptionSteps.{bind_is, some_is}
use Rattle.sig_base.proofs.ResultSteps.{ok_from}
use Rattle.sig_base.specs.Base64.{base64_bytes}
use Rattle.sig_base.specs.OptionSteps.{◌>>=◌}
use Rattle.sig_json.specs.Data.{Data, Members, null, boolean, number, string, array, object}
use Rattle.sig_json.specs.Find.{as_object, get}
use Rattle.sig_json.specs.Kinds.{bytes_of, hash_of, text_of}
use Rattle.sig_json.specs.Member.{member_of, not_null, optional, optional_or, required, there_or}
use Rattle.sig_dsse.specs.SaidMembers.{HasBytes, HasHash, HasMember, HasText, MayHave}

-- ---- a value

kept : (value : Data) → value ≢ null → not_null value ≡ Some value
kept null some = absurd (some refl)
kept (boolean b) some = refl
kept (number n) some = refl
kept (string s) some = refl
kept (array ds) some = refl
kept (object ms) some = refl

passed : (value d : Data) → not_null value ≡ Some d → (value ≡ d) × (d ≢ null)
passed null d e = absurd cc
passed (boolean b) d e = (some_is _ _ e, λ no. let same = some_is _ _ e ∙ no in absurd cc)
passed (number n) d e = (some_is _ _ e, λ no. let same = some_is _ _ e ∙ no in absurd cc)
passed (string s) d e = (some_is _ _ e, λ no. let same = some_is _ _ e ∙ no in absurd cc)
passed (array ds) d e = (some_is _ _ e, λ no. let same = some_is _ _ e ∙ no in absurd cc)
passed (object ms) d e = (some_is _ _ e, λ no. let same = some_is _ _ e ∙ no in absurd cc)

dropped : (value : Data) → not_null value ≡ None → value ≡ null
dropped null e = refl
dropped (boolean b) e = absurd cc
dropped (number n) e = absurd cc
dropped (string s) e = absurd cc
dropped (array ds) e = absurd cc
dropped (object ms) e = absurd cc

pub text_is : (value : Data) (text : List ℕ) → text_of value ≡ Some text → value ≡ string text
unfolding text_of
text_is null text e = absurd cc
text_is (boolean b) text e = absurd cc
text_is (number n) text e = absurd cc
text_is (string s) text e = ap string (some_is _ _ e)
text_is (array ds) text e = absurd cc
text_is (object ms) text e = absurd cc

pub is_text : (value : Data) (text : List ℕ) → value ≡ string text → text_of value ≡ Some text
unfolding text_of
is_text value text is = rw is refl

text-some : (text : List ℕ) → string text ≢ null
text-some text e = absurd cc

-- ---- the members of an object

pub object_there : (name : List ℕ) (d value : Data) → get name d ≡ Some value
    → (members : Members) × (as_object d ≡ Some members)
object_there name null value e = absurd cc
object_there name (boolean b) value e = absurd cc
object_there name (number n) value e = absurd cc
object_there name (string s) value e = absurd cc
object_there name (array ds) value e = absurd cc
object_there name (object ms) value e = (ms, refl)

member_is : (name : List ℕ) (d : Data) (members : Members) → as_object d ≡ Some members
    → member_of name d ≡ Some (get name d >>= not_null)
unfolding member_of
member_is name d members is = rw is refl

-- what is found under the name, or nothing where it is null
found_is : (found : Option Data) (value : Data) → (found >>= not_null) ≡ Some value
    → (found ≡ Some value) × (value ≢ null)
found_is found value e =
    let held = bind_is found not_null value e in
    let whole = passed held.0 value held.2 in
    (held.1 ∙ ap (λ (v : Data). Some v) whole.0, whole.1)

found_none : (found : Option Data) → (found >>= not_null) ≡ None → (value : Data) → found ≡ Some value → value ≡ null
found_none None e value is = absurd cc
found_none (Some v) e value is = let same : v ≡ value = some_is _ _ is in sym same ∙ dropped v e

none_found : (found : Option Data) → ((value : Data) → found ≡ Some value → value ≡ null)
    → (found >>= not_null) ≡ None
none_found None none = refl
none_found (Some value) none = rw (none value refl) refl

-- ---- a required member

there_is : {A : Type 0} → (kind : Data → Option A) (found : Option Data) (x : A) → there_or None kind found ≡ Some x
    → (value : Data) × (found ≡ Some value) × (kind value ≡ Some x)
there_is kind None x e = absurd cc
there_is kind (Some value) x e = (value, refl, e)

pub required_is : {A : Type 0} → (kind : Data → Option A) (name : List ℕ) (d : Data) (x : A)
    → required kind name d ≡ Some x → (value : Data) × HasMember name d value × (kind value ≡ Some x)
unfolding required member_of
required_is kind name d x e =
    let there = bind_is (member_of name d) (there_or None kind) x e in
    let object = bind_is (as_object d) (λ _. Some (get name d >>= not_null)) there.0 there.1 in
    let read = there_is kind there.0 x there.2 in
    let found = found_is (get name d) read.0 (some_is _ _ object.2 ∙ read.1) in
    (read.0, record { found = found.0; some = found.1 }, read.2)

pub is_required : {A : Type 0} → (kind : Data → Option A) (name : List ℕ) (d value : Data) (x : A)
    → HasMember name d value → kind value ≡ Some x → required kind name d ≡ Some x
unfolding required
is_required kind name d value x has read =
    let object = object_there name d value has.found in
    rw (member_is name d object.0 object.1, has.found, kept value has.some) read

-- ---- an optional member

mapped : {A : Type 0} → (read : Option A) (found : Option A) → option_map Some read ≡ Some found
    → (x : A) × (found ≡ Some x) × (read ≡ Some x)
mapped None found e = absurd cc
mapped (Some y) found e = (y, sym (some_is _ _ e), refl)

optional_means : {A : Type 0} → (kind : Data → Option A) (Is : Data → A → Type 0) (name : List ℕ) (d : Data)
    (there : Option Data) (found : Option A)
    → ((value : Data) (x : A) → kind value ≡ Some x → Is value x)
    → (get name d >>= not_null) ≡ there
    → there_or (Some None) (λ v. option_map Some (kind v)) there ≡ Some found → MayHave Is name d found
optional_means kind Is name d None None means is e = found_none (get name d) is
optional_means kind Is name d None (Some x) means is e = absurd cc
optional_means kind Is name d (Some value) None means is e =
    let read = mapped (kind value) None e in let no = read.1 in absurd cc
optional_means kind Is name d (Some value) (Some x) means is e =
    let read = mapped (kind value) (Some x) e in
    let same : read.0 ≡ x = sym (some_is _ _ read.1) in
    let has = found_is (get name d) value is in
    (value, record { found = has.0; some = has.1 }, means value x (read.2 ∙ ap (λ y. Some y) same))

pub optional_is : {A : Type 0} → (kind : Data → Option A) (Is : Data → A → Type 0) (name : List ℕ) (d : Data)
    (found : Option A) → ((value : Data) (x : A) → kind value ≡ Some x → Is value x)
    → optional kind name d ≡ Some found → MayHave Is name d found
unfolding optional_or member_of
optional_is kind Is name d found means e =
    let there = bind_is (member_of name d) (there_or (Some None) (λ v. option_map Some (kind v))) found e in
    let object = bind_is (as_object d) (λ _. Some (get name d >>= not_null)) there.0 there.1 in
    optional_means kind Is name d there.0 found means (some_is _ _ object.2) there.2

pub is_optional : {A : Type 0} → (kind : Data → Option A) (Is : Data → A → Type 0) (name : List ℕ) (d : Data)
    (members : Members) (found : Option A) → ((value : Data) (x : A) → Is value x → kind value ≡ Some x)
    → as_object d ≡ Some members → MayHave Is name d found → optional kind name d ≡ Some found
unfolding optional_or
is_optional kind Is name d members None read whole none =
    rw (member_is name d members whole, none_found (get name d) none) refl
is_optional kind Is name d members (Some x) read whole has =
    rw (member_is name d members whole, has.1.found, kept has.0 has.1.some, read has.0 x has.2) refl

-- ---- texts, bytes, hashes

pub text_held : (name : List ℕ) (d : Data) (text : List ℕ) → required text_of name d ≡ Some text → HasText name d text
text_held name d text e =
    let has = required_is text_of name d text e in
    has.1.found ∙ ap (λ (v : Data). Some v) (text_is has.0 text has.2)

pub held_text : (name : List ℕ) (d : Data) (text : List ℕ) → HasText name d text → required text_of name d ≡ Some text
held_text name d text has =
    is_required text_of name d (string text) text (record { found = has; some = text-some text })
    (is_text (string text) text refl)

text_with : {A : Type 0} → (read : List ℕ → Option A) (value : Data) (x : A) → (text_of value >>= read) ≡ Some x
    → (text : List ℕ) × (value ≡ string text) × (read text ≡ Some x)
text_with read value x e =
    let held = bind_is (text_of value) read x e in
    (held.0, text_is value held.0 held.1, held.2)

pub bytes_held : (name : List ℕ) (d : Data) (bytes : List ℕ) → required bytes_of name d ≡ Some bytes
    → HasBytes name d bytes
unfolding bytes_of text_of
bytes_held name d bytes e =
    let has = required_is bytes_of name d bytes e in
    let held = text_with base64_bytes has.0 bytes has.2 in
    record {
      text = held.0;
      held = has.1.found ∙ ap (λ (v : Data). Some v) held.1;
      read = held.2;
    }

pub held_bytes : (name : List ℕ) (d : Data) (bytes : List ℕ) → HasBytes name d bytes
    → required bytes_of name d ≡ Some bytes
unfolding bytes_of
held_bytes name d bytes has =
    is_required bytes_of name d (string has.text) bytes (record { found = has.held; some = text-some has.text })
    has.read

pub hash_held : (name : List ℕ) (d : Data) (bytes : List ℕ) → required hash_of name d ≡ Some bytes
    → HasHash name d bytes
unfolding hash_of text_of
hash_held name d bytes e =
    let has = required_is hash_of name d bytes e in
    let held = text_with (λ text. result_ok (decode_sized text 32)) has.0 bytes has.2 in
    record {
      text = held.0;
      held = has.1.found ∙ ap (λ (v : Data). Some v) held.1;
      read = ok_from (decode_sized held.0 32) bytes held.2;
    }

pub held_hash : (name : List ℕ) (d : Data) (bytes : List ℕ) → HasHash name d bytes
    → required hash_of name d ≡ Some bytes
unfolding hash_of
held_hash name d bytes has =
    is_required hash_of name d (string has.text) bytes (record { found = has.held; some = text-some has.text })
    (rw has.read refl)
