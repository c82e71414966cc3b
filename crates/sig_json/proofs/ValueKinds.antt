-- A value that is seen as one of a kind is of that kind.
use Rattle.std.proofs.Common.{◌≡◌, ℕ, Bool, true, List, Some, refl}
use Rattle.std.specs.Option.{is_some}
use Rattle.serde_json.specs.Data.{Num, Data, null, boolean, number, string, array, object, Items, Members}
use Rattle.serde_json.specs.Find.{as_null, as_bool, as_number, as_str, as_array, as_object}

pub as_null_is : (d : Data) → is_some (as_null d) ≡ true → d ≡ null
as_null_is null e = refl
as_null_is (boolean b) e = cc
as_null_is (number n) e = cc
as_null_is (string s) e = cc
as_null_is (array ds) e = cc
as_null_is (object ms) e = cc

pub as_bool_is : (d : Data) (b : Bool) → Some b ≡ as_bool d → d ≡ boolean b
as_bool_is null b e = cc
as_bool_is (boolean c) b e = cc
as_bool_is (number n) b e = cc
as_bool_is (string s) b e = cc
as_bool_is (array ds) b e = cc
as_bool_is (object ms) b e = cc

pub as_number_is : (d : Data) (n : Num) → Some n ≡ as_number d → d ≡ number n
as_number_is null n e = cc
as_number_is (boolean c) n e = cc
as_number_is (number m) n e = cc
as_number_is (string s) n e = cc
as_number_is (array ds) n e = cc
as_number_is (object ms) n e = cc

pub as_str_is : (d : Data) (text : List ℕ) → Some text ≡ as_str d → d ≡ string text
as_str_is null text e = cc
as_str_is (boolean c) text e = cc
as_str_is (number m) text e = cc
as_str_is (string s) text e = cc
as_str_is (array ds) text e = cc
as_str_is (object ms) text e = cc

pub as_array_is : (d : Data) (items : Items) → Some items ≡ as_array d → d ≡ array items
as_array_is null items e = cc
as_array_is (boolean c) items e = cc
as_array_is (number m) items e = cc
as_array_is (string s) items e = cc
as_array_is (array ds) items e = cc
as_array_is (object ms) items e = cc

pub as_object_is : (d : Data) (ns : Members) → Some ns ≡ as_object d → d ≡ object ns
as_object_is null ns e = cc
as_object_is (boolean c) ns e = cc
as_object_is (number m) ns e = cc
as_object_is (string s) ns e = cc
as_object_is (array ds) ns e = cc
as_object_is (object ms) ns e = cc
