-- The body of an entry about an artifact: its tree, and the members that it has.
use Rattle.std.proofs.Common.{◌≡◌, ℕ, List, [], ◌∷◌, codes, Some, Ok, refl, sym, ap, ◌∙◌}
use Rattle.std.specs.Map.{keys_of}
use Rattle.std.specs.Prelude.{◌↔◌}
use Rattle.hex.specs.Hex.{encode_lower}
use Rattle.sig_base.proofs.OptionSteps.{some_is}
use Rattle.sig_base.specs.Base64.{base64_text}
use Rattle.sig_json.specs.Writing.{bytes_tree}
use Rattle.sig_dsse.specs.SaidMembers.{HasText}
use Rattle.sig_json.specs.Data.{Data, Members, null, boolean, number, string, array, object, no_members, member}
use Rattle.sig_json.specs.Document.{document_of}
use Rattle.sig_json.specs.Find.{get}
use Rattle.sig_json.specs.Members.{members_list}
use Rattle.sig_checked_bundle.specs.Hashedrekord.{data_tree, hash_tree, hashedrekord_tree, public_key_tree, signature_tree}
use Rattle.sig_checked_bundle.specs.Hashedrekord.{spec_tree}
use Rattle.sig_checked_bundle.specs.LoggedArtifact.{HasExactly, IsLoggedArtifact}

-- ---- objects of some names

of_names : (names : List (List ℕ)) (d : Data) → HasExactly names d
    → (ms : Members) × (d ≡ object ms) × (keys_of (members_list ms) ≡ names)
of_names names null e = absurd cc
of_names names (boolean b) e = absurd cc
of_names names (number n) e = absurd cc
of_names names (string s) e = absurd cc
of_names names (array ds) e = absurd cc
of_names names (object ms) e = (ms, refl, cc)

none_more : (ms : Members) → keys_of (members_list ms) ≡ [] → ms ≡ no_members
none_more no_members e = refl
none_more (member name d ms) e = absurd cc

one_more : (first : List ℕ) (others : List (List ℕ)) (ms : Members) → keys_of (members_list ms) ≡ first ∷ others
    → (d : Data) × (more : Members) × (ms ≡ member first d more) × (keys_of (members_list more) ≡ others)
one_more first others no_members e = absurd cc
one_more first others (member name d ms) e =
    let same : name ≡ first = cc in (d, ms, ap (λ n. member n d ms) same, cc)

with_one : (a : List ℕ) (d : Data) → HasExactly (a ∷ []) d → (x : Data) × (d ≡ object (member a x no_members))
with_one a d just =
    let o = of_names (a ∷ []) d just in
    let one = one_more a [] o.0 o.2 in
    (one.0, o.1 ∙ ap object (one.2 ∙ ap (member a one.0) (none_more one.1 one.3)))

with_two : (a b : List ℕ) (d : Data) → HasExactly (a ∷ b ∷ []) d
    → (x y : Data) × (d ≡ object (member a x (member b y no_members)))
with_two a b d just =
    let o = of_names (a ∷ b ∷ []) d just in
    let one = one_more a (b ∷ []) o.0 o.2 in
    let two = one_more b [] one.1 one.3 in (
      one.0,
      two.0,
      o.1 ∙ ap object (one.2 ∙ ap (member a one.0) (two.2 ∙ ap (member b two.0) (none_more two.1 two.3))),
    )

with_three : (a b c : List ℕ) (d : Data) → HasExactly (a ∷ b ∷ c ∷ []) d
    → (x y z : Data) × (d ≡ object (member a x (member b y (member c z no_members))))
with_three a b c d just =
    let o = of_names (a ∷ b ∷ c ∷ []) d just in
    let one = one_more a (b ∷ c ∷ []) o.0 o.2 in
    let two = one_more b (c ∷ []) one.1 one.3 in
    let three = one_more c [] two.1 two.3 in (
      one.0,
      two.0,
      three.0,
      o.1 ∙ ap object (one.2 ∙ ap (member a one.0) (two.2 ∙ ap (member b two.0)
          (three.2 ∙ ap (member c three.0) (none_more three.1 three.3)))),
    )

-- ---- the trees, object by object

-- what is found under a name of an object, where the object is known
found : (name : List ℕ) (d whole x y : Data) → d ≡ whole → get name whole ≡ Some x
    → get name d ≡ Some y → x ≡ y
found name d whole x y is here there = some_is x y (sym here ∙ sym (ap (get name) is) ∙ there)

hash_is : (digest : List ℕ) (d : Data) → HasExactly (codes "algorithm" ∷ codes "value" ∷ []) d
    → HasText (codes "algorithm") d (codes "sha256") → HasText (codes "value") d (encode_lower digest)
    → d ≡ hash_tree digest
unfolding hash_tree
hash_is digest d just algorithm value =
    let two = with_two (codes "algorithm") (codes "value") d just in
    let by : two.0 ≡ string (codes "sha256") = found (codes "algorithm") d _ _ _ two.2 refl algorithm in
    let digits : two.1 ≡ string (encode_lower digest) = found (codes "value") d _ _ _ two.2 refl value in
    two.2 ∙ rw (by, digits) refl

data_is : (digest : List ℕ) (d hash : Data) → HasExactly (codes "hash" ∷ []) d → get (codes "hash") d ≡ Some hash
    → hash ≡ hash_tree digest → d ≡ data_tree digest
unfolding data_tree
data_is digest d hash just said is =
    let one = with_one (codes "hash") d just in
    let same : one.0 ≡ hash = found (codes "hash") d _ _ _ one.1 refl said in
    one.1 ∙ rw (same, is) refl

key_is : (pem : List ℕ) (d : Data) → HasExactly (codes "content" ∷ []) d
    → HasText (codes "content") d (base64_text pem) → d ≡ public_key_tree pem
unfolding public_key_tree bytes_tree
key_is pem d just content =
    let one = with_one (codes "content") d just in
    let same : one.0 ≡ string (base64_text pem) = found (codes "content") d _ _ _ one.1 refl content in
    one.1 ∙ rw same refl

signature_is : (signature pem : List ℕ) (d key : Data) → HasExactly (codes "content" ∷ codes "publicKey" ∷ []) d
    → HasText (codes "content") d (base64_text signature) → get (codes "publicKey") d ≡ Some key
    → key ≡ public_key_tree pem → d ≡ signature_tree signature pem
unfolding signature_tree bytes_tree
signature_is signature pem d key just content said is =
    let two = with_two (codes "content") (codes "publicKey") d just in
    let bytes : two.0 ≡ string (base64_text signature) = found (codes "content") d _ _ _ two.2 refl content in
    let same : two.1 ≡ key = found (codes "publicKey") d _ _ _ two.2 refl said in
    two.2 ∙ rw (bytes, same, is) refl

spec_is : (digest signature pem : List ℕ) (d signed by : Data)
    → HasExactly (codes "data" ∷ codes "signature" ∷ []) d → get (codes "data") d ≡ Some signed
    → get (codes "signature") d ≡ Some by → signed ≡ data_tree digest → by ≡ signature_tree signature pem
    → d ≡ spec_tree digest signature pem
unfolding spec_tree
spec_is digest signature pem d signed by just signed_said by_said signed_is by_is =
    let two = with_two (codes "data") (codes "signature") d just in
    let first : two.0 ≡ signed = found (codes "data") d _ _ _ two.2 refl signed_said in
    let second : two.1 ≡ by = found (codes "signature") d _ _ _ two.2 refl by_said in
    two.2 ∙ rw (first, second, signed_is, by_is) refl

entry_is : (digest signature pem : List ℕ) (d spec : Data)
    → HasExactly (codes "apiVersion" ∷ codes "kind" ∷ codes "spec" ∷ []) d
    → HasText (codes "apiVersion") d (codes "0.0.1") → HasText (codes "kind") d (codes "hashedrekord")
    → get (codes "spec") d ≡ Some spec → spec ≡ spec_tree digest signature pem
    → d ≡ hashedrekord_tree digest signature pem
unfolding hashedrekord_tree
entry_is digest signature pem d spec just version kind said is =
    let three = with_three (codes "apiVersion") (codes "kind") (codes "spec") d just in
    let first : three.0 ≡ string (codes "0.0.1") = found (codes "apiVersion") d _ _ _ three.3 refl version in
    let second : three.1 ≡ string (codes "hashedrekord") = found (codes "kind") d _ _ _ three.3 refl kind in
    let third : three.2 ≡ spec = found (codes "spec") d _ _ _ three.3 refl said in
    three.3 ∙ rw (first, second, third, is) refl

-- ---- the body

logged : (digest signature pem body : List ℕ) → document_of body ≡ Ok (hashedrekord_tree digest signature pem)
    → IsLoggedArtifact digest signature pem body
unfolding hashedrekord_tree spec_tree data_tree hash_tree signature_tree public_key_tree bytes_tree
logged digest signature pem body e = record {
  tree = hashedrekord_tree digest signature pem;
  document = e;
  members = refl;
  version = refl;
  kind = refl;
  spec = spec_tree digest signature pem;
  has_spec = refl;
  spec_members = refl;
  hashed = data_tree digest;
  has_hashed = refl;
  hashed_members = refl;
  hash = hash_tree digest;
  has_hash = refl;
  hash_members = refl;
  algorithm = refl;
  value = refl;
  signed = signature_tree signature pem;
  has_signed = refl;
  signed_members = refl;
  signature_content = refl;
  key = public_key_tree pem;
  has_key = refl;
  key_members = refl;
  key_content = refl;
}

logged_is : (digest signature pem body : List ℕ) → (is : IsLoggedArtifact digest signature pem body)
    → is.tree ≡ hashedrekord_tree digest signature pem
logged_is digest signature pem body is =
    let hash : is.hash ≡ hash_tree digest = hash_is digest is.hash is.hash_members is.algorithm is.value in
    let hashed : is.hashed ≡ data_tree digest = data_is digest is.hashed is.hash is.hashed_members is.has_hash hash in
    let key : is.key ≡ public_key_tree pem = key_is pem is.key is.key_members is.key_content in
    let signed : is.signed ≡ signature_tree signature pem =
    signature_is signature pem is.signed is.key is.signed_members is.signature_content is.has_key key in
    entry_is digest signature pem is.tree is.spec is.members is.version is.kind is.has_spec
    (spec_is digest signature pem is.spec is.hashed is.signed is.spec_members is.has_hashed is.has_signed hashed signed)

-- the body's tree is that of an entry about the artifact if and only if it has these members
pub artifact_logged : (digest signature pem body : List ℕ)
    → (document_of body ≡ Ok (hashedrekord_tree digest signature pem)) ↔ IsLoggedArtifact digest signature pem body
artifact_logged digest signature pem body = (
  logged digest signature pem body,
  (λ is. is.document ∙ ap Ok (logged_is digest signature pem body is)),
)
