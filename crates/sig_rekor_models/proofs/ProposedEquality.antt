-- The derived `==` of entries to propose and their parts is equality of all that is seen of them.
-- An equality is a path from one side to the other; the path of a record is the record of the paths of its parts.
use Rattle.std.proofs.Common.{◌≡◌, ◌&&◌, ℕ, List, [], Bool, refl, ap}
use Rattle.std.proofs.lemmas.Bool.Decides.{Decides-and}
use Rattle.std.specs.Bool.{Decides}
use Rattle.std.specs.Cmp.Lexicographic.{pointwise}
use Rattle.std.specs.Prelude.{nat_eq}
use Rattle.sig_base.proofs.Decisions.{decides_bytes, decides_result, decides_same}
use Rattle.sig_json.specs.Data.{Data as Tree, string, object, member}
use Rattle.sig_json.specs.SameTree.{same_tree}
use Rattle.sig_json.specs.Tree.{document_tree}
use Rattle.sig_json.specs.declared.document.Document.{Document}
use Rattle.sig_json.specs.SameTreeProofs.{same_tree_exact}
use Rattle.sig_rekor_models.proofs.KindEquality.{apart, kind_law}
use Rattle.sig_rekor_models.specs.Body.{Body}
use Rattle.sig_rekor_models.specs.HashedrekordTree.{algorithm_name, hash_json, data_json, signature_json, spec_json}
use Rattle.sig_rekor_models.specs.ProposedTree.{seen_proposed}
use Rattle.sig_rekor_models.specs.contracts.hashedrekord.AlgorithmKindPartialEq.TheImpl as algorithm_eq
use Rattle.sig_rekor_models.specs.contracts.hashedrekord.DataPartialEq.TheImpl as data_eq
use Rattle.sig_rekor_models.specs.contracts.hashedrekord.HashPartialEq.TheImpl as hash_eq
use Rattle.sig_rekor_models.specs.contracts.hashedrekord.HashedrekordPartialEq.TheImpl as hashedrekord_eq
use Rattle.sig_rekor_models.specs.contracts.hashedrekord.SignaturePartialEq.TheImpl as signature_eq
use Rattle.sig_rekor_models.specs.contracts.hashedrekord.SpecPartialEq.TheImpl as spec_eq
use Rattle.sig_rekor_models.specs.contracts.proposed_entry.ProposedEntryPartialEq.TheImpl as proposed_eq
use Rattle.sig_rekor_models.specs.contracts.public_key.PublicKeyPartialEq.TheImpl as key_eq
use Rattle.sig_rekor_models.specs.declared.entry_kind.EntryKind.{EntryKind}
use Rattle.sig_rekor_models.specs.declared.entry_kind.EntryKind.TheVariants as kinds
use Rattle.sig_rekor_models.specs.declared.hashedrekord.AlgorithmKind.{AlgorithmKind}
use Rattle.sig_rekor_models.specs.declared.hashedrekord.AlgorithmKind.TheVariants.{sha256, sha1}
use Rattle.sig_rekor_models.specs.declared.hashedrekord.Data.{Data}
use Rattle.sig_rekor_models.specs.declared.hashedrekord.Hash.{Hash}
use Rattle.sig_rekor_models.specs.declared.hashedrekord.Hashedrekord.{Hashedrekord}
use Rattle.sig_rekor_models.specs.declared.hashedrekord.Signature.{Signature}
use Rattle.sig_rekor_models.specs.declared.hashedrekord.Spec.{Spec}
use Rattle.sig_rekor_models.specs.declared.proposed_entry.ProposedEntry.{ProposedEntry}
use Rattle.sig_rekor_models.specs.declared.proposed_entry.ProposedEntry.TheVariants as entries
use Rattle.sig_rekor_models.specs.declared.public_key.PublicKey.{PublicKey}

-- ---- what an entry of kind `hashedrekord` says

algorithm_eq-tells : (a b : AlgorithmKind) → Decides ((algorithm_eq.ghosts).eq a b) (a ≡ b)
algorithm_eq-tells sha256 sha256 = (λ e. refl, λ e. refl)
algorithm_eq-tells sha256 sha1 = (λ e. absurd cc, λ e. absurd cc)
algorithm_eq-tells sha1 sha256 = (λ e. absurd cc, λ e. absurd cc)
algorithm_eq-tells sha1 sha1 = (λ e. refl, λ e. refl)

key_eq-tells : (a b : PublicKey) → Decides ((key_eq.ghosts).eq a b) (a ≡ b)
key_eq-tells a b =
    decides_same _ (λ e i. record { content = e i }) (λ e. rw e refl)
    (decides_bytes a.content b.content)

hash_eq-tells : (a b : Hash) → Decides ((hash_eq.ghosts).eq a b) (a ≡ b)
hash_eq-tells a b =
    decides_same _ (λ e i. record { algorithm = e.0 i; value = e.1 i }) (λ e. rw e (refl, refl))
    (Decides-and _ _ (algorithm_eq-tells a.algorithm b.algorithm) (decides_bytes a.value b.value))

data_eq-tells : (a b : Data) → Decides ((data_eq.ghosts).eq a b) (a ≡ b)
data_eq-tells a b =
    decides_same _ (λ e i. record { hash = e i }) (λ e. rw e refl)
    (hash_eq-tells a.hash b.hash)

signature_eq-tells : (a b : Signature) → Decides ((signature_eq.ghosts).eq a b) (a ≡ b)
signature_eq-tells a b =
    decides_same _ (λ e i. record { content = e.0 i; public_key = e.1 i }) (λ e. rw e (refl, refl))
    (Decides-and _ _ (decides_bytes a.content b.content) (key_eq-tells a.public_key b.public_key))

spec_eq-tells : (a b : Spec) → Decides ((spec_eq.ghosts).eq a b) (a ≡ b)
spec_eq-tells a b =
    decides_same _ (λ e i. record { signature = e.0 i; logged_data = e.1 i }) (λ e. rw e (refl, refl))
    (Decides-and _ _ (signature_eq-tells a.signature b.signature) (data_eq-tells a.logged_data b.logged_data))

hashedrekord_eq-tells : (a b : Hashedrekord) → Decides ((hashedrekord_eq.ghosts).eq a b) (a ≡ b)
hashedrekord_eq-tells a b =
    decides_same _ (λ e i. record { kind = e.0 i; api_version = e.1.0 i; spec = e.1.1 i })
    (λ e. rw e (refl, (refl, refl)))
    (Decides-and _ _ (decides_bytes a.kind b.kind) (Decides-and _ _ (decides_bytes a.api_version b.api_version)
    (spec_eq-tells a.spec b.spec)))

pub algorithm_law : (a b : AlgorithmKind) (r : Bool) → r ≡ (algorithm_eq.ghosts).eq a b → Decides r (a ≡ b)
algorithm_law a b r is = decides_result r _ is (algorithm_eq-tells a b)

pub key_law : (a b : PublicKey) (r : Bool) → r ≡ (key_eq.ghosts).eq a b → Decides r (a ≡ b)
key_law a b r is = decides_result r _ is (key_eq-tells a b)

pub hash_law : (a b : Hash) (r : Bool) → r ≡ (hash_eq.ghosts).eq a b → Decides r (a ≡ b)
hash_law a b r is = decides_result r _ is (hash_eq-tells a b)

pub data_law : (a b : Data) (r : Bool) → r ≡ (data_eq.ghosts).eq a b → Decides r (a ≡ b)
data_law a b r is = decides_result r _ is (data_eq-tells a b)

pub signature_law : (a b : Signature) (r : Bool) → r ≡ (signature_eq.ghosts).eq a b → Decides r (a ≡ b)
signature_law a b r is = decides_result r _ is (signature_eq-tells a b)

pub spec_law : (a b : Spec) (r : Bool) → r ≡ (spec_eq.ghosts).eq a b → Decides r (a ≡ b)
spec_law a b r is = decides_result r _ is (spec_eq-tells a b)

pub hashedrekord_law : (a b : Hashedrekord) (r : Bool) → r ≡ (hashedrekord_eq.ghosts).eq a b → Decides r (a ≡ b)
hashedrekord_law a b r is = decides_result r _ is (hashedrekord_eq-tells a b)

-- ---- what is said is told by its JSON

abbrev text_in : Tree → List ℕ
text_in (string text) = text
text_in _ = []

abbrev first_in : Tree → Tree
first_in (object (member name value rest)) = value
first_in tree = tree

abbrev second_in : Tree → Tree
second_in (object (member name value (member other next rest))) = next
second_in tree = tree

algorithm-from_name : (k l : AlgorithmKind) → algorithm_name k ≡ algorithm_name l → k ≡ l
algorithm-from_name sha256 sha256 e = refl
algorithm-from_name sha256 sha1 e = absurd cc
algorithm-from_name sha1 sha256 e = absurd cc
algorithm-from_name sha1 sha1 e = refl

hash-from_tree : (a b : Hash) → hash_json a ≡ hash_json b → a ≡ b
unfolding hash_json
hash-from_tree a b e =
    let named : algorithm_name a.algorithm ≡ algorithm_name b.algorithm = ap (λ t. text_in (first_in t)) e in
    let algorithm : a.algorithm ≡ b.algorithm = algorithm-from_name a.algorithm b.algorithm named in
    λ i. record { algorithm = algorithm i; value = text_in (second_in (e i)) }

data-from_tree : (a b : Data) → data_json a ≡ data_json b → a ≡ b
unfolding data_json
data-from_tree a b e = λ i. record { hash = hash-from_tree a.hash b.hash (ap first_in e) i }

signature-from_tree : (a b : Signature) → signature_json a ≡ signature_json b → a ≡ b
unfolding signature_json
signature-from_tree a b e = λ i. record {
  content = text_in (first_in (e i));
  public_key = record { content = text_in (first_in (second_in (e i))) };
}

spec-from_tree : (a b : Spec) → spec_json a ≡ spec_json b → a ≡ b
unfolding spec_json
spec-from_tree a b e = λ i. record {
  signature = signature-from_tree a.signature b.signature (ap second_in e) i;
  logged_data = data-from_tree a.logged_data b.logged_data (ap first_in e) i;
}

said_eq-tells : (a b : Spec) → Decides ((spec_eq.ghosts).eq a b) (spec_json a ≡ spec_json b)
said_eq-tells a b = decides_same _ (λ e. ap spec_json e) (spec-from_tree a b) (spec_eq-tells a b)

-- ---- entries to propose

with_said : (k : EntryKind) → (v w : List ℕ) → (d f : Tree) → {p q : Bool} → Decides p (v ≡ w) → Decides q (d ≡ f)
    → Decides (p && q)
    (◌≡◌ {A = Body} (record { kind = k; api_version = v; spec = d }) (record { kind = k; api_version = w; spec = f }))
with_said k v w d f version said =
    decides_same _ (λ e i. record { kind = k; api_version = e.0 i; spec = e.1 i })
    (λ e. (λ i. (e i).api_version, λ i. (e i).spec)) (Decides-and _ _ version said)

of_kind-tells : (k : EntryKind) → (v w : List ℕ) → (d f : Document)
    → Decides (pointwise nat_eq v w && same_tree (document_tree d) (document_tree f))
    (◌≡◌ {A = Body} (record { kind = k; api_version = v; spec = document_tree d })
    (record { kind = k; api_version = w; spec = document_tree f }))
of_kind-tells k v w d f =
    with_said k v w (document_tree d) (document_tree f) (decides_bytes v w)
    (same_tree_exact (document_tree d) (document_tree f) d.without_float)

proposed_eq-tells : (a b : ProposedEntry) → Decides ((proposed_eq.ghosts).eq a b) (seen_proposed a ≡ seen_proposed b)
proposed_eq-tells (entries.Alpine v x) (entries.Alpine w y) = of_kind-tells kinds.Alpine v w x y
proposed_eq-tells (entries.Hashedrekord v x) (entries.Hashedrekord w y) =
    with_said kinds.Hashedrekord v w (spec_json x) (spec_json y) (decides_bytes v w) (said_eq-tells x y)
proposed_eq-tells (entries.Helm v x) (entries.Helm w y) = of_kind-tells kinds.Helm v w x y
proposed_eq-tells (entries.Intoto v x) (entries.Intoto w y) = of_kind-tells kinds.Intoto v w x y
proposed_eq-tells (entries.Jar v x) (entries.Jar w y) = of_kind-tells kinds.Jar v w x y
proposed_eq-tells (entries.Rekord v x) (entries.Rekord w y) = of_kind-tells kinds.Rekord v w x y
proposed_eq-tells (entries.Rfc3161 v x) (entries.Rfc3161 w y) = of_kind-tells kinds.Rfc3161 v w x y
proposed_eq-tells (entries.Rpm v x) (entries.Rpm w y) = of_kind-tells kinds.Rpm v w x y
proposed_eq-tells (entries.Tuf v x) (entries.Tuf w y) = of_kind-tells kinds.Tuf v w x y
proposed_eq-tells a b =
    apart (seen_proposed a).kind (seen_proposed b).kind _ refl refl (λ e. ap (λ (body : Body). body.kind) e)

pub proposed_law : (a b : ProposedEntry) (r : Bool) → r ≡ (proposed_eq.ghosts).eq a b
    → Decides r (seen_proposed a ≡ seen_proposed b)
proposed_law a b r is = decides_result r _ is (proposed_eq-tells a b)

pub ruleset equal_proposed = (
  kind_law,
  algorithm_law,
  key_law,
  hash_law,
  data_law,
  signature_law,
  spec_law,
  hashedrekord_law,
)
