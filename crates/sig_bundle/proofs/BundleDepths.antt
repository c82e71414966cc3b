-- How deep the tree of a bundle nests, and that its text is read back.
use Rattle.std.proofs.Common.{◌≡◌, ℕ, ◌≤◌, ◌+◌, ℤ, List, [], ◌∷◌, Option, Some, None, Ok, option_map, refl, arith}
use Rattle.std.specs.Cmp.Lexicographic.{slice_cmp}
use Rattle.std.specs.Ordering.{nat_cmp, match_ordering}
use Rattle.std.specs.Prelude.{⊤}
use Rattle.std.specs.declared.cmp.Ordering.{Ordering}
use Rattle.std.specs.declared.cmp.Ordering.TheVariants.{Less, Equal, Greater}
use Rattle.sig_json.specs.Data.{Data, Members, no_members, member, put, depth, items_depth, members_depth}
use Rattle.sig_json.specs.Read.{max_depth}
use Rattle.sig_bundle.specs.BundleRecord.{bundle_in, bundle_of}
use Rattle.sig_bundle.specs.BundleTree.{bundle_members, bundle_tree, certificate_members, certificate_tree}
use Rattle.sig_bundle.specs.BundleTree.{chain_members}
use Rattle.sig_bundle.specs.BundleTree.{chain_tree, checkpoint_members, checkpoint_tree, content_member}
use Rattle.sig_bundle.specs.BundleTree.{digest_members}
use Rattle.sig_bundle.specs.BundleTree.{digest_tree, entry_members, entry_tree, envelope_members, envelope_tree}
use Rattle.sig_bundle.specs.BundleTree.{kind_version_members, kind_version_tree, log_id_members, log_id_tree}
use Rattle.sig_bundle.specs.BundleTree.{material_members}
use Rattle.sig_bundle.specs.BundleTree.{material_tree, message_signature_members, message_tree, promise_members}
use Rattle.sig_bundle.specs.BundleTree.{promise_record_tree, proof_members, proof_tree, signature_members}
use Rattle.sig_bundle.specs.BundleTree.{dsse_signature_tree}
use Rattle.sig_bundle.specs.BundleTree.{material_content_member}
use Rattle.sig_json.specs.Writing.{TreeMember, put_some, members_into, object_of, integer_tree, bytes_tree, items_of}
use Rattle.sig_json.specs.Writing.{list_tree}
use Rattle.sig_bundle.specs.declared.bundle.Bundle.{Bundle}
use Rattle.sig_bundle.specs.declared.bundle.Content.{Content}
use Rattle.sig_bundle.specs.declared.bundle.Content.TheVariants as content
use Rattle.sig_bundle.specs.declared.bundle.MessageSignature.{MessageSignature}
use Rattle.sig_bundle.specs.declared.material.KindVersion.{KindVersion}
use Rattle.sig_bundle.specs.declared.material.MaterialContent.{MaterialContent}
use Rattle.sig_bundle.specs.declared.material.MaterialContent.TheVariants as material
use Rattle.sig_bundle.specs.declared.material.ProofFields.{ProofFields}
use Rattle.sig_bundle.specs.declared.material.TransparencyLogEntry.{TransparencyLogEntry}
use Rattle.sig_bundle.specs.declared.material.VerificationMaterial.{VerificationMaterial}
use Rattle.sig_dsse.specs.declared.envelope.DsseEnvelope.{DsseEnvelope}
use Rattle.sig_dsse.specs.declared.envelope.DsseSignature.{DsseSignature}
use Rattle.sig_json.specs.Document.{document_of}
use Rattle.sig_json.specs.Record.{record_in}

-- ---- objects and lists

either_shallow : (o : Ordering) (a b c : Members) (n : ℕ) → members_depth a ≤ n → members_depth b ≤ n
    → members_depth c ≤ n → members_depth (match_ordering o a b c) ≤ n
either_shallow Less a b c n p q r = p
either_shallow Equal a b c n p q r = q
either_shallow Greater a b c n p q r = r

put_shallow : (k : List ℕ) (d : Data) (ms : Members) (n : ℕ) → depth d ≤ n → members_depth ms ≤ n
    → members_depth (put k d ms) ≤ n
put_shallow k d no_members n p q = omega arith
put_shallow k d (member l e ms) n p q =
    let below = put_shallow k d ms n p (omega arith) in
    either_shallow (slice_cmp nat_cmp k l) (member k d (member l e ms)) (member l d ms) (member l e (put k d ms)) n
    (omega arith) (omega arith) (omega arith)

abbrev IsShallow : ℕ → Option Data → Type 0
IsShallow n None = ⊤
IsShallow n (Some d) = depth d ≤ n

put_some_shallow : (k : List ℕ) (value : Option Data) (ms : Members) (n : ℕ) → IsShallow n value
    → members_depth ms ≤ n → members_depth (put_some k value ms) ≤ n
put_some_shallow k None ms n p q = q
put_some_shallow k (Some d) ms n p q = put_shallow k d ms n p q

abbrev AreShallow : ℕ → List TreeMember → Type 0
AreShallow n [] = ⊤
AreShallow n (row ∷ rows) = IsShallow n row.1 × AreShallow n rows

rows_shallow : (n : ℕ) (ms : Members) (rows : List TreeMember) → members_depth ms ≤ n → AreShallow n rows
    → members_depth (members_into ms rows) ≤ n
rows_shallow n ms [] p q = p
rows_shallow n ms (row ∷ rows) p q =
    rows_shallow n (put_some row.0 row.1 ms) rows (put_some_shallow row.0 row.1 ms n q.0 p) q.1

object_shallow : (n : ℕ) (rows : List TreeMember) → AreShallow n rows → depth (object_of rows) ≤ n + 1
object_shallow n rows h = let below = rows_shallow n no_members rows (omega arith) h in omega arith

items_shallow : {A : Type 0} → (n : ℕ) (written : A → Data) (xs : List A) → ((x : A) → depth (written x) ≤ n)
    → items_depth (items_of written xs) ≤ n
items_shallow n written [] h = omega arith
items_shallow n written (x ∷ xs) h = let first = h x in let rest = items_shallow n written xs h in omega arith

list_shallow : {A : Type 0} → (n : ℕ) (written : A → Data) (xs : List A) → ((x : A) → depth (written x) ≤ n)
    → depth (list_tree written xs) ≤ n + 1
list_shallow n written xs h = let below = items_shallow n written xs h in omega arith

option_shallow : {A : Type 0} → (n : ℕ) (written : A → Data) (o : Option A) → ((x : A) → depth (written x) ≤ n)
    → IsShallow n (option_map written o)
option_shallow n written None h = tt
option_shallow n written (Some x) h = h x

bytes_shallow : (n : ℕ) (bytes : List ℕ) → depth (bytes_tree bytes) ≤ n
unfolding bytes_tree
bytes_shallow n bytes = omega arith

integer_shallow : (n : ℕ) (z : ℤ) → depth (integer_tree z) ≤ n
unfolding integer_tree
integer_shallow n z = omega arith

-- ---- the records

certificate_shallow : (der : List ℕ) → depth (certificate_tree der) ≤ 1
unfolding certificate_tree
certificate_shallow der = object_shallow 0 (certificate_members der) (bytes_shallow 0 der, tt)

log_id_shallow : (id : List ℕ) → depth (log_id_tree id) ≤ 1
unfolding log_id_tree
log_id_shallow id = object_shallow 0 (log_id_members id) (bytes_shallow 0 id, tt)

promise_shallow : (signature : List ℕ) → depth (promise_record_tree signature) ≤ 1
unfolding promise_record_tree
promise_shallow signature = object_shallow 0 (promise_members signature) (bytes_shallow 0 signature, tt)

digest_shallow : (digest : List ℕ) → depth (digest_tree digest) ≤ 1
unfolding digest_tree
digest_shallow digest = object_shallow 0 (digest_members digest) (bytes_shallow 0 digest, tt)

checkpoint_shallow : (text : List ℕ) → depth (checkpoint_tree text) ≤ 1
unfolding checkpoint_tree
checkpoint_shallow text = object_shallow 0 (checkpoint_members text) (omega arith, tt)

chain_shallow : (chain : List (List ℕ)) → depth (chain_tree chain) ≤ 3
unfolding chain_tree
chain_shallow chain =
    object_shallow 2 (chain_members chain) (list_shallow 1 certificate_tree chain certificate_shallow, tt)

kind_shallow : (k : KindVersion) → depth (kind_version_tree k) ≤ 1
unfolding kind_version_tree
kind_shallow k = object_shallow 0 (kind_version_members k) (omega arith, (omega arith, tt))

proof_shallow : (p : ProofFields) → depth (proof_tree p) ≤ 2
unfolding proof_tree
proof_shallow p =
    object_shallow 1 (proof_members p) (
      integer_shallow 1 p.log_index,
      (
        bytes_shallow 1 p.root_hash,
        (
          integer_shallow 1 p.tree_size,
          (
            list_shallow 0 bytes_tree p.hashes (bytes_shallow 0),
            (option_shallow 1 checkpoint_tree p.checkpoint checkpoint_shallow, tt),
          ),
        ),
      ),
    )

at_most_two : (n : ℕ) → n ≤ 1 → n ≤ 2
at_most_two n h = omega arith

entry_shallow : (e : TransparencyLogEntry) → depth (entry_tree e) ≤ 3
unfolding entry_tree
entry_shallow e =
    object_shallow 2 (entry_members e) (
      integer_shallow 2 e.log_index,
      (
        option_shallow 2 log_id_tree e.log_id (λ x. at_most_two (depth (log_id_tree x)) (log_id_shallow x)),
        (
          option_shallow 2 kind_version_tree e.kind_version
              (λ x. at_most_two (depth (kind_version_tree x)) (kind_shallow x)),
          (
            integer_shallow 2 e.integrated_time,
            (
              option_shallow 2 promise_record_tree e.inclusion_promise
                  (λ x. at_most_two (depth (promise_record_tree x)) (promise_shallow x)),
              (
                option_shallow 2 proof_tree e.inclusion_proof proof_shallow,
                (bytes_shallow 2 e.canonicalized_body, tt),
              ),
            ),
          ),
        ),
      ),
    )

signer_shallow : (o : Option MaterialContent) → IsShallow 4 (material_content_member o).1
signer_shallow None = tt
signer_shallow (Some (material.Certificate der)) = let below = certificate_shallow der in omega arith
signer_shallow (Some (material.X509CertificateChain chain)) = let below = chain_shallow chain in omega arith
signer_shallow (Some material.PublicKey) = omega arith

material_shallow : (m : VerificationMaterial) → depth (material_tree m) ≤ 5
unfolding material_tree
material_shallow m =
    object_shallow 4 (material_members (material_content_member m.content) (list_tree entry_tree m.tlog_entries))
    (signer_shallow m.content, (list_shallow 3 entry_tree m.tlog_entries entry_shallow, tt))

message_shallow : (m : MessageSignature) → depth (message_tree m) ≤ 2
unfolding message_tree
message_shallow m =
    object_shallow 1 (message_signature_members m)
    (bytes_shallow 1 m.signature, (option_shallow 1 digest_tree m.message_digest digest_shallow, tt))

signature_shallow : (s : DsseSignature) → depth (dsse_signature_tree s) ≤ 1
unfolding dsse_signature_tree
signature_shallow s = object_shallow 0 (signature_members s) (bytes_shallow 0 s.sig, (omega arith, tt))

envelope_shallow : (e : DsseEnvelope) → depth (envelope_tree e) ≤ 3
unfolding envelope_tree
envelope_shallow e =
    object_shallow 2 (envelope_members e) (
      bytes_shallow 2 e.payload,
      (omega arith, (list_shallow 1 dsse_signature_tree e.signatures signature_shallow, tt)),
    )

content_shallow : (o : Option Content) → IsShallow 5 (content_member o).1
content_shallow None = tt
content_shallow (Some (content.MessageSignature m)) = let below = message_shallow m in omega arith
content_shallow (Some (content.DsseEnvelope e)) = let below = envelope_shallow e in omega arith

pub bundle_shallow : (b : Bundle) → depth (bundle_tree b) ≤ 6
unfolding bundle_tree
bundle_shallow b =
    object_shallow 5 (bundle_members b.media_type (option_map material_tree b.verification_material)
    (content_member b.content)) (
      omega arith,
      (
        option_shallow 5 material_tree b.verification_material material_shallow,
        (content_shallow b.content, tt),
      ),
    )

-- ---- the text

-- the compact text of the tree, which a view shows, is read as the bundle
pub bundle_in_shown : (text : List ℕ) (b : Bundle) (d shown : Data) → d ≡ bundle_tree b → shown ≡ d
    → (depth shown ≤ max_depth → document_of text ≡ Ok shown) → bundle_of (bundle_tree b) ≡ Some b
    → bundle_in text ≡ Ok b
unfolding record_in
bundle_in_shown text b d shown is same reads back =
    let below = bundle_shallow b in
    let written : depth (bundle_tree b) ≤ max_depth → document_of text ≡ Ok (bundle_tree b) = rw (same, is) at reads in
    rw (written (omega arith), back) refl

pub ruleset nesting = (bundle_in_shown)
