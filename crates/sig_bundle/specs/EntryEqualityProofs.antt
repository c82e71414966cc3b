-- The derived `==` of log entries and of their parts is equality of all parts: so it is an equivalence.
-- An equality is a path from one side to the other; the path of a record is the record of the paths of its parts.
use Rattle.std.proofs.Common.{◌≡◌, refl}
use Rattle.std.proofs.lemmas.Bool.Decides.{Decides-int_eq}
use Rattle.std.specs.Bool.{Decides}
use Rattle.std.specs.Cmp.{IsEquivalence, decided}
use Rattle.std.proofs.lemmas.Bool.Decides.{Decides-and}
use Rattle.sig_base.proofs.Decisions.{decides_same, decides_bytes}
use Rattle.sig_base.proofs.PartEquality.{decides_option, decides_texts}
use Rattle.sig_bundle.specs.contracts.material.KindVersionPartialEq.TheImpl as kind_eq
use Rattle.sig_bundle.specs.contracts.material.ProofFieldsPartialEq.TheImpl as proof_eq
use Rattle.sig_bundle.specs.contracts.material.TransparencyLogEntryPartialEq.TheImpl as entry_eq
use Rattle.sig_bundle.specs.declared.material.KindVersion.{KindVersion}
use Rattle.sig_bundle.specs.declared.material.ProofFields.{ProofFields}
use Rattle.sig_bundle.specs.declared.material.TransparencyLogEntry.{TransparencyLogEntry}

-- ---- log entries

pub kind_eq-tells : (a b : KindVersion) → Decides ((kind_eq.ghosts).eq a b) (a ≡ b)
kind_eq-tells a b =
    decides_same _ (λ e i. record { kind = e.0 i; version = e.1 i }) (λ e. rw e (refl, refl))
    (Decides-and _ _ (decides_bytes a.kind b.kind) (decides_bytes a.version b.version))

pub proof_eq-tells : (a b : ProofFields) → Decides ((proof_eq.ghosts).eq a b) (a ≡ b)
proof_eq-tells a b =
    decides_same _ (λ e i. record {
      log_index = e.0 i;
      root_hash = e.1.0 i;
      tree_size = e.1.1.0 i;
      hashes = e.1.1.1.0 i;
      checkpoint = e.1.1.1.1 i;
    }) (λ e. rw e (refl, (refl, (refl, (refl, refl)))))
    (Decides-and _ _ (Decides-int_eq a.log_index b.log_index) (Decides-and _ _ (decides_bytes a.root_hash b.root_hash)
    (Decides-and _ _ (Decides-int_eq a.tree_size b.tree_size) (Decides-and _ _ (decides_texts a.hashes b.hashes)
    (decides_option _ decides_bytes a.checkpoint b.checkpoint)))))

pub entry_eq-tells : (a b : TransparencyLogEntry) → Decides ((entry_eq.ghosts).eq a b) (a ≡ b)
entry_eq-tells a b =
    decides_same _ (λ e i. record {
      log_index = e.0 i;
      log_id = e.1.0 i;
      kind_version = e.1.1.0 i;
      integrated_time = e.1.1.1.0 i;
      inclusion_promise = e.1.1.1.1.0 i;
      inclusion_proof = e.1.1.1.1.1.0 i;
      canonicalized_body = e.1.1.1.1.1.1 i;
    }) (λ e. rw e (refl, (refl, (refl, (refl, (refl, (refl, refl)))))))
    (Decides-and _ _ (Decides-int_eq a.log_index b.log_index)
    (Decides-and _ _ (decides_option _ decides_bytes a.log_id b.log_id)
    (Decides-and _ _ (decides_option _ kind_eq-tells a.kind_version b.kind_version)
    (Decides-and _ _ (Decides-int_eq a.integrated_time b.integrated_time)
    (Decides-and _ _ (decides_option _ decides_bytes a.inclusion_promise b.inclusion_promise)
    (Decides-and _ _ (decides_option _ proof_eq-tells a.inclusion_proof b.inclusion_proof)
    (decides_bytes a.canonicalized_body b.canonicalized_body)))))))

pub entries_equiv : IsEquivalence ((entry_eq.ghosts).eq)
entries_equiv = decided (entry_eq.ghosts).eq entry_eq-tells
