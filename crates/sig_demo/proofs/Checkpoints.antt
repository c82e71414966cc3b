-- The checkpoint of the demonstration's log is read back.
use Rattle.std.proofs.Common.{◌≡◌, ◌≢◌, ℕ, List, [], ◌∷◌, ◌++◌, true, false, not, ◌==◌, ◌&&◌, codes, refl, sym, ap, ◌∙◌}
use Rattle.std.proofs.Common.{Result, Ok, Err, IfOk, OnOk}
use Rattle.std.proofs.lemmas.Bool.{and_parts, eqb-false, not-true}
use Rattle.std.specs.List.{list_all}
use Rattle.std.specs.Str.{trim, trim_start, trim_end, chars}
use Rattle.sig_base.specs.declared.fault.CheckpointFault.{CheckpointFault}
use Rattle.sig_rekor.proofs.CheckpointLaws.{checkpoint-found}
use Rattle.sig_rekor.specs.CheckpointText.{IsCheckpoint, checkpoint_of, checkpoint_text}
use Rattle.sig_rekor.specs.TextCuts.{Lacks}
use Rattle.sig_rekor.specs.NoteText.{is_blank}
use Rattle.sig_rekor.specs.ReadBack.{IsSignerName, ReadsBack}
use Rattle.sig_rekor.specs.declared.checkpoint.SignedCheckpoint.{SignedCheckpoint}
use Rattle.sig_demo.specs.Log.{demo_checkpoint}
use Rattle.sig_demo.specs.declared.log.DemoLog.{DemoLog}

lacks-byte : (c : ℕ) (text before after : List ℕ) → list_all (λ x. not (x == c)) text ≡ true
    → text ≢ before ++ (c ∷ after)
lacks-byte c [] [] after other e = absurd cc
lacks-byte c [] (b ∷ before) after other e = absurd cc
lacks-byte c (x ∷ text) [] after other e =
    let parts = and_parts (not (x == c)) (list_all (λ y. not (y == c)) text) other in
    eqb-false x c (not-true (x == c) parts.0) cc
lacks-byte c (x ∷ text) (b ∷ before) after other e =
    lacks-byte c text before after (and_parts (not (x == c)) (list_all (λ y. not (y == c)) text) other).1 cc

not_blank : is_blank (codes "demo") ≡ false
unfolding is_blank trim_start trim_end chars lib.Utf8.encode
not_blank = refl

pub demo-reads_back : (log : DemoLog) → ReadsBack (demo_checkpoint log)
demo-reads_back log = record {
  origin = not_blank;
  line = λ before after. lacks-byte 10 (codes "demo") before after refl;
  unquoted = λ rest e. absurd cc;
  contents = tt;
  names = (
    record {
      word = λ before after. lacks-byte 32 (codes "demo") before after refl;
      line = λ before after. lacks-byte 10 (codes "demo") before after refl;
    },
    tt,
  );
}

-- what is read back is a checkpoint of its text
pub encoded-found : (checkpoint : SignedCheckpoint) (r : List ℕ) → r ≡ checkpoint_text checkpoint
    → checkpoint_of r ≡ Ok checkpoint → IsCheckpoint (checkpoint_text checkpoint) checkpoint
encoded-found checkpoint r text back =
    checkpoint-found (checkpoint_text checkpoint) checkpoint (sym (ap checkpoint_of text) ∙ back)

pub ruleset checkpoints = (demo-reads_back, encoded-found)
