-- The text of logs, written origin by origin, and what it is read as.
use Rattle.std.proofs.Common.{◌≡◌, ℕ, ◌-◌, List, [], ◌∷◌, ◌++◌, length, map, Option, Some, None}
use Rattle.std.proofs.Common.{refl, sym, ◌∙◌, ap, append_assoc, append-nil}
use Rattle.std.specs.List.{AllByRecursion}
use Rattle.std.specs.Map.{keys_of}
use Rattle.base64.specs.GeneralPurpose.{IsBytes}
use Rattle.sig_base.specs.ByText.{KeysAscend}
use Rattle.sig_key.specs.Key.{key_info}
use Rattle.sig_rekor.proofs.Steps.{all_push}
use Rattle.sig_audit.specs.Chained.{AreChained}
use Rattle.sig_audit.specs.declared.chain.ChainHead.{ChainHead}
use Rattle.sig_witness.specs.declared.kept_log.KeptLog.{KeptLog}
use Rattle.sig_witness.specs.KeptLogs.{IsHead, IsKeptLog, last_of}
use Rattle.sig_witness.specs.StateText.{LogLines, lines_before, all_before, lines_of, state_text, kept_head, IsHeadValue}
use Rattle.sig_witness.specs.StateText.{cut_entry, cut_logs, IsCutEntry, IsStateOf}
use Rattle.sig_witness.proofs.Heads.{chain-last, get-all}

-- five lines before a text
before-append : (lines : LogLines) (rest : List ℕ) → lines_before lines [] ++ rest ≡ lines_before lines rest
before-append lines rest = simp append_assoc

-- what the types say of what is written of an entry
pub record IsEntryValue (entry : List ℕ × KeptLog) : Type 0 where
  pub key : IsBytes (key_info entry.1.key)
  pub head : IsHeadValue (kept_head entry.1)

-- the entries that were written, and those that are left
pub record IsWriting (all left : List (List ℕ × KeptLog)) (text : List ℕ) : Type 0 where
  pub walked : List (List ℕ × KeptLog)
  pub whole : walked ++ left ≡ all
  pub written : text ++ state_text left ≡ state_text all
  pub values : AllByRecursion IsEntryValue walked

pub writing-start : (all : List (List ℕ × KeptLog)) → IsWriting all all []
writing-start all = record { walked = []; whole = refl; written = refl; values = tt }

all-middle : {X : Type 0} (P : X → Type 0) (front : List X) (x : X) (back : List X) → AllByRecursion P (front ++ x ∷ back)
    → P x
all-middle P [] x back all = all.0
all-middle P (y ∷ front) x back all = all-middle P front x back all.1

pub writing-kept : (all left after : List (List ℕ × KeptLog)) (entry : List ℕ × KeptLog) (text : List ℕ)
    → IsWriting all left text → left ≡ entry ∷ after → AllByRecursion IsKeptLog all → AreChained entry.1.chain
writing-kept all left after entry text so_far next kept =
    let is : so_far.walked ++ entry ∷ after ≡ all = ap (λ l. so_far.walked ++ l) (sym next) ∙ so_far.whole in
    (all-middle IsKeptLog so_far.walked entry after (rw is kept)).1.chained

pub writing-more : (all left after : List (List ℕ × KeptLog)) (entry : List ℕ × KeptLog) (text more : List ℕ)
    → IsWriting all left text → left ≡ entry ∷ after → more ≡ text ++ lines_before (lines_of entry) []
    → IsBytes (key_info entry.1.key) → IsHeadValue (kept_head entry.1) → IsWriting all after more
writing-more all left after entry text more so_far next is key head =
    record {
      walked = so_far.walked ++ entry ∷ [];
      whole =
          append_assoc so_far.walked (entry ∷ []) after ∙ ap (λ l. so_far.walked ++ l) (sym next) ∙ so_far.whole;
      written =
          ap (λ t. t ++ state_text after) is
          ∙ append_assoc text (lines_before (lines_of entry) []) (state_text after)
          ∙ ap (λ t. text ++ t) (before-append (lines_of entry) (state_text after))
          ∙ ap (λ l. text ++ state_text l) (sym next) ∙ so_far.written;
      values = all_push IsEntryValue so_far.walked entry so_far.values (record { key = key; head = head });
    }

pub writing-done : (all left : List (List ℕ × KeptLog)) (text : List ℕ) → IsWriting all left text → left ≡ []
    → text ≡ state_text all
writing-done all left text so_far none =
    sym (append-nil text) ∙ ap (λ l. text ++ state_text l) (sym none) ∙ so_far.written

pub writing-values : (all left : List (List ℕ × KeptLog)) (text : List ℕ) → IsWriting all left text → left ≡ []
    → AllByRecursion IsEntryValue all
writing-values all left text so_far none =
    let is : so_far.walked ≡ all =
    sym (append-nil so_far.walked) ∙ ap (λ l. so_far.walked ++ l) (sym none) ∙ so_far.whole in
    rw is at so_far.values

-- ---- what it is read as

same-lines : (entry : List ℕ × KeptLog) → lines_of (cut_entry entry) ≡ lines_of entry
same-lines entry = by (last_of entry.1.chain) refl where
  by : (last : Option ChainHead) → last_of entry.1.chain ≡ last → lines_of (cut_entry entry) ≡ lines_of entry
  by None is = rw is refl
  by (Some last) is = rw is refl

same-all : (logs : List (List ℕ × KeptLog)) → map lines_of (cut_logs logs) ≡ map lines_of logs
same-all [] = refl
same-all (entry ∷ logs) = rw (same-lines entry, same-all logs) refl

same-keys : (logs : List (List ℕ × KeptLog)) → keys_of (cut_logs logs) ≡ keys_of logs
same-keys [] = refl
same-keys (entry ∷ logs) = ap (λ ks. entry.0 ∷ ks) (same-keys logs)

cut-one : (entry : List ℕ × KeptLog) → IsKeptLog entry → IsEntryValue entry → IsCutEntry (cut_entry entry)
cut-one entry (origin, kept) value =
    let (last, is) = chain-last entry.1.chain kept.chained in
    let head_value : IsHeadValue last = rw is at value.head in (
      origin,
      record {
        key = value.key;
        head = record { size = last.size; hash = last.hash; hashes = [] };
        only = rw is refl;
        hashes = refl;
        sound = get-all IsHead entry.1.chain (length entry.1.chain - 1) last kept.heads is;
        value = record { size = head_value.size; sized = head_value.sized; bytes = head_value.bytes };
      },
    )

cut-all : (logs : List (List ℕ × KeptLog)) → AllByRecursion IsKeptLog logs → AllByRecursion IsEntryValue logs
    → AllByRecursion IsCutEntry (cut_logs logs)
cut-all [] kept values = tt
cut-all (entry ∷ logs) kept values = (cut-one entry kept.0 values.0, cut-all logs kept.1 values.1)

pub state-back : (logs : List (List ℕ × KeptLog)) (text : List ℕ) → KeysAscend logs → AllByRecursion IsKeptLog logs
    → AllByRecursion IsEntryValue logs → text ≡ state_text logs → IsStateOf text (cut_logs logs)
state-back logs text up kept values is =
    record {
      written = is ∙ ap (λ ls. all_before ls []) (sym (same-all logs));
      ordered = rw (same-keys logs) up;
      cut = cut-all logs kept values;
    }

pub ruleset writing = (writing-start, writing-kept, writing-more, writing-done, writing-values, state-back)
