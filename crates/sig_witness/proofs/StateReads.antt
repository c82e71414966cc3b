-- The logs that lines say, origin by origin.
use Rattle.std.proofs.Common.{◌≡◌, ◌≢◌, ℕ, ◌+◌, ◌<◌, ◌≤◌, inl, inr, List, [], ◌∷◌, ◌++◌, length, map, take, drop, get_or}
use Rattle.std.proofs.Common.{refl, sym, ◌∙◌, ap, arith}
use Rattle.std.proofs.lemmas.Cmp.{nat_list_cmp_total}
use Rattle.std.proofs.lemmas.List.{take_more, take_all, drop_more}
use Rattle.std.specs.Cmp.Lexicographic.{slice_cmp}
use Rattle.std.specs.List.{AllByRecursion}
use Rattle.std.specs.List.Sorted.{IsStrictlySortedBy}
use Rattle.std.specs.Map.{keys_of}
use Rattle.std.specs.Ordering.{nat_cmp}
use Rattle.std.specs.declared.cmp.Ordering.TheVariants.{Less}
use Rattle.sig_audit.proofs.ChainLaws.{chain-one}
use Rattle.sig_base.proofs.Texts.{text_put-next}
use Rattle.sig_base.specs.Answers.{OrMemory}
use Rattle.sig_base.specs.ByText.{KeysAscend, text_put}
use Rattle.sig_rekor.proofs.Steps.{all_push}
use Rattle.sig_witness.specs.declared.kept_log.KeptLog.{KeptLog}
use Rattle.sig_witness.specs.declared.state_error.StateError.{StateError}
use Rattle.sig_witness.specs.declared.state_error.StateError.TheVariants.{OutOfMemory}
use Rattle.sig_witness.specs.KeptLogs.{IsKeptLog}
use Rattle.sig_witness.specs.StateText.{LogLines, all_before, lines_of, IsCutEntry, IsStateOf}
use Rattle.sig_witness.specs.StateCauses.{AreLines, AreLinesOf, IsLinesFault, IsFirstFault}
use Rattle.sig_witness.specs.StateRead.{last_origin, IsLogOf, IsReadEntry, AreLogsOf}

-- ---- one more origin, above the last

last-push : (before : List ℕ) (logs : List (List ℕ × KeptLog)) (entry : List ℕ × KeptLog)
    → last_origin before (logs ++ entry ∷ []) ≡ entry.0
last-push before [] entry = refl
last-push before (one ∷ logs) entry = last-push one.0 logs entry

last-above : (one : List ℕ × KeptLog) (logs : List (List ℕ × KeptLog)) (origin : List ℕ) → KeysAscend (one ∷ logs)
    → slice_cmp nat_cmp (last_origin one.0 logs) origin ≡ Less → slice_cmp nat_cmp one.0 origin ≡ Less
unfolding IsStrictlySortedBy
last-above one [] origin up above = above
last-above one (next ∷ logs) origin up above =
    nat_list_cmp_total.trans one.0 next.0 origin up.0.0 (last-above next logs origin up.1 above)

keys-push : (P : List ℕ → Type 0) (logs : List (List ℕ × KeptLog)) (entry : List ℕ × KeptLog)
    → AllByRecursion P (keys_of logs) → P entry.0 → AllByRecursion P (keys_of (logs ++ entry ∷ []))
keys-push P [] entry all here = (here, tt)
keys-push P (one ∷ logs) entry all here = (all.0, keys-push P logs entry all.1 here)

ascend-push : (before : List ℕ) (logs : List (List ℕ × KeptLog)) (entry : List ℕ × KeptLog) → KeysAscend logs
    → slice_cmp nat_cmp (last_origin before logs) entry.0 ≡ Less → KeysAscend (logs ++ entry ∷ [])
unfolding IsStrictlySortedBy
ascend-push before [] entry up above = (tt, tt)
ascend-push before (one ∷ logs) entry up above = (
  keys-push (λ k. slice_cmp nat_cmp one.0 k ≡ Less) logs entry up.0 (last-above one logs entry.0 up above),
  ascend-push one.0 logs entry up.1 above,
)

no-keys : KeysAscend {V = KeptLog} []
unfolding IsStrictlySortedBy
no-keys = tt

above-some : (before origin : List ℕ) → slice_cmp nat_cmp before origin ≡ Less → origin ≢ []
above-some [] [] above empty = cc
above-some (b ∷ before) [] above empty = cc
above-some before (b ∷ origin) above empty = cc

map-push : (logs : List (List ℕ × KeptLog)) (entry : List ℕ × KeptLog)
    → map lines_of (logs ++ entry ∷ []) ≡ map lines_of logs ++ lines_of entry ∷ []
map-push [] entry = refl
map-push (one ∷ logs) entry = ap (λ ls. lines_of one ∷ ls) (map-push logs entry)

-- ---- as a loop reads them

-- the logs of the lines before an index: a fault of the others is the first of all
pub record IsReading (all : List LogLines) (place : ℕ) (logs : List (List ℕ × KeptLog)) (before : List ℕ) : Type 0 where
  pub read : AreLogsOf (take place all) logs
  pub last : before ≡ last_origin [] logs
  pub others : (e : StateError) → IsFirstFault before (drop place all) e → IsFirstFault [] all e

pub reading-start : (all : List LogLines) → IsReading all 0 [] []
reading-start all =
    record { read = record { lines = refl; ordered = no-keys; read = tt }; last = refl; others = λ e fault. fault }

pub reading-more : (all : List LogLines) (place : ℕ) (logs after : List (List ℕ × KeptLog)) (before : List ℕ)
    (lines : LogLines) (log : KeptLog) → IsReading all place logs before → place < length all
    → lines ≡ get_or all place lines → IsLogOf before lines log → after ≡ text_put lines.origin log logs
    → IsReading all (place + 1) after lines.origin
reading-more all place logs after before lines log so_far below here is put =
    let above : slice_cmp nat_cmp (last_origin [] logs) lines.origin ≡ Less =
    rw (so_far.last) at (is.sound.above) in
    let up = ascend-push [] logs (lines.origin, log) so_far.read.ordered above in
    let after_is : after ≡ logs ++ (lines.origin, log) ∷ [] = put ∙ text_put-next logs (lines.origin, log) [] up in
    let read : AreLogsOf (take (place + 1) all) (logs ++ (lines.origin, log) ∷ []) = record {
      lines =
          map-push logs (lines.origin, log) ∙ ap (λ l. map lines_of logs ++ l ∷ []) is.same
          ∙ ap (λ ls. ls ++ lines ∷ []) so_far.read.lines
          ∙ ap (λ l. take place all ++ l ∷ []) here
          ∙ sym (take_more all place lines below);
      ordered = up;
      read =
          all_push IsReadEntry logs (lines.origin, log) so_far.read.read
          (above-some before lines.origin is.sound.above, is.cut);
    } in
    record {
      read = rw after_is read;
      last = sym (ap (last_origin []) after_is ∙ last-push [] logs (lines.origin, log));
      others = λ e fault. so_far.others e (rw (drop_more all place lines below, ← here) (inr (is.sound, fault)));
    }

pub reading-fails : (all : List LogLines) (place : ℕ) (logs : List (List ℕ × KeptLog)) (before : List ℕ)
    (lines : LogLines) (e : StateError) → IsReading all place logs before → place < length all
    → lines ≡ get_or all place lines → IsLinesFault before lines e → IsFirstFault [] all e
reading-fails all place logs before lines e so_far below here fault =
    so_far.others e (rw (drop_more all place lines below, ← here) (inl fault))

pub reading-done : (all : List LogLines) (place : ℕ) (logs : List (List ℕ × KeptLog)) (before : List ℕ)
    → IsReading all place logs before → length all ≤ place → AreLogsOf all logs
reading-done all place logs before so_far end = rw (take_all place all end) at so_far.read

-- ---- the whole text

cut-all : (logs : List (List ℕ × KeptLog)) → AllByRecursion IsReadEntry logs
    → AllByRecursion AreLines (map lines_of logs) → AllByRecursion IsCutEntry logs
cut-all [] read lines = tt
cut-all (entry ∷ logs) read lines =
    ((record { written = read.0.0; line = lines.0.origin }, read.0.1), cut-all logs read.1 lines.1)

pub state-read : (text : List ℕ) (all : List LogLines) (logs : List (List ℕ × KeptLog)) → AreLinesOf text all
    → AreLogsOf all logs → IsStateOf text logs
state-read text all logs are is =
    record {
      written = are.whole ∙ ap (λ ls. all_before ls []) (sym is.lines);
      ordered = is.ordered;
      cut = cut-all logs is.read (rw (is.lines) are.lines);
    }

kept-entry : (entry : List ℕ × KeptLog) → IsCutEntry entry → IsKeptLog entry
kept-entry entry (origin, cut) =
    (origin, rw (cut.only) (record { chained = chain-one cut.head; heads = (cut.sound, tt); room = omega arith }))

pub kept-read : (logs : List (List ℕ × KeptLog)) → AllByRecursion IsCutEntry logs → AllByRecursion IsKeptLog logs
kept-read [] cut = tt
kept-read (entry ∷ logs) cut = (kept-entry entry cut.0, kept-read logs cut.1)

-- a fault of the next lines, unless memory ran out
pub reading-stops : (all : List LogLines) (place : ℕ) (logs : List (List ℕ × KeptLog)) (before : List ℕ)
    (lines : LogLines) (e : StateError) → IsReading all place logs before → place < length all
    → lines ≡ get_or all place lines → OrMemory OutOfMemory e (IsLinesFault before lines e)
    → OrMemory OutOfMemory e (IsFirstFault [] all e)
reading-stops all place logs before lines e so_far below here (inl memory) = inl memory
reading-stops all place logs before lines e so_far below here (inr fault) =
    inr (reading-fails all place logs before lines e so_far below here fault)

pub ruleset reading = (reading-start, reading-more, reading-done)
