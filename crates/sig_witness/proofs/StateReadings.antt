-- Logs of one head each, and their text: it is read as them and as nothing else.
use Rattle.std.proofs.Common.{◌≡◌, ℕ, ◌<◌, ◌^◌, inl, inr, List, [], ◌∷◌, map, Option, Some}
use Rattle.std.proofs.Common.{Result, Ok, Err, refl, sym, ◌∙◌, ap, arith, option_map, lit<}
use Rattle.std.proofs.lemmas.Fmt.{decimal_injective}
use Rattle.std.specs.Fmt.{decimal}
use Rattle.std.specs.Cmp.Lexicographic.{slice_cmp}
use Rattle.std.specs.List.{AllByRecursion}
use Rattle.std.specs.List.Sorted.{IsStrictlySortedBy}
use Rattle.std.specs.Ordering.{nat_cmp}
use Rattle.std.specs.declared.cmp.Ordering.TheVariants.{Less}
use Rattle.sig_base.specs.Answers.{Answers, OrMemory}
use Rattle.sig_base.specs.Base64.{base64_bytes, base64_text}
use Rattle.sig_base.specs.ByText.{KeysAscend}
use Rattle.sig_base.specs.Scheme.{name_of, scheme_named, scheme_of}
use Rattle.sig_base.specs.declared.scheme.VerifyScheme.{VerifyScheme}
use Rattle.sig_base.specs.declared.scheme.VerifyScheme.TheVariants as scheme
use Rattle.sig_key.specs.Key.{key_info, key_scheme}
use Rattle.sig_key.specs.declared.verification_key.CosignVerificationKey.{CosignVerificationKey}
use Rattle.sig_key.specs.declared.verification_key.CosignVerificationKey.TheVariants as key
use Rattle.sig_rekor.proofs.GraphicTexts.{IsFreeOf, graphic-free, decimal-graphic, base64-graphic, base64-again}
use Rattle.sig_audit.specs.declared.chain.ChainHead.{ChainHead}
use Rattle.sig_witness.specs.declared.kept_log.KeptLog.{KeptLog}
use Rattle.sig_witness.specs.declared.state_error.StateError.{StateError}
use Rattle.sig_witness.specs.declared.state_error.StateError.TheVariants.{Lines, OutOfMemory}
use Rattle.sig_witness.specs.KeptLogs.{IsHead}
use Rattle.sig_witness.specs.StateText.{LogLines, lines_of, kept_head, IsCutLog, IsCutEntry, IsStateOf}
use Rattle.sig_witness.specs.StateCauses.{AreLines, AreLinesOf, IsAbove, AreSound, Unless, IsLinesFault, IsFirstFault}
use Rattle.sig_witness.specs.StateCauses.{IsStateFault, IsStateAnswer}
use Rattle.sig_witness.proofs.StateLines.{same-lines}

-- ---- a scheme and a key

name-free : (s : VerifyScheme) → IsFreeOf 10 (name_of s)
name-free scheme.RSA_PSS_SHA256 = graphic-free 10 (name_of scheme.RSA_PSS_SHA256) (omega arith) refl
name-free scheme.RSA_PKCS1_SHA256 = graphic-free 10 (name_of scheme.RSA_PKCS1_SHA256) (omega arith) refl
name-free scheme.ECDSA_P256_SHA256_ASN1 = graphic-free 10 (name_of scheme.ECDSA_P256_SHA256_ASN1) (omega arith) refl
name-free scheme.ECDSA_P384_SHA384_ASN1 = graphic-free 10 (name_of scheme.ECDSA_P384_SHA384_ASN1) (omega arith) refl
name-free scheme.ECDSA_P521_SHA512_ASN1 = graphic-free 10 (name_of scheme.ECDSA_P521_SHA512_ASN1) (omega arith) refl
name-free scheme.ED25519 = graphic-free 10 (name_of scheme.ED25519) (omega arith) refl

abbrev of_name : List ℕ → Option VerifyScheme
of_name text = option_map scheme_of (scheme_named text)

name-read : (s : VerifyScheme) → of_name (name_of s) ≡ Some s
name-read scheme.RSA_PSS_SHA256 = refl
name-read scheme.RSA_PKCS1_SHA256 = refl
name-read scheme.ECDSA_P256_SHA256_ASN1 = refl
name-read scheme.ECDSA_P384_SHA384_ASN1 = refl
name-read scheme.ECDSA_P521_SHA512_ASN1 = refl
name-read scheme.ED25519 = refl

same-name : (s t : VerifyScheme) → name_of s ≡ name_of t → s ≡ t
same-name s t is = (let both = sym (name-read s) ∙ ap of_name is ∙ name-read t in cc)

abbrev key_of : VerifyScheme → List ℕ → CosignVerificationKey
key_of scheme.RSA_PSS_SHA256 info = key.RSA_PSS_SHA256 info
key_of scheme.RSA_PKCS1_SHA256 info = key.RSA_PKCS1_SHA256 info
key_of scheme.ECDSA_P256_SHA256_ASN1 info = key.ECDSA_P256_SHA256_ASN1 info
key_of scheme.ECDSA_P384_SHA384_ASN1 info = key.ECDSA_P384_SHA384_ASN1 info
key_of scheme.ECDSA_P521_SHA512_ASN1 info = key.ECDSA_P521_SHA512_ASN1 info
key_of scheme.ED25519 info = key.ED25519 info

key-parts : (k : CosignVerificationKey) → k ≡ key_of (key_scheme k) (key_info k)
key-parts (key.RSA_PSS_SHA256 info) = refl
key-parts (key.RSA_PKCS1_SHA256 info) = refl
key-parts (key.ECDSA_P256_SHA256_ASN1 info) = refl
key-parts (key.ECDSA_P384_SHA384_ASN1 info) = refl
key-parts (key.ECDSA_P521_SHA512_ASN1 info) = refl
key-parts (key.ED25519 info) = refl

pub same-key : (k l : CosignVerificationKey) → key_scheme k ≡ key_scheme l → key_info k ≡ key_info l → k ≡ l
same-key k l scheme info =
    key-parts k ∙ ap (λ s. key_of s (key_info k)) scheme ∙ ap (key_of (key_scheme l)) info ∙ sym (key-parts l)

-- ---- the lines of a log

cut-head : (log : KeptLog) (is : IsCutLog log) → kept_head log ≡ is.head
cut-head log is = rw (is.only) refl

entry-lines : (entry : List ℕ × KeptLog) → IsCutEntry entry → AreLines (lines_of entry)
entry-lines entry (origin, cut) =
    let head = kept_head entry.1 in
    let is = cut-head entry.1 cut in
    let size : head.size < 2 ^ 64 = rw is (cut.value.size) in
    record {
      origin = origin.line;
      scheme = name-free (key_scheme entry.1.key);
      key = graphic-free 10 (base64_text (key_info entry.1.key)) (omega arith) (base64-graphic (key_info entry.1.key) cut.key);
      size = graphic-free 10 (decimal head.size) (omega arith) (decimal-graphic head.size size);
      hash =
          graphic-free 10 (base64_text head.hash) (omega arith) (base64-graphic head.hash (rw is (cut.value.bytes)));
    }

pub state-lines : (logs : List (List ℕ × KeptLog)) → AllByRecursion IsCutEntry logs
    → AllByRecursion AreLines (map lines_of logs)
state-lines [] cut = tt
state-lines (entry ∷ logs) cut = (entry-lines entry cut.0, state-lines logs cut.1)

-- ---- one text, one list of logs

same-base64 : (a b : List ℕ) → base64_bytes (base64_text a) ≡ Some a → base64_bytes (base64_text b) ≡ Some b
    → base64_text a ≡ base64_text b → a ≡ b
same-base64 a b one other is = (let both = sym one ∙ ap base64_bytes is ∙ other in cc)

same-head : (one other : ChainHead) → one.size ≡ other.size → one.hash ≡ other.hash → one.hashes ≡ other.hashes
    → one ≡ other
same-head one other size hash hashes =
    ap (λ n. record { size = n; hash = one.hash; hashes = one.hashes }) size
    ∙ ap (λ h. record { size = other.size; hash = h; hashes = one.hashes }) hash
    ∙ ap (λ hs. record { size = other.size; hash = other.hash; hashes = hs }) hashes

same-log : (one other : KeptLog) → IsCutLog one → IsCutLog other → name_of (key_scheme one.key) ≡ name_of (key_scheme other.key)
    → base64_text (key_info one.key) ≡ base64_text (key_info other.key)
    → decimal (kept_head one).size ≡ decimal (kept_head other).size
    → base64_text (kept_head one).hash ≡ base64_text (kept_head other).hash → one ≡ other
same-log one other cut cuts scheme info size hash =
    let one_is = cut-head one cut in
    let other_is = cut-head other cuts in
    let key_same = same-key one.key other.key (same-name (key_scheme one.key) (key_scheme other.key) scheme)
    (same-base64 (key_info one.key) (key_info other.key) (base64-again (key_info one.key) cut.key)
    (base64-again (key_info other.key) cuts.key) info) in
    let size_same = decimal_injective cut.head.size cuts.head.size cut.value.size cuts.value.size
    (ap (λ (h : ChainHead). decimal h.size) (sym one_is) ∙ size ∙ ap (λ (h : ChainHead). decimal h.size) other_is) in
    let hash_same = same-base64 cut.head.hash cuts.head.hash (base64-again cut.head.hash cut.value.bytes)
    (base64-again cuts.head.hash cuts.value.bytes)
    (ap (λ (h : ChainHead). base64_text h.hash) (sym one_is) ∙ hash ∙ ap (λ (h : ChainHead). base64_text h.hash) other_is) in
    let head_same = same-head cut.head cuts.head size_same hash_same (cut.hashes ∙ sym cuts.hashes) in
    ap (λ k. record { key = k; chain = one.chain }) key_same
    ∙ ap (λ c. record { key = other.key; chain = c }) (cut.only ∙ ap (λ h. h ∷ []) head_same ∙ sym cuts.only)

same-entries : (logs others : List (List ℕ × KeptLog)) → AllByRecursion IsCutEntry logs → AllByRecursion IsCutEntry others
    → map lines_of logs ≡ map lines_of others → logs ≡ others
same-entries [] [] cut cuts is = refl
same-entries [] (other ∷ others) cut cuts is = absurd cc
same-entries (entry ∷ logs) [] cut cuts is = absurd cc
same-entries ((origin, log) ∷ logs) ((other, kept) ∷ others) cut cuts is =
    let lines : lines_of (origin, log) ≡ lines_of (other, kept) = (let f = is in cc) in
    let later : map lines_of logs ≡ map lines_of others = (let f = is in cc) in
    let log_same = same-log log kept cut.0.1 cuts.0.1 (ap (λ (l : LogLines). l.scheme) lines)
    (ap (λ (l : LogLines). l.key) lines) (ap (λ (l : LogLines). l.size) lines) (ap (λ (l : LogLines). l.hash) lines) in
    let origin_same : origin ≡ other = ap (λ (l : LogLines). l.origin) lines in
    rw (origin_same, log_same, same-entries logs others cut.1 cuts.1 later) refl

pub state-of_lines : (text : List ℕ) (logs : List (List ℕ × KeptLog)) → IsStateOf text logs
    → AreLinesOf text (map lines_of logs)
state-of_lines text logs is = record { whole = is.written; lines = state-lines logs is.cut }

same-states : (text : List ℕ) (logs others : List (List ℕ × KeptLog)) → IsStateOf text logs → IsStateOf text others
    → logs ≡ others
same-states text logs others is are =
    same-entries logs others is.cut are.cut
    (same-lines text (map lines_of logs) (map lines_of others) (state-of_lines text logs is) (state-of_lines text others are))

-- ---- no log has a fault

entry-sound : (before : List ℕ) (entry : List ℕ × KeptLog) → IsAbove before (lines_of entry) → IsCutEntry entry
    → AreSound before (lines_of entry)
entry-sound before entry above (origin, cut) =
    let head = kept_head entry.1 in
    let is = cut-head entry.1 cut in
    let size : head.size < 2 ^ 64 = rw is (cut.value.size) in
    let again : base64_bytes (base64_text head.hash) ≡ Some head.hash = base64-again head.hash (rw is (cut.value.bytes)) in
    record {
      above = above;
      scheme = (key_scheme entry.1.key, refl);
      key = (key_info entry.1.key, base64-again (key_info entry.1.key) cut.key);
      size = (head.size, size, refl);
      hash = (head.hash, again, rw is (cut.value.sized));
      root =
          λ zero.
          (let none : head.size ≡ 0 = decimal_injective head.size 0 size (lit< tt) zero in
          let root : IsHead head = rw is (cut.sound) in
          again ∙ ap Some (root none));
    }

pub no-fault : (before : List ℕ) (lines : LogLines) → AreSound before lines → (e : StateError)
    → ¬ IsLinesFault before lines e
no-fault before lines sound e (inl (is_false, _)) = is_false sound.above
no-fault before lines sound e (inr (_, inl (is_false, _))) = is_false sound.scheme
no-fault before lines sound e (inr (_, inr (_, inl (is_false, _)))) = is_false sound.key
no-fault before lines sound e (inr (_, inr (_, inr (_, inl (is_false, _))))) = is_false sound.size
no-fault before lines sound e (inr (_, inr (_, inr (_, inr (_, inl (is_false, _)))))) = is_false sound.hash
no-fault before lines sound e (inr (_, inr (_, inr (_, inr (_, inr (_, inl (is_false, _))))))) = is_false sound.root
no-fault before lines sound e (inr (_, inr (_, inr (_, inr (_, inr (_, inr (_, none))))))) = none

-- the first of these is above a text
abbrev pub BeginAbove : List ℕ → List (List ℕ × KeptLog) → Type 0
BeginAbove before [] = Unit {0}
BeginAbove before (entry ∷ logs) = slice_cmp nat_cmp before entry.0 ≡ Less

next-above : (entry : List ℕ × KeptLog) (logs : List (List ℕ × KeptLog)) → KeysAscend (entry ∷ logs)
    → BeginAbove entry.0 logs
unfolding IsStrictlySortedBy
next-above entry [] up = tt
next-above entry (next ∷ logs) up = up.0.0

later-up : (entry : List ℕ × KeptLog) (logs : List (List ℕ × KeptLog)) → KeysAscend (entry ∷ logs) → KeysAscend logs
unfolding IsStrictlySortedBy
later-up entry logs up = up.1

sound-all : (before : List ℕ) (logs : List (List ℕ × KeptLog)) → BeginAbove before logs → KeysAscend logs
    → AllByRecursion IsCutEntry logs → (e : StateError) → ¬ IsFirstFault before (map lines_of logs) e
sound-all before [] above up cut e fault = fault
sound-all before (entry ∷ logs) above up cut e (inl fault) =
    no-fault before (lines_of entry) (entry-sound before entry above cut.0) e fault
sound-all before (entry ∷ logs) above up cut e (inr (_, later)) =
    sound-all entry.0 logs (next-above entry logs up) (later-up entry logs up) cut.1 e later

-- the first origin is not empty
first-above : (logs : List (List ℕ × KeptLog)) → AllByRecursion IsCutEntry logs → BeginAbove [] logs
first-above [] cut = tt
first-above (([], log) ∷ logs) cut = absurd (cut.0.0.written refl)
first-above ((b ∷ origin, log) ∷ logs) cut = refl

state-sound : (text : List ℕ) (logs : List (List ℕ × KeptLog)) (e : StateError) → IsStateOf text logs
    → ¬ IsStateFault text e
state-sound text logs e is (inl (none, _)) = none (map lines_of logs) (state-of_lines text logs is)
state-sound text logs e is (inr (all, are, fault)) =
    let same = same-lines text all (map lines_of logs) are (state-of_lines text logs is) in
    sound-all [] logs (first-above logs is.cut) is.ordered is.cut e (rw same at fault)

-- ---- one fault

unless-unique : (Condition : Type 0) (cause : StateError) (others : StateError → Type 0)
    → ((d e : StateError) → others d → others e → d ≡ e) → (d e : StateError) → Unless Condition cause others d
    → Unless Condition cause others e → d ≡ e
unless-unique Condition cause others unique d e (inl (_, one)) (inl (_, other)) = one ∙ sym other
unless-unique Condition cause others unique d e (inl (is_false, _)) (inr (is_true, _)) = absurd (is_false is_true)
unless-unique Condition cause others unique d e (inr (is_true, _)) (inl (is_false, _)) = absurd (is_false is_true)
unless-unique Condition cause others unique d e (inr (_, one)) (inr (_, other)) = unique d e one other

lines-fault-unique : (before : List ℕ) (lines : LogLines) (d e : StateError) → IsLinesFault before lines d
    → IsLinesFault before lines e → d ≡ e
lines-fault-unique before lines =
    unless-unique _ _ _ (unless-unique _ _ _ (unless-unique _ _ _ (unless-unique _ _ _ (unless-unique _ _ _
    (unless-unique _ _ _ (λ d e none _. absurd none))))))

first-fault-unique : (before : List ℕ) (all : List LogLines) (d e : StateError) → IsFirstFault before all d
    → IsFirstFault before all e → d ≡ e
first-fault-unique before [] d e fault other = absurd fault
first-fault-unique before (lines ∷ later) d e (inl fault) (inl other) = lines-fault-unique before lines d e fault other
first-fault-unique before (lines ∷ later) d e (inl fault) (inr (sound, _)) = absurd (no-fault before lines sound d fault)
first-fault-unique before (lines ∷ later) d e (inr (sound, _)) (inl other) = absurd (no-fault before lines sound e other)
first-fault-unique before (lines ∷ later) d e (inr (_, fault)) (inr (_, other)) =
    first-fault-unique lines.origin later d e fault other

same-faults : (text : List ℕ) (d e : StateError) → IsStateFault text d → IsStateFault text e → d ≡ e
same-faults text d e (inl (_, one)) (inl (_, other)) = one ∙ sym other
same-faults text d e (inl (none, _)) (inr (all, are, _)) = absurd (none all are)
same-faults text d e (inr (all, are, _)) (inl (none, _)) = absurd (none all are)
same-faults text d e (inr (all, are, fault)) (inr (others, aren, other)) =
    let same = same-lines text others all aren are in
    first-fault-unique [] all d e fault (rw same at other)

-- ---- one answer

pub same-answers : (text : List ℕ) (one other : Result (List (List ℕ × KeptLog)) StateError) → IsStateAnswer text one
    → IsStateAnswer text other → one ≡ other
same-answers text (Ok logs) (Ok others) is are = ap Ok (same-states text logs others is are)
same-answers text (Ok logs) (Err e) is fault = absurd (state-sound text logs e is fault)
same-answers text (Err e) (Ok logs) fault is = absurd (state-sound text logs e is fault)
same-answers text (Err d) (Err e) fault other = ap Err (same-faults text d e fault other)

pub answers-fault : (text : List ℕ) (e : StateError) → OrMemory OutOfMemory e (IsStateFault text e)
    → (answer : Result (List (List ℕ × KeptLog)) StateError) → IsStateAnswer text answer
    → Answers OutOfMemory (λ (w : List (List ℕ × KeptLog)). w) (Err e) answer
answers-fault text e (inl memory) answer is = inl memory
answers-fault text e (inr fault) answer is = inr (same-answers text answer (Err e) is fault)

pub answers-ok : (text : List ℕ) (logs : List (List ℕ × KeptLog)) → IsStateOf text logs
    → (answer : Result (List (List ℕ × KeptLog)) StateError) → IsStateAnswer text answer
    → Answers OutOfMemory (λ (w : List (List ℕ × KeptLog)). w) (Ok logs) answer
answers-ok text logs state answer is = same-answers text answer (Ok logs) is state

pub lines-fault : (text : List ℕ) (e : StateError)
    → OrMemory OutOfMemory e ((e ≡ Lines) × ((all : List LogLines) → ¬ AreLinesOf text all))
    → OrMemory OutOfMemory e (IsStateFault text e)
lines-fault text e (inl memory) = inl memory
lines-fault text e (inr (named, none)) = inr (inl (none, named))

pub logs-fault : (text : List ℕ) (all : List LogLines) (e : StateError) → AreLinesOf text all
    → OrMemory OutOfMemory e (IsFirstFault [] all e) → OrMemory OutOfMemory e (IsStateFault text e)
logs-fault text all e are (inl memory) = inl memory
logs-fault text all e are (inr fault) = inr (inr (all, are, fault))
