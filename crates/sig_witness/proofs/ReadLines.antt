-- What the lines of an origin say, step by step.
use Rattle.std.proofs.Common.{◌≡◌, ◌≢◌, ℕ, ◌<◌, ◌^◌, inl, inr, List, [], ◌∷◌, length, Some, None}
use Rattle.std.proofs.Common.{refl, sym, ◌∙◌, ap, lit<}
use Rattle.std.proofs.lemmas.Fmt.{decimal_injective}
use Rattle.std.specs.Fmt.{decimal}
use Rattle.base64.proofs.EngineFacts.{decode_of_iff}
use Rattle.base64.specs.Engines.{standard}
use Rattle.base64.specs.GeneralPurpose.{decode_of}
use Rattle.sig_base.proofs.ByteLists.{byte_at}
use Rattle.sig_base.proofs.ResultSteps.{ok_from}
use Rattle.sig_base.specs.Answers.{OrMemory}
use Rattle.sig_base.specs.Base64.{base64_bytes, base64_text}
use Rattle.sig_base.specs.ByteLists.{AreBytes}
use Rattle.sig_base.specs.Scheme.{name_of}
use Rattle.sig_base.specs.Sha256.{sha256}
use Rattle.sig_base.specs.declared.scheme.VerifyScheme.{VerifyScheme}
use Rattle.sig_key.specs.Key.{key_info, key_scheme}
use Rattle.sig_key.specs.declared.verification_key.CosignVerificationKey.{CosignVerificationKey}
use Rattle.sig_audit.specs.declared.chain.ChainHead.{ChainHead}
use Rattle.sig_witness.specs.declared.state_error.StateError.{StateError}
use Rattle.sig_witness.specs.declared.state_error.StateError.TheVariants.{Scheme, Key, Size, Hash, Root, OutOfMemory}
use Rattle.sig_witness.specs.StateCauses.{IsAbove, IsHashLine, IsLinesFault}
use Rattle.sig_witness.specs.StateRead.{IsBase64Of, IsKeyOf, IsKeyFault, IsHeadOf, IsHeadFault, IsLogOf}
use Rattle.sig_witness.specs.StateText.{LogLines}

-- ---- base64

pub base64-of : (line bytes : List ℕ) → AreBytes line → AreBytes bytes → base64_bytes line ≡ Some bytes
    → IsBase64Of line bytes
unfolding base64_bytes base64_text
base64-of line bytes of_line of_bytes is =
    record {
      read = is;
      written =
          sym ((decode_of_iff standard line bytes (refl, refl) (byte_at line of_line) (byte_at bytes of_bytes)).0
          (ok_from (decode_of standard line) bytes is));
      are_bytes = byte_at bytes of_bytes;
    }

-- ---- the key

pub scheme-fault : (lines : LogLines) (e : StateError) → e ≡ Scheme
    → ((scheme : VerifyScheme) → name_of scheme ≢ lines.scheme) → IsKeyFault lines e
scheme-fault lines e named none = inl (λ (scheme, is). none scheme is, named)

pub key-fault : (lines : LogLines) (scheme : VerifyScheme) (e : StateError) → name_of scheme ≡ lines.scheme → e ≡ Key
    → base64_bytes lines.key ≡ None → IsKeyFault lines e
key-fault lines scheme e is named none =
    inr ((scheme, is), inl (λ (key, found). (let both = sym none ∙ found in cc), named))

-- ---- the head

pub size-fault : (lines : LogLines) (e : StateError) → e ≡ Size
    → ((size : ℕ) → size < 2 ^ 64 → lines.size ≢ decimal size) → IsHeadFault lines e
size-fault lines e named none = inl (λ (size, small, is). none size small is, named)

pub hash-fault : (lines : LogLines) (size : ℕ) (e : StateError) → size < 2 ^ 64 → lines.size ≡ decimal size → e ≡ Hash
    → ¬ IsHashLine lines.hash → IsHeadFault lines e
hash-fault lines size e small is named none = inr ((size, small, is), inl (none, named))

pub root-fault : (lines : LogLines) (size : ℕ) (hash : List ℕ) → size < 2 ^ 64 → lines.size ≡ decimal size
    → IsBase64Of lines.hash hash → length hash ≡ 32 → size ≡ 0 → hash ≢ sha256 [] → IsHeadFault lines Root
root-fault lines size hash small is found sized empty other =
    inr (
      (size, small, is),
      inr (
        (hash, found.read, sized),
        inl (
          λ root. other (let both = sym found.read ∙ root (is ∙ ap decimal empty) in cc),
          refl,
        ),
      ),
    )

pub head-of : (lines : LogLines) (size : ℕ) (hash : List ℕ) → size < 2 ^ 64 → lines.size ≡ decimal size
    → IsBase64Of lines.hash hash → length hash ≡ 32 → (size ≡ 0 → hash ≡ sha256 [])
    → IsHeadOf lines (record { size = size; hash = hash; hashes = [] })
head-of lines size hash small is found sized root =
    record { size = is; hash = found; hashes = refl; sound = root; small = small; sized = sized }

-- ---- the log

pub lines-key_fault : (before : List ℕ) (lines : LogLines) (e : StateError) → IsAbove before lines → IsKeyFault lines e
    → IsLinesFault before lines e
lines-key_fault before lines e above (inl fault) = inr (above, inl fault)
lines-key_fault before lines e above (inr (scheme, inl fault)) = inr (above, inr (scheme, inl fault))
lines-key_fault before lines e above (inr (scheme, inr (key, none))) = absurd none

pub lines-head_fault : (before : List ℕ) (lines : LogLines) (key : CosignVerificationKey) (e : StateError)
    → IsAbove before lines → IsKeyOf lines key → IsHeadFault lines e → IsLinesFault before lines e
lines-head_fault before lines key e above is fault =
    inr (above, inr ((key_scheme key, is.scheme), inr ((key_info key, is.info.read), fault)))

pub lines-head_stop : (before : List ℕ) (lines : LogLines) (key : CosignVerificationKey) (e : StateError)
    → IsAbove before lines → IsKeyOf lines key → OrMemory OutOfMemory e (IsHeadFault lines e)
    → OrMemory OutOfMemory e (IsLinesFault before lines e)
lines-head_stop before lines key e above is (inl memory) = inl memory
lines-head_stop before lines key e above is (inr fault) = inr (lines-head_fault before lines key e above is fault)

made-of : (lines : LogLines) (scheme key size hash : List ℕ) → scheme ≡ lines.scheme → key ≡ lines.key
    → size ≡ lines.size → hash ≡ lines.hash
    → ◌≡◌ {A = LogLines} (record { origin = lines.origin; scheme = scheme; key = key; size = size; hash = hash }) lines
made-of lines scheme key size hash scheme_is key_is size_is hash_is = rw (scheme_is, key_is, size_is, hash_is) refl

pub log-of : (before : List ℕ) (lines : LogLines) (key : CosignVerificationKey) (head : ChainHead)
    → IsAbove before lines → IsKeyOf lines key → IsHeadOf lines head
    → IsLogOf before lines (record { key = key; chain = head ∷ [] })
log-of before lines key head above is of_head =
    record {
      sound = record {
        above = above;
        scheme = (key_scheme key, is.scheme);
        key = (key_info key, is.info.read);
        size = (head.size, of_head.small, of_head.size);
        hash = (head.hash, of_head.hash.read, of_head.sized);
        root =
            λ zero.
            (let none : head.size ≡ 0 =
            decimal_injective head.size 0 of_head.small (lit< tt) (sym of_head.size ∙ zero) in
            of_head.hash.read ∙ ap Some (of_head.sound none));
      };
      cut = record {
        key = is.info.are_bytes;
        head = head;
        only = refl;
        hashes = of_head.hashes;
        sound = of_head.sound;
        value = record { size = of_head.small; sized = of_head.sized; bytes = of_head.hash.are_bytes };
      };
      same =
          made-of lines (name_of (key_scheme key)) (base64_text (key_info key)) (decimal head.size) (base64_text head.hash)
          is.scheme is.info.written (sym of_head.size) of_head.hash.written;
    }

pub ruleset log_faults = (lines-key_fault, lines-head_fault)
