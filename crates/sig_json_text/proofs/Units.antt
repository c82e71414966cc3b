-- The units of a text in UTF-16 are decoded to its characters, so texts that differ have units that differ.
use Rattle.std.proofs.Common.{◌≡◌, ◌<◌, ◌≤◌, ◌+◌, ◌-◌, ◌/◌, ◌%◌, ℕ, true, List, [], ◌∷◌, ◌++◌, map, Some, inl, inr}
use Rattle.std.proofs.Common.{refl, sym, ap, ◌∙◌, arith}
use Rattle.std.proofs.Math.Utf8.{scalar, scalars, encodes, scalar_cases}
use Rattle.std.proofs.lemmas.Bool.{lt-ltb, le-ltb, le-leb, lt-leb, and_parts, cases_lt}
use Rattle.std.proofs.lemmas.Str.{utf16_chars-nil, utf16_chars_lone, utf16_chars_pair, encodes-chars, scalars-chars}
use Rattle.std.specs.Char.Escape.{encode_utf16}
use Rattle.std.specs.Char.Utf16.{utf16_chars, lone_unit_char, surrogate_pair_char}
use Rattle.std.specs.List.{flat_map}
use Rattle.std.specs.Str.{chars, IsUtf8}
use Rattle.sig_json_text.specs.Canonical.{utf16_units}

one_unit : (c : ℕ) → c < 65536 → encode_utf16 c ≡ c ∷ []
one_unit c h = rw (lt-ltb c 65536 h) refl

two_units : (c : ℕ) → 65536 ≤ c → encode_utf16 c ≡ (55296 + (c - 65536) / 1024) ∷ (56320 + (c - 65536) % 1024) ∷ []
two_units c h = rw (le-ltb c 65536 h) refl

lone_low : (c : ℕ) → c < 55296 → lone_unit_char c ≡ Some c
lone_low c below = rw (lt-leb 55296 c below) refl

lone_high : (c : ℕ) → 57344 ≤ c → lone_unit_char c ≡ Some c
lone_high c from = rw (le-leb 55296 c (omega arith), le-ltb c 57344 from) refl

below_pairs : (c : ℕ) (rest : List ℕ) → c < 55296 → utf16_chars (encode_utf16 c ++ rest) ≡ Some c ∷ utf16_chars rest
below_pairs c rest below =
    rw (
      one_unit c (omega arith),
      utf16_chars_lone c rest (λ pair. let from : 55296 ≤ c = pair.0 in omega arith),
      lone_low c below,
    ) refl

above_pairs : (c : ℕ) (rest : List ℕ) → 57344 ≤ c → c < 65536
    → utf16_chars (encode_utf16 c ++ rest) ≡ Some c ∷ utf16_chars rest
above_pairs c rest from below =
    rw (
      one_unit c below,
      utf16_chars_lone c rest (λ pair. let under : c < 56320 = pair.1 in omega arith),
      lone_high c
          from,
    ) refl

by_pairs : (c : ℕ) (rest : List ℕ) → 65536 ≤ c → c < 1114112
    → utf16_chars (encode_utf16 c ++ rest) ≡ Some c ∷ utf16_chars rest
by_pairs c rest from below =
    let whole : surrogate_pair_char (55296 + (c - 65536) / 1024) (56320 + (c - 65536) % 1024) ≡ c = omega arith in
    rw (
      two_units c from,
      utf16_chars_pair (55296 + (c - 65536) / 1024) (56320 + (c - 65536) % 1024) rest
          (omega arith, omega arith, omega arith, omega arith),
      whole,
    ) refl

-- a character comes back from its units
next_char : (c : ℕ) (rest : List ℕ) → scalar c ≡ true
    → utf16_chars (encode_utf16 c ++ rest) ≡ Some c ∷ utf16_chars rest
next_char c rest is =
    elim (scalar_cases c is) [
      | inl below ↦ below_pairs c rest below
      | inr above ↦ elim (cases_lt c 65536)
          [ inl one ↦ above_pairs c rest above.0 one | inr two ↦ by_pairs c rest two above.1 ]
    ]

all_chars : (cs : List ℕ) → scalars cs ≡ true → utf16_chars (flat_map encode_utf16 cs) ≡ map Some cs
all_chars [] are = utf16_chars-nil
all_chars (c ∷ cs) are =
    let parts = and_parts (scalar c) (scalars cs) are in
    next_char c (flat_map encode_utf16 cs) parts.0 ∙ ap (λ rest. Some c ∷ rest) (all_chars cs parts.1)

pub units_decoded : (text : List ℕ) → IsUtf8 text → utf16_chars (utf16_units text) ≡ map Some (chars text)
unfolding utf16_units
units_decoded text utf8 = all_chars (chars text) (scalars-chars text utf8)

same_chars : (cs ds : List ℕ) → map Some cs ≡ map Some ds → cs ≡ ds
same_chars [] [] e = refl
same_chars [] (d ∷ ds) e = cc
same_chars (c ∷ cs) [] e = cc
same_chars (c ∷ cs) (d ∷ ds) e = let rest : cs ≡ ds = same_chars cs ds cc in cc

pub units_distinct : (one other : List ℕ) → IsUtf8 one → IsUtf8 other → utf16_units one ≡ utf16_units other
    → one ≡ other
units_distinct one other one_utf8 other_utf8 same =
    let decoded = sym (units_decoded one one_utf8) ∙ ap utf16_chars same ∙ units_decoded other other_utf8 in
    sym (encodes-chars one one_utf8) ∙ ap encodes (same_chars (chars one) (chars other) decoded)
    ∙ encodes-chars other other_utf8
