-- Whether an origin can be added.
use Rattle.std.proofs.Common.{◌≡◌, ◌≢◌, ◌∙◌, ◌==◌, ℕ, Bool, not, length, true, false, List, [], ◌∷◌}
use Rattle.std.proofs.Common.{refl, sym, ap}
use Rattle.std.specs.Prelude.{IsTrue}
use Rattle.std.specs.List.{AllByRecursion, list_any}
use Rattle.std.proofs.lemmas.Bool.{eqb-true, eqb-false, ne_eqb}
use Rattle.sig_witness.specs.KeptLogs.{IsOriginText, line_feed}

-- no byte is a newline, by the test of each
pub lacks-byte : (origin : List ℕ) → list_any (λ b. b == line_feed) origin ≡ false
    → AllByRecursion (λ b. b ≢ line_feed) origin
lacks-byte [] none = tt
lacks-byte (b ∷ origin) none = by (b == line_feed) refl (λ later. lacks-byte origin later) where
  by : (t : Bool) → (b == line_feed) ≡ t
      → (list_any (λ c. c == line_feed) origin ≡ false → AllByRecursion (λ c. c ≢ line_feed) origin)
      → AllByRecursion (λ c. c ≢ line_feed) (b ∷ origin)
  by true is rest = absurd (let f : true ≡ false = rw is at none in cc)
  by false is rest = (λ same. eqb-false b line_feed is same, rest (rw is at none))

-- a text that is not empty, without a newline
pub origin-line : (origin : List ℕ) → (length origin == 0) ≡ false → list_any (λ b. b == line_feed) origin ≡ false
    → IsOriginText origin
origin-line origin some none =
    record {
      written = λ empty. eqb-false (length origin) 0 some (ap length empty);
      line = lacks-byte origin none;
    }

pub byte-lacks : (origin : List ℕ) → AllByRecursion (λ b. b ≢ line_feed) origin
    → list_any (λ b. b == line_feed) origin ≡ false
byte-lacks [] all = refl
byte-lacks (b ∷ origin) all = rw (ne_eqb b line_feed all.0) (byte-lacks origin all.1)

pub origin-not_empty : (origin : List ℕ) → (length origin == 0) ≡ true → ¬ IsOriginText origin
origin-not_empty [] is text = text.written refl
origin-not_empty (b ∷ origin) is text = absurd (let f = eqb-true (length (b ∷ origin)) 0 is in cc)

pub origin-one_line : (origin : List ℕ) → list_any (λ b. b == line_feed) origin ≡ true → ¬ IsOriginText origin
origin-one_line origin has text = (let both : true ≡ false = sym has ∙ byte-lacks origin text.line in cc)

pub origin-decided : (origin : List ℕ) (has : Bool) → (length origin == 0) ≡ false
    → has ≡ list_any (λ b. b == line_feed) origin
    → (IsTrue (not has) → IsOriginText origin) × (IsOriginText origin → IsTrue (not has))
origin-decided origin true some is =
    (λ never. absurd (let f : false ≡ true = never in cc), λ text. absurd (origin-one_line origin (sym is) text))
origin-decided origin false some is = (λ _. origin-line origin some (sym is), λ _. refl)
