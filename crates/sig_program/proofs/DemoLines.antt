-- The lines of `demo`.
use Rattle.std.proofs.Common.{◌≡◌, ◌≢◌, ℕ, zero, suc, ◌+◌, ◌/◌, ◌<◌, ◌≤◌, ◌^◌, ◌==◌, true, not, List, [], ◌∷◌, ◌++◌, length, codes}
use Rattle.std.proofs.Common.{get_or, refl, sym, ap, ◌∙◌, arith, append_assoc, lit<}
use Rattle.std.proofs.lemmas.Bool.{and_parts, eqb-false, not-true}
use Rattle.std.proofs.lemmas.Fmt.{digits_decimal}
use Rattle.std.proofs.lemmas.Str.Parse.{not_in_digits}
use Rattle.std.specs.Fmt.{decimal}
use Rattle.std.specs.List.{list_all}
use Rattle.hex.specs.Hex.{encode_lower}
use Rattle.sig_demo.specs.Log.{demo_entries}
use Rattle.sig_json.proofs.Numerals.{digits_model}
use Rattle.sig_merkle.specs.Root.{root}
use Rattle.sig_rekor.specs.NoteText.{newline}
use Rattle.sig_program.specs.Demo.{IsDemoLogged, IsLine, demo_reply, demo_text, logged_start}
use Rattle.sig_reply.specs.declared.reply.Reply.{Reply}

-- the reply of this status and text
abbrev pub made : ℕ → List ℕ → Reply
made status text = record { status = status; text = text }

line-test : (text : List ℕ) → list_all (λ b. not (b == 10)) text ≡ true → (index : ℕ) → index < length text
    → get_or text index 0 ≢ 10
line-test [] passed index below = absurd (omega (arith, below))
line-test (b ∷ text) passed zero below =
    eqb-false b 10 (not-true (b == 10) (and_parts (not (b == 10)) (list_all (λ c. not (c == 10)) text) passed).0)
line-test (b ∷ text) passed (suc index) below =
    line-test text (and_parts (not (b == 10)) (list_all (λ c. not (c == 10)) text) passed).1 index (omega (arith, below))

line-append : (front back : List ℕ) → IsLine front → IsLine back → (index : ℕ) → index < length (front ++ back)
    → get_or (front ++ back) index 0 ≢ 10
line-append [] back first second index below = second index below
line-append (b ∷ front) back first second zero below = first 0 (omega arith)
line-append (b ∷ front) back first second (suc index) below =
    line-append front back (λ i short. first (suc i) (omega (arith, short))) second index (omega (arith, below))

line-decimal : (n : ℕ) → n < 2 ^ 64 → IsLine (decimal n)
line-decimal n small = not_in_digits digits_model (decimal n) 10 (digits_decimal digits_model n small) (λ within. absurd (omega (arith, within)))

pub line-logged : (count : ℕ) → count ≤ 4096 → IsLine (logged_start count)
line-logged count few =
    line-append (codes "logged ") _ (line-test (codes "logged ") refl)
    (line-append (decimal (count / 2)) _ (line-decimal (count / 2) (omega (arith, few)))
    (line-append (codes " ") _ (line-test (codes " ") refl) (line-decimal count (omega (arith, few)))))

text-lines : (D R I N : List ℕ) → codes "entries " ++ (D ++ (codes "\nroot " ++ (R ++ (codes "\n" ++
    ((codes "logged " ++ (I ++ (codes " " ++ N))) ++ codes "\n")))))
    ≡ (codes "entries " ++ (D ++ codes "\n")) ++ ((codes "root " ++ (R ++ codes "\n")) ++ (codes "logged " ++ (I ++
    (codes " " ++ (N ++ codes "\n")))))
text-lines D R I N =
    let L : List ℕ = codes "logged " ++ (I ++ (codes " " ++ (N ++ codes "\n"))) in
    let X : List ℕ = (codes "root " ++ (R ++ codes "\n")) ++ L in
    rw (
      append_assoc D (codes "\n") X,
      append_assoc R (codes "\n") L,
      append_assoc I (codes " " ++ N) (codes "\n"),
    ) refl

-- the reply over what `log` replied
pub reply_made : (count : ℕ) (top line text : List ℕ) (logged : Reply) → count ≤ 4096
    → top ≡ encode_lower (root (demo_entries count)) → IsDemoLogged count logged
    → ((first rest : List ℕ) → IsLine first → logged.text ≡ first ++ (newline ++ rest) → line ≡ first)
    → text ≡ codes "entries " ++ (decimal count ++ (codes "\nroot " ++ (top ++ (codes "\n" ++ (line ++ codes "\n")))))
    → made logged.status text ≡ demo_reply count
reply_made count top line text logged few root_is shows cut written =
    let last : line ≡ logged_start count = cut (logged_start count) shows.1.0 (line-logged count few) shows.1.1 in
    let text_is : text ≡ demo_text count =
    written ∙ ap (λ (l : List ℕ). codes "entries " ++ (decimal count ++ (codes "\nroot " ++ (top ++ (codes "\n" ++ (l ++
    codes "\n")))))) last
    ∙ ap (λ (t : List ℕ). codes "entries " ++ (decimal count ++ (codes "\nroot " ++ (t ++ (codes "\n" ++
    (logged_start count ++ codes "\n")))))) root_is
    ∙ text-lines (decimal count) (encode_lower (root (demo_entries count))) (decimal (count / 2)) (decimal count) in
    rw (shows.0, text_is) refl
