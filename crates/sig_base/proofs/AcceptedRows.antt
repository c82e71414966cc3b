-- A table accepts a signature if and only if it has its row.
use Rattle.std.proofs.Common.{◌≡◌, ◌↔◌, ℕ, ◌==◌, Bool, true, cond, List, get_or, refl, sym, subst, ◌∙◌}
use Rattle.std.proofs.Common.{ap, nat_eq, arith}
use Rattle.std.specs.Prelude.{Any, Contains}
use Rattle.std.proofs.lemmas.Bool.{and_parts, eqb-true}
use Rattle.std.proofs.lemmas.List.Folds.{Any-from_list_any, list_any-from_Any}
use Rattle.std.proofs.lemmas.Slice.Eq.{bytes_eq-Decides}
use Rattle.sig_base.specs.declared.checker.Operation.{Operation}
use Rattle.sig_base.specs.declared.checker.Operation.TheVariants.{Message, Prehash, Point, Certificate}
use Rattle.sig_base.specs.declared.checker.AcceptedRow.{AcceptedRow}
use Rattle.sig_base.specs.Checker.{operation_code, matches, accepted}

operation_at : ℕ → Operation
operation_at n = cond (n == 0) Message (cond (n == 1) Prehash (cond (n == 2) Point Certificate))

operation_at-code : (operation : Operation) → operation_at (operation_code operation) ≡ operation
unfolding operation_at
operation_at-code Message = refl
operation_at-code Prehash = refl
operation_at-code Point = refl
operation_at-code Certificate = refl

pub same_operation : (a b : Operation) → operation_code a ≡ operation_code b → a ≡ b
same_operation a b e = sym (operation_at-code a) ∙ ap operation_at e ∙ operation_at-code b

abbrev pub as_row : Operation → List ℕ → List ℕ → List ℕ → List ℕ → AcceptedRow
as_row operation scheme key message signature =
    record { operation = operation; scheme = scheme; key = key; message = message; signature = signature }

-- a row matches if and only if it is the row of the five parts
matches-row : (operation : Operation) (scheme key message signature : List ℕ) (row : AcceptedRow)
    → matches operation scheme key message signature row ≡ true → row ≡ as_row operation scheme key message signature
matches-row operation scheme key message signature row e =
    let a = and_parts _ _ e in
    let b = and_parts _ _ a.1 in
    let c = and_parts _ _ b.1 in
    let d = and_parts _ _ c.1 in
    ap (λ o. as_row o row.scheme row.key row.message row.signature)
    (same_operation row.operation operation (eqb-true _ _ a.0))
    ∙ ap (λ s. as_row operation s row.key row.message row.signature) ((bytes_eq-Decides row.scheme scheme).0 b.0)
    ∙ ap (λ k. as_row operation scheme k row.message row.signature) ((bytes_eq-Decides row.key key).0 c.0)
    ∙ ap (λ m. as_row operation scheme key m row.signature) ((bytes_eq-Decides row.message message).0 d.0)
    ∙ ap (λ g. as_row operation scheme key message g) ((bytes_eq-Decides row.signature signature).0 d.1)

row-matches : (operation : Operation) (scheme key message signature : List ℕ)
    → matches operation scheme key message signature (as_row operation scheme key message signature) ≡ true
row-matches operation scheme key message signature =
    let o : nat_eq (operation_code operation) (operation_code operation) ≡ true = grind arith in
    let s = (bytes_eq-Decides scheme scheme).1 refl in
    let k = (bytes_eq-Decides key key).1 refl in
    let m = (bytes_eq-Decides message message).1 refl in
    let g = (bytes_eq-Decides signature signature).1 refl in
    rw (o, s, k, m, g) refl

pub accepted-rows : (rows : List AcceptedRow) (operation : Operation) (scheme key message signature : List ℕ)
    → (accepted rows operation scheme key message signature ≡ true)
    ↔ Contains rows (record {
      operation = operation;
      scheme = scheme;
      key = key;
      message = message;
      signature = signature;
    })
accepted-rows rows operation scheme key message signature =
    let test : AcceptedRow → Bool = matches operation scheme key message signature in
    let row = as_row operation scheme key message signature in (
      λ e. let some : Any (λ x. test x ≡ true) rows = Any-from_list_any test rows e in
          let same : some.1 ≡ row = matches-row operation scheme key message signature some.1 some.4 in
          let P : AcceptedRow → Type 0 = λ x. get_or rows some.0 x ≡ x in
          (some.0, some.2, subst P same some.3),
      λ held. list_any-from_Any test rows (
        held.0,
        row,
        held.1,
        held.2,
        row-matches operation scheme key message
            signature,
      ),
    )
