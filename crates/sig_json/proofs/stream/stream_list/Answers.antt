use Rattle.std.proofs.Common.{◌≡◌, ◌∷◌, ap, ◌∙◌, arith}
use Rattle.json.specs.Reads.{token_of}
use Rattle.sig_json.proofs.StreamedLists.{list_other}
use Rattle.sig_json.proofs.Tokens.{array_too_deep}
use Rattle.sig_json.proofs.stream.stream_list.Goals as goal

pub returns-then-depth-eq0-clause-err : goal.returns-then-depth-eq0-clause-err
returns-then-depth-eq0-clause-err g c refused =
    let first : c.args.reader.now ≡ token_of c.in-Some.token ∷ c.next.new.self = c.in-Some.ensures.value in
    array_too_deep _ _ _ (omega arith) (first ∙ ap (λ k. token_of k ∷ c.next.new.self) c.in-BeginArray.is)

pub returns-in_ok-float-in_default-token : goal.returns-in_ok-float-in_default-token
returns-in_ok-float-in_default-token g c =
    let first : c.args.reader.now ≡ token_of c.in-Some.token ∷ c.next.new.self = c.in-Some.ensures.value in
    let passed = c.in_ok-float-in_default-token.ensures in
    record {
      ok = list_other _ _ _ c.in-Some.token _ _ _ c.in_default-token.not-BeginArray c.in_default-token.not-Null first
          passed.ok;
      err = λ never. absurd cc;
      shorter = rw first passed.no_longer;
    }
