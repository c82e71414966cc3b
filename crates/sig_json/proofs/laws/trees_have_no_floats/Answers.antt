use Rattle.sig_json.proofs.laws.trees_have_no_floats.Goals as goal

pub returns : goal.returns
returns c = record { document = λ document. document.without_float; view = λ json. json.without_float }
