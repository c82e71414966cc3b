-- What is written is the struct.
use Rattle.sig_timestamp.proofs.StructLaws.{struct_of_result, only_struct_of_result}
use Rattle.sig_timestamp.proofs.signed.signed_bytes.Goals as goal

pub returns-clause-fields : goal.returns-clause-fields
returns-clause-fields c =
    struct_of_result (λ v. v.items) c.args.sct.now (λ bytes. c.signed_structs.ensures
    (record { body = c.requires.tbs; extensions = c.requires.extensions }) bytes) c.spell.result c.spell.ensures

pub returns-clause-only : goal.returns-clause-only
returns-clause-only c =
    only_struct_of_result (λ v. v.items) c.args.sct.now (λ bytes. c.signed_structs.ensures
    (record { body = c.requires.tbs; extensions = c.requires.extensions }) bytes) c.spell.result c.spell.ensures
