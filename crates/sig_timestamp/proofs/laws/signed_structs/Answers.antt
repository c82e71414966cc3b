use Rattle.std.proofs.Common.{ℕ, List, sym, subst}
use Rattle.sig_timestamp.specs.SignedStruct.{IsSignedStruct}
use Rattle.sig_timestamp.proofs.StructLaws.{is_struct, struct_is}
use Rattle.sig_timestamp.proofs.laws.signed_structs.Goals as goal

pub returns : goal.returns
returns c = λ has bytes. (
  struct_is c.args.sct.now has c.fits_uint64.ensures c.is_hash.ensures bytes,
  λ e. subst (λ (w : List ℕ). IsSignedStruct c.args.sct.now w) (sym e)
      (is_struct c.args.sct.now has c.fits_uint64.ensures c.is_hash.ensures),
)
