-- Heads whose hashes are of 32 bytes, as those of SHA-256 are.
use Rattle.std.specs.Prelude.{◌∷◌, List}
use Rattle.std.specs.List.{AllByRecursion}
use Rattle.sig_merkle.specs.HashedText.{AreHashes}
use Rattle.sig_audit.specs.declared.chain.ChainHead.{ChainHead}

abbrev pub AreSizedHeads : List ChainHead → Type 0
AreSizedHeads heads = AllByRecursion (λ (head : ChainHead). AreHashes (head.hash ∷ head.hashes)) heads
