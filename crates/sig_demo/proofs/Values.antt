-- Values that are read back: hashes.
use Rattle.std.proofs.Common.{◌≡◌, ℕ, List, length, refl}
use Rattle.hex.proofs.HexLemmas.{decode_sized-encode_lower}
use Rattle.hex.specs.Hex.{IsBytes}
use Rattle.sig_json.specs.Writing.{IsReadAs}
use Rattle.sig_json.specs.Kinds.{hash_of}
use Rattle.sig_demo.specs.Request.{hash_tree}

pub hash_back : (hash : List ℕ) → length hash ≡ 32 → IsBytes hash → IsReadAs hash_of (hash_tree hash) hash
unfolding hash_of
hash_back hash size bytes = (rw (decode_sized-encode_lower hash 32 size bytes) refl, refl)

pub ruleset values = (hash_back)
