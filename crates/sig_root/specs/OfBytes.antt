-- What of a trusted root is bytes.
use Rattle.std.specs.Prelude.{◌≡◌, ℕ, List, Some}
use Rattle.sig_base.specs.ByteLists.{AreBytes}
use Rattle.sig_root.specs.declared.record.PublicKey.{PublicKey}
use Rattle.sig_root.specs.declared.record.TransparencyLogInstance.{TransparencyLogInstance}

-- the key of a log's instance is bytes
abbrev pub HasRawBytes : TransparencyLogInstance → Type 0
HasRawBytes instance =
    (key : PublicKey) (raw : List ℕ) → instance.public_key ≡ Some key → key.raw_bytes ≡ Some raw → AreBytes raw

-- the id of a log's instance is bytes
abbrev pub HasIdOfBytes : TransparencyLogInstance → Type 0
HasIdOfBytes instance = (id : List ℕ) → instance.log_id ≡ Some id → AreBytes id
