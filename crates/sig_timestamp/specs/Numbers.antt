-- The numbers of RFC 6962, section 3.2, each as its grammar has it.
use Rattle.std.specs.Prelude.{ℕ}

-- enum { v1(0), (255) } Version;
abbrev pub v1 : ℕ
v1 = 0

-- enum { certificate_timestamp(0), tree_hash(1), (255) } SignatureType;
abbrev pub certificate_timestamp : ℕ
certificate_timestamp = 0

-- enum { x509_entry(0), precert_entry(1), (65535) } LogEntryType;
abbrev pub precert_entry : ℕ
precert_entry = 1

-- opaque key_id[32]; opaque issuer_key_hash[32];
abbrev pub hash_length : ℕ
hash_length = 32
