-- The statuses of a run that wrote no reply, as sysexits.h numbers them.
use Rattle.std.specs.Prelude.{ℕ}

-- EX_USAGE: the words name no command
abbrev pub usage_status : ℕ
usage_status = 64

-- EX_OSERR: memory ran out
abbrev pub memory_status : ℕ
memory_status = 71

-- EX_IOERR: a read or a write failed
abbrev pub fault_status : ℕ
fault_status = 74
