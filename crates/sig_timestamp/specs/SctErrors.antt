-- The errors of SCTs, by those of keyrings.
use Rattle.sig_timestamp.specs.declared.keyring_error.KeyringError.{KeyringError}
use Rattle.sig_timestamp.specs.declared.keyring_error.KeyringError.TheVariants.{KeyMalformed, AlgoUnsupported}
use Rattle.sig_timestamp.specs.declared.keyring_error.KeyringError.TheVariants.{KeyNotFound, VerificationFailed}
use Rattle.sig_timestamp.specs.declared.keyring_error.KeyringError.TheVariants.{OutOfMemory as NoMemory}
use Rattle.sig_timestamp.specs.declared.sct_error.SCTError.{SCTError}
use Rattle.sig_timestamp.specs.declared.sct_error.SCTError.TheVariants.{Verification, OutOfMemory}

-- out of memory stays out of memory
abbrev pub of_keyring : KeyringError → SCTError
of_keyring KeyMalformed = Verification KeyMalformed
of_keyring AlgoUnsupported = Verification AlgoUnsupported
of_keyring KeyNotFound = Verification KeyNotFound
of_keyring VerificationFailed = Verification VerificationFailed
of_keyring NoMemory = OutOfMemory
