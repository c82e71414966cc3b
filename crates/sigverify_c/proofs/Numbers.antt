-- Which numbers are a command's.
use Rattle.std.proofs.Common.{◌≢◌, ℕ, inl, inr}
use Rattle.sig_program.specs.declared.command.Command.TheVariants.{Log, Verify, Consistency, Audit, Witness, Gate}
use Rattle.sig_program.specs.declared.command.Command.TheVariants.{LogQuestions}
use Rattle.sig_program.specs.declared.command.Command.TheVariants.{VerifyQuestions, ConsistencyQuestions}
use Rattle.sig_program.specs.declared.command.Command.TheVariants.{AuditQuestions, WitnessQuestions, GateQuestions}
use Rattle.sig_program.specs.declared.explained.Explained.TheVariants as explained
use Rattle.sigverify_c.specs.Number.{IsNumber}

-- no others
pub no_others : (number : ℕ) → number ≢ 1 → number ≢ 2 → number ≢ 3 → number ≢ 4 → number ≢ 5 → number ≢ 6
    → number ≢ 257 → number ≢ 258 → number ≢ 259 → number ≢ 260 → number ≢ 261 → number ≢ 262
    → number ≢ 513 → number ≢ 514 → number ≢ 515 → number ≢ 516 → number ≢ 517 → number ≢ 518 → ¬ IsNumber number
no_others number a b c d e f g h i j k l m n o p q r (inl (Log, is)) = a is
no_others number a b c d e f g h i j k l m n o p q r (inl (Verify, is)) = b is
no_others number a b c d e f g h i j k l m n o p q r (inl (Consistency, is)) = c is
no_others number a b c d e f g h i j k l m n o p q r (inl (Audit, is)) = d is
no_others number a b c d e f g h i j k l m n o p q r (inl (Witness, is)) = e is
no_others number a b c d e f g h i j k l m n o p q r (inl (Gate, is)) = f is
no_others number a b c d e f g h i j k l m n o p q r (inl (LogQuestions, is)) = g is
no_others number a b c d e f g h i j k l m n o p q r (inl (VerifyQuestions, is)) = h is
no_others number a b c d e f g h i j k l m n o p q r (inl (ConsistencyQuestions, is)) = i is
no_others number a b c d e f g h i j k l m n o p q r (inl (AuditQuestions, is)) = j is
no_others number a b c d e f g h i j k l m n o p q r (inl (WitnessQuestions, is)) = k is
no_others number a b c d e f g h i j k l m n o p q r (inl (GateQuestions, is)) = l is
no_others number a b c d e f g h i j k l m n o p q r (inr (explained.Log, is)) = m is
no_others number a b c d e f g h i j k l m n o p q r (inr (explained.Verify, is)) = n is
no_others number a b c d e f g h i j k l m n o p q r (inr (explained.Consistency, is)) = o is
no_others number a b c d e f g h i j k l m n o p q r (inr (explained.Audit, is)) = p is
no_others number a b c d e f g h i j k l m n o p q r (inr (explained.Witness, is)) = q is
no_others number a b c d e f g h i j k l m n o p q r (inr (explained.Gate, is)) = r is

pub ruleset numbers = (no_others)
