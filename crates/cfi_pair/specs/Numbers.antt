-- The numbers by which C is told what is said of two texts.
use Rattle.std.specs.Prelude.{ℕ, Result, Ok, Err}
use Rattle.elf_image.specs.declared.refusal.ImageRefusal.TheVariants as faults
use Rattle.text_lines.specs.declared.reason.Reason as reasons
use Rattle.text_lines.specs.declared.reason.Reason.TheVariants as reason
use Rattle.cfi_rules.specs.declared.reject.Reject.TheVariants as rejects
use Rattle.cfi_rules.specs.declared.reject.Rule as rules
use Rattle.cfi_rules.specs.declared.reject.Rule.TheVariants as R
use Rattle.cfi_pair.specs.declared.judging.Verdict.{Verdict}
use Rattle.cfi_pair.specs.declared.judging.Verdict.TheVariants.{Accepted, Rejected}
use Rattle.rv_word.specs.declared.end.End.{End}
use Rattle.cfi_pair.specs.declared.opening.PairFault.{PairFault}
use Rattle.rv_word.specs.declared.end.End.TheVariants.{Fault, NoMemory}
use Rattle.cfi_pair.specs.declared.opening.PairFault.TheVariants.{Image, Graph}
use Rattle.cfi_pair.specs.declared.verdict.RvcfiVerdict.{RvcfiVerdict}

-- the numbers of a verdict
abbrev pub numbers : ℕ → ℕ → ℕ → ℕ → RvcfiVerdict
numbers outcome reason first second = record { outcome = outcome; reason = reason; first = first; second = second }

abbrev pub reason_number : reasons.Reason → ℕ
reason_number reason.Form = 1
reason_number reason.Range = 2
reason_number reason.Order = 3

-- the rules that have an address, after 1 for `Length`; the last to come has the last number
abbrev pub rule_number : rules.Rule → ℕ
rule_number R.Prologue = 2
rule_number R.Unit = 3
rule_number R.Target = 4
rule_number R.Unlisted = 5
rule_number R.Unused = 6
rule_number R.Site = 7
rule_number R.Gate = 8
rule_number R.Astray = 9
rule_number R.End = 10
rule_number R.Leaf = 11

abbrev pub verdict_of : Result Verdict (End PairFault) → RvcfiVerdict
verdict_of (Ok Accepted) = numbers 0 0 0 0
verdict_of (Ok (Rejected (rejects.Length code graph))) = numbers 3 1 code graph
verdict_of (Ok (Rejected (rejects.At rule address))) = numbers 3 (rule_number rule) address 0
verdict_of (Err (Fault (Image (faults.Short len)))) = numbers 1 1 len 0
verdict_of (Err (Fault (Image (faults.Byte offset)))) = numbers 1 2 offset 0
verdict_of (Err (Fault (Image (faults.Long len)))) = numbers 1 3 len 0
verdict_of (Err (Fault (Graph line why))) = numbers 2 (reason_number why) line 0
verdict_of (Err NoMemory) = numbers 4 0 0 0
