use Rattle.std.proofs.Common.{sym, ◌∙◌}
use Rattle.elf_bytes.proofs.Strings.{ended_at, none_before, none_anywhere}
use Rattle.elf_bytes.proofs.first_string.Goals as goal

pub returns-clause-ended : goal.returns-clause-ended
returns-clause-ended c = ended_at _ _ (sym c.nul_of.ensures ∙ c.in_ok-len.was)

pub returns-clause-without_nul : goal.returns-clause-without_nul
returns-clause-without_nul c = none_before _ _ (sym c.nul_of.ensures ∙ c.in_ok-len.was)

pub returns-in_err-len-clause-endless : goal.returns-in_err-len-clause-endless
returns-in_err-len-clause-endless c =
    rw c.from_residual.ensures (none_anywhere _ (sym c.nul_of.ensures ∙ c.in_err-len.was))
