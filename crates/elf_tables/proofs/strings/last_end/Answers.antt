use Rattle.std.proofs.Common.{◌≡◌, ◌≤◌, ◌∙◌, ap, get_or, arith, below_more}
use Rattle.elf_tables.proofs.Endings.{last_end_is}
use Rattle.elf_tables.proofs.strings.last_end.Goals as goal
use Rattle.elf_tables.proofs.strings.last_end.Goals.{then-b-eq0, else-b-eq0}

pub returns : goal.returns
returns c = last_end_is _ _ c.loop-i.invariant.nul (λ k past below. c.loop-i.invariant.none k past (omega arith))

pub loop-i-preserved : goal.loop-i-preserved
loop-i-preserved c = elim c.if-b-eq0.branch [
  | then-b-eq0 w ↦ record {
    nul = λ k e. let here : k ≡ c.loop-i.i = omega arith in (omega arith, ap (λ j. get_or c.args.bytes.now j 0) here ∙ w.if-b-eq0.true);
    none = λ k past below. absurd (omega arith);
  }
  | else-b-eq0 w ↦ record {
    nul = λ k e. c.loop-i.invariant.nul k (e ∙ w.end-is);
    none = λ k past below. below_more (λ j. c.loop-i.end ≤ j → get_or c.args.bytes.now j 0 ≡ 0 → ⊥) c.loop-i.i (λ j less more. c.loop-i.invariant.none j more less) (λ _. w.if-b-eq0.false) k below (omega arith);
  }
]
