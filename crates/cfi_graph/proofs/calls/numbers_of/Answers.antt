use Rattle.std.proofs.Common.{ℕ, List, Bor, Option, option_map, sym, ◌∙◌}
use Rattle.text_lines.specs.Lines.{parts_after}
use Rattle.rv_word.proofs.Cases.{unmapped}
use Rattle.cfi_graph.specs.Calls.{decimals_of, with_size}
use Rattle.cfi_graph.proofs.CallsNumbers.{bad_number, begins, next_told, no_number, one_more_told, told_large, told_none, told_small}
use Rattle.cfi_graph.proofs.calls.numbers_of.Goals as goal

abbrev found : Option (Bor (List ℕ)) → Option (List ℕ)
found words = decimals_of (parts_after 32 (option_map (λ (w : Bor (List ℕ)). w.now) words))

pub returns-in_err-number : goal.returns-in_err-number
returns-in_err-number c =
    rw c.from_residual.ensures (bad_number c.loop-left.numbers c.loop-left.is_large c.cut.ensures.parts (unmapped with_size _ (sym c.number_of.ensures.value ∙ c.in_err-number.was)) (rw c.in-Some.is at c.loop-left.invariant) ∙ begins (found c.args.words))

pub returns-then-len-eq-MOST_NUMBERS : goal.returns-then-len-eq-MOST_NUMBERS
returns-then-len-eq-MOST_NUMBERS c =
    one_more_told c.loop-left.numbers c.loop-left.is_large c.in_ok-number.number c.in_ok-number.large c.cut.ensures.parts (sym c.number_of.ensures.value ∙ c.in_ok-number.was) (sym c.len.ensures.value ∙ c.if-len-eq-MOST_NUMBERS.true) (rw c.in-Some.is at c.loop-left.invariant) ∙ begins (found c.args.words)

pub loop-left-preserved : goal.loop-left-preserved
loop-left-preserved c =
    rw c.push.ensures (next_told c.loop-left.numbers c.loop-left.is_large c.in_ok-number.number c.in_ok-number.large c.cut.ensures.parts (sym c.number_of.ensures.value ∙ c.in_ok-number.was) (rw c.in-Some.is at c.loop-left.invariant))

pub returns-then-len-eq0 : goal.returns-then-len-eq0
returns-then-len-eq0 c =
    sym (told_none c.loop-left.numbers c.loop-left.is_large (sym c.len-2.ensures.value ∙ c.if-len-eq0.true)) ∙ no_number c.loop-left.numbers c.loop-left.is_large (rw c.in_default.is at c.loop-left.invariant) ∙ begins (found c.args.words)

pub returns-then-is_large : goal.returns-then-is_large
returns-then-is_large c =
    sym (told_large c.loop-left.numbers c.loop-left.is_large c.if-is_large.true (λ e. c.if-len-eq0.false (c.len-2.ensures.value ∙ e)) c.len-2.ensures.most) ∙ no_number c.loop-left.numbers c.loop-left.is_large (rw c.in_default.is at c.loop-left.invariant) ∙ begins (found c.args.words)

pub returns : goal.returns
returns c =
    sym (told_small c.loop-left.numbers c.loop-left.is_large c.if-is_large.false (λ e. c.if-len-eq0.false (c.len-2.ensures.value ∙ e)) c.len-2.ensures.most) ∙ no_number c.loop-left.numbers c.loop-left.is_large (rw c.in_default.is at c.loop-left.invariant) ∙ begins (found c.args.words)
