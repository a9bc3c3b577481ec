use Rattle.std.proofs.Common.{◌≡◌, ◌∙◌, ◌++◌, ◌∷◌, [], ◌+◌, ◌-◌, ◌*◌, List, ℕ, length, ap, arith, subst, sym}
use Rattle.std.proofs.lemmas.List.{length-append}
use Rattle.cfi_unit.specs.Recognise.{number_in, numbers_in, read_each}
use Rattle.cfi_emit.proofs.ReadEach.{read_end, read_on, read_stop}
use Rattle.cfi_emit.proofs.recogniser.numbers_tested.Goals as goal

pub returns-in-None : goal.returns-in-None
returns-in-None c =
    let ws = c.args.words.now in
    let k = c.loop-index.index in
    read_stop number_in 2 ws c.loop-index.numbers (numbers_in ws) (2 * k) (8 - k) c.loop-index.invariant.read (8 - (k + 1))
    (omega (arith, c.loop-index-test.true)) (ap number_in (sym c.instr.ensures) ∙ sym c.number.ensures.value ∙ c.in-None.is)

pub loop-index-preserved : goal.loop-index-preserved
loop-index-preserved c =
    let ws = c.args.words.now in
    let k = c.loop-index.index in
    let more =
    read_on number_in 2 ws c.loop-index.numbers (numbers_in ws) (2 * k) (8 - k) c.loop-index.invariant.read c.in-Some.number (2 * (k + 1)) (8 - (k + 1))
    (omega arith) (omega (arith, c.loop-index-test.true)) (ap number_in (sym c.instr.ensures) ∙ sym c.number.ensures.value ∙ c.in-Some.is) in
    let longer : length c.push.new.self ≡ length c.loop-index.numbers + 1 =
    ap length c.push.ensures ∙ length-append c.loop-index.numbers (c.in-Some.number ∷ []) in
    record {
      read = subst (λ (l : List ℕ). l ++ read_each number_in 2 ws (2 * (k + 1)) (8 - (k + 1)) ≡ numbers_in ws) (sym c.push.ensures) more;
      counted = omega (arith, longer, c.loop-index.invariant.counted);
      few = omega (arith, c.loop-index-test.true);
    }

pub returns : goal.returns
returns c =
    let ws = c.args.words.now in
    let k = c.loop-index.index in
    read_end number_in 2 ws c.loop-index.numbers (numbers_in ws) (2 * k) (8 - k) c.loop-index.invariant.read (omega (arith, c.loop-index-test.false))
