use Rattle.std.proofs.Common.{◌≡◌, ◌+◌, ◌<◌, ℕ, length, subst, sym, arith}
use Rattle.cfi_script.specs.TurnPlace.{ComesAfter}
use Rattle.cfi_script.proofs.TurnPlaces.{here, with_end}
use Rattle.cfi_script.proofs.cursor.turn_to.Goals as goal

pub returns-then-turns-next-gt0-clause-turn : goal.returns-then-turns-next-gt0-clause-turn
returns-then-turns-next-gt0-clause-turn c =
    let there : c.args.cursor.now.index < length c.args.turns.now = omega (arith, c.if-next-turns.true) in
    let after = c.requires.next there (omega (arith, c.if-step-cursor.true, c.if-step-lt18446744073709551615.true)) in
    let same : c.args.cursor.now.end ≡ c.args.step = omega (arith, c.if-step-cursor.true) in
    let begins = subst (λ (n : ℕ). ComesAfter c.args.turns.now (c.args.cursor.now.index + 1) n) same after in
    with_end c.args.turns.now (c.args.cursor.now.index + 1) c.args.step begins c.saturating_add-end.result c.if-next-turns.true
    (omega (arith, c.saturating_add-end.ensures)) (λ fits. omega (arith, fits, c.saturating_add-end.ensures))

pub returns-then-turns-next-gt0-clause-hart : goal.returns-then-turns-next-gt0-clause-hart
returns-then-turns-next-gt0-clause-hart c =
    let there : c.args.cursor.now.index < length c.args.turns.now = omega (arith, c.if-next-turns.true) in
    let after = c.requires.next there (omega (arith, c.if-step-cursor.true, c.if-step-lt18446744073709551615.true)) in
    let same : c.args.cursor.now.end ≡ c.args.step = omega (arith, c.if-step-cursor.true) in
    let begins = subst (λ (n : ℕ). ComesAfter c.args.turns.now (c.args.cursor.now.index + 1) n) same after in
    record {
      hart = sym (here c.args.turns.now (c.args.cursor.now.index + 1) c.args.step begins c.args.step (omega arith) c.if-next-turns.true (omega (arith, c.if-turns-next-gt0.true)));
      own = λ later from below.
          here c.args.turns.now (c.args.cursor.now.index + 1) c.args.step begins later from c.if-next-turns.true (omega (arith, from, below, c.saturating_add-end.ensures));
      more = λ fits. omega (arith, fits, c.saturating_add-end.ensures, c.if-turns-next-gt0.true);
    }
