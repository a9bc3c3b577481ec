use Rattle.std.proofs.Common.{◌∙◌, ◌+◌, ◌∷◌, [], ap, sym, arith, length, length-append}
use Rattle.rv_code.specs.State.{start_hart}
use Rattle.rv_machine.specs.Harts.{HartParts, resting_at}
use Rattle.std.proofs.Common.{List}
use Rattle.rv_machine.proofs.Harts.{resting_more}
use Rattle.rv_machine.proofs.machine.resting_harts.Goals as goal

pub loop-number-preserved : goal.loop-number-preserved
loop-number-preserved c =
    let grown = c.push_reserved.ensures.items in
    let old = c.loop-number.invariant in
    record {
      len = ap length grown ∙ length-append c.loop-number.harts.items (c.in_ok-new.field-0 ∷ []) ∙ ap (λ n. n + 1) old.len;
      room = omega (arith, c.push_reserved.ensures.capacity, old.room);
      start = ap (λ (harts : List HartParts). resting_at harts) grown
          ∙ resting_more c.loop-number.harts.items c.in_ok-new.field-0 old.start (c.in_ok-new.ensures ∙ ap start_hart (sym old.len));
    }
