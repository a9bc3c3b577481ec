use Rattle.std.proofs.Common.{◌≡◌, ◌≤◌, true, false, arith, sym}
use Rattle.cfi_graph.specs.Graph.{key_below, key_of}
use Rattle.cfi_rules.proofs.LineOrder.{after_middle, before_middle, same_unless, with_key, without_key}
use Rattle.cfi_starts.proofs.lines.line_with.Goals as goal

pub loop-low-preserved-then-is_below : goal.loop-low-preserved-then-is_below
loop-low-preserved-then-is_below c =
    let below : key_below (key_of c.line-line.result.now) c.args.key ≡ true = cc in
    record {
      within = c.loop-low.invariant.within;
      between = λ i x e k.
          let later = after_middle _ _ _ _ c.requires.ordered c.line-line.ensures below i x e k in
          let both = c.loop-low.invariant.between i x e k in
          (omega arith, both.1);
    }

pub loop-low-preserved : goal.loop-low-preserved
loop-low-preserved c =
    let below : key_below c.args.key (key_of c.line-line.result.now) ≡ true = cc in
    record {
      within = omega arith;
      between = λ i x e k.
          let earlier = before_middle _ _ _ _ c.requires.ordered c.line-line.ensures below i x e k in
          let both = c.loop-low.invariant.between i x e k in
          (both.0, earlier);
    }

pub returns-else-is_below-2 : goal.returns-else-is_below-2
returns-else-is_below-2 c =
    let not_below : key_below (key_of c.line-line.result.now) c.args.key ≡ false = cc in
    let not_above : key_below c.args.key (key_of c.line-line.result.now) ≡ false = cc in
    sym (with_key _ _ c.requires.ordered _ _ c.line-line.ensures (same_unless _ _ c.requires.exact not_below not_above))

pub returns : goal.returns
returns c =
    sym (without_key _ _ (λ i x e k.
    let both = c.loop-low.invariant.between i x e k in
    let none : c.loop-low.high ≤ c.loop-low.low = c.loop-low-test.false in
    absurd (omega arith)))
