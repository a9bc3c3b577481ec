use Rattle.std.proofs.Common.{◌≡◌, ◌+◌, ◌++◌, ◌∷◌, [], ℕ, Bool, List, length, length-append, ap, arith, ◌∙◌}
use Rattle.cfi_map.proofs.Prelude.{count, joined}
use Rattle.cfi_map.proofs.Placements.{flag_more, flags_all, joined_within}
use Rattle.cfi_map.proofs.spacing.whole_parts.Goals as goal

one_more : (b : Bool) (whole more : List Bool) (k : ℕ) → more ≡ whole ++ b ∷ [] → length whole ≡ k → length more ≡ k + 1
one_more b whole more k is len = ap length is ∙ length-append whole (b ∷ []) ∙ ap (λ n. n + 1) len

pub returns : goal.returns
returns c =
    flags_all (joined c.args.leads.now.program c.args.firsts.now c.args.placement.now.long) c.loop-k.whole.items c.loop-k.k (count c.args.leads.now.program)
    c.loop-k.invariant.len (omega (arith, c.count-k-end.ensures.value))
    (joined_within c.args.leads.now.program c.args.firsts.now c.args.placement.now.long c.requires) c.loop-k.invariant.each

pub loop-k-preserved : goal.loop-k-preserved
loop-k-preserved c =
    record {
      len = one_more c.is_whole.result c.loop-k.whole.items c.push.new.self.items c.loop-k.k c.in_ok-push.ensures.items c.loop-k.invariant.len;
      each = flag_more (joined c.args.leads.now.program c.args.firsts.now c.args.placement.now.long) c.loop-k.whole.items c.push.new.self.items c.loop-k.k c.is_whole.result
          c.loop-k.invariant.len c.loop-k.invariant.each c.is_whole.ensures c.in_ok-push.ensures.items;
    }
