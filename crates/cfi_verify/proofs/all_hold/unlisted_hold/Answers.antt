use Rattle.std.proofs.Common.{inl, inr, ◌≡◌, ◌+◌, ◌*◌, ℕ, arith, subst}
use Rattle.std.proofs.lemmas.Bool.{cases_lt}
use Rattle.cfi_verify.proofs.Prelude.{Profile, HoldsAt, profile_in}
use Rattle.cfi_starts.proofs.Laid.{laid_with}
use Rattle.cfi_verify.proofs.OnePass.{quiet_holds}
use Rattle.cfi_verify.proofs.all_hold.unlisted_hold.Goals as goal

pub loop-index-preserved-then-index-to : goal.loop-index-preserved-then-index-to
loop-index-preserved-then-index-to c =
    let p : Profile = profile_in c.args.starts.now in
    record {
      low = omega (arith, c.loop-index.invariant.low, c.next_busy-index.ensures.low);
      holds = λ k from less.
          elim (cases_lt k c.loop-index.index) [
            | inl before ↦ c.loop-index.invariant.holds k from before
            | inr later ↦ elim (cases_lt k c.next_busy-index.result) [
              | inl passed ↦
                  quiet_holds p (laid_with c.args.starts.now.listing.versions) c.args.starts.now.listing c.args.starts.now.graph (p.units_from + 4 * k) (omega arith)
                  (c.next_busy-index.ensures.quiet k later passed) (c.requires.unlisted k from (omega (arith, passed, c.next_busy-index.ensures.high)))
              | inr last ↦
                  let same : c.next_busy-index.result ≡ k = omega (arith, last, less) in
                  subst (λ (j : ℕ). HoldsAt p c.args.starts.now.listing c.args.starts.now.graph (p.units_from + 4 * j)) same (c.unlisted_holds.ensures c.if-not-unlisted_holds.false)
            ]
          ];
    }
