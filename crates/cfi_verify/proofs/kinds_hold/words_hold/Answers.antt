use Rattle.std.proofs.Common.{inl, inr, ◌≡◌, ℕ, arith, subst}
use Rattle.std.proofs.lemmas.Bool.{cases_order}
use Rattle.cfi_verify.proofs.Prelude.{Profile, profile_in, WordHolds}
use Rattle.cfi_starts.proofs.Laid.{laid_with}
use Rattle.cfi_starts.proofs.LeafLines.{none_past, past_later}
use Rattle.cfi_verify.proofs.KindPass.{calm_holds}
use Rattle.cfi_verify.proofs.kinds_hold.words_hold.Goals as goal

pub loop-index-init : goal.loop-index-init
loop-index-init c = record {
  within = c.next_lively-index.ensures.high;
  passed = none_past _ _;
  holds = λ k less. calm_holds (profile_in c.args.starts.now) (laid_with c.args.starts.now.listing.versions) c.args.starts.now.listing c.args.starts.now.graph k c.requires (c.next_lively-index.ensures.calm k (omega arith) less);
}

pub loop-index-preserved : goal.loop-index-preserved
loop-index-preserved c =
    let p : Profile = profile_in c.args.starts.now in
    let at = c.units_from-start.ensures.at in
    record {
      within = c.next_lively-index-in-loop-index.ensures.high;
      passed = past_later _ c.spot_from-here.result.line c.spot_from-here.result.address _ (omega (arith, at, c.spot_from-here.ensures.here, c.next_lively-index-in-loop-index.ensures.low)) c.spot_from-here.ensures.stands.line;
      holds = λ k less.
          elim (cases_order k c.loop-index.index) [
            | inl same ↦
                let here : c.loop-index.index ≡ k = omega (arith, same) in
                subst (λ (j : ℕ). WordHolds p c.args.starts.now.listing c.args.starts.now.graph j) here (c.word_holds.ensures c.if-not-word_holds.false)
            | inr (inl before) ↦ c.loop-index.invariant.holds k before
            | inr (inr after) ↦
                calm_holds p (laid_with c.args.starts.now.listing.versions) c.args.starts.now.listing c.args.starts.now.graph k c.requires (c.next_lively-index-in-loop-index.ensures.calm k (omega (arith, after)) less)
          ];
    }
