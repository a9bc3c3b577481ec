use Rattle.std.proofs.Common.{◌≡◌, ℕ, ◌-◌, ◌≤◌, List, [], ◌∷◌, ◌++◌, length, drop, sym, subst, arith}
use Rattle.std.proofs.lemmas.List.{drop-append-le, drop_all, length-drop, length_push}
use Rattle.rv_image.specs.MemoryMap.{profile_with}
use Rattle.cfi_scan.specs.Pieces.{prologue_count}
use Rattle.cfi_scan.specs.Stream.{Splits}
use Rattle.cfi_scan.proofs.Pieces.{keeps_after, keeps_prologue}
use Rattle.cfi_scan.proofs.kept.Kept.take.Goals as goal

pub returns-then-index-front-clause-keeps : goal.returns-then-index-front-clause-keeps
returns-then-index-front-clause-keeps g c words count keeps =
    let k = c.args.self.now in
    let low = c.if-index-front.true in
    let most : ℕ = prologue_count (profile_with k.units.front) in
    let front : c.words-front.result ≡ most = c.words-front.ensures.count in
    let longer = length_push words c.args.word in
    record {
      prologue_is = keeps_prologue most k.prologue words c.args.index c.args.word (omega (arith, c.words-front.ensures.most)) (omega (arith, front, low)) count keeps.prologue_is;
      split = λ room. rw (drop_all most (words ++ c.args.word ∷ []) (omega arith)) (rw (drop_all most words (omega arith)) at (keeps.split (rw (drop_all most words (omega arith)) (omega arith))));
    }

pub returns-then-index-front-2-clause-keeps : goal.returns-then-index-front-2-clause-keeps
returns-then-index-front-2-clause-keeps g c words count keeps =
    let k = c.args.self.now in
    let most : ℕ = prologue_count (profile_with k.units.front) in
    let front : c.words-front.result ≡ most = c.words-front.ensures.count in
    let high : most ≤ length words = omega (arith, front, count, c.if-index-front.false) in
    let past : length (drop most words) ≡ c.args.index - c.words-front.result = omega (arith, front, count, length-drop most words) in
    let next = c.take.new.self in
    record {
      prologue_is = keeps_after most k.prologue words c.args.word high keeps.prologue_is;
      split = λ room.
          let before : length (drop most words) ≤ length k.units.entries.items = omega (arith, past, c.if-index-front-2.true, c.len.ensures) in
          subst (λ (ws : List ℕ). Splits k.units.calls (profile_with k.units.front).units_from [] next.entries.items next.done next.last next.reader ws)
          (sym (drop-append-le most words (c.args.word ∷ []) high))
          (c.take.ensures.splits (drop most words) past (keeps.split before));
    }
