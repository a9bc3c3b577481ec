use Rattle.std.proofs.Common.{◌≡◌, ◌-◌, ℕ, List, [], ◌∷◌, ◌++◌, ◌∙◌, subst, sym, ap, length, drop, arith}
use Rattle.std.proofs.lemmas.List.{append-nil, append_assoc, length-drop, length_push, take_all}
use Rattle.rv_image.specs.MemoryMap.{profile_with}
use Rattle.cfi_scan.proofs.Pieces.{KeepsUnder, first_cut, moved, none_cut}
use Rattle.cfi_scan.proofs.kept.Kept.take_words.Goals as goal

-- one word more is read
pub loop-rest-preserved : goal.loop-rest-preserved
loop-rest-preserved g c =
    let before = c.loop-rest.invariant in
    let rest : List ℕ = c.loop-rest.rest.now in
    let word : ℕ = c.word_at.result in
    let room = c.in-len4-up.len_at_least in
    let all = take_all (length rest - 4) (drop 4 rest) (omega (arith, length-drop 4 rest)) in
    record {
      keeps = λ words more count cut earlier.
          let (done, (left, (joined, (index, (tail, kept))))) = before.keeps words more count cut earlier in
          let (others, (is, next)) = first_cut rest left room tail in (
            done ++ word ∷ [],
            (
              others,
              (
                joined ∙ ap (λ (ws : List ℕ). done ++ ws) (is ∙ ap (λ (w : ℕ). w ∷ others) (sym c.word_at.ensures)) ∙ sym (append_assoc done (word ∷ []) others),
                (
                  omega (arith, length_push done word, index),
                  (rw all next, moved c.take.ensures.front c.take.ensures.calls c.take.new.self (done ++ word ∷ []) (c.take.ensures.keeps done index kept)),
                ),
              ),
            ),
          );
      front = c.take.ensures.front ∙ before.front;
      calls = c.take.ensures.calls ∙ before.calls;
      room = c.take.ensures.room ∙ before.room;
      few = rw all (omega (arith, before.few, length-drop 4 rest, room));
      cost = rw all (omega (arith, before.cost, c.take.ensures.cost, length-drop 4 rest, room));
    }

pub returns-clause-keeps : goal.returns-clause-keeps
returns-clause-keeps g c words more count cut earlier =
    let before = c.loop-rest.invariant in
    let (done, (left, (joined, (index, (tail, kept))))) = before.keeps words more count cut earlier in
    let none : left ≡ [] = none_cut c.loop-rest.rest.now left c.in_default.len_below tail in
    subst (λ (ws : List ℕ). KeepsUnder (profile_with c.args.self.now.units.front) c.args.self.now.units.calls c.loop-rest.self ws)
    (sym (joined ∙ ap (λ (ws : List ℕ). done ++ ws) none ∙ append-nil done)) (moved (sym before.front) (sym before.calls) c.loop-rest.self done kept)
