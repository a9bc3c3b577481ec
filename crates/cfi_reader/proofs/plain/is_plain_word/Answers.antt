use Rattle.std.proofs.Common.{◌≡◌, ℕ, ◌+◌, ◌*◌, ◌/◌, ◌%◌, ◌^◌, ◌∙◌, sym, ap, arith, get_or, bit_and}
use Rattle.std.proofs.lemmas.Nat.{and_mask}
use Rattle.cfi_reader.specs.PlainWord.{is_ordinary}
use Rattle.cfi_reader.specs.declared.plain.TheConstants as table
use Rattle.cfi_reader.proofs.PlainWord.{plain_word}
use Rattle.cfi_reader.proofs.plain.is_plain_word.Goals as goal

-- src/plain.rt:36:1
pub returns-then-unset-asked-eq0 : goal.returns-then-unset-asked-eq0
returns-then-unset-asked-eq0 c named =
    let w : ℕ = c.args.word in
    let row : bit_and (w / 2 ^ 2) 0xf ≡ w / 2 ^ 2 % 2 ^ 4 = and_mask (w / 2 ^ 2) 4 in
    let column : bit_and (w / 2 ^ 12) 7 ≡ w / 2 ^ 12 % 2 ^ 3 = and_mask (w / 2 ^ 12) 3 in
    let register : bit_and (w / 2 ^ 7) 0x1f ≡ w / 2 ^ 7 % 2 ^ 5 = and_mask (w / 2 ^ 7) 5 in
    let low : w % 2 ^ 2 ≡ 3 = sym (and_mask w 2) ∙ c.if-word-eq3.true in
    let high : w / 2 ^ 6 % 2 ^ 1 ≡ 0 = sym (and_mask (w / 2 ^ 6) 1) ∙ c.if-word-eq0.true in
    plain_word w c.unset.result (omega (arith, c.ranges.word.fits)) (omega (arith, low)) (omega (arith, high))
    (c.unset.ensures ∙ ap (λ (n : ℕ). get_or table.UNSET (8 * n + bit_and (w / 2 ^ 12) 7) 0) row ∙ ap (λ (n : ℕ). get_or table.UNSET (8 * (w / 2 ^ 2 % 2 ^ 4) + n) 0) column)
    c.if-unset-asked-eq0.true
    (ap (λ (n : ℕ). is_ordinary n) (sym register) ∙ sym c.is_ordinary.ensures ∙ named)
