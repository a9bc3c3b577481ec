use Rattle.std.proofs.Common.{◌<◌, ◌∙◌, ◌∷◌, [], length, length-append, sym, arith}
use Rattle.std.proofs.lemmas.Bool.{eqb-true}
use Rattle.cfi_verify.proofs.WordList.{first_full, first_short, not_full, word_more, word_none}
use Rattle.cfi_verify.proofs.code.first_words.Goals as goal

pub returns-then-is_full : goal.returns-then-is_full
returns-then-is_full c =
    first_full _ _ _ (eqb-true _ _ (sym c.is_full.ensures ∙ c.if-is_full.true)) c.loop-rest.invariant.0

pub loop-rest-preserved : goal.loop-rest-preserved
loop-rest-preserved c =
    let most = c.loop-rest.invariant.1 in
    let below : length c.loop-rest.window < 21 = not_full _ (sym c.is_full.ensures ∙ c.if-is_full.false) most in
    let sum = length-append c.loop-rest.window (c.from_le_bytes.result ∷ []) in
    rw c.push.ensures (
      word_more c.loop-rest.window c.loop-rest.rest.now _ c.from_le_bytes.result c.in-len4-up.len_at_least c.from_le_bytes.ensures c.loop-rest.invariant.0,
      omega (arith, sum),
    )

pub returns : goal.returns
returns c = first_short _ _ c.loop-rest.invariant.1 (word_none _ _ _ c.in_default.len_below c.loop-rest.invariant.0)
