use Rattle.std.proofs.Common.{◌+◌, ◌*◌, ◌∷◌, ◌≡◌, [], ap, ◌∙◌, arith, length}
use Rattle.std.specs.Prelude.{is_some}
use Rattle.std.proofs.lemmas.List.{length-append}
use Rattle.cfi_rules.specs.Rules.{pair_profile}
use Rattle.rv_image.specs.Image.{Contents}
use Rattle.rv_image.specs.MemoryMap.{CODE_START}
use Rattle.cfi_rules.specs.Split.{code_words, place_at}
use Rattle.cfi_rules.proofs.Bytes.{length-code_words}
use Rattle.cfi_step.proofs.Started.{one_more}
use Rattle.cfi_step.proofs.starts.Starts.of.Goals as goal

pub loop-k-preserved : goal.loop-k-preserved
loop-k-preserved c =
    let image = c.args.checked.now.image in
    let grown = c.in_ok-push.ensures.items in
    let old = c.loop-k.invariant in
    record {
      count = ap length grown ∙ length-append c.loop-k.words.items (c.is_place.result ∷ []) ∙ ap (λ n. n + 1) old.count;
      starts = one_more (λ j. is_some (place_at (pair_profile image c.args.checked.now.graph) (code_words image.code) (CODE_START + 4 * j))) c.loop-k.words.items _ c.loop-k.k c.is_place.result grown old.count
          c.is_place.ensures old.starts;
    }

pub returns : goal.returns
returns c =
    let image = c.args.checked.now.image in
    let same : c.code.result.now ≡ image.code = c.code.ensures.value ∙ ap (λ (i : Contents). i.code) c.image.ensures.value in
    let size = c.code.ensures.size in
    let words = length-code_words image.code (omega (arith, ap (λ (i : Contents). length i.code) c.image.ensures.value, size.words)) in
    record { all = omega (arith, words, c.loop-k.invariant.count, ap (λ xs. length xs) same, c.loop-k-test.false); each = c.loop-k.invariant.starts }
