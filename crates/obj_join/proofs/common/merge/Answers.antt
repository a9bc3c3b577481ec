use Rattle.std.proofs.Common.{◌≡◌, ◌<◌, ◌≤◌, ◌∙◌, length, refl, sym, ap, arith}
use Rattle.std.proofs.lemmas.List.{get_or_default}
use Rattle.obj_join.specs.Said.{SymbolSaid}
use Rattle.obj_join.specs.Symbols.{no_symbol, symbol}
use Rattle.obj_join.specs.Blocks.{is_block}
use Rattle.obj_join.specs.Numbers.{by}
use Rattle.obj_join.proofs.Merged.{outside, passed, put}
use Rattle.obj_join.proofs.common.merge.Goals.{else-is_block-via-then-is_block+else-into-len, else-is_block-via-else-is_block}
use Rattle.obj_join.proofs.common.merge.Goals as goal

pub returns-then-into-len : goal.returns-then-into-len
returns-then-into-len c =
    let below : by c.args.numbers.now c.args.number < length c.args.blocks.now.items = omega (arith, c.len.ensures, c.args.blocks.now.ok, c.if-into-len.true) in
    put (by c.args.numbers.now) c.args.symbols.now c.args.number _ c.args.blocks.now.items c.requires.so_far _ c.index-symbols-number.result c.index.result.now _ c.index.result.now
    (c.index-symbols-number.is ∙ get_or_default c.args.symbols.now c.args.number c.index-symbols-number.result no_symbol c.requires.below)
    (sym c.is_block.ensures ∙ c.if-is_block.true) refl below c.index.ensures c.greater.ensures

pub returns-else-is_block : goal.returns-else-is_block
returns-else-is_block c =
    let here : c.index-symbols-number.result ≡ symbol c.args.symbols.now c.args.number =
    c.index-symbols-number.is ∙ get_or_default c.args.symbols.now c.args.number c.index-symbols-number.result no_symbol c.requires.below in
    elim c.else-is_block.branch [
      | else-is_block-via-then-is_block+else-into-len w ↦
          let past : length c.args.blocks.now.items ≤ by c.args.numbers.now c.args.number = omega (arith, w.len.ensures, c.args.blocks.now.ok, w.if-into-len.false) in
          outside (by c.args.numbers.now) c.args.symbols.now c.args.number _ c.args.blocks.now.items c.requires.so_far _ refl past
      | else-is_block-via-else-is_block w ↦
          passed (by c.args.numbers.now) c.args.symbols.now c.args.number _ c.args.blocks.now.items c.requires.so_far
          (ap (λ (s : SymbolSaid). is_block s.standing) (sym here) ∙ sym c.is_block.ensures ∙ w.if-is_block.false)
    ]
