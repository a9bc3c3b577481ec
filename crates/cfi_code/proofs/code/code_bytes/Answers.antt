use Rattle.std.proofs.Common.{◌≡◌, ◌+◌, ◌*◌, ◌++◌, List, ℕ, length, arith, ap, ◌∙◌, sym, subst, drop, [], ◌∷◌}
use Rattle.std.proofs.Math.ListN.{drop_of_length-le}
use Rattle.rv_image.specs.MemoryMap.{CODE_START, profile_with}
use Rattle.cfi_unit.specs.UnitWords.{Fits, words_of}
use Rattle.cfi_unit.specs.declared.unit.Unit as U
use Rattle.cfi_rules.specs.Placed.{placed_code}
use Rattle.cfi_rules.specs.Split.{code_words}
use Rattle.cfi_code.proofs.CodeWritten.{IsWritten, all_written, first_written, next_fits, next_inside, next_is, next_written}
use Rattle.cfi_code.proofs.code.code_bytes.Goals as goal

pub emit-requires-clause-place : goal.emit-requires-clause-place
emit-requires-clause-place c =
    let whole = placed_code (profile_with c.args.versions) c.args.entry c.args.units.now in
    let left = next_is c.args.units.now c.loop-unit.unit-index c.unit-item.result c.loop-unit-test.true (sym c.unit-item.is) in
    let written : IsWritten whole (c.unit-item.result ∷ drop (c.loop-unit.unit-index + 1) c.args.units.now) c.loop-unit.bytes.items =
    subst (λ (us : List U.Unit). IsWritten whole us c.loop-unit.bytes.items) left c.loop-unit.invariant in
    let inside = next_inside whole c.unit-item.result (drop (c.loop-unit.unit-index + 1) c.args.units.now) c.loop-unit.bytes.items written c.requires.room in
    let len = c.len.ensures in
    omega arith

pub emit-requires-clause-fits : goal.emit-requires-clause-fits
emit-requires-clause-fits c =
    let whole = placed_code (profile_with c.args.versions) c.args.entry c.args.units.now in
    let left = next_is c.args.units.now c.loop-unit.unit-index c.unit-item.result c.loop-unit-test.true (sym c.unit-item.is) in
    let written : IsWritten whole (c.unit-item.result ∷ drop (c.loop-unit.unit-index + 1) c.args.units.now) c.loop-unit.bytes.items =
    subst (λ (us : List U.Unit). IsWritten whole us c.loop-unit.bytes.items) left c.loop-unit.invariant in
    let len : length c.loop-unit.bytes.items ≡ c.len.result = omega arith in
    subst (λ n. Fits c.unit-item.result (CODE_START + n)) len
    (next_fits whole c.unit-item.result (drop (c.loop-unit.unit-index + 1) c.args.units.now) c.loop-unit.bytes.items written)

pub loop-unit-preserved : goal.loop-unit-preserved
loop-unit-preserved c =
    let whole = placed_code (profile_with c.args.versions) c.args.entry c.args.units.now in
    let left = next_is c.args.units.now c.loop-unit.unit-index c.unit-item.result c.loop-unit-test.true (sym c.unit-item.is) in
    let written : IsWritten whole (c.unit-item.result ∷ drop (c.loop-unit.unit-index + 1) c.args.units.now) c.loop-unit.bytes.items =
    subst (λ (us : List U.Unit). IsWritten whole us c.loop-unit.bytes.items) left c.loop-unit.invariant in
    let len : c.len.result ≡ length c.loop-unit.bytes.items = omega arith in
    next_written whole c.unit-item.result (drop (c.loop-unit.unit-index + 1) c.args.units.now) c.loop-unit.bytes.items
    c.in_ok-words.words.items c.push_words.new.bytes.items written
    (c.in_ok-words.ensures.words ∙ ap (λ n. words_of c.unit-item.result (CODE_START + n)) len)
    (c.in_ok-push_words.ensures.words ∙ ap (λ (ws : List ℕ). code_words c.loop-unit.bytes.items ++ ws) c.deref.ensures.value)
    (c.in_ok-push_words.ensures.size ∙ ap (λ (ws : List ℕ). length c.loop-unit.bytes.items + 4 * length ws) c.deref.ensures.value)

pub returns-clause-words : goal.returns-clause-words
returns-clause-words c =
    let whole = placed_code (profile_with c.args.versions) c.args.entry c.args.units.now in
    let none : drop c.loop-unit.unit-index c.args.units.now ≡ [] = drop_of_length-le c.args.units.now c.loop-unit-test.false in
    let written : IsWritten whole [] c.loop-unit.bytes.items = subst (λ (us : List U.Unit). IsWritten whole us c.loop-unit.bytes.items) none c.loop-unit.invariant in
    (all_written whole c.loop-unit.bytes.items written).0

pub returns-clause-size : goal.returns-clause-size
returns-clause-size c =
    let whole = placed_code (profile_with c.args.versions) c.args.entry c.args.units.now in
    let none : drop c.loop-unit.unit-index c.args.units.now ≡ [] = drop_of_length-le c.args.units.now c.loop-unit-test.false in
    let written : IsWritten whole [] c.loop-unit.bytes.items = subst (λ (us : List U.Unit). IsWritten whole us c.loop-unit.bytes.items) none c.loop-unit.invariant in
    (all_written whole c.loop-unit.bytes.items written).1

pub loop-unit-init : goal.loop-unit-init
loop-unit-init c = first_written c.args.versions c.args.entry c.args.units.now c.in_ok-bytes.bytes.items c.in_ok-bytes.ensures.words c.in_ok-bytes.ensures.size c.requires.fit
