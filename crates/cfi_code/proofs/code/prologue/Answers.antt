use Rattle.std.proofs.Common.{◌+◌, ◌*◌, ◌++◌, ◌<◌, List, ℕ, length, map, arith, ap, subst, sym, ◌∙◌}
use Rattle.rv_image.specs.MemoryMap.{CODE_SIZE, CODE_START}
use Rattle.rv_code.specs.Encode.{code_of}
use Rattle.cfi_unit.specs.UnitWords.{Fits, words_of}
use Rattle.cfi_unit.specs.declared.unit.Unit as U
use Rattle.cfi_rules.specs.Split.{code_words}
use Rattle.cfi_code.specs.Prologue.{before_call, begins_with, call_with}
use Rattle.cfi_code.proofs.CodeWritten.{call_fits, call_inside, prologue_size, prologue_words}
use Rattle.cfi_code.proofs.code.prologue.Goals as goal

pub emit-requires-clause-place : goal.emit-requires-clause-place
emit-requires-clause-place c = subst (λ (at : ℕ). at < CODE_START + CODE_SIZE) (sym c.call_at.ensures) (call_inside c.args.versions)

pub emit-requires-clause-fits : goal.emit-requires-clause-fits
emit-requires-clause-fits c =
    subst (λ (at : ℕ). Fits c.call_unit-unit.result at) (sym c.call_at.ensures)
    (subst (λ (u : U.Unit). Fits u (begins_with c.args.versions)) (sym c.call_unit-unit.ensures) (call_fits c.args.versions c.args.entry c.requires))

pub returns-clause-words : goal.returns-clause-words
returns-clause-words c =
    let none = c.new-bytes.ensures.items in
    let first = c.in_ok-push_before_call.ensures.words in
    let second = c.in_ok-push_words.ensures.words in
    let third = c.in_ok-push_instrs.ensures.words in
    let call = c.deref.ensures.value in
    let closing = c.closing.ensures in
    prologue_words c.args.versions c.args.entry c.in_ok-call.call.items c.push_before_call.new.bytes.items c.push_words.new.bytes.items c.push_instrs.new.bytes.items
    (c.in_ok-call.ensures.words ∙ ap (λ (u : U.Unit). words_of u c.call_at.result) c.call_unit-unit.ensures ∙ ap (words_of (call_with c.args.versions c.args.entry)) c.call_at.ensures)
    (first ∙ ap (λ (bytes : List ℕ). code_words bytes ++ map code_of (before_call c.args.versions)) none)
    (second ∙ ap (λ (ws : List ℕ). code_words c.push_before_call.new.bytes.items ++ ws) call)
    (third ∙ ap (λ is. code_words c.push_words.new.bytes.items ++ map code_of is) closing)

pub returns-clause-size : goal.returns-clause-size
returns-clause-size c =
    let none = ap length c.new-bytes.ensures.items in
    let first = c.in_ok-push_before_call.ensures.size in
    let second = c.in_ok-push_words.ensures.size in
    let third = c.in_ok-push_instrs.ensures.size in
    let call = c.deref.ensures.value in
    let closing = c.closing.ensures in
    prologue_size c.args.versions c.args.entry c.in_ok-call.call.items c.push_before_call.new.bytes.items c.push_words.new.bytes.items c.push_instrs.new.bytes.items
    (c.in_ok-call.ensures.words ∙ ap (λ (u : U.Unit). words_of u c.call_at.result) c.call_unit-unit.ensures ∙ ap (words_of (call_with c.args.versions c.args.entry)) c.call_at.ensures)
    (omega arith)
    (second ∙ ap (λ (ws : List ℕ). length c.push_before_call.new.bytes.items + 4 * length ws) call)
    (third ∙ ap (λ is. length c.push_words.new.bytes.items + 4 * length is) closing)
