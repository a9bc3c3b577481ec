use Rattle.std.proofs.Common.{◌∙◌, ◌-◌, ◌/◌, ◌<◌, ◌^◌, ap, sym, take}
use Rattle.std.proofs.lemmas.List.Elements.{All-drop}
use Rattle.cfi_verify.proofs.Prelude.{CODE_START, recognised, code_words}
use Rattle.cfi_rules.proofs.Bytes.{are_words}
use Rattle.cfi_verify.proofs.Within.{unit_found, unit_missing, within}
use Rattle.cfi_verify.proofs.code.unit_of.Goals as goal

pub returns-in_err-unit : goal.returns-in_err-unit
returns-in_err-unit c =
    let seen = c.as_slice.ensures ∙ c.first_words-window.ensures ∙ ap (take 21) c.bytes_from.ensures in
    let words = All-drop (λ w. w < 2 ^ 32) ((c.args.address - CODE_START) / 4) (code_words c.args.code.now) (are_words c.args.code.now c.are_small.ensures) in
    c.from_residual.ensures
    ∙ sym (sym (ap (λ ws. recognised ws c.args.address) seen ∙ within _ c.args.address words) ∙ unit_missing _ c.in_err-unit.ensures.value)

pub returns : goal.returns
returns c =
    let seen = c.as_slice.ensures ∙ c.first_words-window.ensures ∙ ap (take 21) c.bytes_from.ensures in
    let words = All-drop (λ w. w < 2 ^ 32) ((c.args.address - CODE_START) / 4) (code_words c.args.code.now) (are_words c.args.code.now c.are_small.ensures) in
    sym (sym (ap (λ ws. recognised ws c.args.address) seen ∙ within _ c.args.address words) ∙ unit_found _ _ _ c.in_ok-unit.ensures.value)
