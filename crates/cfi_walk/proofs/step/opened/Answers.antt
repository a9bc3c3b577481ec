use Rattle.std.proofs.Common.{◌≡◌, ◌∙◌, ap, refl, sym}
use Rattle.cfi_walk.proofs.Prelude.{CalleeSaves, OneLabel, TwoLabels, GraphParts}
use Rattle.cfi_walk.proofs.Openings.{callees_save, callers_save}
use Rattle.cfi_walk.proofs.step.opened.Goals as goal

pub returns-in-CalleeSaves : goal.returns-in-CalleeSaves
returns-in-CalleeSaves c =
    let version : c.args.checked.now.graph.version ≡ CalleeSaves =
    ap (λ (g : GraphParts). g.version) (sym c.graph.ensures.value) ∙ sym c.version.ensures ∙ c.in-CalleeSaves.is in
    rw (callees_save c.args.checked.now.image c.args.checked.now.graph version) (rw c.closing-closing.ensures at c.link.ensures)

pub returns-in-OneLabel : goal.returns-in-OneLabel
returns-in-OneLabel c =
    let version : c.args.checked.now.graph.version ≡ OneLabel =
    ap (λ (g : GraphParts). g.version) (sym c.graph.ensures.value) ∙ sym c.version.ensures ∙ c.in-OneLabel.is in
    rw (callers_save c.args.checked.now.image c.args.checked.now.graph OneLabel version refl) (rw c.closing-closing.ensures at c.call.ensures)

pub returns-in-TwoLabels : goal.returns-in-TwoLabels
returns-in-TwoLabels c =
    let version : c.args.checked.now.graph.version ≡ TwoLabels =
    ap (λ (g : GraphParts). g.version) (sym c.graph.ensures.value) ∙ sym c.version.ensures ∙ c.in-TwoLabels.is in
    rw (callers_save c.args.checked.now.image c.args.checked.now.graph TwoLabels version refl) (rw c.closing-closing.ensures at c.call-in-TwoLabels.ensures)
