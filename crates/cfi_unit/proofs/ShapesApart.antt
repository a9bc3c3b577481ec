-- No words are as two shapes of the table say, since they determine the unit.
use Rattle.std.proofs.Common.{◌≡◌, sym, ap, ◌∙◌}
use Rattle.cfi_unit.specs.declared.unit.Unit as U
use Rattle.cfi_unit.specs.ShapeOf.{shape_of}
use Rattle.cfi_unit.specs.ShapeLaw.{ShapesApart}
use Rattle.cfi_unit.proofs.MadeUnits.{made}
use Rattle.cfi_unit.proofs.Splits.{words_determine}

pub apart : ShapesApart
apart r s words at among other small one two =
    let m = made r words at among small one in
    let n = made s words at other small two in
    let same : m.unit ≡ n.unit = words_determine m.unit n.unit at m.fits n.fits (m.words ∙ sym n.words) in
    sym m.shape_is ∙ ap (λ (u : U.Unit). shape_of u at) same ∙ n.shape_is
