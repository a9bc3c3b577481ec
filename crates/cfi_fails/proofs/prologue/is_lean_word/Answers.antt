use Rattle.std.proofs.Common.{◌∙◌, ap, get_or-set_other, sym}
use Rattle.rv_image.specs.declared.version.ImageVersion.{ImageVersion}
use Rattle.rv_image.specs.MemoryMap.{lean_profile_of, lean_version_1, lean_version_2}
use Rattle.rv_code.specs.Encode.{code_of}
use Rattle.cfi_rules.specs.Rules.{prologue_word_fits, prologue_words}
use Rattle.cfi_fails.specs.declared.prologue.TheConstants as table
use Rattle.cfi_fails.proofs.AnyCall.{same_fits}
use Rattle.cfi_fails.proofs.prologue.is_lean_word.Goals as goal

-- the table is the prologue's words but for the one at 8
pub returns-in-OneHart : goal.returns-in-OneHart
unfolding code_of
returns-in-OneHart c =
    c.fits_table.ensures
    ∙ same_fits table.LEAN_PROLOGUE (prologue_words lean_version_1) 8 c.args.index c.args.word (get_or-set_other (prologue_words lean_version_1) 8 c.args.index 0x00c000ef 0)
    ∙ ap (λ (v : ImageVersion). prologue_word_fits (lean_profile_of v) c.args.index c.args.word) (sym c.in-OneHart.is)

-- and here but for the one at 12
pub returns-in-EightHarts : goal.returns-in-EightHarts
unfolding code_of
returns-in-EightHarts c =
    c.fits_table-in-EightHarts.ensures
    ∙ same_fits table.LEAN_PROLOGUE_OF_HARTS (prologue_words lean_version_2) 12 c.args.index c.args.word (get_or-set_other (prologue_words lean_version_2) 12 c.args.index 0x00c000ef 0)
    ∙ ap (λ (v : ImageVersion). prologue_word_fits (lean_profile_of v) c.args.index c.args.word) (sym c.in-EightHarts.is)
