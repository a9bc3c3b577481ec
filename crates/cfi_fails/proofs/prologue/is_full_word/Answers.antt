use Rattle.std.proofs.Common.{◌∙◌, ap, get_or-set_other, sym}
use Rattle.rv_image.specs.declared.version.ImageVersion.{ImageVersion}
use Rattle.rv_image.specs.MemoryMap.{profile_of, version_1, version_2}
use Rattle.rv_code.specs.Encode.{code_of}
use Rattle.cfi_rules.specs.Rules.{prologue_word_fits, prologue_words}
use Rattle.cfi_fails.specs.declared.prologue.TheConstants as table
use Rattle.cfi_fails.proofs.AnyCall.{same_fits}
use Rattle.cfi_fails.proofs.prologue.is_full_word.Goals as goal

-- the table is the prologue's words but for the one at 13
pub returns-in-OneHart : goal.returns-in-OneHart
unfolding code_of
returns-in-OneHart c =
    c.fits_table.ensures
    ∙ same_fits table.PROLOGUE (prologue_words version_1) 13 c.args.index c.args.word (get_or-set_other (prologue_words version_1) 13 c.args.index 0x00c000ef 0)
    ∙ ap (λ (v : ImageVersion). prologue_word_fits (profile_of v) c.args.index c.args.word) (sym c.in-OneHart.is)

-- and here but for the one at 17
pub returns-in-EightHarts : goal.returns-in-EightHarts
unfolding code_of
returns-in-EightHarts c =
    c.fits_table-in-EightHarts.ensures
    ∙ same_fits table.PROLOGUE_OF_HARTS (prologue_words version_2) 17 c.args.index c.args.word (get_or-set_other (prologue_words version_2) 17 c.args.index 0x00c000ef 0)
    ∙ ap (λ (v : ImageVersion). prologue_word_fits (profile_of v) c.args.index c.args.word) (sym c.in-EightHarts.is)
