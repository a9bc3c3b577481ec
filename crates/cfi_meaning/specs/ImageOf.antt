-- An image of what is written.
use Rattle.std.specs.Prelude.{◌≡◌, ℕ, ◌<◌, false}
use Rattle.rv_image.specs.Image.{Contents}
use Rattle.obj_program.specs.Program.{count, is_end, item_of}
use Rattle.cfi_rules.specs.Laws.{AreBytes}
use Rattle.cfi_rules.specs.Split.{code_words}
use Rattle.cfi_writer.specs.Accepted.{IsAccepted}
use Rattle.cfi_writer.specs.Laws.{written_code}
use Rattle.cfi_writer.specs.Units.{Choice}

-- the image's code is what is written for a choice that is accepted
pub record IsImageOf (m : Choice) (image : Contents) : Type 0 where
  pub accepted : IsAccepted m
  pub bytes : AreBytes image
  pub code : code_words image.code ≡ written_code m

-- a place of the program that is no section's end
pub record IsPlace (m : Choice) (k : ℕ) : Type 0 where
  pub below : k < count m.layout.program
  pub no_end : is_end (item_of m.layout.program k).kind ≡ false
