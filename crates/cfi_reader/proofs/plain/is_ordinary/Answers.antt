use Rattle.std.proofs.Common.{◌/◌, ◌^◌, refl, bit_and}
use Rattle.std.specs.Prelude.{◌==◌}
use Rattle.std.proofs.lemmas.Bool.{agree_below_at}
use Rattle.cfi_reader.specs.PlainWord.{is_ordinary}
use Rattle.cfi_reader.specs.declared.plain.TheConstants as table
use Rattle.cfi_reader.proofs.plain.is_ordinary.Goals as goal

pub returns : goal.returns
returns c = agree_below_at (λ n. bit_and (table.SPECIAL / 2 ^ n) 1 == 0) is_ordinary 32 c.args.number refl c.requires
