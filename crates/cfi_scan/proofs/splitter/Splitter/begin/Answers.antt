use Rattle.std.proofs.Common.{rules, ◌+◌, ◌<◌, ℕ, [], ◌∷◌, ◌++◌, length, ap, sym, ◌∙◌, arith}
use Rattle.rv_image.specs.MemoryMap.{profile_with}
use Rattle.cfi_reader.specs.PlainWord.{IsPlainWord}
use Rattle.cfi_scan.proofs.Ended.{as_ended, splits_plain}
use Rattle.cfi_scan.proofs.splitter.Splitter.begin.Goals as goal

pub returns-then-is_plain_word-clause-splits : goal.returns-then-is_plain_word-clause-splits
returns-then-is_plain_word-clause-splits c words len s =
    let plain : IsPlainWord c.args.word = search rules in
    let room : length words < length c.args.self.now.entries.items = omega (arith, len, c.requires.room) in
    as_ended c.args.self.now.calls (profile_with c.args.self.now.front).units_from [] (words ++ c.args.word ∷ []) c.end.ensures.entries (c.end.ensures.done ∙ ap (λ (n : ℕ). n + 1) (sym len))
    c.end.ensures.last c.end.ensures.reader
    (splits_plain c.args.self.now.calls (profile_with c.args.self.now.front).units_from c.args.word c.args.self.now.entries.items c.args.self.now.done c.args.self.now.last
    c.args.self.now.reader words c.requires.new (omega (arith, c.ranges.word.fits)) plain room s)
