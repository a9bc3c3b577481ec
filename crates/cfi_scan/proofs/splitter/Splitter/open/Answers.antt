use Rattle.std.proofs.Common.{◌≡◌, ◌+◌, ◌*◌, ◌<◌, ℕ, [], ◌∷◌, ◌++◌, length, ap, sym, ◌∙◌, subst, arith}
use Rattle.rv_image.specs.MemoryMap.{profile_with}
use Rattle.cfi_reader.specs.declared.first.First.TheVariants.{Done, More}
use Rattle.cfi_reader.specs.Reading.{Opened}
use Rattle.cfi_scan.proofs.Ended.{as_ended, opened_done, opened_more, splits_on, splits_unit}
use Rattle.cfi_scan.proofs.splitter.Splitter.open.Goals as goal

pub returns-in-More-clause-splits : goal.returns-in-More-clause-splits
returns-in-More-clause-splits c words len s =
    let place : c.start.result + 4 * c.args.index ≡ (profile_with c.args.self.now.front).units_from + 4 * length words = omega (arith, c.start.ensures, len) in
    splits_on c.args.self.now.calls (profile_with c.args.self.now.front).units_from c.args.word c.args.self.now.entries.items c.args.self.now.done c.args.self.now.last
    c.args.self.now.reader c.in-More.reader words
    (opened_more c.args.self.now.calls c.args.self.now.reader c.args.word ((profile_with c.args.self.now.front).units_from + 4 * length words) c.in-More.reader c.requires.new
    (subst (λ (here : ℕ). Opened c.args.self.now.calls c.args.word here (More c.in-More.reader)) place c.in-More.ensures))
    s

pub returns-in-Done-clause-splits : goal.returns-in-Done-clause-splits
returns-in-Done-clause-splits c words len s =
    let place : c.start.result + 4 * c.args.index ≡ (profile_with c.args.self.now.front).units_from + 4 * length words = omega (arith, c.start.ensures, len) in
    let below : c.args.index < length c.args.self.now.entries.items = c.requires.room in
    let room : length words < length c.args.self.now.entries.items = omega arith in
    let count : c.args.index + 1 ≡ length words + 1 = ap (λ (n : ℕ). n + 1) (sym len) in
    as_ended c.args.self.now.calls (profile_with c.args.self.now.front).units_from [] (words ++ c.args.word ∷ []) c.end.ensures.entries (c.end.ensures.done ∙ count) c.end.ensures.last c.end.ensures.reader
    (splits_unit c.args.self.now.calls (profile_with c.args.self.now.front).units_from c.args.word c.args.self.now.entries.items c.args.self.now.done c.args.self.now.last
    c.args.self.now.reader c.in-Done.entry words
    (opened_done c.args.self.now.calls c.args.self.now.reader c.args.word ((profile_with c.args.self.now.front).units_from + 4 * length words) c.in-Done.entry c.requires.new
    (subst (λ (here : ℕ). Opened c.args.self.now.calls c.args.word here (Done c.in-Done.entry)) place c.in-Done.ensures))
    room s)
