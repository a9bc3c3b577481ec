use Rattle.std.proofs.Common.{◌≡◌, ◌+◌, ◌*◌, ◌<◌, ◌≤◌, ℕ, List, [], ◌∷◌, ◌++◌, length, ap, sym, ◌∙◌, subst, arith}
use Rattle.rv_image.specs.declared.version.Versions.{Versions}
use Rattle.rv_image.specs.MemoryMap.{profile_with}
use Rattle.cfi_reader.specs.declared.reader.Step.TheVariants.{Before, Done, More}
use Rattle.cfi_reader.specs.Reading.{LeadsOn}
use Rattle.cfi_scan.specs.Stream.{Splits}
use Rattle.cfi_scan.proofs.Ended.{as_ended, splits_before, splits_on, splits_unit, splits_whole}
use Rattle.cfi_scan.proofs.splitter.Splitter.go_on.Goals as goal

pub returns-in-More-clause-splits : goal.returns-in-More-clause-splits
returns-in-More-clause-splits c words len s =
    let place : c.start.result + 4 * c.args.index ≡ (profile_with c.args.self.now.front).units_from + 4 * length words = omega (arith, c.start.ensures, len) in
    splits_on c.args.self.now.calls (profile_with c.args.self.now.front).units_from c.args.word c.args.self.now.entries.items c.args.self.now.done c.args.self.now.last
    c.args.self.now.reader c.in-More.reader words
    (subst (λ (here : ℕ). LeadsOn c.args.self.now.calls c.args.self.now.reader c.args.word here (More c.in-More.reader)) place c.in-More.ensures)
    (splits_before c.args.self.now.calls (profile_with c.args.self.now.front).units_from c.args.word c.args.self.now.entries.items c.args.self.now.done c.args.self.now.last
    c.args.self.now.reader words s)

pub returns-in-Done-clause-splits : goal.returns-in-Done-clause-splits
returns-in-Done-clause-splits c words len s =
    let place : c.start.result + 4 * c.args.index ≡ (profile_with c.args.self.now.front).units_from + 4 * length words = omega (arith, c.start.ensures, len) in
    let below : c.args.index < length c.args.self.now.entries.items = c.requires.room in
    let room : length words < length c.args.self.now.entries.items = omega arith in
    let count : c.args.index + 1 ≡ length words + 1 = ap (λ (n : ℕ). n + 1) (sym len) in
    as_ended c.args.self.now.calls (profile_with c.args.self.now.front).units_from [] (words ++ c.args.word ∷ []) c.end.ensures.entries (c.end.ensures.done ∙ count) c.end.ensures.last c.end.ensures.reader
    (splits_unit c.args.self.now.calls (profile_with c.args.self.now.front).units_from c.args.word c.args.self.now.entries.items c.args.self.now.done c.args.self.now.last
    c.args.self.now.reader c.in-Done.entry words
    (subst (λ (here : ℕ). LeadsOn c.args.self.now.calls c.args.self.now.reader c.args.word here (Done c.in-Done.entry)) place c.in-Done.ensures)
    room
    (splits_before c.args.self.now.calls (profile_with c.args.self.now.front).units_from c.args.word c.args.self.now.entries.items c.args.self.now.done c.args.self.now.last
    c.args.self.now.reader words s))

pub returns-in-Before-clause-splits : goal.returns-in-Before-clause-splits
returns-in-Before-clause-splits c words len s =
    let place : c.start.result + 4 * c.args.index ≡ (profile_with c.args.self.now.front).units_from + 4 * length words = omega (arith, c.start.ensures, len) in
    let below : c.args.index < length c.args.self.now.entries.items = c.requires.room in
    let room : length words ≤ length c.args.self.now.entries.items = omega arith in
    let mid = c.end-in-Before.new.self in
    let whole : Splits c.args.self.now.calls (profile_with c.args.self.now.front).units_from (c.args.word ∷ []) mid.entries.items mid.done mid.last mid.reader words =
    as_ended c.args.self.now.calls (profile_with c.args.self.now.front).units_from (c.args.word ∷ []) words c.end-in-Before.ensures.entries (c.end-in-Before.ensures.done ∙ sym len) c.end-in-Before.ensures.last c.end-in-Before.ensures.reader
    (splits_whole c.args.self.now.calls (profile_with c.args.self.now.front).units_from c.args.word c.args.self.now.entries.items c.args.self.now.done c.args.self.now.last
    c.args.self.now.reader c.in-Before.entry words
    (subst (λ (here : ℕ). LeadsOn c.args.self.now.calls c.args.self.now.reader c.args.word here (Before c.in-Before.entry)) place c.in-Before.ensures)
    room s) in
    let after = c.begin.new.self in
    subst (λ (v : Versions). Splits c.args.self.now.calls (profile_with v).units_from [] after.entries.items after.done after.last after.reader (words ++ c.args.word ∷ [])) c.end-in-Before.ensures.front
    (subst (λ (ns : List ℕ). Splits ns (profile_with mid.front).units_from [] after.entries.items after.done after.last after.reader (words ++ c.args.word ∷ [])) c.end-in-Before.ensures.calls
    (c.begin.ensures.splits words len
    (subst (λ (v : Versions). Splits mid.calls (profile_with v).units_from (c.args.word ∷ []) mid.entries.items mid.done mid.last mid.reader words) (sym c.end-in-Before.ensures.front)
    (subst (λ (ns : List ℕ). Splits ns (profile_with c.args.self.now.front).units_from (c.args.word ∷ []) mid.entries.items mid.done mid.last mid.reader words) (sym c.end-in-Before.ensures.calls) whole))))
