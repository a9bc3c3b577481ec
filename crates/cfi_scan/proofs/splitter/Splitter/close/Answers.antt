use Rattle.std.proofs.Common.{ℕ, ◌+◌, ◌*◌, ◌≤◌, length, sym, ◌∙◌, arith}
use Rattle.rv_image.specs.MemoryMap.{profile_with}
use Rattle.cfi_scan.specs.Stream.{width}
use Rattle.cfi_scan.proofs.Ended.{as_split_up, up_open, up_whole}
use Rattle.cfi_scan.proofs.splitter.Splitter.close.Goals as goal

pub returns-in-Some-clause-splits : goal.returns-in-Some-clause-splits
returns-in-Some-clause-splits c words len within s =
    let from : ℕ = (profile_with c.args.self.now.front).units_from in
    let room : length words ≤ length c.args.self.now.entries.items = omega (arith, len, within) in
    as_split_up c.args.self.now.calls from words c.end.ensures.entries (c.end.ensures.done ∙ sym len) c.end.ensures.last
    (up_whole c.args.self.now.calls from c.args.self.now.entries.items c.args.self.now.done c.args.self.now.last c.args.self.now.reader c.in-Some.entry words room s
    (c.in-Some.ensures c.args.self.now.calls s.held (from + 4 * width s.units) s.reading))

pub returns-in-None-clause-splits : goal.returns-in-None-clause-splits
returns-in-None-clause-splits c words len within s =
    let from : ℕ = (profile_with c.args.self.now.front).units_from in
    up_open c.args.self.now.calls from c.args.self.now.entries.items c.args.self.now.done c.args.self.now.last c.args.self.now.reader words s
    (c.in-None.ensures c.args.self.now.calls s.held (from + 4 * width s.units) s.reading)
