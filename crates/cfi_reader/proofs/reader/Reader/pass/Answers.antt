use Rattle.std.proofs.Common.{◌<◌, ◌^◌, ℕ, [], ◌∷◌, ◌++◌, subst, arith}
use Rattle.cfi_reader.specs.Reading.{IsReading}
use Rattle.cfi_reader.proofs.Followed.{goes_more, trying}
use Rattle.cfi_reader.proofs.Rows.{row_of}
use Rattle.cfi_reader.proofs.Told.{Told, lead_at, told}
use Rattle.cfi_reader.proofs.reader.Reader.pass.Goals as goal

pub returns-in-Some-clause-on : goal.returns-in-Some-clause-on
returns-in-Some-clause-on c is calls most place held at reading e =
    let reader = c.args.self.now in
    let word : ℕ = c.args.word in
    let (below, as_told, next) = c.in-Some.ensures in
    let small : word < 2 ^ 32 = omega (arith, c.ranges.word.fits) in
    let t : Told reader.node word c.args.here calls reader.numbers reader.label =
    told reader.node word c.args.here calls reader.numbers reader.label below small place as_told in
    subst (λ (n : ℕ). IsReading calls (record { node = n; numbers = reader.numbers; label = reader.label }) (held ++ word ∷ []) at) next
    (goes_more calls reader (row_of reader.node) word c.args.here most small t.table held at (trying calls reader held word at reading) e (lead_at reader.node) _ _
    t.counts t.labels t.fits t.leads)
