use Rattle.std.proofs.Common.{ℕ, ◌∙◌, ap, arith, get_or, sym, Some}
use Rattle.std.specs.Vec.{with_item}
use Rattle.std.proofs.lemmas.Option.{get_or_from_slice_get, slice_get-get_or}
use Rattle.cfi_step.specs.Stretch.{GoesOn, Halts, RunHalts, Stops}
use Rattle.cfi_step.proofs.Stepping.{ok_so}
use Rattle.cfi_step.proofs.Stretched.{own_so, stops_map}
use Rattle.cfi_step.proofs.running.Running.go_on.Goals as goal

pub index_mut-requires : goal.index_mut-requires
index_mut-requires c = omega (arith, c.from-hart.ensures, c.last.ensures.value, c.requires.below, c.requires.each)

pub take_steps-requires-clause-room : goal.take_steps-requires-clause-room
take_steps-requires-clause-room c =
    let now = c.args.self.now in
    let hart = c.from-hart.ensures ∙ c.last.ensures.value in
    let own = c.index_mut.ensures.value ∙ ap (λ (k : ℕ). get_or now.trails.items k c.index_mut.result.now) hart in
    c.requires.room c.index_mut.result.now
    (slice_get-get_or now.trails.items now.taken.hart c.index_mut.result.now (omega (arith, c.requires.below, c.requires.each)) ∙ ap Some (sym own))

pub returns-clause-goes_on : goal.returns-clause-goes_on
returns-clause-goes_on c =
    let now = c.args.self.now in
    let hart = c.from-hart.ensures ∙ c.last.ensures.value in
    ok_so c.take_steps.result c.take_steps.ensures.goes_on (λ told p words are t at.
    let own = c.index_mut.ensures.value ∙ ap (λ (k : ℕ). get_or now.trails.items k c.index_mut.result.now) hart ∙ get_or_from_slice_get now.trails.items now.taken.hart t c.index_mut.result.now at in
    own_so (λ before after. GoesOn p words c.args.from c.args.until before after) now c.take_steps.new.machine c.from-hart.result c.index_mut.result.now t c.take_steps.new.trail hart own
    (told p words are now c.requires.current (omega (arith, c.requires.below, c.requires.each))))

pub returns-clause-stops : goal.returns-clause-stops
returns-clause-stops c =
    let now = c.args.self.now in
    let after = record now { machine = c.take_steps.new.machine; trails = with_item now.trails c.from-hart.result c.take_steps.new.trail } in
    let hart = c.from-hart.ensures ∙ c.last.ensures.value in
    stops_map (Halts c.args.starts.now c.args.from c.args.until now.machine c.index_mut.result.now c.take_steps.new.machine c.take_steps.new.trail)
    (RunHalts c.args.starts.now c.args.from c.args.until now after) c.take_steps.result c.take_steps.ensures.stops (λ turn steps told p words are t at.
    let own = c.index_mut.ensures.value ∙ ap (λ (k : ℕ). get_or now.trails.items k c.index_mut.result.now) hart ∙ get_or_from_slice_get now.trails.items now.taken.hart t c.index_mut.result.now at in
    own_so (λ before after. Stops p words c.args.from c.args.until before after turn steps) now c.take_steps.new.machine c.from-hart.result c.index_mut.result.now t c.take_steps.new.trail hart own
    (told p words are now c.requires.current (omega (arith, c.requires.below, c.requires.each))))
