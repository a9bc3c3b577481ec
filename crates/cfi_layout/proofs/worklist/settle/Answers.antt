use Rattle.std.proofs.Common.{◌≡◌, ℕ, Bool, true, false, List, Some, length, slice_get, arith, get_or, refl, sym, subst, ap, ◌<◌, ◌∙◌}
use Rattle.std.proofs.lemmas.List.{get_or_default, length-set}
use Rattle.std.proofs.lemmas.Option.{slice_get-get_or, get_or_from_slice_get}
use Rattle.std.proofs.lemmas.Result.{IfOk-from_err}
use Rattle.cfi_layout.specs.declared.short.Short.{Short}
use Rattle.cfi_layout.specs.Starts.{flag}
use Rattle.cfi_layout.specs.Lengthening.{is_far}
use Rattle.cfi_layout.proofs.Flags.{no_branch, fewer_set}
use Rattle.cfi_layout.proofs.Lengthening.{lengthened, stay}
use Rattle.cfi_layout.proofs.Exits.{no_value, no_change, a_change}
use Rattle.cfi_layout.proofs.worklist.settle.Goals as goal
use Rattle.cfi_layout.proofs.worklist.settle.Goals.{then-index-via-then-index, then-index-via-else-index+then-not-is_far}

-- the branch that is read
abbrev branch : goal.In_ok-widen → Short
branch c = get_or c.args.branches.now c.args.index no_branch

there : (c : goal.In_ok-widen) → slice_get c.args.branches.now c.args.index ≡ Some (branch c)
there c = slice_get-get_or c.args.branches.now c.args.index no_branch c.requires.index

-- its part is not long
not_set : (c : goal.In_ok-widen) → flag c.args.long.now.items ((branch c).at) ≡ false
not_set c =
    let lt : (branch c).at < length c.args.long.now.items = c.requires.parts c.args.index (branch c) (there c) in
    get_or_default c.args.long.now.items ((branch c).at) true c.index.result.now lt ∙ sym c.index.ensures ∙ c.if-index.false

far : (c : goal.In_ok-widen) → is_far (branch c) (get_or c.args.distances.now.items c.args.index 0) ≡ true
far c =
    let lt : c.args.index < length c.args.distances.now.items = omega (arith, c.requires.index, c.requires.counted) in
    let read = c.index-else-index.ensures ∙ get_or_default c.args.distances.now.items c.args.index c.index-else-index.result.now 0 lt in
    ap (λ (n : ℕ). is_far (branch c) n) (sym read) ∙ sym c.is_far.ensures ∙ c.if-not-is_far.false

pub returns-clause-way : goal.returns-clause-way
returns-clause-way c =
    lengthened c.args.branches.now c.args.long.now.items c.args.distances.now.items c.widen.new.distances.items c.args.index (branch c) (there c) (far c) (not_set c) (c.in_ok-widen.ensures.widened (branch c) (there c))

pub returns-clause-fewer : goal.returns-clause-fewer
returns-clause-fewer c = λ e. fewer_set c.args.long.now.items ((branch c).at) (not_set c)

pub index-requires : goal.index-requires
index-requires c =
    let there = slice_get-get_or c.args.branches.now c.args.index no_branch c.requires.index in
    omega (arith, c.requires.parts c.args.index _ there, c.args.long.now.ok.0)

pub index-requires-else-index : goal.index-requires-else-index
index-requires-else-index c = omega (arith, c.requires.index, c.requires.counted)

pub returns-then-index-clause-way : goal.returns-then-index-clause-way
returns-then-index-clause-way c = stay c.args.branches.now c.args.long.now.items c.args.distances.now.items

pub returns-then-index-clause-unchanged : goal.returns-then-index-clause-unchanged
returns-then-index-clause-unchanged c = λ e. (refl, refl, refl)

-- the branch is long where its flag was read
read_long : (branches : List Short) (long : List Bool) (index : ℕ) (b : Short) (read : Bool) → slice_get branches index ≡ Some b → (get_or branches index no_branch).at < length long →
    read ≡ get_or long ((get_or branches index no_branch).at) read → read ≡ true → flag long b.at ≡ true
read_long branches long index b read is within reads set =
    subst (λ (x : Short). flag long x.at ≡ true) (get_or_from_slice_get branches index b no_branch is) (get_or_default long ((get_or branches index no_branch).at) true read within ∙ sym reads ∙ set)

-- it is not too far where the distance that was read is not
not_far : (branches : List Short) (distances : List ℕ) (index : ℕ) (b : Short) (read : ℕ) (beyond : Bool) → slice_get branches index ≡ Some b → index < length distances →
    read ≡ get_or distances index read → beyond ≡ is_far (get_or branches index no_branch) read → beyond ≡ false → is_far b (get_or distances index 0) ≡ false
not_far branches distances index b read beyond is within reads tells near =
    subst (λ (x : Short). is_far x (get_or distances index 0) ≡ false) (get_or_from_slice_get branches index b no_branch is)
    (ap (λ (n : ℕ). is_far (get_or branches index no_branch) n) (sym (reads ∙ get_or_default distances index read 0 within)) ∙ sym tells ∙ near)

pub returns-then-index-clause-settled : goal.returns-then-index-clause-settled
returns-then-index-clause-settled c = λ e b is far. elim c.then-index.branch [
  | then-index-via-then-index w ↦
      let within = c.requires.parts c.args.index _ (slice_get-get_or c.args.branches.now c.args.index no_branch c.requires.index) in
      read_long c.args.branches.now c.args.long.now.items c.args.index b c.index.result.now is within c.index.ensures w.if-index.true
  | then-index-via-else-index+then-not-is_far w ↦
      let within : c.args.index < length c.args.distances.now.items = omega (arith, c.requires.index, c.requires.counted) in
      let near = not_far c.args.branches.now c.args.distances.now.items c.args.index b w.index-else-index.result.now w.is_far.result is within w.index-else-index.ensures w.is_far.ensures w.if-not-is_far.true in
      let both : true ≡ false = sym far ∙ near in
      absurd (cc)
]

pub returns-then-index-clause-fewer : goal.returns-then-index-clause-fewer
returns-then-index-clause-fewer c = no_change

pub returns-then-index-clause-few : goal.returns-then-index-clause-few
returns-then-index-clause-few c = no_change

pub index_mut-requires : goal.index_mut-requires
index_mut-requires c =
    let there = slice_get-get_or c.args.branches.now c.args.index no_branch c.requires.index in
    omega (arith, c.requires.parts c.args.index _ there, c.args.long.now.ok.0)

pub returns-in_err-widen-clause-long : goal.returns-in_err-widen-clause-long
returns-in_err-widen-clause-long c = length-set c.args.long.now.items _ true

pub returns-in_err-widen-clause-still : goal.returns-in_err-widen-clause-still
returns-in_err-widen-clause-still c = c.in_err-widen.ensures.still

pub returns-in_err-widen-clause-indexes : goal.returns-in_err-widen-clause-indexes
returns-in_err-widen-clause-indexes c = IfOk-from_err c.from_residual.result _ c.from_residual.ensures.0

pub returns-in_err-widen-clause-way : goal.returns-in_err-widen-clause-way
returns-in_err-widen-clause-way c = IfOk-from_err c.from_residual.result _ c.from_residual.ensures.0

pub returns-in_err-widen-clause-unchanged : goal.returns-in_err-widen-clause-unchanged
returns-in_err-widen-clause-unchanged c = no_value c.from_residual.result false c.from_residual.ensures.0

pub returns-in_err-widen-clause-settled : goal.returns-in_err-widen-clause-settled
returns-in_err-widen-clause-settled c = no_value c.from_residual.result false c.from_residual.ensures.0

pub returns-in_err-widen-clause-fewer : goal.returns-in_err-widen-clause-fewer
returns-in_err-widen-clause-fewer c = no_value c.from_residual.result true c.from_residual.ensures.0

pub returns-in_err-widen-clause-few : goal.returns-in_err-widen-clause-few
returns-in_err-widen-clause-few c = no_value c.from_residual.result true c.from_residual.ensures.0

pub returns-clause-long : goal.returns-clause-long
returns-clause-long c = length-set c.args.long.now.items _ true

pub returns-clause-still : goal.returns-clause-still
returns-clause-still c = c.in_ok-widen.ensures.still

pub returns-clause-indexes : goal.returns-clause-indexes
returns-clause-indexes c = c.in_ok-widen.ensures.indexes

pub returns-clause-unchanged : goal.returns-clause-unchanged
returns-clause-unchanged c = a_change

pub returns-clause-settled : goal.returns-clause-settled
returns-clause-settled c = a_change

pub returns-clause-few : goal.returns-clause-few
returns-clause-few c = λ e. c.in_ok-widen.ensures.few

pub bounds-branches-index : goal.bounds-branches-index
bounds-branches-index c = c.requires.index

pub returns-then-index-clause-indexes : goal.returns-then-index-clause-indexes
returns-then-index-clause-indexes c = c.requires.indexes

pub widen-requires-clause-index : goal.widen-requires-clause-index
widen-requires-clause-index c = c.requires.index

pub widen-requires-clause-counted : goal.widen-requires-clause-counted
widen-requires-clause-counted c = c.requires.counted

pub widen-requires-clause-indexes : goal.widen-requires-clause-indexes
widen-requires-clause-indexes c = c.requires.indexes
