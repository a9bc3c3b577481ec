-- What a reader gave and a writer took in several turns.
use Rattle.std.proofs.Common.{◌≡◌, ◌+◌, ◌-◌, ◌≤◌, ◌++◌, ℕ, List, length, take, drop, arith, length-append, length-take}
use Rattle.std.proofs.Math.Seq.{take-add}
use Rattle.std.proofs.lemmas.List.{take_rest}
use Rattle.std.proofs.KnownBytes.{Appends-trans, Consumes-trans}
use Rattle.std.specs.declared.option.Option.{Option}
use Rattle.std.specs.Io.KnownBytes.{Appends, Consumes}

-- a writer that took the first bytes, and then the first ones of the rest
pub written_more : (a b c : Option (List ℕ)) (bytes : List ℕ) (done count : ℕ) → Appends a b (take done bytes)
    → Appends b c (take count (take (length bytes - done) (drop done bytes))) → Appends a c (take (done + count) bytes)
written_more a b c bytes done count first next =
    rw (take-add done count bytes) (Appends-trans a b c _ _ first (rw (take_rest bytes done) at next))

-- a reader that was asked for at most one byte more than there is room for
pub taken_more : (a b c : Option (List ℕ)) (kept piece buffer : List ℕ) (limit room asked count : ℕ) → length kept + room ≤ limit → asked ≤ room + 1
    → length piece ≡ length (take asked buffer) → count ≤ length piece → Consumes a b kept → Consumes b c (take count piece)
    → (taken : List ℕ) × length taken ≤ limit + 1 × Consumes a c taken
taken_more a b c kept piece buffer limit room asked count fits most same given first next =
    let length_is = length-append kept (take count piece) in
    (kept ++ take count piece, omega (arith, length_is, length-take count piece, length-take asked buffer), Consumes-trans a b c kept (take count piece) first next)
