-- How many blocks are before a symbol, one symbol more.
use Rattle.std.proofs.Common.{◌≡◌, ℕ, ◌+◌, Bool, true, false, if◌then◌else◌, List, [], ◌∷◌, length, refl, ap, ◌∙◌, add-one, length-append}
use Rattle.least.specs.Nearest.{joined}
use Rattle.obj_join.specs.Said.{SymbolSaid}
use Rattle.obj_join.specs.Symbols.{number_if}
use Rattle.obj_join.specs.Blocks.{blocks_below, has_block}
use Rattle.obj_join.specs.Numbers.{before}
use Rattle.obj_join.proofs.Listing.{listed_more, listed_none}

pub before_none : (resolve : ℕ → ℕ) (symbols : List SymbolSaid) → before resolve symbols 0 ≡ 0
unfolding blocks_below joined
before_none resolve symbols = refl

one_if : (b : Bool) (n : ℕ) → length (if b then n ∷ [] else []) ≡ (if b then 1 else 0)
one_if true n = refl
one_if false n = refl

pub before_more : (resolve : ℕ → ℕ) (symbols : List SymbolSaid) (n : ℕ)
    → before resolve symbols (n + 1) ≡ before resolve symbols n + (if has_block resolve symbols n then 1 else 0)
unfolding blocks_below joined
before_more resolve symbols n =
    rw add-one
    (length-append (joined (number_if (has_block resolve symbols)) n) (number_if (has_block resolve symbols) n)
    ∙ ap (λ (k : ℕ). length (joined (number_if (has_block resolve symbols)) n) + k) (one_if (has_block resolve symbols n) n))

pub ruleset counts = (listed_none, listed_more, before_none, before_more)
