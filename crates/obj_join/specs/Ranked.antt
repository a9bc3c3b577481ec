-- The index of the first symbol of each name in a rank, where numbers tell names apart. `has_rank` stands in a public contract, all else in invariants and private ones.
use Rattle.std.specs.Prelude.{◌≡◌, ℕ, ◌<◌, Bool, ◌==◌, ◌&&◌, if◌then◌else◌, Option, Some, None, List, length, slice_index}
use Rattle.std.specs.Option.{option_or}
use Rattle.std.specs.Ordering.{nat_cmp}
use Rattle.std.specs.BTreeMap.{BTreeMap, get}
use Rattle.least.specs.First.{first_below}
use Rattle.obj_join.specs.declared.rank.Rank.{Rank}
use Rattle.obj_join.specs.declared.rank.Rank.TheVariants.{Strong, Common, Weak, Private}
use Rattle.obj_join.specs.Said.{SymbolSaid}
use Rattle.obj_join.specs.Symbols.{symbol}
use Rattle.obj_join.specs.Definer.{first_called, is_common, is_private, is_strong, is_weak}

abbrev pub has_rank : Rank → SymbolSaid → Bool
has_rank Strong s = is_strong s
has_rank Common s = is_common s
has_rank Weak s = is_weak s
has_rank Private s = is_private s

-- the first symbol of a rank and of the name with a number, below a bound, where `names` has the number of each symbol's name
abbrev pub first_ranked : Rank → List SymbolSaid → List ℕ → ℕ → ℕ → Option ℕ
first_ranked rank symbols names name bound = first_below (λ n. has_rank rank (symbol symbols n) && slice_index names n == name) bound

abbrev pub looked_up : ℕ → BTreeMap ℕ ℕ → Option ℕ
looked_up name index = get nat_cmp index name

-- what is found once one more symbol is there, whose name has this number: what was found, or that one
abbrev pub noted : Rank → SymbolSaid → ℕ → ℕ → Option ℕ → ℕ → Option ℕ
noted rank s its n found name = option_or found (if has_rank rank s && its == name then Some n else None)

-- what an index has at the number of each symbol's name
abbrev pub IsFirst : (SymbolSaid → Bool) → List SymbolSaid → List ℕ → BTreeMap ℕ ℕ → Type 0
IsFirst test symbols names index =
    (n : ℕ) → n < length symbols → looked_up (slice_index names n) index ≡ first_called test symbols (symbol symbols n).name

-- the first symbol of each name in each rank
pub record AreFirsts (symbols : List SymbolSaid) (names : List ℕ) (strong common weak private : BTreeMap ℕ ℕ) : Type 0 where
  pub size : length names ≡ length symbols
  pub strongs : IsFirst is_strong symbols names strong
  pub commons : IsFirst is_common symbols names common
  pub weaks : IsFirst is_weak symbols names weak
  pub privates : IsFirst is_private symbols names private
