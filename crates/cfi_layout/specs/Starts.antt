-- Where parts of a hardened program's code stand: one after another, from the address after the
-- prologue, `from`. A part is what is placed as one: the words of its lead, if there are any, and a unit.
use Rattle.std.specs.Prelude.{ℕ, ◌+◌, ◌-◌, Bool, true, List, [], ◌∷◌, sum}
use Rattle.std.specs.List.{slice_index_or}
use Rattle.rv_image.specs.MemoryMap.{CODE_START}

-- where parts of these sizes start, in bytes, the first at an address; and where the last ends
unfoldable pub starts_from : ℕ → List ℕ → List ℕ
starts_from at [] = at ∷ []
starts_from at (size ∷ sizes) = at ∷ starts_from (at + size) sizes

-- how many bytes the code of these parts has, with the prologue before them
abbrev pub code_size : ℕ → List ℕ → ℕ
code_size from sizes = from - CODE_START + sum sizes

-- a placement: where parts start and the last ends, and which parts are long; a part beyond the flags is
pub record Placed : Type 0 where
  pub starts : List ℕ
  pub long : List Bool

abbrev pub flag : List Bool → ℕ → Bool
flag long k = slice_index_or long k true
