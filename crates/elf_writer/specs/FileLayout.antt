-- Contents one after the other, each at the next multiple of 8 (the alignment of the widest numbers of 64-bit ELF).
use Rattle.std.specs.Prelude.{ℕ, zero, suc, ◌+◌, ◌-◌, ◌*◌, ◌/◌, List, [], ◌∷◌, ◌++◌, length, replicate}

-- the next multiple of 8
abbrev pub up8 : ℕ → ℕ
up8 n = (n + 7) / 8 * 8

-- contents from a place on, with zeros before each up to the next multiple of 8
unfoldable pub laid_out : ℕ → List (List ℕ) → List ℕ
laid_out at [] = []
laid_out at (c ∷ cs) = replicate (up8 at - at) 0 ++ (c ++ laid_out (up8 at + length c) cs)

-- where the content with this index stands; past the last it is where the next one would
unfoldable pub place_of : ℕ → List (List ℕ) → ℕ → ℕ
place_of at [] k = up8 at
place_of at (c ∷ cs) zero = up8 at
place_of at (c ∷ cs) (suc k) = place_of (up8 at + length c) cs k

-- bytes with zeros after them up to the next multiple of 8
abbrev pub padded : List ℕ → List ℕ
padded bytes = bytes ++ replicate (up8 (length bytes) - length bytes) 0
