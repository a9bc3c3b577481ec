-- The block of each symbol, by one common symbol more.
use Rattle.std.proofs.Common.{◌≡◌, ◌==◌, ℕ, ◌+◌, ◌<◌, ◌≤◌, Bool, true, false, ◌&&◌, if◌then◌else◌, List, [], ◌∷◌, length, get_or, set, refl, sym, ap, ◌∙◌, add-one, arith}
use Rattle.std.specs.Prelude.{fold, max}
use Rattle.std.proofs.lemmas.Bool.{eq-eqb, ne_eqb}
use Rattle.std.proofs.lemmas.List.Sums.{fold-append}
use Rattle.least.specs.Nearest.{joined}
use Rattle.obj_input.specs.declared.parts.Block.{Block}
use Rattle.obj_input.specs.Listed.{listed}
use Rattle.obj_join.specs.Said.{SymbolSaid}
use Rattle.obj_join.specs.Symbols.{number_if, symbol}
use Rattle.obj_join.specs.Blocks.{block_of, empty_block, greater_block, is_block, merges_with}
use Rattle.obj_join.specs.Numbers.{merged_below}
use Rattle.obj_join.proofs.Listing.{length-listed, listed_at, listed_in, listed_more, listed_none, listed_same, listed_set}

module _ (resolve : ℕ → ℕ) (symbols : List SymbolSaid) (bound : ℕ) where
  one : (b : Bool) (block : Block)
      → fold (greater_block symbols) block (if b then bound ∷ [] else []) ≡ (if b then greater_block symbols block bound else block)
  one true block = refl
  one false block = refl

  merged_more : (n : ℕ)
      → merged_below resolve symbols (bound + 1) n
      ≡ (if merges_with resolve symbols n bound then greater_block symbols (merged_below resolve symbols bound n) bound
      else merged_below resolve symbols bound n)
  unfolding merged_below joined
  merged_more n =
      rw add-one
      (fold-append (greater_block symbols) empty_block (joined (number_if (merges_with resolve symbols n)) bound)
      (number_if (merges_with resolve symbols n) bound)
      ∙ one (merges_with resolve symbols n bound)
      (fold (greater_block symbols) empty_block (joined (number_if (merges_with resolve symbols n)) bound)))

  unmerged : (n : ℕ) → merges_with resolve symbols n bound ≡ false → merged_below resolve symbols bound n ≡ merged_below resolve symbols (bound + 1) n
  unmerged n not = sym (merged_more n ∙ rw not refl)

  -- a symbol that is not common, or stands for none that there is, changes nothing
  pub not_common : (len : ℕ) → is_block (symbol symbols bound).standing ≡ false
      → listed (merged_below resolve symbols bound) len ≡ listed (merged_below resolve symbols (bound + 1)) len
  not_common len not = listed_same _ _ len (λ n below. unmerged n (rw not refl))

  pub not_there : (len : ℕ) → len ≤ resolve bound
      → listed (merged_below resolve symbols bound) len ≡ listed (merged_below resolve symbols (bound + 1)) len
  not_there len past =
      listed_same _ _ len (λ n below. unmerged n (other (is_block (symbol symbols bound).standing) (resolve bound == n) (ne_eqb (resolve bound) n (λ same. absurd (omega arith))))) where
        other : (b c : Bool) → c ≡ false → (b && c) ≡ false
        other true c e = e
        other false c e = refl

  -- one that is common makes the block greater that it stands for
  pub stored : (len into : ℕ) (d : Block) → is_block (symbol symbols bound).standing ≡ true → into ≡ resolve bound → into < len
      → set (listed (merged_below resolve symbols bound) len) into (greater_block symbols (get_or (listed (merged_below resolve symbols bound) len) into d) bound)
      ≡ listed (merged_below resolve symbols (bound + 1)) len
  stored len into d common is below =
      listed_set (merged_below resolve symbols bound) (merged_below resolve symbols (bound + 1)) len into _ below
      (ap (λ (b : Block). greater_block symbols b bound) (listed_at (merged_below resolve symbols bound) len into d below)
      ∙ sym (merged_more into ∙ rw (common, ← is, eq-eqb into into refl) refl))
      (λ n small other. unmerged n (rw (common, ne_eqb (resolve bound) n (λ same. other (sym (is ∙ same)))) refl))

-- the same of lists that are these
module _ (resolve : ℕ → ℕ) (symbols : List SymbolSaid) (bound len : ℕ) (blocks : List Block) (so_far : blocks ≡ listed (merged_below resolve symbols bound) len) where
  pub passed : is_block (symbol symbols bound).standing ≡ false → blocks ≡ listed (merged_below resolve symbols (bound + 1)) len
  passed other = so_far ∙ not_common resolve symbols bound len other

  pub outside : (into : ℕ) → into ≡ resolve bound → length blocks ≤ into → blocks ≡ listed (merged_below resolve symbols (bound + 1)) len
  outside into is past =
      let count : length blocks ≡ len = ap (λ (bs : List Block). length bs) so_far ∙ length-listed (merged_below resolve symbols bound) len in
      so_far ∙ not_there resolve symbols bound len (omega arith)

  pub put : (into : ℕ) (s : SymbolSaid) (old new d : Block) → s ≡ symbol symbols bound → is_block s.standing ≡ true → into ≡ resolve bound → into < length blocks
      → old ≡ get_or blocks into d → new ≡ record { size = max old.size s.size; align = max old.align s.value }
      → set blocks into new ≡ listed (merged_below resolve symbols (bound + 1)) len
  put into s old new d here common is below was e =
      let count : length blocks ≡ len = ap (λ (bs : List Block). length bs) so_far ∙ length-listed (merged_below resolve symbols bound) len in
      let made : new ≡ greater_block symbols (get_or (listed (merged_below resolve symbols bound) len) into d) bound =
      e ∙ ap (λ (t : SymbolSaid). record { size = max old.size t.size; align = max old.align t.value }) here
      ∙ ap (λ (b : Block). greater_block symbols b bound) (was ∙ ap (λ (bs : List Block). get_or bs into d) so_far) in
      rw (made, so_far) (stored resolve symbols bound len into d (ap (λ (t : SymbolSaid). is_block t.standing) (sym here) ∙ common) is (omega arith))

-- all common symbols make the block of each
pub block_is : (resolve : ℕ → ℕ) (symbols : List SymbolSaid) (merged : List Block) (n : ℕ) (d : Block)
    → merged ≡ listed (merged_below resolve symbols (length symbols)) (length symbols) → n < length symbols → get_or merged n d ≡ block_of resolve symbols n
unfolding merged_below block_of
block_is resolve symbols merged n d same below = listed_in (merged_below resolve symbols (length symbols)) (length symbols) n d merged same below

-- no symbol merges into any block
pub merged_none : (resolve : ℕ → ℕ) (symbols : List SymbolSaid) (n : ℕ) → merged_below resolve symbols 0 n ≡ empty_block
unfolding merged_below joined
merged_none resolve symbols n = refl

pub ruleset merging = (listed_none, listed_more, length-listed, merged_none)
