-- What the symbols of an object that holds some parts stand for, where each of them stands in a section that is kept.
use Rattle.std.proofs.Common.{◌≡◌, ◌==◌, ℕ, zero, suc, ◌<◌, true, false, Option, unwrap_or, List, [], ◌∷◌, length, map, get_or, refl, ap, ◌∙◌, add-one, arith}
use Rattle.std.proofs.lemmas.Bool.{ne_eqb}
use Rattle.gen_hardened.proofs.Prelude.{joined, symbol, symbol_count, ObjectParts, SymbolPart, no_symbol, Holds, Zero, Within, Standing, InSection, SymbolSaid, number_if, block_of, blocks_below, has_block, definition, definition_of, standing_for, is_named, named, names_by, said_of, is_kept_section, standing_of, symbol_said, symbol_said_in, named_of}
use Rattle.obj_join.specs.Symbols as said
use Rattle.obj_link.proofs.Named.{map_listed}
use Rattle.obj_items.proofs.Behind.{numbers}
use Rattle.gen_hardened.proofs.Listings.{joined_listed, joined_none, length-listed, listed_at, listed_map}

-- a section of a file that is kept; neither SHN_ABS nor SHN_COMMON
pub record IsKeptSection (file : List ℕ) (section : ℕ) : Type 0 where
  pub no_number : (section == 0xfff1) ≡ false
  pub no_block : (section == 0xfff2) ≡ false
  pub kept : is_kept_section file section ≡ true

not_zero : (n : ℕ) → (suc n == 0) ≡ false
not_zero n = ne_eqb (suc n) 0 (λ same. absurd (omega arith))

entry_within : (file : List ℕ) (section at : ℕ) → section ≡ at → IsKeptSection file at → standing_of file section ≡ InSection at
entry_within file section at here is = rw (here, is.no_number, is.no_block, is.kept) refl

-- the symbols of a file
abbrev pub symbols_in : List ℕ → List SymbolSaid
symbols_in file = (said_of file).symbols

symbols_counted : (file : List ℕ) → length (symbols_in file) ≡ symbol_count file
unfolding said_of
symbols_counted file = length-listed (symbol_said_in file) (symbol_count file)

symbol_read : (file : List ℕ) (n : ℕ) → n < symbol_count file → said.symbol (symbols_in file) n ≡ symbol_said_in file n
unfolding said_of
symbol_read file n below = listed_at (symbol_said_in file) (symbol_count file) n said.no_symbol below

module _ (parts : ObjectParts) (file : List ℕ) (holds : Holds parts file) where
  abbrev pub part : ℕ → SymbolPart
  part k = get_or parts.symbols k no_symbol

  -- each symbol stands in a section that is kept
  abbrev pub AreWithin : Type 0
  AreWithin = (k : ℕ) → k < length parts.symbols → IsKeptSection file (part k).section

  -- number 0 is none
  zero_read : said.symbol (symbols_in file) 0 ≡ said.no_symbol
  zero_read = symbol_read file 0 (let count = holds.symbol_count_is in omega arith)

  zero_itself : numbers file 0 ≡ 0
  zero_itself = rw zero_read refl

  pub definition_zero : definition (numbers file) (symbols_in file) 0 ≡ Zero
  unfolding definition
  definition_zero =
      ap (λ (n : ℕ). definition_of (numbers file) (symbols_in file) n) zero_itself
      ∙ ap (λ (s : SymbolSaid). standing_for (numbers file) (symbols_in file) 0 s.standing) zero_read

  module _ (within : AreWithin) where
    read : (k : ℕ) → k < length parts.symbols → said.symbol (symbols_in file) (suc k) ≡ symbol_said file (suc k) (symbol file (suc k))
    read k below = symbol_read file (suc k) (let count = holds.symbol_count_is in omega arith) ∙ rw (not_zero k) refl

    standing : (k : ℕ) → k < length parts.symbols → (said.symbol (symbols_in file) (suc k)).standing ≡ InSection (part k).section
    standing k below =
        ap (λ (s : SymbolSaid). s.standing) (read k below)
        ∙ entry_within file (symbol file (suc k)).section (part k).section (holds.symbols k below).section (within k below)

    itself : (k : ℕ) → k < length parts.symbols → numbers file (suc k) ≡ suc k
    itself k below = rw (standing k below) refl

    value_is : (k : ℕ) → k < length parts.symbols → (said.symbol (symbols_in file) (suc k)).value ≡ (part k).value
    value_is k below = ap (λ (s : SymbolSaid). s.value) (read k below) ∙ (holds.symbols k below).value

    pub definition_is : (k : ℕ) → k < length parts.symbols → definition (numbers file) (symbols_in file) (suc k) ≡ Within (part k).section (part k).value
    unfolding definition
    definition_is k below =
        ap (λ (n : ℕ). definition_of (numbers file) (symbols_in file) n) (itself k below)
        ∙ ap (λ (s : Standing). standing_for (numbers file) (symbols_in file) (suc k) s) (standing k below)
        ∙ ap (λ (v : ℕ). Within (part k).section v) (value_is k below)

    no_common : (n : ℕ) → n < length (symbols_in file) → has_block (numbers file) (symbols_in file) n ≡ false
    no_common zero below = rw zero_read refl
    no_common (suc k) below =
        let count = holds.symbol_count_is in
        let all = symbols_counted file in
        rw (standing k (omega arith)) refl

    pub no_blocks : map (block_of (numbers file) (symbols_in file)) (blocks_below (numbers file) (symbols_in file) (length (symbols_in file))) ≡ []
    unfolding blocks_below
    no_blocks =
        ap (map (block_of (numbers file) (symbols_in file)))
        (joined_none (number_if (has_block (numbers file) (symbols_in file))) (length (symbols_in file)) (λ n below. rw (no_common n below) refl))

    name_is : (k : ℕ) → k < length parts.symbols → named (numbers file) (symbols_in file) (suc k) ≡ named_of (part k)
    name_is k below =
        let name : (said.symbol (symbols_in file) (suc k)).name ≡ (part k).name =
        ap (λ (s : SymbolSaid). s.name) (read k below) ∙ ap (λ (o : Option (List ℕ)). unwrap_or o []) (holds.symbols k below).name in
        rw (definition_is k below, name) refl

    named_next : (k : ℕ) → k < length parts.symbols → number_if (is_named (λ n. true) (symbols_in file)) (suc k) ≡ suc k ∷ []
    named_next k below = rw (standing k below) refl

    pub names_are : names_by (numbers file) (λ n. true) (symbols_in file) ≡ map named_of parts.symbols
    unfolding names_by
    names_are =
        let count : length (symbols_in file) ≡ suc (length parts.symbols) = symbols_counted file ∙ holds.symbol_count_is ∙ add-one (length parts.symbols) in
        let next : ℕ → ℕ = λ k. suc k in
        ap (λ (n : ℕ). map (named (numbers file) (symbols_in file)) (joined (number_if (is_named (λ n. true) (symbols_in file))) n)) count
        ∙ ap (map (named (numbers file) (symbols_in file)))
        (joined_listed next (number_if (is_named (λ n. true) (symbols_in file))) (length parts.symbols) (rw zero_read refl) named_next)
        ∙ map_listed (named (numbers file) (symbols_in file)) next (length parts.symbols)
        ∙ listed_map (λ k. named (numbers file) (symbols_in file) (suc k)) named_of parts.symbols no_symbol name_is
