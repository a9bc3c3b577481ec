-- An input by its parts.
use Rattle.std.proofs.Common.{◌≡◌, ℕ, zero, suc, ◌+◌, ◌<◌, ◌≤◌, ◌^◌, Bool, List, ◌++◌, length, map, ap, ◌∙◌, arith, length-append}
use Rattle.std.proofs.lemmas.List.{length-map}
use Rattle.obj_link.proofs.Prelude.{joined, Block, Func, Named, SectionParts, Said, SymbolSaid, block_of, blocks_below, slots, table_of, func_of, input_by, names_by, section_of}

pub composed : (resolve : ℕ → ℕ) (found : ℕ → Bool) (said : Said) (symbols : List SymbolSaid) (sections : List SectionParts) (blocks : List Block)
    (names : List Named) (funcs : List Func)
    → symbols ≡ said.symbols
    → sections ≡ map (section_of resolve said) said.sections ++ table_of resolve said (length (slots resolve said.sections))
    → blocks ≡ map (block_of resolve symbols) (blocks_below resolve symbols (length symbols)) → names ≡ names_by resolve found symbols
    → funcs ≡ joined (func_of symbols) (length symbols)
    → (record { sections = sections; blocks = blocks; names = names; funcs = funcs }) ≡ input_by resolve found said
unfolding input_by
composed resolve found said symbols sections blocks names funcs same s b n f =
    let bs = b ∙ ap (λ (ys : List SymbolSaid). map (block_of resolve ys) (blocks_below resolve ys (length ys))) same in
    let ns = n ∙ ap (λ (ys : List SymbolSaid). names_by resolve found ys) same in
    let fs = f ∙ ap (λ (ys : List SymbolSaid). joined (func_of ys) (length ys)) same in
    λ i. record { sections = s i; blocks = bs i; names = ns i; funcs = fs i }

pub one_table : (resolve : ℕ → ℕ) (said : Said) (n : ℕ) → length (table_of resolve said n) ≤ 1
one_table resolve said zero = omega arith
one_table resolve said (suc n) = omega arith

pub few_sections : (resolve : ℕ → ℕ) (said : Said) (n : ℕ) (first all : List SectionParts) → first ≡ map (section_of resolve said) said.sections
    → all ≡ first ++ table_of resolve said n → length said.sections ≤ 2 ^ 16 → length all < 2 ^ 32
few_sections resolve said n first all made e few =
    let count : length first ≡ length said.sections = ap (λ (ss : List SectionParts). length ss) made ∙ length-map said.sections (section_of resolve said) in
    let whole : length all ≡ length first + length (table_of resolve said n) = ap (λ (ss : List SectionParts). length ss) e ∙ length-append first (table_of resolve said n) in
    omega (arith, count, whole, few, one_table resolve said n)
