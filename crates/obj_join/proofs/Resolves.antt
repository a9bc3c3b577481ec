-- The function that a list of numbers is, past its end too.
use Rattle.std.proofs.Common.{◌≡◌, ℕ, ◌≤◌, List, length, inl, inr, refl, sym, ap, ◌∙◌, arith}
use Rattle.std.proofs.Math.Path.{fun_ext}
use Rattle.std.proofs.lemmas.Bool.{cases_lt}
use Rattle.std.proofs.lemmas.List.{get_or_past}
use Rattle.obj_input.specs.Listed.{listed}
use Rattle.obj_join.specs.Said.{SymbolSaid}
use Rattle.obj_join.specs.Symbols.{no_symbol, symbol}
use Rattle.obj_join.specs.Definer.{own, resolved}
use Rattle.obj_join.specs.Numbers.{by}
use Rattle.obj_join.proofs.Listing.{length-listed, listed_in}

by_listed : (given : ℕ → ℕ) (count : ℕ) (numbers : List ℕ) → ((n : ℕ) → count ≤ n → given n ≡ 0) → numbers ≡ listed given count → by numbers ≡ given
by_listed given count numbers none same = fun_ext (λ n. elim (cases_lt n count) [
  | inl below ↦ listed_in given count n 0 numbers same below
  | inr past ↦
      let long : length numbers ≡ count = ap (λ (ns : List ℕ). length ns) same ∙ length-listed given count in
      get_or_past numbers n 0 (omega arith) ∙ sym (none n past)
])

-- a symbol that is not there is none
module _ (symbols : List SymbolSaid) (n : ℕ) (past : length symbols ≤ n) where
  absent : symbol symbols n ≡ no_symbol
  absent = get_or_past symbols n no_symbol past

  own_past : own symbols n ≡ 0
  own_past = rw absent refl

  resolved_past : resolved symbols n ≡ 0
  unfolding resolved
  resolved_past = rw absent refl

pub by_resolved : (symbols : List SymbolSaid) (numbers : List ℕ) → numbers ≡ listed (resolved symbols) (length symbols) → by numbers ≡ resolved symbols
by_resolved symbols numbers same = by_listed (resolved symbols) (length symbols) numbers (resolved_past symbols) same

pub by_own : (symbols : List SymbolSaid) (numbers : List ℕ) → numbers ≡ listed (own symbols) (length symbols) → by numbers ≡ own symbols
by_own symbols numbers same = by_listed (own symbols) (length symbols) numbers (own_past symbols) same
