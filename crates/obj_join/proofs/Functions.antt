-- The functions of symbols, one symbol more; and what fills slots.
use Rattle.std.proofs.Common.{◌≡◌, ℕ, ◌+◌, ◌<◌, if◌then◌else◌, List, [], ◌++◌, length, get_or, refl, ap, ◌∙◌, add-one}
use Rattle.std.proofs.lemmas.List.{get_or_default}
use Rattle.least.specs.Nearest.{joined}
use Rattle.obj_input.specs.declared.parts.Func.{Func}
use Rattle.obj_join.specs.Said.{SymbolSaid}
use Rattle.obj_join.specs.Symbols.{no_symbol, symbol}
use Rattle.obj_join.specs.SaidInput.{func_at, func_of}

pub no_func : (symbols : List SymbolSaid) → [] ≡ joined (func_of symbols) 0
unfolding joined
no_func symbols = refl

pub next_func : (symbols : List SymbolSaid) (n : ℕ) (s : SymbolSaid) (so_far next : List Func) → n < length symbols → s ≡ get_or symbols n s
    → so_far ≡ joined (func_of symbols) n → next ≡ so_far ++ (if s.is_function then func_at s s.standing else []) → next ≡ joined (func_of symbols) (n + 1)
unfolding joined
next_func symbols n s so_far next below is here e =
    let at : s ≡ symbol symbols n = is ∙ get_or_default symbols n s no_symbol below in
    e ∙ rw add-one (rw here (ap (λ (t : SymbolSaid). joined (func_of symbols) n ++ (if t.is_function then func_at t t.standing else [])) at))
