-- What symbols stand for, read from lists.
use Rattle.std.proofs.Common.{◌≡◌, ℕ, ◌<◌, List, length, get_or, ap, ◌∙◌, arith}
use Rattle.obj_input.specs.declared.parts.Definition.{Definition}
use Rattle.obj_input.specs.declared.parts.Definition.TheVariants.{Common}
use Rattle.obj_input.specs.Input.{Named}
use Rattle.obj_input.specs.Listed.{listed}
use Rattle.obj_join.specs.declared.standing.Standing.TheVariants.{AsCommon}
use Rattle.obj_join.specs.Said.{SymbolSaid}
use Rattle.obj_join.specs.Symbols.{symbol}
use Rattle.obj_join.specs.Stands.{definition, definition_of, standing_for}
use Rattle.obj_join.specs.SaidInput.{named}
use Rattle.obj_join.specs.Numbers.{before}
use Rattle.obj_join.proofs.Listing.{length-listed, listed_in}

pub named_is : (resolve : ℕ → ℕ) (symbols : List SymbolSaid) (definitions : List Definition) (n : ℕ) (x : Named) (s : SymbolSaid) (d : Definition)
    → x ≡ record { name = s.name; definition = get_or definitions n d } → s ≡ symbol symbols n
    → definitions ≡ listed (definition resolve symbols) (length symbols) → n < length definitions → x ≡ named resolve symbols n
named_is resolve symbols definitions n x s d e here same below =
    let count : length definitions ≡ length symbols = ap (λ (ds : List Definition). length ds) same ∙ length-listed (definition resolve symbols) (length symbols) in
    let stands : get_or definitions n d ≡ definition resolve symbols n = listed_in (definition resolve symbols) (length symbols) n d definitions same (omega arith) in
    e ∙ λ i. record { name = (here i).name; definition = stands i }

pub as_common : (resolve : ℕ → ℕ) (symbols : List SymbolSaid) (places : List ℕ) (n d : ℕ) (s : SymbolSaid)
    → places ≡ listed (before resolve symbols) (length symbols) → n < length symbols → s ≡ symbol symbols n → AsCommon ≡ s.standing
    → Common (get_or places n d) ≡ definition_of resolve symbols n
as_common resolve symbols places n d s same below here is =
    ap (λ (c : ℕ). Common c) (listed_in (before resolve symbols) (length symbols) n d places same below)
    ∙ ap (standing_for resolve symbols n) (is ∙ ap (λ (t : SymbolSaid). t.standing) here)
