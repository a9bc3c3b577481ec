-- The index of names of at most 256 bytes. Only invariants and private contracts cite this.
use Rattle.std.specs.Prelude.{◌≡◌, ℕ, ◌≤◌, if◌then◌else◌, Option, Some, None, List, length, find, option_map}
use Rattle.std.specs.Option.{option_or}
use Rattle.std.specs.Str.{bytes_eq}
use Rattle.indexmap.specs.IndexMap.{IndexMap, get_by}
use denote.Ref.{Bor}
use Rattle.obj_input.specs.declared.parts.Definition.{Definition}
use Rattle.obj_input.specs.Input.{Named}

-- what the first symbol with a name stands for
abbrev pub first_definition : List Named → List ℕ → Option Definition
first_definition names name = option_map (λ n. n.definition) (find (λ n. bytes_eq n.name name) names)

abbrev pub looked_up : {S : Type 0} → List ℕ → IndexMap (Bor (List ℕ)) Definition S → Option Definition
looked_up name index = get_by (λ k. bytes_eq name k.now) index

-- what is found once one more name is there: what was found, or what that one stands for
abbrev pub noted : Named → Option Definition → List ℕ → Option Definition
noted n found name = option_or found (if bytes_eq n.name name then Some n.definition else None)

abbrev pub IsIndexed : {S : Type 0} → List Named → IndexMap (Bor (List ℕ)) Definition S → Type 0
IsIndexed names index = (name : List ℕ) → length name ≤ 256 → looked_up name index ≡ first_definition names name
