-- The sides of a closed graph: how many there are, and what they are one after another.
use Rattle.std.proofs.Common.{get_or, drop, ◌≡◌, ℕ, ◌+◌, ◌<◌, ◌≤◌, List, ◌++◌, length, map, refl, sym, ap, ◌∙◌, arith}
use Rattle.std.specs.Prelude.{Option, Some, None, option_map}
use Rattle.std.specs.Option.{option_or}
use Rattle.std.proofs.lemmas.List.{at_drop_all, at_drop_more, length-append, length-map}
use Rattle.rv_image.specs.declared.version.GraphVersion.{GraphVersion}
use Rattle.rv_image.specs.declared.version.GraphVersion.TheVariants.{OneLabel, TwoLabels, CalleeSaves}
use Rattle.cfi_closed.specs.Closed.{Side, class_among, class_of, classes_of, sorts_of}

pub few_sorts : (version : GraphVersion) → length (sorts_of version) ≤ 2
few_sorts OneLabel = omega arith
few_sorts TwoLabels = omega arith
few_sorts CalleeSaves = omega arith

pub few_sides : (version : GraphVersion) (sides : List Side) → map (λ (s : Side). s.sort) sides ≡ sorts_of version → length sides ≤ 2
few_sides version sides sorts = omega (arith, few_sorts version, ap length sorts, length-map sides (λ (s : Side). s.sort))

-- the classes of the sides from one on, and those from the next one on
pub classes_more : (sides : List Side) (i : ℕ) (d : Side) → i < length sides → classes_of (drop i sides) ≡ (get_or sides i d).classes ++ classes_of (drop (i + 1) sides)
classes_more sides i d below = at_drop_more classes_of sides i d below

behind : (before n : ℕ) (o : Option ℕ) → option_map (λ k. before + k) (option_map (λ k. n + k) o) ≡ option_map (λ k. (before + n) + k) o
behind before n None = refl
behind before n (Some k) = ap (λ (m : ℕ). Some m) (omega arith)

-- a number among the classes of the sides from one on
among_more : (sides : List Side) (i place : ℕ) (d : Side) → i < length sides →
    class_among (drop i sides) place ≡ option_or (class_of (get_or sides i d) place) (option_map (λ k. length (get_or sides i d).classes + k) (class_among (drop (i + 1) sides) place))
unfolding class_among
among_more sides i place d below = at_drop_more (λ (xs : List Side). class_among xs place) sides i d below

pub among_found : (sides : List Side) (i place before k : ℕ) (d : Side) (whole : Option ℕ) → i < length sides →
    option_map (λ k. before + k) (class_among (drop i sides) place) ≡ whole → class_of (get_or sides i d) place ≡ Some k → Some (before + k) ≡ whole
among_found sides i place before k d whole below is found =
    sym (ap (option_map (λ k. before + k)) (among_more sides i place d below
    ∙ ap (λ (o : Option ℕ). option_or o (option_map (λ k. length (get_or sides i d).classes + k) (class_among (drop (i + 1) sides) place))) found)) ∙ is

pub among_passed : (sides : List Side) (i place before next : ℕ) (d : Side) (whole : Option ℕ) → i < length sides →
    option_map (λ k. before + k) (class_among (drop i sides) place) ≡ whole → class_of (get_or sides i d) place ≡ None →
    next ≡ before + length (get_or sides i d).classes → option_map (λ k. next + k) (class_among (drop (i + 1) sides) place) ≡ whole
among_passed sides i place before next d whole below is none next_is =
    let rest = class_among (drop (i + 1) sides) place in
    ap (λ (n : ℕ). option_map (λ k. n + k) rest) next_is
    ∙ sym (behind before (length (get_or sides i d).classes) rest)
    ∙ sym (ap (option_map (λ k. before + k)) (among_more sides i place d below
    ∙ ap (λ (o : Option ℕ). option_or o (option_map (λ k. length (get_or sides i d).classes + k) rest)) none)) ∙ is

pub among_end : (sides : List Side) (i place before : ℕ) (whole : Option ℕ) → length sides ≤ i →
    option_map (λ k. before + k) (class_among (drop i sides) place) ≡ whole → None ≡ whole
unfolding class_among
among_end sides i place before whole past is =
    sym (at_drop_all (λ (xs : List Side). option_map (λ k. before + k) (class_among xs place)) sides i past) ∙ is
