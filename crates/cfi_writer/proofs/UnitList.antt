-- The units of places, one place after another, and the words before one, side after side.
use Rattle.std.proofs.Common.{◌≡◌, ℕ, zero, suc, ◌+◌, ◌≤◌, Bool, true, false, Option, Some, None, List, [], ◌∷◌, ◌++◌, length, map, take, get_or, arith, refl, ap, ◌∙◌, sym, append_assoc, append-nil, cond}
use Rattle.std.specs.Prelude.{if◌then◌else◌, is_some, not, slice_get}
use Rattle.std.specs.List.{filter, range_with_len}
use Rattle.std.proofs.lemmas.List.Elements.{filter-append}
use Rattle.std.proofs.lemmas.List.{length-map, map-append, take_all, take_more}
use Rattle.std.proofs.lemmas.Option.{get_or_from_slice_get, same_Some, slice_get_within}
use Rattle.cfi_writer.proofs.Prelude.{GraphVersion, OneLabel, TwoLabels, CalleeSaves, count, has_leaves, Side, is_target, sorts_of, enters, entered_in, word, labels_of, IsAccepted, Choice, gate_unit, is_later_at, lead, lead_by, lead_of_entry, lead_of_sides, lead_unit, unit_here, unit_places, units, units_of}
use Rattle.cfi_unit.specs.declared.unit.Unit as U
use Rattle.cfi_unit.specs.declared.unit.Unit.TheVariants as V
use Rattle.cfi_writer.proofs.SideLabels.{length-labels_of}

-- a word more of those before a unit
pub next_word : (os : List (Option ℕ)) (j : ℕ) (o : Option ℕ) (old first more : List U.Unit) → slice_get os j ≡ Some o → first ≡ old ++ map lead_unit (take j os)
    → more ≡ first ++ lead_unit o ∷ [] → more ≡ old ++ map lead_unit (take (j + 1) os)
next_word os j o old first more there are is =
    let here : get_or os j None ≡ o = get_or_from_slice_get os j o None there in
    is ∙ ap (λ (us : List U.Unit). us ++ lead_unit o ∷ []) are ∙ append_assoc old (map lead_unit (take j os)) (lead_unit o ∷ [])
    ∙ ap (λ (x : Option ℕ). old ++ (map lead_unit (take j os) ++ lead_unit x ∷ [])) (sym here)
    ∙ ap (λ (us : List U.Unit). old ++ us) (sym (map-append lead_unit (take j os) (get_or os j None ∷ [])))
    ∙ ap (λ (xs : List (Option ℕ)). old ++ map lead_unit xs) (sym (take_more os j None (slice_get_within os j o there)))

pub all_words : (os : List (Option ℕ)) (j : ℕ) (old first : List U.Unit) → length os ≤ j → first ≡ old ++ map lead_unit (take j os) → first ≡ old ++ map lead_unit os
all_words os j old first past are = are ∙ ap (λ (xs : List (Option ℕ)). old ++ map lead_unit xs) (take_all j os past)

-- under graphs of versions 1 and 2 the words of a target, and of what is none
by_sides : (version : GraphVersion) (target saves : Bool) (word : ℕ) (labels : List (Option ℕ)) → has_leaves version ≡ false →
    lead_of_sides target labels ≡ lead_by version target saves word labels
by_sides OneLabel target saves word labels full = refl
by_sides TwoLabels target saves word labels full = refl
by_sides CalleeSaves target saves word labels full = absurd (cc)

full_lead : (m : Choice) (k : ℕ) (target : Bool) → has_leaves m.layout.closed.version ≡ false → is_target m.layout.closed.sides k ≡ target →
    lead_of_sides target (labels_of m.labels m.layout.closed.sides k) ≡ lead m k
full_lead m k target full is =
    ap (λ (b : Bool). lead_of_sides b (labels_of m.labels m.layout.closed.sides k)) (sym is)
    ∙ by_sides m.layout.closed.version (is_target m.layout.closed.sides k) (enters (entered_in m.layout) k) (word m.layout k)
    (labels_of m.labels m.layout.closed.sides k) full

pub led : (m : Choice) (k : ℕ) → has_leaves m.layout.closed.version ≡ false → is_target m.layout.closed.sides k ≡ true →
    map lead_unit (labels_of m.labels m.layout.closed.sides k) ≡ lead m k
led m k full target = full_lead m k true full target

pub not_led : (m : Choice) (k : ℕ) → has_leaves m.layout.closed.version ≡ false → is_target m.layout.closed.sides k ≡ false → [] ≡ lead m k
not_led m k full other = full_lead m k false full other

-- under version 3 there are two sides, of calls and of jumps
sides_by : (version : GraphVersion) → has_leaves version ≡ true → length (sorts_of version) ≡ 2
sides_by OneLabel lean = absurd (cc)
sides_by TwoLabels lean = absurd (cc)
sides_by CalleeSaves lean = refl

pub two_sides : (m : Choice) → IsAccepted m → has_leaves m.layout.closed.version ≡ true → length m.layout.closed.sides ≡ 2
two_sides m ok lean =
    sym (length-map m.layout.closed.sides (λ (s : Side). s.sort)) ∙ ap length ok.sorts ∙ sides_by m.layout.closed.version lean

two_labels : (os : List (Option ℕ)) (calls jumps : Option ℕ) → length os ≡ 2 → slice_get os 0 ≡ Some calls → slice_get os 1 ≡ Some jumps → os ≡ calls ∷ jumps ∷ []
two_labels [] calls jumps two first second = absurd (cc)
two_labels (a ∷ []) calls jumps two first second = absurd (cc)
two_labels (a ∷ b ∷ []) calls jumps two first second =
    ap (λ (o : Option ℕ). o ∷ b ∷ []) (same_Some a calls first) ∙ ap (λ (o : Option ℕ). calls ∷ o ∷ []) (same_Some b jumps second)
two_labels (a ∷ b ∷ c ∷ os) calls jumps two first second = absurd (omega arith)

by_entry : (version : GraphVersion) (target saves : Bool) (word : ℕ) (labels : List (Option ℕ)) → has_leaves version ≡ true →
    lead_of_entry target saves word labels ≡ lead_by version target saves word labels
by_entry OneLabel target saves word labels lean = absurd (cc)
by_entry TwoLabels target saves word labels lean = absurd (cc)
by_entry CalleeSaves target saves word labels lean = refl

-- the gate of computed calls, if they may arrive
pub gate_if : (label : Option ℕ) → (if is_some label then lead_unit label ∷ [] else []) ≡ gate_unit label
gate_if None = refl
gate_if (Some label) = refl

-- so these are the words before a place, by the labels that it has there
pub lean_lead : (m : Choice) (k at : ℕ) (target saves : Bool) (calls jumps : Option ℕ) (old first more : List U.Unit) → IsAccepted m →
    has_leaves m.layout.closed.version ≡ true → target ≡ is_target m.layout.closed.sides k → saves ≡ enters (entered_in m.layout) k → at ≡ word m.layout k →
    slice_get (labels_of m.labels m.layout.closed.sides k) 0 ≡ Some calls → slice_get (labels_of m.labels m.layout.closed.sides k) 1 ≡ Some jumps →
    first ≡ old ++ (if target then lead_unit jumps ∷ [] else []) → more ≡ first ++ (if saves then V.Jump at ∷ (gate_unit calls ++ V.Enter ∷ []) else []) →
    more ≡ old ++ lead m k
lean_lead m k at target saves calls jumps old first more ok lean target_is saves_is at_is of_calls of_jumps first_is more_is =
    let labels = labels_of m.labels m.layout.closed.sides k in
    let two = two_labels labels calls jumps (length-labels_of m.labels m.layout.closed.sides k ∙ two_sides m ok lean) of_calls of_jumps in
    let saver : List U.Unit = if saves then V.Jump at ∷ (gate_unit calls ++ V.Enter ∷ []) else [] in
    more_is ∙ ap (λ (us : List U.Unit). us ++ saver) first_is ∙ append_assoc old (if target then lead_unit jumps ∷ [] else []) saver
    ∙ ap (λ (os : List (Option ℕ)). old ++ lead_of_entry target saves at os) (sym two)
    ∙ ap (λ (b : Bool). old ++ lead_of_entry b saves at labels) target_is
    ∙ ap (λ (b : Bool). old ++ lead_of_entry (is_target m.layout.closed.sides k) b at labels) saves_is
    ∙ ap (λ (a : ℕ). old ++ lead_of_entry (is_target m.layout.closed.sides k) (enters (entered_in m.layout) k) a labels) at_is
    ∙ ap (λ (us : List U.Unit). old ++ us)
    (by_entry m.layout.closed.version (is_target m.layout.closed.sides k) (enters (entered_in m.layout) k) (word m.layout k) labels lean)

-- these are the units of the first places
abbrev pub AreFirst : Choice → ℕ → List U.Unit → Type 0
AreFirst m k first = first ≡ units_of m (unit_places m 0 k)

units_join : (m : Choice) (ks more : List ℕ) → units_of m (ks ++ more) ≡ units_of m ks ++ units_of m more
unfolding units_of
units_join m [] more = refl
units_join m (k ∷ ks) more =
    ap (λ (us : List U.Unit). lead m k ++ (unit_here m k ∷ us)) (units_join m ks more) ∙ sym (append_assoc (lead m k) (unit_here m k ∷ units_of m ks) (units_of m more))

range_more : (a n : ℕ) → range_with_len a (suc n) ≡ range_with_len a n ++ (a + n) ∷ []
range_more a zero = ap (λ (j : ℕ). j ∷ []) (omega arith)
range_more a (suc n) =
    let next : a + 1 + n ≡ a + suc n = omega arith in
    ap (λ (js : List ℕ). a ∷ js) (range_more (a + 1) n ∙ ap (λ (j : ℕ). range_with_len (a + 1) n ++ j ∷ []) next)

place_more : (m : Choice) (k : ℕ) → unit_places m 0 (k + 1) ≡ unit_places m 0 k ++ filter (λ j. not (is_later_at m j)) (k ∷ [])
place_more m k =
    let one : k + 1 ≡ suc k = omega arith in
    let here : 0 + k ≡ k = omega arith in
    ap (unit_places m 0) one
    ∙ ap (filter (λ j. not (is_later_at m j))) (range_more 0 k ∙ ap (λ (j : ℕ). range_with_len 0 k ++ j ∷ []) here)
    ∙ filter-append (λ j. not (is_later_at m j)) (range_with_len 0 k) (k ∷ [])

one_unit : (m : Choice) (k : ℕ) → units_of m (k ∷ []) ≡ lead m k ++ unit_here m k ∷ []
unfolding units_of
one_unit m k = refl

no_unit : (m : Choice) → units_of m [] ≡ []
unfolding units_of
no_unit m = refl

pub next_units : (m : Choice) (k : ℕ) (first more : List U.Unit) → is_later_at m k ≡ false → AreFirst m k first →
    more ≡ (first ++ lead m k) ++ unit_here m k ∷ [] → AreFirst m (k + 1) more
next_units m k first more own are is =
    is ∙ append_assoc first (lead m k) (unit_here m k ∷ [])
    ∙ ap (λ (us : List U.Unit). us ++ (lead m k ++ unit_here m k ∷ [])) are
    ∙ ap (λ (us : List U.Unit). units_of m (unit_places m 0 k) ++ us) (sym (one_unit m k))
    ∙ sym (units_join m (unit_places m 0 k) (k ∷ []))
    ∙ ap (λ (b : Bool). units_of m (unit_places m 0 k ++ cond (not b) (k ∷ []) [])) (sym own)
    ∙ ap (units_of m) (sym (place_more m k))

-- a later store adds none
pub same_units : (m : Choice) (k : ℕ) (first : List U.Unit) → is_later_at m k ≡ true → AreFirst m k first → AreFirst m (k + 1) first
same_units m k first later are =
    are ∙ ap (units_of m) (sym (append-nil (unit_places m 0 k)))
    ∙ ap (λ (b : Bool). units_of m (unit_places m 0 k ++ cond (not b) (k ∷ []) [])) (sym later)
    ∙ ap (units_of m) (sym (place_more m k))

pub all_units : (m : Choice) (k : ℕ) (first : List U.Unit) → k ≡ count m.layout.program → AreFirst m k first → first ≡ units m
all_units m k first all are = are ∙ ap (λ (n : ℕ). units_of m (unit_places m 0 n)) all

pub no_first : (m : Choice) (first : List U.Unit) → first ≡ [] → AreFirst m 0 first
no_first m first none = none ∙ sym (no_unit m)
