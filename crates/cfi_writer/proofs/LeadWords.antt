-- The words before a place's unit: what each of them is, and how many there are. Each but the last is one word; so they stand one word after
-- another.
use Rattle.std.proofs.Common.{◌≡◌, ◌⊎◌, ℕ, zero, suc, ◌+◌, ◌*◌, ◌≤◌, ◌<◌, inl, inr, Bool, true, false, List, [], ◌∷◌, ◌++◌, length, length-append, map, drop, Option, Some, None, refl, sym, ap, subst, ◌∙◌, arith}
use Rattle.std.specs.Prelude.{◌&&◌, ◌||◌, if◌then◌else◌, is_some, option_map, slice_get}
use Rattle.std.specs.List.{list_any}
use Rattle.std.proofs.lemmas.Bool.{cases_Bool, false≢true, true≢false}
use Rattle.std.proofs.lemmas.List.{length-map}
use Rattle.std.proofs.lemmas.Option.{same_Some, slice_get-map}
use Rattle.cfi_writer.proofs.Prelude.{GraphVersion, OneLabel, TwoLabels, CalleeSaves, has, has_leaves, Sort, Calls, Jumps, Side, is_of, is_target, is_target_of, sorts_of, Entered, is_call_target, enters, lead_size, lead_words, entered_in, word, all_classes, class_count, empty_classes, label_at, labels_of, tag, tagged, word_count, IsAccepted, word_of_side, Choice, lead, lead_by, lead_of_entry, lead_of_sides, lead_unit}
use Rattle.rv_word.proofs.Cases.{mapped}
use Rattle.cfi_graph.specs.declared.line.SiteKind.TheVariants as site
use Rattle.cfi_unit.specs.declared.unit.Unit as U
use Rattle.cfi_unit.specs.declared.unit.Unit.TheVariants as V
use Rattle.cfi_unit.proofs.Counts.{some_word}
use Rattle.cfi_writer.proofs.Entering.{call_enters}
use Rattle.cfi_writer.proofs.Labelled.{labelled}
use Rattle.cfi_writer.proofs.SideLabels.{any_get, from_side, length-labels_of}

-- how many words units have
abbrev pub words_in : List U.Unit → ℕ
words_in [] = 0
words_in (u ∷ us) = word_count u + words_in us

-- how many bytes the words before a place's unit have
abbrev pub lead_bytes : Choice → ℕ → ℕ
lead_bytes m k = 4 * words_in (lead m k)

-- each of some units but the last is a word
abbrev pub AreSingle : List U.Unit → Type 0
AreSingle us = (j : ℕ) (u : U.Unit) → slice_get us j ≡ Some u → suc j < length us → word_count u ≡ 1

pub some_words : (us : List U.Unit) (j : ℕ) (u : U.Unit) → slice_get us j ≡ Some u → 1 ≤ words_in us
some_words [] j u get = absurd (cc)
some_words (v ∷ us) j u get = let some = some_word v in omega arith

-- no words, or a first one
pub first_unit : (us : List U.Unit) → (us ≡ []) ⊎ ((u : U.Unit) × (slice_get us 0 ≡ Some u))
first_unit [] = inl refl
first_unit (u ∷ us) = inr (u, refl)

-- what a word before a unit is: that of a side, where the place is a target; where callees save sites and calls enter the place, the jump
-- over what saves a site, behind the word for computed jumps if there is one, and what saves it, last
pub data IsWordOf (version : GraphVersion) (target saves : Bool) (at : ℕ) (labels : List (Option ℕ)) (j : ℕ) (u : U.Unit) : Type 0 where
  side_word : (i : ℕ) (o : Option ℕ) → slice_get labels i ≡ Some o → j ≡ word_of_side version i → target ≡ true → u ≡ lead_unit o →
      IsWordOf version target saves at labels j u
  over : has_leaves version ≡ true → saves ≡ true → j ≡ (if target then 1 else 0) → u ≡ V.Jump at → IsWordOf version target saves at labels j u
  saver : has_leaves version ≡ true → saves ≡ true → suc j ≡ length (lead_by version target saves at labels) → u ≡ V.Enter →
      IsWordOf version target saves at labels j u

abbrev pub IsLeadWord : Choice → ℕ → ℕ → U.Unit → Type 0
IsLeadWord m k j u =
    IsWordOf m.layout.closed.version (is_target m.layout.closed.sides k) (enters (entered_in m.layout) k) (word m.layout k)
    (labels_of m.labels m.layout.closed.sides k) j u

sides_from : (version : GraphVersion) (target saves : Bool) (at : ℕ) (labels : List (Option ℕ)) (j : ℕ) (u : U.Unit) → ((i : ℕ) → word_of_side version i ≡ i) →
    slice_get (lead_of_sides target labels) j ≡ Some u → IsWordOf version target saves at labels j u
sides_from version true saves at labels j u same get =
    let (o, there, is) = mapped lead_unit (slice_get labels j) u (sym (slice_get-map lead_unit labels j) ∙ get) in
    side_word j o there (sym (same j)) refl (sym is)
sides_from version false saves at labels j u same get = absurd (cc)

-- what computed calls reach is a target
abbrev TargetsAlone : Bool → List (Option ℕ) → Type 0
TargetsAlone target labels = (i label : ℕ) → target ≡ false → slice_get labels i ≡ Some (Some label) → ⊥

entry_from : (target saves : Bool) (at : ℕ) (labels : List (Option ℕ)) (j : ℕ) (u : U.Unit) → TargetsAlone target labels →
    slice_get (lead_of_entry target saves at labels) j ≡ Some u → IsWordOf CalleeSaves target saves at labels j u
entry_from target saves at [] j u alone get = absurd (cc)
entry_from target saves at (a ∷ []) j u alone get = absurd (cc)
entry_from target saves at (a ∷ b ∷ c ∷ labels) j u alone get = absurd (cc)
entry_from true true at (Some label ∷ jumps ∷ []) zero u alone get = side_word 1 jumps refl refl refl (sym (same_Some (lead_unit jumps) u get))
entry_from true true at (Some label ∷ jumps ∷ []) (suc zero) u alone get = over refl refl refl (sym (same_Some (V.Jump at) u get))
entry_from true true at (Some label ∷ jumps ∷ []) (suc (suc zero)) u alone get =
    side_word 0 (Some label) refl refl refl (sym (same_Some (V.Gate label) u get))
entry_from true true at (Some label ∷ jumps ∷ []) (suc (suc (suc zero))) u alone get = saver refl refl refl (sym (same_Some V.Enter u get))
entry_from true true at (Some label ∷ jumps ∷ []) (suc (suc (suc (suc j)))) u alone get = absurd (cc)
entry_from true true at (None ∷ jumps ∷ []) zero u alone get = side_word 1 jumps refl refl refl (sym (same_Some (lead_unit jumps) u get))
entry_from true true at (None ∷ jumps ∷ []) (suc zero) u alone get = over refl refl refl (sym (same_Some (V.Jump at) u get))
entry_from true true at (None ∷ jumps ∷ []) (suc (suc zero)) u alone get = saver refl refl refl (sym (same_Some V.Enter u get))
entry_from true true at (None ∷ jumps ∷ []) (suc (suc (suc j))) u alone get = absurd (cc)
entry_from true false at (calls ∷ jumps ∷ []) zero u alone get = side_word 1 jumps refl refl refl (sym (same_Some (lead_unit jumps) u get))
entry_from true false at (calls ∷ jumps ∷ []) (suc j) u alone get = absurd (cc)
entry_from false true at (Some label ∷ jumps ∷ []) j u alone get = absurd (alone 0 label refl refl)
entry_from false true at (None ∷ jumps ∷ []) zero u alone get = over refl refl refl (sym (same_Some (V.Jump at) u get))
entry_from false true at (None ∷ jumps ∷ []) (suc zero) u alone get = saver refl refl refl (sym (same_Some V.Enter u get))
entry_from false true at (None ∷ jumps ∷ []) (suc (suc j)) u alone get = absurd (cc)
entry_from false false at (calls ∷ jumps ∷ []) j u alone get = absurd (cc)

from_by : (version : GraphVersion) (target saves : Bool) (at : ℕ) (labels : List (Option ℕ)) (j : ℕ) (u : U.Unit) → TargetsAlone target labels →
    slice_get (lead_by version target saves at labels) j ≡ Some u → IsWordOf version target saves at labels j u
from_by OneLabel target saves at labels j u alone get = sides_from OneLabel target saves at labels j u (λ i. refl) get
from_by TwoLabels target saves at labels j u alone get = sides_from TwoLabels target saves at labels j u (λ i. refl) get
from_by CalleeSaves target saves at labels j u alone get = entry_from target saves at labels j u alone get

-- a place with a label of a class is a target
pub label_targets : (labels : List ℕ) (sides : List Side) (k i label : ℕ) → slice_get (labels_of labels sides k) i ≡ Some (Some label) → is_target sides k ≡ true
label_targets labels sides k i label get =
    let (side, there, at) = from_side labels sides k i (Some label) get in
    let of = labelled _ side.classes k label at in
    any_get (is_target_of k) sides i side there (any_get (has k) side.classes of.index of.class of.class_is of.member)

pub from_lead : (m : Choice) (k j : ℕ) (u : U.Unit) → slice_get (lead m k) j ≡ Some u → IsLeadWord m k j u
from_lead m k j u get =
    from_by m.layout.closed.version (is_target m.layout.closed.sides k) (enters (entered_in m.layout) k) (word m.layout k)
    (labels_of m.labels m.layout.closed.sides k) j u
    (λ i label none get. true≢false (sym (label_targets m.labels m.layout.closed.sides k i label get) ∙ none)) get

pub lead_word_count : (o : Option ℕ) → word_count (lead_unit o) ≡ 1
lead_word_count None = refl
lead_word_count (Some label) = refl

single_word : (m : Choice) (k j : ℕ) (u : U.Unit) → IsLeadWord m k j u → suc j < length (lead m k) → word_count u ≡ 1
single_word m k j u (side_word i o there at target same) before = ap word_count same ∙ lead_word_count o
single_word m k j u (over leaves saves at same) before = ap word_count same
single_word m k j u (saver leaves saves last same) before = absurd (omega (arith, last, before))

pub lead_single : (m : Choice) (k : ℕ) → AreSingle (lead m k)
lead_single m k j u get before = single_word m k j u (from_lead m k j u get) before

-- no words stand before a unit, or a first one
pub lead_cases : (m : Choice) (k : ℕ) → (lead m k ≡ []) ⊎ ((u : U.Unit) × (slice_get (lead m k) 0 ≡ Some u))
lead_cases m k = first_unit (lead m k)

-- what leads rest on: the sides are those of the version, and there is a label for each class
pub record IsLabelled (m : Choice) : Type 0 where
  pub sorts : map (λ (s : Side). s.sort) m.layout.closed.sides ≡ sorts_of m.layout.closed.version
  pub counted : length m.labels ≡ length (tagged m.layout.closed.sides)

pub labels_there : (m : Choice) → IsAccepted m → IsLabelled m
labels_there m ok = record { sorts = ok.sorts; counted = ok.counted }

-- a place has a label of the side of computed calls just where one of these may reach it
label_some : (labels : List ℕ) (classes : List (List ℕ)) (k : ℕ) → length classes ≤ length labels → is_some (label_at labels classes k) ≡ list_any (has k) classes
unfolding label_at
label_some [] [] k few = refl
label_some (label ∷ labels) [] k few = refl
label_some [] (class ∷ classes) k few = absurd (omega arith)
label_some (label ∷ labels) (class ∷ classes) k few =
    elim (cases_Bool (has k class)) [
      | inl here ↦ rw here refl
      | inr other ↦ rw other (label_some labels classes k (omega arith))
    ]

-- the labels of a place among computed calls and among computed jumps
pub record TwoOf (labels : List ℕ) (sides : List Side) (k : ℕ) : Type 0 where
  pub calls : Option ℕ
  pub jumps : Option ℕ
  pub labels_are : labels_of labels sides k ≡ calls ∷ jumps ∷ []
  pub called : is_some calls ≡ is_call_target sides k

serves_by : (sort : Sort) (here : Bool) → sort ≡ Jumps → (is_of sort site.Call && here) ≡ false
serves_by sort here is = ap (λ (s : Sort). is_of s site.Call && here) is

called_by : (sort : Sort) (here : Bool) → sort ≡ Calls → (is_of sort site.Call && here) ≡ here
called_by sort here is = ap (λ (s : Sort). is_of s site.Call && here) is

or_none : (a b c : Bool) → a ≡ c → b ≡ false → (a || (b || false)) ≡ c
or_none true b c same none = same
or_none false true c same none = absurd (cc)
or_none false false c same none = same

two_of : (labels : List ℕ) (sides : List Side) (k : ℕ) → map (λ (s : Side). s.sort) sides ≡ Calls ∷ Jumps ∷ [] → length labels ≡ length (tagged sides) →
    TwoOf labels sides k
unfolding labels_of tagged
two_of labels [] k sorts counted = absurd (cc)
two_of labels (a ∷ []) k sorts counted = absurd (cc)
two_of labels (a ∷ b ∷ c ∷ sides) k sorts counted = absurd (cc)
two_of labels (a ∷ b ∷ []) k sorts counted =
    let first : a.sort ≡ Calls = same_Some a.sort Calls (ap (λ (ss : List Sort). slice_get ss 0) sorts) in
    let second : b.sort ≡ Jumps = same_Some b.sort Jumps (ap (λ (ss : List Sort). slice_get ss 1) sorts) in
    let all = length-append (map (tag a.sort) (all_classes a)) (map (tag b.sort) (all_classes b) ++ []) in
    let mine = length-map (all_classes a) (tag a.sort) in
    let own = length-append a.classes (empty_classes a.sites) in
    record {
      calls = label_at labels a.classes k;
      jumps = label_at (drop (class_count a) labels) b.classes k;
      labels_are = refl;
      called =
          label_some labels a.classes k (omega (arith, counted, all, mine, own))
          ∙ sym (
          or_none (is_of a.sort site.Call && is_target_of k a) (is_of b.sort site.Call && is_target_of k b) (is_target_of k a)
          (called_by a.sort (is_target_of k a) first) (serves_by b.sort (is_target_of k b) second)
          );
    }

-- where callees save sites: what stands before a place's unit, by these labels
pub record LeanLead (m : Choice) (k : ℕ) : Type 0 where
  pub calls : Option ℕ
  pub jumps : Option ℕ
  pub labels_are : labels_of m.labels m.layout.closed.sides k ≡ calls ∷ jumps ∷ []
  pub lead_is : lead m k ≡ lead_of_entry (is_target m.layout.closed.sides k) (enters (entered_in m.layout) k) (word m.layout k) (calls ∷ jumps ∷ [])
  pub called : is_some calls ≡ is_call_target m.layout.closed.sides k

lean_by : (version : GraphVersion) (target saves : Bool) (at : ℕ) (labels : List (Option ℕ)) → has_leaves version ≡ true →
    lead_by version target saves at labels ≡ lead_of_entry target saves at labels
lean_by OneLabel target saves at labels leaves = absurd (cc)
lean_by TwoLabels target saves at labels leaves = absurd (cc)
lean_by CalleeSaves target saves at labels leaves = refl

lean_sorts : (version : GraphVersion) → has_leaves version ≡ true → sorts_of version ≡ Calls ∷ Jumps ∷ []
lean_sorts OneLabel leaves = absurd (cc)
lean_sorts TwoLabels leaves = absurd (cc)
lean_sorts CalleeSaves leaves = refl

pub lean_lead_if : (m : Choice) → IsLabelled m → has_leaves m.layout.closed.version ≡ true → (k : ℕ) → LeanLead m k
lean_lead_if m are leaves k =
    let two = two_of m.labels m.layout.closed.sides k (are.sorts ∙ lean_sorts m.layout.closed.version leaves) are.counted in
    let target = is_target m.layout.closed.sides k in
    let saves = enters (entered_in m.layout) k in
    record {
      calls = two.calls;
      jumps = two.jumps;
      labels_are = two.labels_are;
      lead_is =
          lean_by m.layout.closed.version target saves (word m.layout k) (labels_of m.labels m.layout.closed.sides k) leaves
          ∙ ap (lead_of_entry target saves (word m.layout k)) two.labels_are;
      called = two.called;
    }

pub lean_lead : (m : Choice) → IsAccepted m → has_leaves m.layout.closed.version ≡ true → (k : ℕ) → LeanLead m k
lean_lead m ok leaves k = lean_lead_if m (labels_there m ok) leaves k

-- a label among computed calls stands where these reach the place, so where it saves sites
pub calls_saved : (m : Choice) (k : ℕ) (lean : LeanLead m k) → is_some lean.calls ≡ true → enters (entered_in m.layout) k ≡ true
calls_saved m k lean some = call_enters (entered_in m.layout) k (sym lean.called ∙ some)

-- the word of each side stands before a target's unit: of computed calls where callees save sites, if they reach it
sides_to : (labels : List (Option ℕ)) (i : ℕ) (o : Option ℕ) (target : Bool) → target ≡ true → slice_get labels i ≡ Some o →
    slice_get (lead_of_sides target labels) i ≡ Some (lead_unit o)
sides_to labels i o true target get = slice_get-map lead_unit labels i ∙ ap (option_map lead_unit) get
sides_to labels i o false target get = absurd (cc)

entry_to : (target saves : Bool) (at : ℕ) (calls jumps : Option ℕ) (i : ℕ) (o : Option ℕ) → target ≡ true → slice_get (calls ∷ jumps ∷ []) i ≡ Some o →
    (i ≡ 0 → is_some o ≡ true) → (is_some calls ≡ true → saves ≡ true) →
    slice_get (lead_of_entry target saves at (calls ∷ jumps ∷ [])) (word_of_side CalleeSaves i) ≡ Some (lead_unit o)
entry_to false saves at calls jumps i o target get some saved = absurd (cc)
entry_to true true at (Some label) jumps zero o target get some saved = ap (λ (x : Option ℕ). Some (lead_unit x)) (same_Some (Some label) o get)
entry_to true false at (Some label) jumps zero o target get some saved = absurd (false≢true (saved refl))
entry_to true saves at None jumps zero o target get some saved =
    let wrong : false ≡ true = ap is_some (same_Some None o get) ∙ some refl in
    absurd (cc)
entry_to true saves at calls jumps (suc zero) o target get some saved = ap (λ (x : Option ℕ). Some (lead_unit x)) (same_Some jumps o get)
entry_to true saves at calls jumps (suc (suc i)) o target get some saved = absurd (cc)

to_by : (version : GraphVersion) (target saves : Bool) (at : ℕ) (labels : List (Option ℕ)) (i : ℕ) (o : Option ℕ) → target ≡ true → slice_get labels i ≡ Some o →
    (has_leaves version ≡ true → i ≡ 0 → is_some o ≡ true) →
    (has_leaves version ≡ true → (calls : Option ℕ) × (jumps : Option ℕ) × (labels ≡ calls ∷ jumps ∷ []) × (is_some calls ≡ true → saves ≡ true)) →
    slice_get (lead_by version target saves at labels) (word_of_side version i) ≡ Some (lead_unit o)
to_by OneLabel target saves at labels i o is get some two = sides_to labels i o target is get
to_by TwoLabels target saves at labels i o is get some two = sides_to labels i o target is get
to_by CalleeSaves target saves at labels i o is get some two =
    let (calls, jumps, same, saved) = two refl in
    ap (λ (ls : List (Option ℕ)). slice_get (lead_of_entry target saves at ls) (word_of_side CalleeSaves i)) same
    ∙ entry_to target saves at calls jumps i o is (sym (ap (λ (ls : List (Option ℕ)). slice_get ls i) same) ∙ get) (some refl) saved

pub to_lead : (m : Choice) → IsAccepted m → (k i : ℕ) (o : Option ℕ) → is_target m.layout.closed.sides k ≡ true →
    slice_get (labels_of m.labels m.layout.closed.sides k) i ≡ Some o → (has_leaves m.layout.closed.version ≡ true → i ≡ 0 → is_some o ≡ true) →
    slice_get (lead m k) (word_of_side m.layout.closed.version i) ≡ Some (lead_unit o)
to_lead m ok k i o target get some =
    to_by m.layout.closed.version (is_target m.layout.closed.sides k) (enters (entered_in m.layout) k) (word m.layout k)
    (labels_of m.labels m.layout.closed.sides k) i o target get some
    (λ leaves. let lean = lean_lead m ok leaves k in (lean.calls, lean.jumps, lean.labels_are, calls_saved m k lean))

-- they have the size that a placement gives them
led_words : (os : List (Option ℕ)) → words_in (map lead_unit os) ≡ length os
led_words [] = refl
led_words (None ∷ os) = let rest = led_words os in omega arith
led_words (Some label ∷ os) = let rest = led_words os in omega arith

sides_words : (target : Bool) (labels : List (Option ℕ)) (n : ℕ) → length labels ≡ n → (if target then n else 0) ≡ words_in (lead_of_sides target labels)
sides_words true labels n many = sym (led_words labels ∙ many)
sides_words false labels n many = refl

entry_count : (target saves serves : Bool) (at : ℕ) (calls jumps : Option ℕ) → is_some calls ≡ serves → (is_some calls ≡ true → saves ≡ true) →
    (if target then 1 else 0) + (if saves then 6 else 0) + (if serves then 1 else 0) ≡ words_in (lead_of_entry target saves at (calls ∷ jumps ∷ []))
entry_count target false serves at (Some label) jumps called saved = absurd (false≢true (saved refl))
entry_count target saves true at None jumps called saved = absurd (cc)
entry_count target saves false at (Some label) jumps called saved = absurd (cc)
entry_count true true true at (Some label) None called saved = refl
entry_count true true true at (Some label) (Some other) called saved = refl
entry_count true true false at None None called saved = refl
entry_count true true false at None (Some other) called saved = refl
entry_count true false false at None None called saved = refl
entry_count true false false at None (Some other) called saved = refl
entry_count false true true at (Some label) jumps called saved = refl
entry_count false true false at None jumps called saved = refl
entry_count false false false at None jumps called saved = refl

words_by : (version : GraphVersion) (of : Entered) (k at : ℕ) (labels : List (Option ℕ)) → length labels ≡ length of.closed.sides →
    (has_leaves version ≡ true → (calls : Option ℕ) × (jumps : Option ℕ) × (labels ≡ calls ∷ jumps ∷ []) × (is_some calls ≡ is_call_target of.closed.sides k)) →
    lead_words version of k ≡ words_in (lead_by version (is_target of.closed.sides k) (enters of k) at labels)
words_by OneLabel of k at labels many two = sides_words (is_target of.closed.sides k) labels (length of.closed.sides) many
words_by TwoLabels of k at labels many two = sides_words (is_target of.closed.sides k) labels (length of.closed.sides) many
words_by CalleeSaves of k at labels many two =
    let (calls, jumps, same, called) = two refl in
    entry_count (is_target of.closed.sides k) (enters of k) (is_call_target of.closed.sides k) at calls jumps called
    (λ some. call_enters of k (sym called ∙ some))
    ∙ ap (λ (ls : List (Option ℕ)). words_in (lead_of_entry (is_target of.closed.sides k) (enters of k) at ls)) (sym same)

pub lead_sized : (m : Choice) → IsLabelled m → (k : ℕ) → lead_size (entered_in m.layout) k ≡ lead_bytes m k
lead_sized m are k =
    ap (λ (n : ℕ). 4 * n) (
    words_by m.layout.closed.version (entered_in m.layout) k (word m.layout k) (labels_of m.labels m.layout.closed.sides k)
    (length-labels_of m.labels m.layout.closed.sides k)
    (λ leaves. let lean = lean_lead_if m are leaves k in (lean.calls, lean.jumps, lean.labels_are, lean.called))
    )

-- where callees save sites, six words at least stand before what calls enter, and what saves a site is the last of them
enters_words : (version : GraphVersion) (of : Entered) (k : ℕ) → has_leaves version ≡ true → enters of k ≡ true → 6 ≤ lead_words version of k
enters_words OneLabel of k leaves saves = absurd (cc)
enters_words TwoLabels of k leaves saves = absurd (cc)
enters_words CalleeSaves of k leaves saves = rw saves (omega arith)

pub enters_bytes : (m : Choice) → IsLabelled m → has_leaves m.layout.closed.version ≡ true → (k : ℕ) → enters (entered_in m.layout) k ≡ true → 24 ≤ lead_bytes m k
enters_bytes m are leaves k saves =
    let size = lead_sized m are k in
    let words = enters_words m.layout.closed.version (entered_in m.layout) k leaves saves in
    omega arith

-- what saves a site, so many words behind the gate
pub record IsSaverAt (us : List U.Unit) (j : ℕ) : Type 0 where
  pub there : slice_get us j ≡ Some V.Enter
  pub behind : words_in us ≡ j + 5

saver_by : (target : Bool) (at : ℕ) (calls jumps : Option ℕ) → (j : ℕ) × IsSaverAt (lead_of_entry target true at (calls ∷ jumps ∷ [])) j
saver_by true at (Some label) None = (3, record { there = refl; behind = refl })
saver_by true at (Some label) (Some other) = (3, record { there = refl; behind = refl })
saver_by true at None None = (2, record { there = refl; behind = refl })
saver_by true at None (Some other) = (2, record { there = refl; behind = refl })
saver_by false at (Some label) jumps = (2, record { there = refl; behind = refl })
saver_by false at None jumps = (1, record { there = refl; behind = refl })

pub saver_last : (m : Choice) → IsLabelled m → has_leaves m.layout.closed.version ≡ true → (k : ℕ) → enters (entered_in m.layout) k ≡ true →
    (j : ℕ) × IsSaverAt (lead m k) j
saver_last m are leaves k saves =
    let lean = lean_lead_if m are leaves k in
    let (j, is) = saver_by (is_target m.layout.closed.sides k) (word m.layout k) lean.calls lean.jumps in (
      j,
      subst (λ (us : List U.Unit). IsSaverAt us j)
          (sym (lean.lead_is ∙ ap (λ (b : Bool). lead_of_entry (is_target m.layout.closed.sides k) b (word m.layout k) (lean.calls ∷ lean.jumps ∷ [])) saves)) is,
    )

-- where callers save sites there are no more words than sides
few_by : (version : GraphVersion) (target saves : Bool) (at : ℕ) (labels : List (Option ℕ)) → has_leaves version ≡ false →
    length (lead_by version target saves at labels) ≤ length labels
few_by OneLabel true saves at labels full = let many = length-map labels lead_unit in omega arith
few_by OneLabel false saves at labels full = omega arith
few_by TwoLabels true saves at labels full = let many = length-map labels lead_unit in omega arith
few_by TwoLabels false saves at labels full = omega arith
few_by CalleeSaves target saves at labels full = absurd (cc)

pub lead_few : (m : Choice) (k : ℕ) → has_leaves m.layout.closed.version ≡ false → length (lead m k) ≤ length m.layout.closed.sides
lead_few m k full =
    let few = few_by m.layout.closed.version (is_target m.layout.closed.sides k) (enters (entered_in m.layout) k) (word m.layout k)
    (labels_of m.labels m.layout.closed.sides k) full in
    let many = length-labels_of m.labels m.layout.closed.sides k in
    omega arith
