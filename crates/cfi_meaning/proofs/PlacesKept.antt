-- A run over places is kept by the machine: the opening leads to the entry, and from there the path of the run to the place that is next.
use Rattle.std.proofs.Common.{◌≡◌, ℕ, ◌+◌, ◌*◌, ◌≤◌, ◌<◌, true, false, inl, inr, Option, Some, None, List, ◌++◌, length, suc, refl, sym, ap, subst, ◌∙◌, arith}
use Rattle.std.proofs.Math.Nat.{mul-suc}
use Rattle.std.proofs.lemmas.Bool.{cases_lt}
use Rattle.std.proofs.lemmas.List.{get_or_past}
use Rattle.std.proofs.lemmas.Nat.{mul-le}
use Rattle.cfi_meaning.proofs.Prelude.{Contents, loaded, Profile, SHADOW_START, lean_version_1, lean_version_2, version_1, version_2, Memory, GraphVersion, OneLabel, TwoLabels, CalleeSaves, cleared, After, Shared, count, has_leaves, ProgramAtMap, gate, word, word_count, ComesTo, MatchesAfter, SameData, Own, own_closing, own_start, own_step, OwnRuns, words_along, Ends, RunsTo, own_shared, IsAccepted, Choice, entry_arrival, unit_here, entry_words_by, last_words, most_steps, most_words, most_words_by, IsImageOf, gate_of, shown_of, ComesToPlace, at_unit, shown, Chained, Linked, PlacesRun, TamePlace, holds_store, place_step, places_start, ComesBackOutside, EndsLike}
use Rattle.rv_image.proofs.Profiles.{laid_out}
use Rattle.cfi_unit.specs.declared.unit.Unit as U
use Rattle.cfi_unit.proofs.Counts.{most_words as unit_words}
use Rattle.cfi_runs.proofs.GroupRuns.{paths_join, words_join}
use Rattle.cfi_runs.proofs.WholeRun.{run_keeps_match}
use Rattle.cfi_writer.proofs.Gates.{gates_counted}
use Rattle.cfi_writer.proofs.Standing.{gate_lies, gates_rise}
use Rattle.cfi_meaning.specs.PlacesKept as law
use Rattle.cfi_meaning.proofs.EntryRuns.{entry_runs}
use Rattle.cfi_meaning.proofs.KindStep.{step_of_kind}
use Rattle.cfi_meaning.proofs.Places.{place_runs}
use Rattle.cfi_meaning.proofs.Prologue.{written_prologue}
use Rattle.cfi_meaning.proofs.PlaceWalks.{at_first, first_of, walks}

-- a unit has no more words than a place at most, with those before it
few_by : (version : GraphVersion) (sides before unit : ℕ) → before ≤ sides → (has_leaves version ≡ true → before ≡ 0) → unit ≤ 20 →
    before + unit ≤ most_words_by version sides
few_by OneLabel sides before unit few none most = omega arith
few_by TwoLabels sides before unit few none most = omega arith
few_by CalleeSaves sides before unit few none most = let is_none = none refl in omega arith

pub few_words : (m : Choice) (image : Contents) (k : ℕ) (o : Own) → (here : ComesToPlace m image k o) →
    words_along here.path + word_count (unit_here m k) ≤ most_words m.layout
few_words m image k o here =
    few_by m.layout.closed.version (length m.layout.closed.sides) (words_along here.path) (word_count (unit_here m k)) here.few
    (λ leaves. ap words_along (here.none leaves)) (unit_words (unit_here m k) (word m.layout k) here.step.fits)

-- places are told by their gates, and from the closing
module _ (m : Choice) (ok : IsAccepted m) where
  past_none : (k : ℕ) → count m.layout.program ≤ k → gate m.layout k ≡ 0
  past_none k past = let counted = gates_counted m ok in get_or_past m.layout.gates k 0 (omega arith)

  low : m.layout.profile.closing + 8 ≡ m.layout.profile.units_from
  low = (laid_out m.layout.profile ok.profile).closing

  closing_apart : (k : ℕ) → m.layout.profile.closing ≡ gate m.layout k → ⊥
  closing_apart k same =
      elim (cases_lt k (count m.layout.program)) [
        | inl below ↦ let from = (gate_lies m ok k below).0 in let first = low in omega arith
        | inr past ↦ let none = past_none k (omega arith) in let first = low in let from = (laid_out m.layout.profile ok.profile).low in omega arith
      ]

  none_next : (next : Option ℕ) → m.layout.profile.closing ≡ gate_of m.layout next → next ≡ None
  none_next None same = refl
  none_next (Some k) same = absurd (closing_apart k same)

  gate_alone : (j k : ℕ) → j < count m.layout.program → gate m.layout j ≡ gate m.layout k → k ≡ j
  gate_alone j k below same =
      elim (cases_lt k (count m.layout.program)) [
        | inr past ↦
            let none = past_none k (omega arith) in
            let from = (gate_lies m ok j below).0 in
            let first = low in
            absurd (omega arith)
        | inl there ↦ elim (cases_lt j k) [
          | inl less ↦ let rise = gates_rise m ok j k less there in absurd (omega arith)
          | inr not_less ↦ elim (cases_lt k j) [
            | inl more ↦ let rise = gates_rise m ok k j more below in absurd (omega arith)
            | inr not_more ↦ omega arith
          ]
        ]
      ]

  place_next : (j : ℕ) (next : Option ℕ) → j < count m.layout.program → gate m.layout j ≡ gate_of m.layout next → next ≡ Some j
  place_next j None below same = absurd (closing_apart j (sym same))
  place_next j (Some k) below same = ap (λ (i : ℕ). Some i) (gate_alone j k below same)

pub more_steps : (p : Profile) (image : Contents) (input : List ℕ) (most more : ℕ) (Q : After → Type 0) → most ≤ more → RunsTo p image input most Q →
    RunsTo p image input more Q
more_steps p image input most more Q few runs = (runs.0, (let bound = runs.1 in omega arith), runs.2)

-- the bound for images of both versions with graphs of the three
abbrev bound : GraphVersion → ℕ → Profile → ℕ → ℕ
bound version sides p n = most_words_by version sides * n + (last_words p + entry_words_by version)

bounds : (n : ℕ) → (bound OneLabel 1 version_1 n ≡ 21 * n + 13) × (bound OneLabel 1 version_2 n ≡ 21 * n + 17)
    × (bound TwoLabels 2 version_1 n ≡ 22 * n + 13) × (bound TwoLabels 2 version_2 n ≡ 22 * n + 17)
    × (bound CalleeSaves 2 lean_version_1 n ≡ 21 * n + 13) × (bound CalleeSaves 2 lean_version_2 n ≡ 21 * n + 17)
bounds n = (refl, refl, refl, refl, refl, refl)

-- a step more
steps_more : (layout : ProgramAtMap) (n : ℕ) → most_steps layout (n + 1) ≡ most_steps layout n + most_words layout
steps_more layout n =
    let next : n + 1 ≡ suc n = omega arith in
    let more : most_words layout * (n + 1) ≡ most_words layout * n + most_words layout =
    ap (λ (k : ℕ). most_words layout * k) next ∙ mul-suc (most_words layout) n in
    omega arith

pub steps_rise : (layout : ProgramAtMap) (few n : ℕ) → few ≤ n → most_steps layout few ≤ most_steps layout n
steps_rise layout few n less = let more = mul-le (most_words layout) few (most_words layout) n (omega arith) less in omega arith

-- what ends like the step of a place's unit ends like that of the place
pub ends_like : (m : Choice) (image : Contents) (k : ℕ) (o : Own) → IsAccepted m → holds_store m k ≡ false → TamePlace m image k o → (after : After) →
    MatchesAfter m.layout.profile.callee_saves SHADOW_START (loaded image) (loaded image) (own_step m.layout.profile (at_unit m k o) (unit_here m k)) after →
    EndsLike (place_step m k o) after
ends_like m image k o ok other now after matches =
    let same = step_of_kind m image k o ok other now in
    (matches.turn ∙ same.0, subst (λ (s : Shared). SameData s after.shared) same.1 matches.shared)

module _ (m : Choice) (image : Contents) (input places : List ℕ) (next : Option ℕ) (o : Own) (of : IsImageOf m image) (chain : Chained m None places next)
    (free : Linked m None next) (run : PlacesRun m image places (places_start m image input) o) (at : o.pc ≡ gate_of m.layout next)
    (back : ComesBackOutside m places next) where
  abbrev profile : Profile
  profile = m.layout.profile

  abbrev memory : Memory
  memory = loaded image

  abbrev first : Own
  first = own_start profile 0 (entry_arrival m) cleared (own_shared image input)

  -- the path of the whole run
  record IsPath (path : List U.Unit) : Type 0 where
    few : words_along path ≤ most_words m.layout * length places + entry_words_by m.layout.closed.version
    leads : OwnRuns profile memory path first (shown_of m.layout next o)

  whole_path : (path : List U.Unit) × IsPath path
  whole_path =
      let entry = entry_runs m image input of in
      let walk = walks m image of places next (places_start m image input) o chain free run at back in
      let from : first_of places next ≡ Some m.layout.entry =
      place_next m of.accepted m.layout.entry (first_of places next) of.accepted.entry_there
      (at_first m image of first places next (places_start m image input) o run at) in
      let counted = words_join entry.path walk.path in
      let some = entry.few in
      let few = walk.few in (
        entry.path ++ walk.path,
        record {
          few = omega arith;
          leads =
              paths_join profile memory entry.path walk.path first (shown m m.layout.entry (places_start m image input)) (shown_of m.layout next o) entry.leads
              (subst (λ (j : Option ℕ). OwnRuns profile memory walk.path (shown_of m.layout j (places_start m image input)) (shown_of m.layout next o)) from walk.leads);
        },
      )

  goes : RunsTo profile image input (most_steps m.layout (length places)) (ComesTo profile.callee_saves SHADOW_START memory memory (shown_of m.layout next o))
  goes =
      let (path, is) = whole_path in
      let laid = laid_out profile of.accepted.profile in
      let closing = laid.closing in
      let start = laid.low in
      let few = is.few in
      more_steps profile image input _ (most_steps m.layout (length places)) (ComesTo profile.callee_saves SHADOW_START memory memory (shown_of m.layout next o))
      (omega arith) (run_keeps_match profile image input (entry_arrival m) path (shown_of m.layout next o) (written_prologue m image of) is.leads).goes

  ends : (k : ℕ) → next ≡ Some k → holds_store m k ≡ false → TamePlace m image k o →
      RunsTo profile image input (most_steps m.layout (length places + 1)) (EndsLike (place_step m k o))
  ends k there other now =
      let (path, is) = whole_path in
      let laid = laid_out profile of.accepted.profile in
      let closing = laid.closing in
      let start = laid.low in
      let few = is.few in
      let here = place_runs m image k o of other now in
      let some = few_words m image k o here in
      let counted = words_join path here.path in
      let longer = steps_more m.layout (length places) in
      let leads = subst (λ (j : Option ℕ). OwnRuns profile memory path first (shown_of m.layout j o)) there is.leads in
      let joined = paths_join profile memory path here.path first (shown m k o) (at_unit m k o) leads here.leads in
      let then = run_keeps_match profile image input (entry_arrival m) (path ++ here.path) (at_unit m k o) (written_prologue m image of) joined in
      let (steps, most, met) = then.next (unit_here m k) here.step in
      (steps, omega arith, ends_like m image k o of.accepted other now _ met)

  closes : o.pc ≡ profile.closing → Ends profile image input (most_steps m.layout (length places)) (own_closing profile o)
  closes end =
      let (path, is) = whole_path in
      let laid = laid_out profile of.accepted.profile in
      let closing = laid.closing in
      let start = laid.low in
      let few = is.few in
      let none : next ≡ None = none_next m of.accepted next (sym end ∙ at) in
      let same : shown_of m.layout next o ≡ o =
      ap (λ (j : Option ℕ). shown_of m.layout j o) none ∙ ap (λ (a : ℕ). record o { pc = a }) (sym end) in
      let leads = subst (λ (x : Own). OwnRuns profile memory path first x) same is.leads in
      more_steps profile image input _ (most_steps m.layout (length places)) (MatchesAfter profile.callee_saves SHADOW_START memory memory (own_closing profile o))
      (omega arith) ((run_keeps_match profile image input (entry_arrival m) path o (written_prologue m image of) leads).closes end)

pub places_kept : law.PlacesKept
places_kept m image input places next o of chain free run at back = record {
  goes = goes m image input places next o of chain free run at back;
  ends = ends m image input places next o of chain free run at back;
  closes = closes m image input places next o of chain free run at back;
}
