-- From any state that matches the next step is kept, with those over later stores.
use Rattle.std.proofs.Common.{◌≡◌, ℕ, zero, suc, ◌+◌, ◌-◌, ◌≤◌, true, false, inl, inr, List, [], ◌∷◌, ◌++◌, length, Option, Some, None, refl, sym, ap, subst, ◌∙◌, arith}
use Rattle.std.proofs.lemmas.Bool.{cases_Bool}
use Rattle.std.proofs.lemmas.Option.{same_Some}
use Rattle.cfi_meaning.proofs.Prelude.{Contents, loaded, Profile, SHADOW_START, Memory, GraphVersion, OneLabel, TwoLabels, CalleeSaves, After, Hart, Shared, last_exit, step, item_of, ProgramAtMap, Source, SourceAfter, StepTurn, breaks, exits, ran, source_step, untame, Reason, closing_instrs, IsPart, Stand, word_count, ComesTo, MatchesAfter, SameData, Own, OwnAfter, own_closing, own_step, OwnRuns, SitesFit, words_along, TameStep, HasPrologue, Within, Choice, behind, entry_arrival, is_later_at, unit_here, most_words, most_words_by, IsImageOf, is_at_later, Matches, address_of, own_of, shown_of, EndsAs, ComesThrough, at_unit, shown, TamePlace, holds_store, place_step, EndsLike, Answers, LeadsOver, is_at_store}
use Rattle.rv_image.proofs.Profiles.{laid_out}
use Rattle.cfi_unit.specs.declared.unit.Unit as U
use Rattle.cfi_unit.proofs.Counts.{some_word}
use Rattle.cfi_unit.proofs.Parts.{own_is_part}
use Rattle.cfi_runs.specs.Matching as own
use Rattle.cfi_runs.proofs.Calmly.{within_going, within_more, within_then, within_weaker}
use Rattle.cfi_runs.proofs.Ends.{closing_keeps_match}
use Rattle.cfi_runs.proofs.GroupRuns.{paths_join, words_join}
use Rattle.cfi_runs.proofs.Matched.{unit_keeps_match}
use Rattle.cfi_runs.proofs.Paths.{path_keeps_match, sites_fit, unit_within}
use Rattle.cfi_runs.proofs.WholeRun.{path_fit}
use Rattle.cfi_meaning.specs.StepLaws as law
use Rattle.cfi_meaning.proofs.AtLater.{at_later_is}
use Rattle.cfi_meaning.proofs.GoesOn.{step_goes_on}
use Rattle.cfi_meaning.proofs.GroupSteps.{group_runs}
use Rattle.cfi_meaning.proofs.KindActs.{IsOwn}
use Rattle.cfi_meaning.proofs.KindFits.{Fits, GoesFit}
use Rattle.cfi_meaning.proofs.Matching.{fits_of, fitting, from_own, to_own}
use Rattle.cfi_meaning.proofs.OverStores.{StoresMade, all_made, stores_made, whole_group}
use Rattle.cfi_meaning.proofs.Places.{place_runs}
use Rattle.cfi_meaning.proofs.PlacesKept.{ends_like, few_words}
use Rattle.cfi_meaning.proofs.Prologue.{written_prologue}
use Rattle.cfi_meaning.proofs.Steps.{Stepped, at_closing, at_place, has_ended, is_untame, stepped}
use Rattle.cfi_meaning.proofs.StoreSteps.{goes_or_untame, store_goes, store_next}

-- a place has more words than the closing
words_many : (version : GraphVersion) (sides : ℕ) → 20 ≤ most_words_by version sides
words_many OneLabel sides = omega arith
words_many TwoLabels sides = omega arith
words_many CalleeSaves sides = omega arith

-- what ends like an own step ends as the source machine's does
pub ends_as : (layout : ProgramAtMap) (turn : StepTurn) (next : Source) (o : OwnAfter) → IsOwn layout o turn next → (after : After) → EndsLike o after →
    EndsAs layout turn next after
ends_as layout ran next o own after like = tt
ends_as layout (exits status) next o own after like = (like.0 ∙ own.0, subst (λ (s : Shared). SameData s after.shared) own.1 like.1)
ends_as layout (breaks k) next o own after like = (like.0 ∙ own.0, own.1, subst (λ (s : Shared). SameData s after.shared) own.2 like.1)
ends_as layout (untame why k) next o own after like = tt

module _ (m : Choice) (image : Contents) (of : IsImageOf m image) where
  abbrev memory : Memory
  memory = loaded image

  abbrev p : Profile
  p = m.layout.profile

  has : HasPrologue p image (entry_arrival m)
  has = written_prologue m image of

  own_part : IsPart p SHADOW_START
  own_part = let some = (laid_out p of.accepted.profile).some in own_is_part p of.accepted.profile 0 (omega arith)

  abbrev Like : Own → Hart → Shared → Type 0
  Like = own.Matches p.callee_saves SHADOW_START memory memory

  abbrev Comes : Own → After → Type 0
  Comes = ComesTo p.callee_saves SHADOW_START memory memory

  abbrev Ended : Own → U.Unit → After → Type 0
  Ended last unit = MatchesAfter p.callee_saves SHADOW_START memory memory (own_step p last unit)

  -- a path of some units from any state that matches: the first step made
  along : (path : List U.Unit) (unit : U.Unit) (o last : Own) (h : Hart) (s : Shared) → SitesFit o.pending → OwnRuns p memory (unit ∷ path) o last → Like o h s →
      Within p (words_along (unit ∷ path) - 1) (Comes last) (step p h s)
  along path unit o last h s fit on matches =
      let some = some_word unit in
      let counted : word_count unit - 1 + words_along path ≡ words_along (unit ∷ path) - 1 = omega arith in
      subst (λ (n : ℕ). Within p n (Comes last) (step p h s)) counted
      (within_then p (Ended o unit) (Comes last) (word_count unit - 1) (words_along path) (step p h s)
      (unit_keeps_match p SHADOW_START memory memory unit o h s own_part has.bytes fit on.0 matches)
      (λ b r. within_going p (Comes last) (words_along path) b (r.turn ∙ on.1)
      (path_keeps_match p SHADOW_START memory memory path (own_step p o unit).state last b.hart b.shared own_part has.bytes (sites_fit p memory unit o on.0 fit) on.2
      (r.going on.1))))

  -- a path, then a unit
  up_to : (path : List U.Unit) (unit : U.Unit) (o last : Own) (h : Hart) (s : Shared) → SitesFit o.pending → OwnRuns p memory path o last →
      TameStep p.callee_saves memory unit last → Like o h s → Within p (words_along path + word_count unit - 1) (Ended last unit) (step p h s)
  up_to [] unit o last h s fit same tame matches =
      let alone : word_count unit - 1 ≡ words_along [] + word_count unit - 1 = omega arith in
      subst (λ (n : ℕ). Within p n (Ended last unit) (step p h s)) alone
      (unit_keeps_match p SHADOW_START memory memory unit last h s own_part has.bytes (subst (λ (x : Own). SitesFit x.pending) (sym same) fit) tame
      (subst (λ (x : Own). Like x h s) (sym same) matches))
  up_to (first ∷ path) unit o last h s fit on tame matches =
      let some = some_word first in
      let counted : words_along (first ∷ path) - 1 + word_count unit ≡ words_along (first ∷ path) + word_count unit - 1 = omega arith in
      subst (λ (n : ℕ). Within p n (Ended last unit) (step p h s)) counted
      (within_then p (Comes last) (Ended last unit) (words_along (first ∷ path) - 1) (word_count unit) (step p h s) (along path first o last h s fit on matches)
      (λ c there. within_going p (Ended last unit) (word_count unit) c there.0
      (unit_within p SHADOW_START memory memory unit last c.hart c.shared own_part has.bytes (path_fit p image [] (entry_arrival m) has (first ∷ path) o last on fit) tame
      there.1)))

  abbrev most : ℕ
  most = most_words m.layout - 1

  -- a path of as many words at most as a place has
  joined : (before : List U.Unit) (unit : U.Unit) (behind : List U.Unit) (o middle last : Own) (h : Hart) (s : Shared) →
      words_along before + (word_count unit + words_along behind) ≤ most_words m.layout → SitesFit o.pending → OwnRuns p memory before o middle →
      OwnRuns p memory (unit ∷ behind) middle last → Like o h s → Within p most (Comes last) (step p h s)
  joined [] unit behind o middle last h s few fit same on matches =
      within_more p (Comes last) (words_along (unit ∷ behind) - 1) most (step p h s) (omega arith)
      (along behind unit o last h s fit (subst (λ (x : Own). OwnRuns p memory (unit ∷ behind) x last) same on) matches)
  joined (first ∷ before) unit behind o middle last h s few fit on more matches =
      let counted = words_join before (unit ∷ behind) in
      within_more p (Comes last) (words_along (first ∷ before ++ unit ∷ behind) - 1) most (step p h s) (omega arith)
      (along (before ++ unit ∷ behind) first o last h s fit (paths_join p memory (first ∷ before) (unit ∷ behind) o middle last on more) matches)

  -- where the step of a place leads, within as many steps as it has words with those before it
  passes : (k : ℕ) (next : Option ℕ) (st : Source) (last : Own) (after : After) → st.place ≡ Some k → Matches m.layout image st after →
      ComesThrough m image k next (own_of m.layout st) last → Within p most (Comes (shown_of m.layout next last)) (step p after.hart after.shared)
  passes k next st last after at same through =
      let here = through.comes in
      let shows : shown_of m.layout st.place (own_of m.layout st) ≡ shown m k (own_of m.layout st) =
      ap (λ (place : Option ℕ). shown_of m.layout place (own_of m.layout st)) at in
      joined here.path (unit_here m k) through.behind (shown m k (own_of m.layout st)) (at_unit m k (own_of m.layout st)) (shown_of m.layout next last) after.hart
      after.shared through.few (subst (λ (x : Own). SitesFit x.pending) shows (fitting m of.accepted st (fits_of m.layout image st after same))) here.leads (
        here.step,
        ap (λ (a : OwnAfter). a.turn) through.leads,
        subst (λ (a : OwnAfter). OwnRuns p memory through.behind a.state (shown_of m.layout next last)) (sym through.leads) through.lands,
      )
      (subst (λ (x : Own). Like x after.hart after.shared) shows (to_own m.layout image st after same).1)

  ends : (k : ℕ) (st : Source) (after : After) → st.place ≡ Some k → Matches m.layout image st after → holds_store m k ≡ false →
      TamePlace m image k (own_of m.layout st) → Within p most (EndsLike (place_step m k (own_of m.layout st))) (step p after.hart after.shared)
  ends k st after at same other now =
      let o = own_of m.layout st in
      let here = place_runs m image k o of other now in
      let few = few_words m image k o here in
      let shows : shown_of m.layout st.place o ≡ shown m k o = ap (λ (place : Option ℕ). shown_of m.layout place o) at in
      within_weaker p (Ended (at_unit m k o) (unit_here m k)) (EndsLike (place_step m k o)) (ends_like m image k o of.accepted other now) most
      (step p after.hart after.shared)
      (within_more p (Ended (at_unit m k o) (unit_here m k)) (words_along here.path + word_count (unit_here m k) - 1) most (step p after.hart after.shared) (omega arith)
      (up_to here.path (unit_here m k) (shown m k o) (at_unit m k o) after.hart after.shared
      (subst (λ (x : Own). SitesFit x.pending) shows (fitting m of.accepted st (fits_of m.layout image st after same))) here.leads here.step
      (subst (λ (x : Own). Like x after.hart after.shared) shows (to_own m.layout image st after same).1)))

  -- the source machine's step is answered
  abbrev Kept : Source → After → Type 0
  Kept last after = Within p most (Answers m.layout image (source_step m.layout last).turn (source_step m.layout last).state) (step p after.hart after.shared)

  -- an untame step by anything
  nothing_asked : (last : Source) (after : After) (why : Reason) (k : ℕ) → (source_step m.layout last).turn ≡ untame why k → Kept last after
  nothing_asked last after why k is =
      subst (λ (t : StepTurn). Within p most (Answers m.layout image t (source_step m.layout last).state) (step p after.hart after.shared)) (sym is)
      (within_more p (Answers m.layout image (untame why k) (source_step m.layout last).state) 0 most (step p after.hart after.shared) (omega arith) tt)

  -- one that goes on by the state that is next
  answered : (last next : Source) (after : After) → (source_step m.layout last).turn ≡ ran → (source_step m.layout last).state ≡ next → Fits m.layout next →
      Within p most (Comes (shown_of m.layout next.place (own_of m.layout next))) (step p after.hart after.shared) → Kept last after
  answered last next after going is fits comes =
      subst (λ (t : StepTurn). Within p most (Answers m.layout image t (source_step m.layout last).state) (step p after.hart after.shared)) (sym going)
      (subst (λ (x : Source). Within p most (Matches m.layout image x) (step p after.hart after.shared)) (sym is)
      (within_weaker p (Comes (shown_of m.layout next.place (own_of m.layout next))) (Matches m.layout image next)
      (λ b comes. from_own m.layout image next b fits comes) most (step p after.hart after.shared) comes))

  -- one that ends the run by how it ends
  ended : (st : Source) (k : ℕ) (after : After) (turn : StepTurn) → (source_step m.layout st).turn ≡ turn →
      IsOwn m.layout (place_step m k (own_of m.layout st)) turn (source_step m.layout st).state →
      ((b : After) → EndsAs m.layout turn (source_step m.layout st).state b → Answers m.layout image turn (source_step m.layout st).state b) →
      Within p most (EndsLike (place_step m k (own_of m.layout st))) (step p after.hart after.shared) → Kept st after
  ended st k after turn is own answers like =
      let next = (source_step m.layout st).state in
      subst (λ (t : StepTurn). Within p most (Answers m.layout image t next) (step p after.hart after.shared)) (sym is)
      (within_weaker p (EndsLike (place_step m k (own_of m.layout st))) (Answers m.layout image turn next)
      (λ b like. answers b (ends_as m.layout turn next (place_step m k (own_of m.layout st)) own b like)) most (step p after.hart after.shared) like)

  -- the last step of a group
  last_store : (n k : ℕ) (st last : Source) (after : After) → st.place ≡ Some k → Matches m.layout image st after → holds_store m k ≡ true →
      is_later_at m k ≡ false → StoresMade m image n k st last → is_at_later m.layout (source_step m.layout last).state.place ≡ false →
      TamePlace m image (k + n) (own_of m.layout last) →
      IsOwn m.layout (place_step m (k + n) (own_of m.layout last)) (source_step m.layout last).turn (source_step m.layout last).state →
      Fits m.layout (source_step m.layout last).state → Kept last after
  last_store n k st last after at same store first made free now own fits =
      let o = place_step m (k + n) (own_of m.layout last) in
      let turn = (source_step m.layout last).turn in
      let state = (source_step m.layout last).state in
      let goes = store_goes m image (k + n) (own_of m.layout last) of.accepted now made.store in
      elim (goes_or_untame m.layout o turn state own goes.turn) [
        | inr (why, i, not_tame) ↦ nothing_asked last after why i not_tame
        | inl on ↦
            let next : state.place ≡ Some (k + n + 1) = store_next m.layout last (k + n) made.at made.store on in
            let past : is_later_at m (k + n + 1) ≡ false =
            sym (at_later_is m (k + n + 1) of.accepted) ∙ subst (λ (place : Option ℕ). is_at_later m.layout place ≡ false) next free in
            let all : n ≡ behind m k = all_made m image of n k st last made past in
            let there : k + (behind m k + 1) ≡ k + n + 1 = omega arith in
            let leads : IsOwn m.layout o ran state = subst (λ (t : StepTurn). IsOwn m.layout o t state) on own in
            let through = group_runs m image k (own_of m.layout st) o.state of store first (whole_group m image of n k st last o made now refl goes.turn past) in
            answered last state after on refl fits
            (subst (λ (place : Option ℕ). Within p most (Comes (shown_of m.layout place (own_of m.layout state))) (step p after.hart after.shared))
            (ap (λ (j : ℕ). Some j) there ∙ sym next)
            (subst (λ (a : OwnAfter). Within p most (Comes (shown_of m.layout (Some (k + (behind m k + 1))) a.state)) (step p after.hart after.shared)) leads
            (passes k (Some (k + (behind m k + 1))) st o.state after at same through)))
      ]

  -- the stores of a group are kept as one step
  keeps_group : (n k : ℕ) (st last : Source) (after : After) → st.place ≡ Some k → Matches m.layout image st after → holds_store m k ≡ true →
      is_later_at m k ≡ false → StoresMade m image n k st last → is_at_later m.layout (source_step m.layout last).state.place ≡ false → Stepped m image last →
      Kept last after
  keeps_group n k st last after at same store first made free (has_ended status ended is) =
      let wrong : Some status ≡ None = sym ended ∙ made.going in absurd (cc)
  keeps_group n k st last after at same store first made free (is_untame why j is) = nothing_asked last after why j is
  keeps_group n k st last after at same store first made free (at_closing nowhere is) =
      let wrong : Some (k + n) ≡ None = sym made.at ∙ nowhere in absurd (cc)
  keeps_group n k st last after at same store first made free (at_place j there now own goes_fit) =
      let here : j ≡ k + n = same_Some j (k + n) (sym there ∙ made.at) in
      last_store n k st last after at same store first made free (subst (λ (i : ℕ). TamePlace m image i (own_of m.layout last)) here now)
      (subst (λ (i : ℕ). IsOwn m.layout (place_step m i (own_of m.layout last)) (source_step m.layout last).turn (source_step m.layout last).state) here own)
      (goes_fit (made.fits (fits_of m.layout image st after same))).fits

  -- a step of one place
  one_place : (k : ℕ) (st : Source) (after : After) → st.place ≡ Some k → Matches m.layout image st after → holds_store m k ≡ false →
      TamePlace m image k (own_of m.layout st) → GoesFit m.layout (item_of m.layout.program k).kind (source_step m.layout st).state → (turn : StepTurn) →
      (source_step m.layout st).turn ≡ turn → IsOwn m.layout (place_step m k (own_of m.layout st)) turn (source_step m.layout st).state → Kept st after
  one_place k st after at same other now fit ran is own =
      let o = own_of m.layout st in
      let next = (source_step m.layout st).state in
      answered st next after is refl fit.fits
      (subst (λ (a : OwnAfter). Within p most (Comes (shown_of m.layout next.place a.state)) (step p after.hart after.shared)) own
      (passes k next.place st (place_step m k o).state after at same
      (step_goes_on m image k next.place o of other now (ap (λ (a : OwnAfter). a.turn) own) (ap (λ (a : OwnAfter). a.state.pc) own) fit.back)))
  one_place k st after at same other now fit (exits status) is own = ended st k after (exits status) is own (λ b answer. answer) (ends k st after at same other now)
  one_place k st after at same other now fit (breaks j) is own = ended st k after (breaks j) is own (λ b answer. answer) (ends k st after at same other now)
  one_place k st after at same other now fit (untame why j) is own = nothing_asked st after why j is

  keeps_one : (st : Source) (after : After) → Matches m.layout image st after → Stepped m image st →
      ((k : ℕ) → st.place ≡ Some k → holds_store m k ≡ false) → Kept st after
  keeps_one st after same (has_ended status ended is) other =
      let none : last_exit st.shared.events ≡ None = sym (ap last_exit same.events) ∙ same.going in absurd (cc)
  keeps_one st after same (is_untame why k is) other = nothing_asked st after why k is
  keeps_one st after same (at_place k at now own goes_fit) other =
      one_place k st after at same (other k at) now (goes_fit (fits_of m.layout image st after same)) (source_step m.layout st).turn refl own
  keeps_one st after same (at_closing nowhere is) other =
      let o = shown_of m.layout st.place (own_of m.layout st) in
      let pc = ap (address_of m.layout) nowhere in
      let many = words_many m.layout.closed.version (length m.layout.closed.sides) in
      within_weaker p (MatchesAfter p.callee_saves SHADOW_START memory memory (own_closing p o))
      (Answers m.layout image (source_step m.layout st).turn (source_step m.layout st).state)
      (λ b ends. subst (λ (a : SourceAfter). Answers m.layout image a.turn a.state b) (sym is) (ends.turn, ends.shared)) most (step p after.hart after.shared)
      (within_more p (MatchesAfter p.callee_saves SHADOW_START memory memory (own_closing p o)) 1 most (step p after.hart after.shared) (omega arith)
      (closing_keeps_match p SHADOW_START memory memory o after.hart after.shared own_part
      (subst (λ (a : ℕ). Stand memory a closing_instrs) (sym pc) has.closing) (to_own m.layout image st after same).1))

  -- from a place that holds no store no step leads over later stores
  no_more : (n : ℕ) (st last : Source) → is_at_store m.layout st.place ≡ false → LeadsOver m.layout n st last → last ≡ st
  no_more zero st last other over = over
  no_more (suc n) st last other over = let wrong : true ≡ false = sym over.0 ∙ other in absurd (cc)

  keeps_other : (n : ℕ) (st last : Source) (after : After) → Matches m.layout image st after → is_at_store m.layout st.place ≡ false →
      LeadsOver m.layout n st last → Kept last after
  keeps_other n st last after same other over =
      subst (λ (x : Source). Kept x after) (sym (no_more n st last other over))
      (keeps_one st after same (stepped m image of st) (λ k at. ap (is_at_store m.layout) (sym at) ∙ other))

  keeps_at : (n : ℕ) (st last : Source) (after : After) (place : Option ℕ) → st.place ≡ place → Matches m.layout image st after →
      is_at_later m.layout place ≡ false → LeadsOver m.layout n st last → is_at_later m.layout (source_step m.layout last).state.place ≡ false → Kept last after
  keeps_at n st last after None at same first over free = keeps_other n st last after same (ap (is_at_store m.layout) at) over
  keeps_at n st last after (Some k) at same first over free =
      elim (cases_Bool (holds_store m k)) [
        | inr other ↦ keeps_other n st last after same (ap (is_at_store m.layout) at ∙ other) over
        | inl store ↦
            let going : last_exit st.shared.events ≡ None = sym (ap last_exit same.events) ∙ same.going in
            keeps_group n k st last after at same store (sym (at_later_is m k of.accepted) ∙ first) (stores_made m image of n k st last at store going over) free
            (stepped m image of last)
      ]

pub step_kept : law.StepKept
step_kept m image of st after n last same first over free = keeps_at m image of n st last after st.place refl same first over free
