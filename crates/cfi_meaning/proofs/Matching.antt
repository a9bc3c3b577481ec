-- A state matches just where it is one that a run of the program's own comes to, as the machine has it; the pending sites are addresses of
-- instructions.
use Rattle.std.proofs.Common.{◌≡◌, ℕ, ◌%◌, ◌^◌, ◌<◌, inl, inr, Bool, true, false, List, [], ◌∷◌, Option, Some, None, arith}
use Rattle.std.specs.List.{AllByRecursion}
use Rattle.std.proofs.lemmas.Bool.{cases_lt}
use Rattle.std.proofs.lemmas.List.{get_or_past}
use Rattle.cfi_meaning.proofs.Prelude.{Contents, loaded, SHADOW_START, GraphVersion, OneLabel, TwoLabels, CalleeSaves, After, count, in_leaf, ProgramAtMap, entered_in, gate, Source, ComesTo, SitesFit, IsAccepted, Choice, Matches, MatchesIsOwn, own_of, saved_at, saved_by, saved_now, shown_of, sites_at, sites_now, sites_of}
use Rattle.rv_image.proofs.Profiles.{laid_out}
use Rattle.cfi_writer.proofs.Gates.{gates_counted}
use Rattle.cfi_writer.proofs.Standing.{gate_lies}
use Rattle.cfi_meaning.proofs.KindFits.{Fits}

module _ (layout : ProgramAtMap) (image : Contents) (st : Source) (after : After) where
  -- a run of the program's own comes to this state
  abbrev pub OwnComes : Type 0
  OwnComes = ComesTo layout.profile.callee_saves SHADOW_START (loaded image) (loaded image) (shown_of layout st.place (own_of layout st)) after

  -- of what is no data and no shadow stack code is a part
  pub to_own : Matches layout image st after → OwnComes
  to_own same = (
    same.turn,
    record {
      pc = same.pc;
      regs = record { same = same.regs };
      shared = record { memory = same.in_data; left = same.left; output = same.output; events = same.events };
      pointer = same.pointer;
      mask = same.mask;
      context = record {
        going = same.going;
        kept = record { code = λ a from to. same.code a (omega arith) (inl (omega arith)); held = same.slots; frame = same.code };
      };
    },
  )

  pub from_own : Fits layout st → OwnComes → Matches layout image st after
  from_own fits comes = record {
    turn = comes.0;
    going = comes.1.context.going;
    pc = comes.1.pc;
    regs = comes.1.regs.same;
    in_data = comes.1.shared.memory;
    left = comes.1.shared.left;
    output = comes.1.shared.output;
    events = comes.1.shared.events;
    pointer = comes.1.pointer;
    slots = comes.1.context.kept.held;
    room = fits.room;
    outside = fits.outside;
    mask = comes.1.mask;
    code = comes.1.context.kept.frame;
  }

  pub fits_of : Matches layout image st after → Fits layout st
  fits_of same = record { room = same.room; outside = same.outside }

pub matches_is_own : MatchesIsOwn
matches_is_own layout image st after = (
  λ same. (same.room, same.outside, to_own layout image st after same),
  λ comes. from_own layout image st after (record { room = comes.0; outside = comes.1 }) comes.2,
)

-- sites
abbrev IsSite : ℕ → Type 0
IsSite site = (site % 2 ≡ 0) × (site < 2 ^ 64)

-- those that are saved are among those that are pending
saved_fit : (version : GraphVersion) (inside : Bool) (sites : List ℕ) → SitesFit sites → SitesFit (saved_by version inside sites)
saved_fit OneLabel inside sites fit = fit
saved_fit TwoLabels inside sites fit = fit
saved_fit CalleeSaves false sites fit = fit
saved_fit CalleeSaves true [] fit = fit
saved_fit CalleeSaves true (site ∷ sites) fit = record { each = fit.each.1; most = let most = fit.most in omega arith }

fit_at : (layout : ProgramAtMap) (place : Option ℕ) (sites : List ℕ) → SitesFit sites → SitesFit (saved_at layout place sites)
fit_at layout None sites fit = fit
fit_at layout (Some k) sites fit = saved_fit layout.closed.version (in_leaf (entered_in layout) k) sites fit

module _ (m : Choice) (ok : IsAccepted m) where
  closing_site : IsSite m.layout.profile.closing
  closing_site =
      let laid = laid_out m.layout.profile ok.profile in
      let first_unit = laid.closing in
      let high = laid.high in
      let round = laid.round in
      (omega arith, omega arith)

  gate_site : (k : ℕ) → IsSite (gate m.layout k)
  gate_site k = elim (cases_lt k (count m.layout.program)) [
    | inl below ↦
        let lies = gate_lies m ok k below in
        let high = lies.1 in
        let round = lies.2 in
        (omega arith, omega arith)
    | inr past ↦
        let counted = gates_counted m ok in
        let none = get_or_past m.layout.gates k 0 (omega arith) in
        (omega arith, omega arith)
  ]

  all_sites : (pending : List ℕ) → AllByRecursion IsSite (sites_of m.layout pending)
  all_sites [] = (closing_site, tt)
  all_sites (k ∷ pending) = (gate_site k, all_sites pending)

  sites_there : (place : Option ℕ) (pending : List ℕ) → AllByRecursion IsSite (sites_at m.layout place pending)
  sites_there None pending = tt
  sites_there (Some k) pending = all_sites pending

  -- the sites on the shadow stack
  pub fitting : (st : Source) → Fits m.layout st → SitesFit (saved_now m.layout st)
  fitting st fits = fit_at m.layout st.place (sites_now m.layout st) (record { each = sites_there st.place st.pending; most = fits.room })
