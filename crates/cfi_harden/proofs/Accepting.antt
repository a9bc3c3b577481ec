-- A placement in which no value leaves its range, with labels, makes an accepted choice of a program with its closed graph.
use Rattle.std.proofs.Common.{◌≡◌, ℕ, ◌+◌, ◌-◌, ◌<◌, true, false, List, Option, Some, None, refl, sym, ap, subst, ◌∙◌, arith}
use Rattle.std.specs.Prelude.{is_some, slice_get}
use Rattle.cfi_harden.proofs.Prelude.{GraphVersion, graph_version, profile_for, Form, Plain, Harts, Split, HartsSplit, Lean, HartsLean, has_leaves, instr_at, Program, count, is_end, item_of, may_be_calls, ClosedGraph, Side, IsClosed, IsSide, used_labels, ProgramAtMap, program_at, AreGroups, bounds_in, whole_at, words_from, IsAccepted, IsFitting, IsGraphOf, AreGiven, chosen, IsPlacement, Spaced, Fits, first_astray, IsClosedUnder, PreparedParts, entered_of, IsReady}
use Rattle.rv_image.proofs.Profiles.{is_form_profile}
use Rattle.cfi_class.proofs.Rising.{labels_rise}
use Rattle.cfi_map.proofs.Values.{values_there}
use Rattle.cfi_map.proofs.Greedy.{greedy_groups}
use Rattle.cfi_flow.proofs.Laws.{members_there}
use Rattle.cfi_map.proofs.PlacingLaws.{placements_fit}
use Rattle.cfi_harden.proofs.Listing.{asked_right}
use Rattle.cfi_writer.proofs.CodeRoom.{room_there}
use Rattle.cfi_writer.proofs.SitesThere.{side_at, site_class_there, site_of}

-- a closed graph under a policy is one of its program, for the version that was asked
pub graph_there : (version : GraphVersion) (program : Program) (policy : Option (List ℕ)) (closed : ClosedGraph) → IsClosedUnder version program policy closed →
    IsGraphOf program closed × (closed.version ≡ version)
graph_there version program policy closed under =
    let (raw, is, of) = under.drawn in
    ((_, raw, is, subst (λ (v : GraphVersion). IsClosed v raw closed) (sym of.version_is) of), of.version_is)

-- its list of system calls is the policy's
pub calls_there : (version : GraphVersion) (program : Program) (policy : Option (List ℕ)) (closed : ClosedGraph) → IsClosedUnder version program policy closed →
    may_be_calls closed.calls ≡ true
calls_there version program policy closed under =
    let (raw, is, of) = under.drawn in
    ap may_be_calls (of.calls ∙ is.calls) ∙ asked_right policy

-- the last place of a program that has any
last_there : (program : Program) → 0 < count program → is_end (item_of program (count program - 1)).kind ≡ true →
    (k : ℕ) × (count program ≡ k + 1) × (is_end (item_of program k).kind ≡ true)
last_there program some last = (count program - 1, omega arith, last)

-- images of each form save the sites of calls as graphs of its version say
form_saves : (form : Form) → (profile_for form).callee_saves ≡ has_leaves (graph_version form)
form_saves Plain = refl
form_saves Harts = refl
form_saves Split = refl
form_saves HartsSplit = refl
form_saves Lean = refl
form_saves HartsLean = refl

-- what is chosen for a program: a placement in which no value leaves its range, and labels
module _ (p : PreparedParts) (ready : IsReady p) (s : Spaced) (fitting : IsFitting p s) (labels : List ℕ) (given : AreGiven p.program p.closed labels) where
  -- the placement, with the program of what is prepared
  abbrev pub here : Spaced
  here = record { layout = program_at p.form p.program p.closed s.layout.gates p.entry; whole = s.whole }

  placed_here : IsPlacement p.form here
  placed_here = subst (λ (l : ProgramAtMap). IsPlacement p.form (record { layout = l; whole = s.whole })) fitting.placed.of fitting.placed.placed

  fits_here : Fits p.form here
  fits_here = placements_fit p.form here placed_here

  pub none_astray : first_astray here.layout ≡ None
  none_astray = subst (λ (l : ProgramAtMap). first_astray l ≡ None) fitting.placed.of fitting.in_range

  values : (k : ℕ) → k < count p.program → is_end (item_of p.program k).kind ≡ false →
      is_some (instr_at p.program s.layout.gates (words_from (entered_of p) 0 s.layout.gates) k) ≡ true
  values = values_there p.program s.layout.gates (words_from (entered_of p) 0 s.layout.gates) none_astray

  -- stores that join from left to right are groups
  groups_here : AreGroups (item_of p.program) (bounds_in (entered_of p)) (whole_at s.whole)
  groups_here = greedy_groups (item_of p.program) (bounds_in (entered_of p)) (whole_at s.whole) placed_here.groups

  pub accepted_here : IsAccepted (chosen here labels)
  accepted_here =
      let (policy, raw, is, closes) = ready.graph in
      let of : (j : ℕ) (side : Side) → slice_get p.closed.sides j ≡ Some side → IsSide raw side =
      side_at p.program policy raw is p.closed.version p.closed.sides closes.sorts closes.sides in
      record {
        profile = is_form_profile p.form;
        saves = form_saves p.form ∙ ap has_leaves (sym ready.version);
        sound = ready.sound;
        words = ready.words;
        last = let below = ready.entered in last_there p.program (omega arith) (ready.fits_maps.last (omega arith));
        entry_there = ready.entered;
        legal = placed_here.legal;
        groups = groups_here;
        room = room_there (chosen here labels) ready.sound values (record { sorts = closes.sorts; counted = given.counted }) groups_here (is_form_profile p.form) placed_here.legal fits_here.size;
        values = values;
        calls = ready.calls;
        sorts = closes.sorts;
        members = λ j c k side there h. members_there p.program policy raw side is (of j side there) k (c, h);
        rising = λ j side there. (of j side there).classes.rising;
        apart = λ j a b k side there. (of j side there).classes.apart a b k;
        site_classes = λ j i c side site there. site_class_there p.program policy raw side is (of j side there) i c site;
        sites = site_of p.program policy raw is p.closed.version p.closed.sides closes.sorts closes.sides;
        counted = given.counted;
        labels = given.least;
        labels_rise = labels_rise (used_labels p.program) labels given.least;
        labels_small = given.small;
        shorts = fits_here.shorts;
      }

  pub accepted : IsAccepted (chosen s labels)
  accepted =
      subst (λ (l : ProgramAtMap). IsAccepted (record { layout = l; whole = s.whole; labels = labels })) (sym fitting.placed.of) accepted_here
