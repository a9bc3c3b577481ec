-- What a listing says of an address is what the split says there, and each rule fails where it does.
use Rattle.std.proofs.Common.{◌≡◌, ◌≤◌, ◌<◌, ◌⊎◌, inl, inr, ℕ, zero, suc, ◌+◌, ◌-◌, ◌*◌, ◌/◌, ◌%◌, ◌==◌, Bool, true, false, List, [], ◌∷◌, ◌++◌, length, length-drop, drop, take, Option, Some, None, refl, sym, ap, subst, ◌∙◌, arith}
use Rattle.std.specs.Prelude.{slice_get, nat_le, nat_lt, ◌&&◌, ◌||◌, not, is_some, option_map, option_and_then}
use Rattle.std.specs.List.{list_any}
use Rattle.std.proofs.lemmas.Bool.{cases_Bool, cases_lt, cases_eq, le-leb, lt-leb, eqb-true, eq-eqb, ne_eqb, lt-ltb, ltb-true, and_parts, false_from_ne_true, false≢true}
use Rattle.std.proofs.lemmas.List.{drop-drop}
use Rattle.std.proofs.Math.Bool.{and-true, and_comm}
use Rattle.cfi_verify.proofs.Prelude.{GraphVersion, OneLabel, TwoLabels, CalleeSaves, CODE_START, Profile, lies_within, START, decoded, GraphLine, Calls, Leaf, Class, Site, Edge, Call, ClassLine, GraphParts, calls_in, class_in, Shifts, Short, Long, TargetWord, First, Second, Third, Place, recognised, target_in, BAD_TARGET, BAD_RETURN, DEEP, Fits, after_unit, word_count, begins_at, in_leaf, is_fresh, is_gate, is_gate_there, is_right_behind, leaf_of, may_be_called, may_be_reached, stands_by, is_link, written, Entry, IsOf, Listed, prologue_count, IsSplitUp, last_of, spelled, width, entries_of, inside, is_unit, call_at, call_in, count_of, edge_at, edge_in, end_of, enters_at, entry_at, fresh_at, gate_at, gate_in, goes_wrong_at, is_right_behind_at, is_whole, lacks_end_at, may_be_called_at, may_be_reached_at, may_call_at, may_go_at, may_stand, next_at, or_inside, signs_at, site_at, site_in, stands_outside, stands_within, starts_at, fails_at, is_bad_end_at, is_barred, is_barred_at, is_lone_at, is_of_others, is_stop_entry, is_unused_at, may_not_call, Tells, numbers_in, is_outside, holds_of, leaves_in, line_at, targets_for, is_among, read_of, admits, admitted_in, call_of, edge_of, fails, fails_prologue, gate_of, goes_wrong, is_astray, is_bad_end, is_borne, is_call_to, is_edge_to, is_label, is_lone_site, is_of_version, is_site_with, is_stop, is_unused, lacks_end, lacks_gate, may_call, may_call_to, may_go, may_stand_at, prologue_word_fits, signs_in, site_of, code_words, entry_of, is_handler, is_marked, is_start, place_at, starts, unit_at, unit_starts, unit_words, Asks, Rule}
use Rattle.rv_image.proofs.Profiles.{LaidOut}
use Rattle.cfi_unit.specs.declared.unit.Unit as U
use Rattle.cfi_unit.specs.declared.unit.Unit.TheVariants as V
use Rattle.cfi_unit.specs.declared.unit.SystemOp.TheVariants as S
use Rattle.cfi_unit.specs.declared.place.Place.TheVariants.{Handler as handler, Opening as opening, Closing as closing, Body as body}
use Rattle.cfi_pending.specs.Kinds as kinds
use Rattle.cfi_pending.specs.Kinds.{goes_on, is_enter}
use Rattle.cfi_reader.specs.declared.entry.Entry.TheVariants as E
use Rattle.cfi_reader.specs.Entries as reader
use Rattle.cfi_reader.specs.Entries.{entry_of as entry_of_unit, numbers_or_none, plain_entry, writes_link}
use Rattle.cfi_starts.specs.Entries as entries
use Rattle.cfi_rules.specs.declared.reject.Rule.TheVariants as R
use Rattle.cfi_verify.proofs.Cut.{cut_count, cut_is}
use Rattle.cfi_rules.proofs.Find.{no_start_below, no_start_odd, no_unit, start_parts}
use Rattle.cfi_verify.proofs.Lookup.{Behind, HasUnit, Looks, behind, by_plain, lookup, lookup_count, next_is, unit_is}
use Rattle.cfi_unit.proofs.Counts.{some_word}
use Rattle.cfi_verify.proofs.InUnits.{length-starts}

-- what the entry of a unit says of it
edge_is : (calls : List ℕ) (u : U.Unit) (a : ℕ) → Fits u a → edge_of (body u) ≡ edge_in (entry_of_unit calls u a) a
edge_is calls (V.Branch op rs1 rs2 target) a fits = ap Some (sym fits.2)
edge_is calls (V.Near op rs1 rs2 target) a fits = ap Some (sym fits.2)
edge_is calls (V.Jump target) a fits = ap Some (sym fits.1)
edge_is calls (V.Plain instr) a fits = by_plain (λ e. edge_in e a) None refl refl (writes_link instr)
edge_is calls (V.System S.Ecall) a fits = refl
edge_is calls (V.System S.Ebreak) a fits = refl
edge_is calls (V.Stores Shifts rs1 imm members) a fits = refl
edge_is calls (V.Stores Short rs1 imm members) a fits = refl
edge_is calls (V.Stores Long rs1 imm members) a fits = refl
edge_is calls _ a fits = refl

call_is : (calls : List ℕ) (u : U.Unit) (a : ℕ) → Fits u a → call_of (body u) ≡ call_in (entry_of_unit calls u a) a
call_is calls (V.Call target) a fits = ap Some (sym fits.1)
call_is calls (V.LinkCall target) a fits = ap Some (sym fits)
call_is calls (V.Plain instr) a fits = by_plain (λ e. call_in e a) None refl refl (writes_link instr)
call_is calls (V.System S.Ecall) a fits = refl
call_is calls (V.System S.Ebreak) a fits = refl
call_is calls (V.Stores Shifts rs1 imm members) a fits = refl
call_is calls (V.Stores Short rs1 imm members) a fits = refl
call_is calls (V.Stores Long rs1 imm members) a fits = refl
call_is calls _ a fits = refl

site_is : (calls : List ℕ) (u : U.Unit) (a : ℕ) → site_of (body u) ≡ site_in (entry_of_unit calls u a)
site_is calls (V.Plain instr) a = by_plain site_in None refl refl (writes_link instr)
site_is calls (V.System S.Ecall) a = refl
site_is calls (V.System S.Ebreak) a = refl
site_is calls (V.Stores Shifts rs1 imm members) a = refl
site_is calls (V.Stores Short rs1 imm members) a = refl
site_is calls (V.Stores Long rs1 imm members) a = refl
site_is calls _ a = refl

not_and : (a b : Bool) → not (a && b) ≡ (not a || not b)
not_and true b = refl
not_and false b = refl

-- a graph admits a unit where its entry is not barred
of_others : (version : GraphVersion) (calls : List ℕ) (u : U.Unit) (a : ℕ) → not (is_of_version version u) ≡ is_of_others version (entry_of_unit calls u a)
of_others OneLabel calls (V.Plain instr) a = by_plain (is_of_others OneLabel) false refl refl (writes_link instr)
of_others OneLabel calls (V.Ijump which rs1 imm label) a = refl
of_others OneLabel calls (V.System S.Ecall) a = refl
of_others OneLabel calls (V.System S.Ebreak) a = refl
of_others OneLabel calls (V.Stores Shifts rs1 imm members) a = refl
of_others OneLabel calls (V.Stores Short rs1 imm members) a = refl
of_others OneLabel calls (V.Stores Long rs1 imm members) a = refl
of_others OneLabel calls _ a = refl
of_others TwoLabels calls (V.Plain instr) a = by_plain (is_of_others TwoLabels) false refl refl (writes_link instr)
of_others TwoLabels calls (V.Ijump which rs1 imm label) a = refl
of_others TwoLabels calls (V.System S.Ecall) a = refl
of_others TwoLabels calls (V.System S.Ebreak) a = refl
of_others TwoLabels calls (V.Stores Shifts rs1 imm members) a = refl
of_others TwoLabels calls (V.Stores Short rs1 imm members) a = refl
of_others TwoLabels calls (V.Stores Long rs1 imm members) a = refl
of_others TwoLabels calls _ a = refl
of_others CalleeSaves calls (V.Plain instr) a = by_plain (is_of_others CalleeSaves) false refl refl (writes_link instr)
of_others CalleeSaves calls (V.System S.Ecall) a = refl
of_others CalleeSaves calls (V.System S.Ebreak) a = refl
of_others CalleeSaves calls (V.Stores Shifts rs1 imm members) a = refl
of_others CalleeSaves calls (V.Stores Short rs1 imm members) a = refl
of_others CalleeSaves calls (V.Stores Long rs1 imm members) a = refl
of_others CalleeSaves calls _ a = refl

calls_not : (calls : Option (List ℕ)) (u : U.Unit) (a : ℕ) → not (may_call calls u) ≡ may_not_call (is_some calls) (entry_of_unit (numbers_or_none calls) u a)
calls_not None (V.Plain instr) a = by_plain (may_not_call false) false refl refl (writes_link instr)
calls_not None (V.System S.Ecall) a = refl
calls_not None (V.System S.Ebreak) a = refl
calls_not None (V.Stores Shifts rs1 imm members) a = refl
calls_not None (V.Stores Short rs1 imm members) a = refl
calls_not None (V.Stores Long rs1 imm members) a = refl
calls_not None _ a = refl
calls_not (Some calls) (V.Plain instr) a = by_plain (may_not_call true) false refl refl (writes_link instr)
calls_not (Some calls) (V.System S.Ecall) a = refl
calls_not (Some calls) (V.System S.Ebreak) a = refl
calls_not (Some calls) (V.Stores Shifts rs1 imm members) a = refl
calls_not (Some calls) (V.Stores Short rs1 imm members) a = refl
calls_not (Some calls) (V.Stores Long rs1 imm members) a = refl
calls_not (Some calls) _ a = refl

bars : (version : GraphVersion) (calls : Option (List ℕ)) (u : U.Unit) (a : ℕ) → not (admits version calls u) ≡ is_barred version (is_some calls) (entry_of_unit (numbers_or_none calls) u a)
bars version calls u a =
    not_and (is_of_version version u) (may_call calls u)
    ∙ ap (λ b. b || not (may_call calls u)) (of_others version (numbers_or_none calls) u a)
    ∙ ap (λ b. is_of_others version (entry_of_unit (numbers_or_none calls) u a) || b) (calls_not calls u a)

-- what may stand in a leaf and outside of all, and what goes on
links_same : (o : Option ℕ) → is_link o ≡ reader.is_link o
links_same None = refl
links_same (Some rd) = refl

plain_within : (links : Bool) → not links ≡ stands_within (plain_entry links)
plain_within true = refl
plain_within false = refl

stands_is : (calls : List ℕ) (l : Option kinds.Leaf) (u : U.Unit) (a : ℕ) → stands_by l u ≡ may_stand l (entry_of_unit calls u a)
stands_is calls None (V.Plain instr) a = by_plain stands_outside true refl refl (writes_link instr)
stands_is calls (Some l) (V.Plain instr) a = and-true (not (is_link (written instr))) ∙ ap not (links_same (written instr)) ∙ plain_within (writes_link instr)
stands_is calls None (V.System S.Ecall) a = refl
stands_is calls None (V.System S.Ebreak) a = refl
stands_is calls None (V.Stores Shifts rs1 imm members) a = refl
stands_is calls None (V.Stores Short rs1 imm members) a = refl
stands_is calls None (V.Stores Long rs1 imm members) a = refl
stands_is calls None _ a = refl
stands_is calls (Some l) (V.System S.Ecall) a = refl
stands_is calls (Some l) (V.System S.Ebreak) a = refl
stands_is calls (Some l) (V.Stores Shifts rs1 imm members) a = refl
stands_is calls (Some l) (V.Stores Short rs1 imm members) a = refl
stands_is calls (Some l) (V.Stores Long rs1 imm members) a = refl
stands_is calls (Some l) _ a = refl

goes_is : (calls : List ℕ) (u : U.Unit) (a : ℕ) → goes_on u ≡ entries.goes_on (entry_of_unit calls u a)
goes_is calls (V.Plain instr) a = by_plain entries.goes_on true refl refl (writes_link instr)
goes_is calls (V.System S.Ecall) a = refl
goes_is calls (V.System S.Ebreak) a = refl
goes_is calls (V.Stores Shifts rs1 imm members) a = refl
goes_is calls (V.Stores Short rs1 imm members) a = refl
goes_is calls (V.Stores Long rs1 imm members) a = refl
goes_is calls _ a = refl

enter_is : (calls : List ℕ) (u : U.Unit) (a : ℕ) → is_enter (Some u) ≡ entries.is_enter (entry_of_unit calls u a)
enter_is calls (V.Plain instr) a = by_plain entries.is_enter false refl refl (writes_link instr)
enter_is calls (V.System S.Ecall) a = refl
enter_is calls (V.System S.Ebreak) a = refl
enter_is calls (V.Stores Shifts rs1 imm members) a = refl
enter_is calls (V.Stores Short rs1 imm members) a = refl
enter_is calls (V.Stores Long rs1 imm members) a = refl
enter_is calls _ a = refl

gate_there_is : (u : U.Unit) → is_gate u ≡ is_some (gate_of u)
gate_there_is (V.Gate label) = refl
gate_there_is _ = refl

gate_is : (calls : List ℕ) (u : U.Unit) (a : ℕ) → gate_of u ≡ gate_in (entry_of_unit calls u a)
gate_is calls (V.Plain instr) a = by_plain gate_in None refl refl (writes_link instr)
gate_is calls (V.System S.Ecall) a = refl
gate_is calls (V.System S.Ebreak) a = refl
gate_is calls (V.Stores Shifts rs1 imm members) a = refl
gate_is calls (V.Stores Short rs1 imm members) a = refl
gate_is calls (V.Stores Long rs1 imm members) a = refl
gate_is calls _ a = refl

astray_is : (graph : GraphParts) (calls : List ℕ) (u : U.Unit) (a : ℕ) → is_astray graph a u ≡ holds_of (gate_in (entry_of_unit calls u a)) (λ label. is_outside graph.version graph.lines label a)
astray_is graph calls (V.Plain instr) a = by_plain (λ e. holds_of (gate_in e) (λ label. is_outside graph.version graph.lines label a)) false refl refl (writes_link instr)
astray_is graph calls (V.System S.Ecall) a = refl
astray_is graph calls (V.System S.Ebreak) a = refl
astray_is graph calls (V.Stores Shifts rs1 imm members) a = refl
astray_is graph calls (V.Stores Short rs1 imm members) a = refl
astray_is graph calls (V.Stores Long rs1 imm members) a = refl
astray_is graph calls _ a = refl

stop_is : (calls : List ℕ) (u : U.Unit) (a : ℕ) → is_stop u ≡ is_stop_entry (entry_of_unit calls u a)
stop_is calls (V.Plain instr) a = by_plain is_stop_entry false refl refl (writes_link instr)
stop_is calls (V.System S.Ecall) a = refl
stop_is calls (V.System S.Ebreak) a = refl
stop_is calls (V.Stores Shifts rs1 imm members) a = refl
stop_is calls (V.Stores Short rs1 imm members) a = refl
stop_is calls (V.Stores Long rs1 imm members) a = refl
stop_is calls _ a = refl

get_taken : (n k : ℕ) (xs : List ℕ) → k < n → slice_get (take n xs) k ≡ slice_get xs k
get_taken zero k xs below = absurd (omega arith)
get_taken (suc n) k [] below = refl
get_taken (suc n) zero (x ∷ xs) below = refl
get_taken (suc n) (suc k) (x ∷ xs) below = get_taken n k xs (omega arith)

pub same_test : {A : Type 0} (o : Option A) (f g : A → Bool) → ((x : A) → f x ≡ g x) → holds_of o f ≡ holds_of o g
same_test None f g same = refl
same_test (Some x) f g same = same x

or_same : {a b c d : Bool} → a ≡ b → c ≡ d → (a || c) ≡ (b || d)
or_same {b = b} {c = c} e f = ap (λ x. x || c) e ∙ ap (λ x. b || x) f

same_any : {A : Type 0} (f g : A → Bool) (xs : List A) → ((x : A) → f x ≡ g x) → list_any f xs ≡ list_any g xs
same_any f g [] same = refl
same_any f g (x ∷ xs) same = or_same (same x) (same_any f g xs same)

-- no unit starts at an address, and its entry says so
pub record Nothing (p : Profile) (words : List ℕ) (entries : List Entry) (done last a : ℕ) : Type 0 where
  pub start : is_start p words a ≡ false
  pub entry : entry_at p entries a ≡ E.Inside
  pub not_last : a ≡ p.units_from + 4 * last → done ≡ 0

-- a unit starts there, and the entry is its own
pub record Something (p : Profile) (words calls : List ℕ) (entries : List Entry) (done last a : ℕ) (u : U.Unit) : Type 0 where
  pub start : is_start p words a ≡ true
  pub is : unit_at p words a ≡ Some u
  pub fits : Fits u a
  pub entry : entry_at p entries a ≡ entry_of_unit calls u a
  pub low : p.units_from ≤ a
  pub to_last : a + 4 * word_count u ≡ p.units_from + 4 * done → a ≡ p.units_from + 4 * last
  pub from_last : a ≡ p.units_from + 4 * last → a + 4 * word_count u ≡ p.units_from + 4 * done
  pub within : a + 4 * word_count u ≤ p.units_from + 4 * done
  pub behind : Behind entries done ((a - p.units_from) / 4) (word_count u)

module _ (p : Profile) (laid : LaidOut p) where
  unit_on : (words : List ℕ) (a : ℕ) → is_start p words a ≡ true → unit_at p words a ≡ recognised (drop ((a - 0x40000000) / 4) words) a
  unfolding unit_at
  unit_on words a e = rw e refl

  pub start_round : (words : List ℕ) (a : ℕ) → is_start p words a ≡ true → a % 4 ≡ 0
  start_round words a e = (start_parts p laid words a e).round

  start_is : (words : List ℕ) (a : ℕ) → p.units_from ≤ a → a % 4 ≡ 0 → is_start p words a ≡ is_marked (slice_get (unit_starts p words) ((a - p.units_from) / 4))
  unfolding is_start
  start_is words a low even = rw (le-leb p.units_from a low, even) refl

  pub entry_is : (entries : List Entry) (a : ℕ) → p.units_from ≤ a → a % 4 ≡ 0 → entry_at p entries a ≡ or_inside (slice_get entries ((a - p.units_from) / 4))
  unfolding entry_at
  entry_is entries a low even = rw (le-leb p.units_from a low, even) refl

  pub entry_below : (entries : List Entry) (a : ℕ) → a < p.units_from → entry_at p entries a ≡ E.Inside
  unfolding entry_at
  entry_below entries a below = rw (lt-leb p.units_from a below) refl

  entry_odd : (entries : List Entry) (a : ℕ) → p.units_from ≤ a → (a % 4 ≡ 0 → ⊥) → entry_at p entries a ≡ E.Inside
  unfolding entry_at
  entry_odd entries a low odd = rw (le-leb p.units_from a low, ne_eqb (a % 4) 0 odd) refl

  -- where a unit starts by its entry
  pub started_place : (entries : List Entry) (a : ℕ) → is_unit (entry_at p entries a) ≡ true → (p.units_from ≤ a) × (a % 4 ≡ 0)
  started_place entries a e =
      elim (cases_lt a p.units_from) [
        | inl below ↦ absurd (false≢true (sym (ap is_unit (entry_below entries a below)) ∙ e))
        | inr low ↦ elim (cases_eq (a % 4) 0) [
          | inl even ↦ (low, even)
          | inr odd ↦ absurd (false≢true (sym (ap is_unit (entry_odd entries a low odd)) ∙ e))
        ]
      ]

  module _ (words calls : List ℕ) (entries : List Entry) (done last : ℕ) (s : IsSplitUp calls p.units_from entries done last (unit_words p words)) where
    looks : (k : ℕ) → Looks calls s.units (unit_words p words) p.units_from k (or_inside (slice_get entries k))
    looks k =
        subst (λ (ws : List ℕ). Looks calls s.units ws p.units_from k (or_inside (slice_get entries k))) (sym s.words_are)
        (subst (λ (es : List Entry). Looks calls s.units (spelled s.units p.units_from ++ s.past) p.units_from k (or_inside (slice_get es k))) (sym s.entries_are)
        (lookup calls s.units p.units_from s.past s.room s.stand s.none k))

    spans : (k : ℕ) (e : Entry) (u : U.Unit) → HasUnit calls s.units (unit_words p words) p.units_from k e u → Behind entries done k (word_count u)
    spans k e u h =
        subst (λ (es : List Entry). Behind es done k (word_count u)) (sym s.entries_are)
        (subst (λ (n : ℕ). Behind (entries_of calls s.units p.units_from ++ inside s.room) n k (word_count u)) (sym s.done_is)
        (behind calls s.units p.units_from s.past s.room s.stand k u (ap (λ ws. slice_get (starts 0 ws p.units_from) k) (sym s.words_are) ∙ h.mark)
        (ap (λ ws. recognised (drop k ws) (p.units_from + 4 * k)) (sym s.words_are) ∙ h.is) h.within))

    -- the split covers what is done
    pub marks_done : length (unit_starts p words) ≡ done
    marks_done =
        ap (λ ws. length (starts 0 ws p.units_from)) s.words_are
        ∙ lookup_count s.units p.units_from s.past s.stand s.none ∙ sym s.done_is

    pub there : (a : ℕ) → Nothing p words entries done last a ⊎ ((u : U.Unit) × Something p words calls entries done last a u)
    there a =
        elim (cases_lt a p.units_from) [
          | inl below ↦ inl (record {
            start = no_start_below p laid words a below;
            entry = entry_below entries a below;
            not_last = λ e. absurd (omega arith);
          })
          | inr low ↦ elim (cases_eq (a % 4) 0) [
            | inr odd ↦ inl (record {
              start = no_start_odd p laid words a odd;
              entry = entry_odd entries a low odd;
              not_last = λ e. absurd (odd (omega arith));
            })
            | inl even ↦
                let at : p.units_from + 4 * ((a - p.units_from) / 4) ≡ a = omega arith in
                let is_last : last ≡ last_of s.units = s.last_is in
                let is_done : done ≡ width s.units = s.done_is in
                elim (looks ((a - p.units_from) / 4)) [
                  | inl n ↦ inl (record {
                    start = start_is words a low even ∙ n.mark;
                    entry = entry_is entries a low even ∙ n.entry;
                    not_last = λ e. is_done ∙ n.last (omega arith);
                  })
                  | inr (u, h) ↦
                      let start = start_is words a low even ∙ ap is_marked h.mark in
                      let index : prologue_count p + (a - p.units_from) / 4 ≡ (a - 0x40000000) / 4 = omega arith in
                      let within = h.within in
                      inr (
                        u,
                        record {
                          start = start;
                          is =
                              unit_on words a start
                              ∙ ap (λ i. recognised (drop i words) a) (sym index)
                              ∙ ap (λ ws. recognised ws a) (sym (drop-drop ((a - p.units_from) / 4) (prologue_count p) words))
                              ∙ ap (recognised (drop ((a - p.units_from) / 4) (unit_words p words))) (sym at)
                              ∙ h.is;
                          fits = subst (λ (b : ℕ). Fits u b) at h.fits;
                          entry = entry_is entries a low even ∙ h.entry ∙ ap (entry_of_unit calls u) at;
                          low = low;
                          to_last = λ e. let there : (a - p.units_from) / 4 ≡ last_of s.units = h.to_last (omega arith) in omega arith;
                          from_last = λ e. let end : (a - p.units_from) / 4 + word_count u ≡ width s.units = h.from_last (omega arith) in omega arith;
                          within = omega arith;
                          behind = spans ((a - p.units_from) / 4) _ u h;
                        },
                      )
                ]
          ]
        ]

  -- where a run starts the opening stands
  at_start : (words : List ℕ) → place_at p words START ≡ option_map opening (entry_of p words)
  unfolding place_at
  at_start words = refl

  -- from the first unit on a place is a unit
  pub place_from : (words : List ℕ) (a : ℕ) → p.units_from ≤ a → place_at p words a ≡ option_map body (unit_at p words a)
  unfolding place_at
  place_from words a above =
      rw (
        ne_eqb a BAD_TARGET (λ e. omega arith),
        ne_eqb a BAD_RETURN (λ e. omega arith),
        ne_eqb a DEEP (λ e. omega arith),
        ne_eqb a START (λ e. omega arith),
        ne_eqb a p.closing (λ e. omega arith),
      ) refl

  -- and below it no part of the prologue but the opening
  below_nothing : {A : Type 0} (f : Place → Option A) (words : List ℕ) (a : ℕ) → a < p.units_from → f handler ≡ None → f closing ≡ None →
      ((entry : ℕ) → a ≡ START → f (opening entry) ≡ None) → option_and_then f (place_at p words a) ≡ None
  unfolding place_at
  below_nothing f words a below first last enters =
      elim (cases_Bool (is_handler a)) [
        | inl h ↦ rw (h, place_at) first
        | inr h ↦ elim (cases_Bool (a == START)) [
          | inl o ↦ rw (h, o, place_at) (opened (entry_of p words) (eqb-true a _ o))
          | inr o ↦ elim (cases_Bool (a == p.closing)) [
            | inl c ↦ rw (h, o, c, place_at) last
            | inr c ↦ rw (h, o, c, place_at, no_unit p laid words a (no_start_below p laid words a below)) refl
          ]
        ]
      ]
    where
      opened : (entry : Option ℕ) → a ≡ START → option_and_then f (option_map opening entry) ≡ None
      opened None e = refl
      opened (Some entry) e = enters entry e

  -- a place that is a unit, by its entry
  told_from : {A : Type 0} (f : Place → Option A) (g : Entry → ℕ → Option A) (words calls : List ℕ) (entries : List Entry) (done last a : ℕ) →
      Nothing p words entries done last a ⊎ ((u : U.Unit) × Something p words calls entries done last a u) → p.units_from ≤ a →
      ((b : ℕ) → g E.Inside b ≡ None) → ((u : U.Unit) → Fits u a → f (body u) ≡ g (entry_of_unit calls u a) a) →
      option_and_then f (place_at p words a) ≡ g (entry_at p entries a) a
  told_from f g words calls entries done last a (inl n) low none some =
      ap (option_and_then f) (place_from words a low)
      ∙ ap (λ o. option_and_then f (option_map body o)) (no_unit p laid words a n.start)
      ∙ sym (none a) ∙ ap (λ e. g e a) (sym n.entry)
  told_from f g words calls entries done last a (inr (u, h)) low none some =
      ap (option_and_then f) (place_from words a low)
      ∙ ap (λ o. option_and_then f (option_map body o)) h.is
      ∙ some u h.fits ∙ ap (λ e. g e a) (sym h.entry)

  -- the listing of a code tells of its words
  pub tells : (calls : List ℕ) (t : Listed) (bytes : List ℕ) → IsOf p calls t bytes → t.fed / 4 ≤ length t.entries + prologue_count p → Tells p calls t (code_words bytes)
  tells calls t bytes is room =
      let count : length bytes / 4 ≡ length is.words = cut_count is.cut in
      let fed : t.fed ≡ length bytes = is.fed in
      let left : length (unit_words p is.words) ≡ length is.words - prologue_count p = length-drop (prologue_count p) is.words in
      subst (Tells p calls t) (sym (cut_is is.cut)) (record {
        count = ap (λ n. n / 4) fed ∙ count;
        prologue = is.prologue;
        split = is.split (omega arith);
      })

  module _ (calls : List ℕ) (t : Listed) (words : List ℕ) (w : Tells p calls t words) where
    abbrev at_address : (a : ℕ) → Nothing p words t.entries t.done t.last a ⊎ ((u : U.Unit) × Something p words calls t.entries t.done t.last a u)
    at_address = there words calls t.entries t.done t.last w.split

    pub entry_told : entry_of p words ≡ entry_of p t.prologue
    entry_told =
        ap (λ o. target_in p.opening_call (option_and_then decoded o))
        (sym (get_taken (prologue_count p) ((p.opening_call - CODE_START) / 4) words (omega arith)) ∙ ap (λ ws. slice_get ws ((p.opening_call - CODE_START) / 4)) (sym w.prologue))

    pub edge_told : (a : ℕ) → option_and_then edge_of (place_at p words a) ≡ edge_at p t a
    edge_told a =
        elim (cases_lt a p.units_from) [
          | inl below ↦ below_nothing edge_of words a below refl refl (λ entry e. refl) ∙ ap (λ e. edge_in e a) (sym (entry_below t.entries a below))
          | inr low ↦ told_from edge_of edge_in words calls t.entries t.done t.last a (at_address a) low (λ b. refl) (λ u fits. edge_is calls u a fits)
        ]

    pub call_told : (a : ℕ) → option_and_then call_of (place_at p words a) ≡ call_at p t a
    call_told a =
        elim (cases_eq a START) [
          | inl here ↦ subst (λ (b : ℕ). option_and_then call_of (place_at p words b) ≡ call_at p t b) (sym here) (opened ∙ entry_told)
          | inr other ↦ rw (ne_eqb a START other) (elim (cases_lt a p.units_from) [
            | inl below ↦ below_nothing call_of words a below refl refl (λ entry e. absurd (other e)) ∙ ap (λ e. call_in e a) (sym (entry_below t.entries a below))
            | inr low ↦ told_from call_of call_in words calls t.entries t.done t.last a (at_address a) low (λ b. refl) (λ u fits. call_is calls u a fits)
          ])
        ]
      where
        back : (o : Option ℕ) → option_and_then call_of (option_map opening o) ≡ o
        back None = refl
        back (Some x) = refl

        opened : option_and_then call_of (place_at p words START) ≡ entry_of p words
        opened = ap (option_and_then call_of) (at_start words) ∙ back (entry_of p words)

    pub site_told : (a : ℕ) → option_and_then site_of (place_at p words a) ≡ site_at p t a
    site_told a =
        elim (cases_lt a p.units_from) [
          | inl below ↦ below_nothing site_of words a below refl refl (λ entry e. refl) ∙ ap site_in (sym (entry_below t.entries a below))
          | inr low ↦ told_from site_of (λ e b. site_in e) words calls t.entries t.done t.last a (at_address a) low (λ b. refl) (λ u fits. site_is calls u a)
        ]

    pub start_told : (a : ℕ) → is_start p words a ≡ starts_at p t a
    start_told a =
        elim (at_address a) [
          | inl n ↦ n.start ∙ ap is_unit (sym n.entry)
          | inr (u, h) ↦ h.start ∙ sym (unit_is calls u a) ∙ ap is_unit (sym h.entry)
        ]

    gate_told : (a : ℕ) → option_and_then gate_of (unit_at p words a) ≡ gate_at p t a
    gate_told a =
        elim (at_address a) [
          | inl n ↦ ap (option_and_then gate_of) (no_unit p laid words a n.start) ∙ ap gate_in (sym n.entry)
          | inr (u, h) ↦ ap (option_and_then gate_of) h.is ∙ gate_is calls u a ∙ ap gate_in (sym h.entry)
        ]

    has_told : (a : ℕ) → is_some (unit_at p words a) ≡ starts_at p t a
    has_told a =
        elim (at_address a) [
          | inl n ↦ ap is_some (no_unit p laid words a n.start) ∙ ap is_unit (sym n.entry)
          | inr (u, h) ↦ ap is_some h.is ∙ sym (unit_is calls u a) ∙ ap is_unit (sym h.entry)
        ]

    enters_told : (a : ℕ) → is_enter (unit_at p words a) ≡ enters_at p t a
    enters_told a =
        elim (at_address a) [
          | inl n ↦ ap is_enter (no_unit p laid words a n.start) ∙ ap entries.is_enter (sym n.entry)
          | inr (u, h) ↦ ap is_enter h.is ∙ enter_is calls u a ∙ ap entries.is_enter (sym h.entry)
        ]

    gate_there_told : (a : ℕ) → is_gate_there (unit_at p words a) ≡ is_some (gate_at p t a)
    gate_there_told a = by (unit_at p words a) ∙ ap is_some (gate_told a)
      where
        by : (o : Option U.Unit) → is_gate_there o ≡ is_some (option_and_then gate_of o)
        by None = refl
        by (Some u) = gate_there_is u

    fresh_told : (leaves : List kinds.Leaf) (a : ℕ) → is_fresh (unit_at p words) leaves a ≡ fresh_at p t leaves a
    fresh_told leaves a =
        ap (λ b. is_some (leaf_of leaves a) || (b || (is_gate_there (unit_at p words a) && is_enter (unit_at p words (a + 4))))) (enters_told a)
        ∙ ap (λ b. is_some (leaf_of leaves a) || (enters_at p t a || (b && is_enter (unit_at p words (a + 4))))) (gate_there_told a)
        ∙ ap (λ b. is_some (leaf_of leaves a) || (enters_at p t a || (is_some (gate_at p t a) && b))) (enters_told (a + 4))

    done_within : t.done ≤ length words - prologue_count p
    done_within =
        let most = length-starts 0 (unit_words p words) p.units_from in
        let left : length (unit_words p words) ≡ length words - prologue_count p = length-drop (prologue_count p) words in
        let marks : length (unit_starts p words) ≡ t.done = marks_done words calls t.entries t.done t.last w.split in
        omega (arith, most, left, marks)

    -- where the unit at an address ends
    next_told : (a : ℕ) (u : U.Unit) → Something p words calls t.entries t.done t.last a u → next_at p t a ≡ after_unit u a
    next_told a u h =
        let count : t.fed / 4 ≡ length words = w.count in
        let most = done_within in
        let some = some_word u in
        let low = h.low in
        let within = h.within in
        let even : a % 4 ≡ 0 = start_round words a h.start in
        let all : t.done ≡ end_of p t = omega arith in
        let next = next_is t.entries t.done ((a - p.units_from) / 4) (word_count u) some (omega arith) h.behind in
        ap (λ n. p.units_from + 4 * entries.next_in t.entries n ((a - p.units_from) / 4)) (sym all) ∙ ap (λ n. p.units_from + 4 * n) next ∙ omega arith

    behind_told : (leaves : List kinds.Leaf) (l : Option kinds.Leaf) (a : ℕ) (u : U.Unit) → Something p words calls t.entries t.done t.last a u →
        is_right_behind (unit_at p words) leaves l a u ≡ is_right_behind_at p t leaves l a
    behind_told leaves (Some l) a u h = ap (λ n. in_leaf n l) (sym (next_told a u h))
    behind_told leaves None a u h =
        or_same (ap (λ b. b && is_enter (unit_at p words (a + 4))) (gate_there_is u ∙ ap is_some (gate_is calls u a ∙ ap gate_in (sym h.entry))) ∙ ap (λ b. is_some (gate_at p t a) && b) (enters_told (a + 4)))
        (ap not (fresh_told leaves (after_unit u a) ∙ ap (fresh_at p t leaves) (sym (next_told a u h))))

    wrong_told : (leaves : List kinds.Leaf) (a : ℕ) → holds_of (unit_at p words a) (goes_wrong p words leaves a) ≡ goes_wrong_at p t leaves a
    wrong_told leaves a =
        elim (at_address a) [
          | inl n ↦ ap (λ o. holds_of o (goes_wrong p words leaves a)) (no_unit p laid words a n.start) ∙ ap (λ e. entries.goes_on e && not (is_right_behind_at p t leaves (leaf_of leaves a) a)) (sym n.entry)
          | inr (u, h) ↦
              ap (λ o. holds_of o (goes_wrong p words leaves a)) h.is
              ∙ ap (λ b. b && not (is_right_behind (unit_at p words) leaves (leaf_of leaves a) a u)) (goes_is calls u a ∙ ap entries.goes_on (sym h.entry))
              ∙ ap (λ b. entries.goes_on (entry_at p t.entries a) && not b) (behind_told leaves (leaf_of leaves a) a u h)
        ]

    end_told : (a : ℕ) (line : GraphLine) → lacks_end p words a line ≡ lacks_end_at p t a line
    end_told a (Calls numbers) = refl
    end_told a (Leaf from to) =
        ap (λ b. (from == a) && not (b && (is_start p words to || (to == CODE_START + 4 * length words)))) (start_told from)
        ∙ ap (λ b. (from == a) && not (starts_at p t from && (b || (to == CODE_START + 4 * length words)))) (start_told to)
        ∙ ap (λ n. (from == a) && not (starts_at p t from && (starts_at p t to || (to == CODE_START + 4 * n)))) (sym w.count)
    end_told a (Class sort label targets) = refl
    end_told a (Site address kind label) = refl
    end_told a (Edge from to) = refl
    end_told a (Call from to) = refl

    reached_told : (leaves : List kinds.Leaf) (l : Option kinds.Leaf) (x : ℕ) → may_be_reached (unit_at p words) leaves l x ≡ may_be_reached_at p t leaves l x
    reached_told leaves None x = ap not (fresh_told leaves x)
    reached_told leaves (Some l) x = refl

    go_told : (leaves : List kinds.Leaf) (a x : ℕ) → may_go p words leaves a x ≡ may_go_at p t leaves a x
    go_told leaves a x =
        ap (λ b. b && may_be_reached (unit_at p words) leaves (leaf_of leaves a) x) (start_told x)
        ∙ ap (λ b. starts_at p t x && b) (reached_told leaves (leaf_of leaves a) x)

    go_call_told : (saves : Bool) (leaves : List kinds.Leaf) (a x : ℕ) → may_call_to saves p words leaves a x ≡ may_call_at p saves t leaves a x
    go_call_told true leaves a x =
        ap (λ b. b && may_be_called (unit_at p words) leaves x) (start_told x)
        ∙ ap (λ b. starts_at p t x && (b || list_any (begins_at x) leaves)) (enters_told x)
    go_call_told false leaves a x = go_told leaves a x

    misses_told : (f g : ℕ → Bool) (o other : Option ℕ) → o ≡ other → ((x : ℕ) → f x ≡ g x) → holds_of o (λ x. not (f x)) ≡ holds_of other (λ x. not (g x))
    misses_told f g o other e same = ap (λ q. holds_of q (λ x. not (f x))) e ∙ same_test other _ _ (λ x. ap not (same x))

    borne_told : (leaves : List kinds.Leaf) (which : TargetWord) (a label : ℕ) → is_borne (signs_in p words leaves) which a label ≡ is_borne (signs_at p t leaves) which a label
    borne_told leaves First a label =
        ap (λ o. is_label o label && not (is_fresh (unit_at p words) leaves a)) (gate_told a)
        ∙ ap (λ b. is_label (gate_at p t a) label && not b) (fresh_told leaves a)
    borne_told leaves Second a label =
        ap (λ b. b && is_label (option_and_then gate_of (unit_at p words (a + 4))) label) (has_told a)
        ∙ ap (λ o. starts_at p t a && is_label o label) (gate_told (a + 4))
    borne_told leaves Third a label =
        ap (λ o. is_label o label && is_enter (unit_at p words (a + 12))) (gate_told (a + 8))
        ∙ ap (λ b. is_label (gate_at p t (a + 8)) label && b) (enters_told (a + 12))

    barred_told : (graph : GraphParts) → calls ≡ numbers_in graph → (a : ℕ) → holds_of (unit_at p words a) (λ unit. not (may_stand_at graph a unit)) ≡ (is_barred_at p t graph a || entries.stands_wrong_at p t (leaves_in graph.lines) a)
    barred_told graph same a =
        let barred : Entry → Bool = λ e. is_barred graph.version (is_some (calls_in graph.lines)) e || not (may_stand (leaf_of (leaves_in graph.lines) a) e) in
        elim (at_address a) [
          | inl n ↦ ap (λ o. holds_of o (λ unit. not (may_stand_at graph a unit))) (no_unit p laid words a n.start) ∙ inside_stands (leaf_of (leaves_in graph.lines) a) ∙ ap barred (sym n.entry)
          | inr (u, h) ↦
              ap (λ o. holds_of o (λ unit. not (may_stand_at graph a unit))) h.is
              ∙ not_and (admitted_in graph u) _
              ∙ or_same (bars graph.version (calls_in graph.lines) u a) (ap not (stands_is (numbers_in graph) (leaf_of (leaves_in graph.lines) a) u a))
              ∙ ap (λ ns. barred (entry_of_unit ns u a)) (sym same) ∙ ap barred (sym h.entry)
        ]
      where
        inside_stands : (l : Option kinds.Leaf) → false ≡ (false || not (may_stand l E.Inside))
        inside_stands None = refl
        inside_stands (Some l) = refl

    astray_told : (graph : GraphParts) (a : ℕ) → holds_of (unit_at p words a) (is_astray graph a) ≡ holds_of (gate_at p t a) (λ label. is_outside graph.version graph.lines label a)
    astray_told graph a =
        elim (at_address a) [
          | inl n ↦ ap (λ o. holds_of o (is_astray graph a)) (no_unit p laid words a n.start) ∙ ap (λ e. holds_of (gate_in e) (λ label. is_outside graph.version graph.lines label a)) (sym n.entry)
          | inr (u, h) ↦ ap (λ o. holds_of o (is_astray graph a)) h.is ∙ astray_is graph calls u a ∙ ap (λ e. holds_of (gate_in e) (λ label. is_outside graph.version graph.lines label a)) (sym h.entry)
        ]

    lacks_told : (version : GraphVersion) (leaves : List kinds.Leaf) (a : ℕ) (line : GraphLine) → lacks_gate version (signs_in p words leaves) a line ≡ lacks_gate version (signs_at p t leaves) a line
    lacks_told version leaves a line =
        same_test (class_in line) (λ (c : ClassLine). is_among a c.targets && not (is_borne (signs_in p words leaves) (read_of version c.sort) a c.label))
        (λ (c : ClassLine). is_among a c.targets && not (is_borne (signs_at p t leaves) (read_of version c.sort) a c.label))
        (λ (c : ClassLine). ap (λ b. is_among a c.targets && not b) (borne_told leaves (read_of version c.sort) a c.label))

    unused_told : (a : ℕ) (line : GraphLine) → is_unused (place_at p words a) line ≡ is_unused_at p t a line
    unused_told a (Calls numbers) = refl
    unused_told a (Leaf from to) = refl
    unused_told a (Class sort label targets) = refl
    unused_told a (Site address kind label) = refl
    unused_told a (Edge from to) = ap (λ o. not (is_some o)) (edge_told a)
    unused_told a (Call from to) = ap (λ o. not (is_some o)) (call_told a)

    lone_told : (a : ℕ) (line : GraphLine) → is_lone_site (place_at p words a) line ≡ is_lone_at p t a line
    lone_told a (Calls numbers) = refl
    lone_told a (Leaf from to) = refl
    lone_told a (Class sort label targets) = refl
    lone_told a (Site address kind label) = ap (λ o. not (is_some o)) (site_told a)
    lone_told a (Edge from to) = refl
    lone_told a (Call from to) = refl

    prologue_told : (a : ℕ) → fails_prologue p words a ≡ fails_prologue p t.prologue a
    prologue_told a =
        elim (cases_lt ((a - CODE_START) / 4) (prologue_count p)) [
          | inl below ↦ ap (λ o. (lies_within CODE_START (p.units_from - CODE_START) a 4 && (a % 4 == 0)) && not (prologue_word_fits p ((a - CODE_START) / 4) o)) (sym (get_taken (prologue_count p) ((a - CODE_START) / 4) words below) ∙ ap (λ ws. slice_get ws ((a - CODE_START) / 4)) (sym w.prologue))
          | inr past ↦ off (nat_le CODE_START a) (nat_le (a + 4) (CODE_START + (p.units_from - CODE_START))) _ _ _ (lt-leb (a + 4) (CODE_START + (p.units_from - CODE_START)) (omega arith))
        ]
      where
        off : (low high round x y : Bool) → high ≡ false → ((low && high) && round && x) ≡ ((low && high) && round && y)
        off true high round x y e = rw e refl
        off false high round x y e = refl

    short_told : nat_le (CODE_START + 4 * length words) p.units_from ≡ nat_le (t.fed / 4) (prologue_count p)
    short_told =
        let count : t.fed / 4 ≡ length words = w.count in
        elim (cases_lt (prologue_count p) (length words)) [
          | inl more ↦ lt-leb (CODE_START + 4 * length words) p.units_from (omega arith) ∙ sym (lt-leb (t.fed / 4) (prologue_count p) (omega arith))
          | inr few ↦ le-leb (CODE_START + 4 * length words) p.units_from (omega arith) ∙ sym (le-leb (t.fed / 4) (prologue_count p) (omega arith))
        ]

    bad_end_told : (a : ℕ) → holds_of (unit_at p words a) (is_bad_end words a) ≡ is_bad_end_at p t a
    bad_end_told a =
        let count : t.fed / 4 ≡ length words = w.count in
        elim (at_address a) [
          | inl n ↦
              ap (λ o. holds_of o (is_bad_end words a)) (no_unit p laid words a n.start)
              ∙ sym (false_from_ne_true _ (λ e.
              let both = and_parts (t.done == count_of p t) _ e in
              let q = and_parts (nat_lt t.last t.done) _ both.1 in
              let r = and_parts (a == p.units_from + 4 * t.last) _ q.1 in
              let below : t.last < t.done = ltb-true _ _ q.0 in
              let nothing = n.not_last (eqb-true _ _ r.0) in
              omega arith))
          | inr (u, h) ↦
              let some = some_word u in
              let most = done_within in
              let within = h.within in
              let low = h.low in
              ap (λ o. holds_of o (is_bad_end words a)) h.is
              ∙ elim (cases_eq (a + 4 * word_count u) (CODE_START + 4 * length words)) [
                | inl ends ↦
                    let all : t.done ≡ count_of p t = omega arith in
                    let whole : a + 4 * word_count u ≡ p.units_from + 4 * t.done = omega arith in
                    let last = h.to_last whole in
                    let some_done : t.last < t.done = omega arith in
                    rw (eq-eqb (a + 4 * word_count u) (CODE_START + 4 * length words) ends, eq-eqb t.done (count_of p t) all, lt-ltb t.last t.done some_done, eq-eqb a (p.units_from + 4 * t.last) last)
                    (ap not (stop_is calls u a ∙ ap is_stop_entry (sym h.entry)))
                | inr goes_on ↦
                    rw (ne_eqb (a + 4 * word_count u) (CODE_START + 4 * length words) goes_on)
                    (sym (false_from_ne_true _ (λ e.
                    let both = and_parts (t.done == count_of p t) _ e in
                    let q = and_parts (nat_lt t.last t.done) _ both.1 in
                    let r = and_parts (a == p.units_from + 4 * t.last) _ q.1 in
                    let below : t.last < t.done = ltb-true _ _ q.0 in
                    let all : t.done ≡ count_of p t = eqb-true _ _ both.0 in
                    let end = h.from_last (eqb-true _ _ r.0) in
                    goes_on (omega arith))))
              ]
        ]

    pub fails_told : (rule : Rule) (graph : GraphParts) → calls ≡ numbers_in graph → (a : ℕ) → fails rule p words graph a ≡ fails_at p rule t graph a
    fails_told R.Prologue graph same a = prologue_told a
    fails_told R.Unit graph same a =
        let left : length (unit_words p words) ≡ count_of p t = length-drop (prologue_count p) words ∙ ap (λ n. n - prologue_count p) (sym w.count) in
        or_same (and_comm (a == p.units_from + 4 * length (unit_starts p words)) (nat_lt (length (unit_starts p words)) (length (unit_words p words)))
        ∙ ap (λ n. nat_lt n (length (unit_words p words)) && (a == p.units_from + 4 * n)) (marks_done words calls t.entries t.done t.last w.split)
        ∙ ap (λ n. nat_lt t.done n && (a == p.units_from + 4 * t.done)) left) (barred_told graph same a)
    fails_told R.Leaf graph same a = or_same (same_any _ _ graph.lines (end_told a)) (wrong_told (leaves_in graph.lines) a)
    fails_told R.Target graph same a =
        or_same (misses_told _ _ _ _ (edge_told a) (go_told (leaves_in graph.lines) a)) (misses_told _ _ _ _ (call_told a) (go_call_told p.callee_saves (leaves_in graph.lines) a))
    fails_told R.Unlisted graph same a =
        or_same (ap (λ o. holds_of o (λ target. not (is_edge_to (line_at graph.lines a) target))) (edge_told a))
        (ap (λ o. holds_of o (λ target. not (is_call_to (line_at graph.lines a) target))) (call_told a))
    fails_told R.Unused graph same a = same_test (line_at graph.lines a) _ _ (unused_told a)
    fails_told R.Site graph same a =
        or_same (ap (λ o. holds_of o (λ (asked : Asks). not (is_site_with (line_at graph.lines a) asked && is_some (targets_for graph.lines asked.kind asked.which asked.label)))) (site_told a))
        (same_test (line_at graph.lines a) _ _ (lone_told a))
    fails_told R.Gate graph same a = same_any _ _ graph.lines (lacks_told graph.version (leaves_in graph.lines) a)
    fails_told R.Astray graph same a = astray_told graph a
    fails_told R.End graph same a = or_same (bad_end_told a) (ap (λ b. (a == p.units_from) && b) short_told)

  -- whether something starts at an address from the first unit on
  pub place_told : (calls : List ℕ) (t : Listed) (words : List ℕ) → Tells p calls t words → (a : ℕ) → p.units_from ≤ a → is_start p words a ≡ is_some (place_at p words a)
  place_told calls t words w a low =
      elim (there words calls t.entries t.done t.last w.split a) [
        | inl n ↦ n.start ∙ sym (ap is_some (place_from words a low ∙ ap (option_map body) (no_unit p laid words a n.start)))
        | inr (u, h) ↦ h.start ∙ sym (ap is_some (place_from words a low ∙ ap (option_map body) h.is))
      ]

  -- the unit that starts at an address
  pub unit_told : (calls : List ℕ) (t : Listed) (words : List ℕ) → Tells p calls t words → (a : ℕ) → starts_at p t a ≡ true → unit_at p words a ≡ recognised (drop ((a - 0x40000000) / 4) words) a
  unit_told calls t words w a begun = unit_on words a (start_told calls t words w a ∙ begun)

  pub unit_untold : (calls : List ℕ) (t : Listed) (words : List ℕ) → Tells p calls t words → (a : ℕ) → starts_at p t a ≡ false → unit_at p words a ≡ None
  unit_untold calls t words w a none = no_unit p laid words a (start_told calls t words w a ∙ none)
