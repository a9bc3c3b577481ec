-- A path of tame steps is matched, unit after unit.
use Rattle.std.proofs.Common.{◌≡◌, ℕ, ◌-◌, ◌%◌, ◌^◌, ◌<◌, inr, true, false, List, [], ◌∷◌, length, refl, sym, subst, ◌∙◌, arith}
use Rattle.cfi_runs.proofs.Prelude.{Profile, Memory, Hart, Shared, After, stops, Ran, Act, Flow, flow_of, after_unit, word_count, IsPart, MOST_PENDING, ComesTo, Matches, MatchesAfter, Own, own_act, own_exit, own_step, returns, SitesFit, words_along, ReturnTame, TameStep, TestTame, Within}
use Rattle.cfi_unit.specs.declared.unit.Unit as U
use Rattle.cfi_unit.specs.Flow as F
use Rattle.cfi_unit.specs.Flow.{Exit}
use Rattle.cfi_unit.proofs.Counts.{most_words}
use Rattle.cfi_unit.proofs.Flows.{Suits, entered, is_untested, linked_back, linking_call, linking_computed_call, suits, untested, direct_call, guarded_call, computed_jump, computed_call, turned_back}
use Rattle.cfi_unit.proofs.EffectRows.{one_word}
use Rattle.cfi_runs.specs.MatchLaws as law
use Rattle.cfi_runs.proofs.Calmly.{within_going, within_then}
use Rattle.cfi_runs.proofs.Matched.{unit_keeps_match}

module _ (p : Profile) (image : Memory) (o : Own) (past : ℕ) (even : past % 2 ≡ 0) (small : past < 2 ^ 64) (fit : SitesFit o.pending) where
  called_fit : length o.pending < MOST_PENDING → SitesFit (past ∷ o.pending)
  called_fit room = let most = fit.most in record { each = ((even, small), fit.each); most = omega arith }

  saved_fit : length o.pending < MOST_PENDING → o.regs 1 % 2 ≡ 0 → o.regs 1 < 2 ^ 64 → SitesFit (o.regs 1 ∷ o.pending)
  saved_fit room whole short = let most = fit.most in record { each = ((whole, short), fit.each); most = omega arith }

  returned_fit : (sites : List ℕ) → ReturnTame sites o.regs → SitesFit sites → SitesFit (returns p o sites).state.pending
  returned_fit [] tame fit = absurd tame
  returned_fit (site ∷ sites) tame fit = record { each = fit.each.1; most = let most = fit.most in omega arith }

  exit_fit : (exit : Exit) → is_untested exit ≡ true → SitesFit (own_exit p o exit F.keeps past).state.pending
  exit_fit F.back is = absurd (cc)
  exit_fit (F.either op rs1 rs2 true target) is = fit
  exit_fit (F.either op rs1 rs2 false target) is = fit
  exit_fit other is = fit

  act_fit : (act : Act) (exit : Exit) → is_untested exit ≡ true → SitesFit (own_act p o act exit F.keeps past).state.pending
  act_fit F.none exit is = exit_fit exit is
  act_fit other exit is = fit

  flow_fit : (f : Flow) → Suits f → TestTame image f.test f o.pending o.regs → SitesFit (own_act p o f.act f.exit f.sites past).state.pending
  flow_fit f (untested exit act is) tame = act_fit act exit is
  flow_fit f (direct_call target) tame = called_fit tame
  flow_fit f (guarded_call numbers) tame = fit
  flow_fit f (computed_jump which rs1 imm label) tame = fit
  flow_fit f (computed_call rs1 imm label) tame = called_fit tame.1
  flow_fit f turned_back tame = returned_fit o.pending tame fit
  flow_fit f (linking_call target) tame = fit
  flow_fit f entered tame = saved_fit tame.0 tame.1 tame.2
  flow_fit f (linking_computed_call rs1 imm label) tame = fit
  flow_fit f linked_back tame = fit

-- a tame step leaves pending sites that fit: a call's lies in code, an enter's is an instruction's address
pub sites_fit : (p : Profile) (image : Memory) (unit : U.Unit) (o : Own) → TameStep p.callee_saves image unit o → SitesFit o.pending →
    SitesFit (own_step p o unit).state.pending
sites_fit p image unit o now fit =
    let round = now.stands.round in let high = now.stands.high in let most = most_words unit o.pc now.fits in
    flow_fit p image o (after_unit unit o.pc) (omega arith) (omega arith) fit (flow_of unit) (suits unit) now.tame

-- the first step made
pub unit_within : (p : Profile) (part : ℕ) (image base : Memory) (unit : U.Unit) (o : Own) (h : Hart) (s : Shared) →
    IsPart p part → ((k : ℕ) → image k < 2 ^ 8) → SitesFit o.pending → TameStep p.callee_saves image unit o → Matches p.callee_saves part image base o h s →
    Within p (word_count unit) (MatchesAfter p.callee_saves part image base (own_step p o unit)) (stops h s Ran)
unit_within p part image base unit o h s own bytes fit now m =
    subst (λ (n : ℕ). Within p n (MatchesAfter p.callee_saves part image base (own_step p o unit)) (stops h s Ran)) (one_word unit)
    (inr (refl, unit_keeps_match p part image base unit o h s own bytes fit now m))

pub path_keeps_match : law.PathKeepsMatch
path_keeps_match p part image base [] o o' h s own bytes fit same m =
    (refl, subst (λ (x : Own). Matches p.callee_saves part image base x h s) (sym same) m)
path_keeps_match p part image base (unit ∷ path) o o' h s own bytes fit on m =
    let R : After → Type 0 = MatchesAfter p.callee_saves part image base (own_step p o unit) in
    let Q : After → Type 0 = ComesTo p.callee_saves part image base o' in
    within_then p R Q (word_count unit) (words_along path) (stops h s Ran) (unit_within p part image base unit o h s own bytes fit on.0 m)
    (λ b r. within_going p Q (words_along path) b (r.turn ∙ on.1)
    (path_keeps_match p part image base path (own_step p o unit).state o' b.hart b.shared own bytes
    (sites_fit p image unit o on.0 fit) on.2 (r.going on.1)))
