-- What is prepared is not refused before it is placed, what is hardened is not refused, and one refusal is the first.
use Rattle.std.proofs.Common.{◌≡◌, ℕ, true, false, inl, inr, List, Option, Some, None, Result, Ok, Err, refl, sym, ap, subst, ◌∙◌, arith}
use Rattle.std.specs.Prelude.{IsSome}
use Rattle.std.proofs.lemmas.Option.{same_Some}
use Rattle.cfi_single.proofs.Prelude.{Place, graph_version, End, Fault, LineFault, Program, entry_place, wrong_line, first_astray, Refusal, RefusesPlaced, HardenedParts, IsWrittenOf, FailsAt, IsClosedUnder, IsPreparedOf, IsWrongPolicy, PreparedParts, IsEarly, RefusesProgram, ProgramRequest, policy_asked, policy_end, HardenedIsNotRefused, RefusedInOneWay}
use Rattle.refusals.specs.declared.refusal.Refusal.TheVariants as R
use Rattle.cfi_single.proofs.Placed.{layout_unique, placed_room}
use Rattle.cfi_single.proofs.Prepared.{prepared_unique}

-- a refusal that stands comes before anything is placed, or stands of what is prepared
data Stage (request : ProgramRequest) (r : Refusal) : Type 0 where
  early : IsEarly r → Stage request r
  late : (p : PreparedParts) → IsPreparedOf request p → RefusesPlaced p r → Stage request r

stage : (request : ProgramRequest) (r : Refusal) → RefusesProgram request r → Stage request r
stage request R.NoEntry x = early tt
stage request (R.Policy n) x = early tt
stage request (R.CodeTooLarge bytes) (p, prepared, x) = late p prepared x
stage request (R.DataTooLarge init end) (p, prepared, x) = late p prepared x
stage request (R.RelocRange section offset) (p, prepared, x) = late p prepared x
stage request other x = absurd x

-- a policy under which a graph is closed has no wrong line
no_wrong_policy : (program : Program) (policy : Option (List ℕ)) (n : ℕ) → IsWrongPolicy program policy n
    → (end : Result (Unit {0}) (End LineFault)) → policy_end policy ≡ end → end ≡ Ok tt
    → wrong_line program (policy_asked policy) ≡ None → ⊥
no_wrong_policy program policy n (inl wrong) end is whole right = absurd (cc)
no_wrong_policy program policy n (inr (none, fails)) end is whole right =
    subst (λ (e : Result (Unit {0}) (End LineFault)). FailsAt e n) (is ∙ whole) fails

-- what is prepared is not refused before it is placed
module _ (request : ProgramRequest) (p : PreparedParts) (prepared : IsPreparedOf request p) where
  entry_there : entry_place request.program request.entry ≡ Some p.entry
  entry_there = subst (λ (x : Program). entry_place x request.entry ≡ Some p.entry) prepared.program prepared.entry

  closed_there : IsClosedUnder (graph_version p.form) request.program request.policy p.closed
  closed_there = subst (λ (x : Program). IsClosedUnder (graph_version p.form) x request.policy p.closed) prepared.program prepared.closed

  policy_right : (n : ℕ) → IsWrongPolicy request.program request.policy n → ⊥
  policy_right n wrong =
      let closed = closed_there in
      let (raw, is, of) = closed.drawn in
      no_wrong_policy request.program request.policy n wrong (policy_end request.policy) refl closed.whole is.right

  not_early : (r : Refusal) → IsEarly r → RefusesProgram request r → ⊥
  not_early R.NoEntry e x = let there = entry_there in absurd (cc)
  not_early (R.Policy n) e x = absurd (policy_right n x.1)
  not_early (R.CodeTooLarge bytes) e x = absurd e
  not_early (R.DataTooLarge init end) e x = absurd e
  not_early (R.RelocRange section offset) e x = absurd e
  not_early other e x = absurd x

-- and where it is written it is not refused later
written_fits : (p : PreparedParts) (h : HardenedParts) (r : Refusal) → IsWrittenOf p h → RefusesPlaced p r → ⊥
written_fits p h (R.CodeTooLarge bytes) (s, labels, code, init, placed, room, fits, written) x =
    let large = x.1 in let size = x.0 in let small = placed_room p.form p.program p.closed p.entry s placed in absurd (omega arith)
written_fits p h (R.DataTooLarge init end) (s, labels, code, init', placed, room, fits, written) x = absurd (x.3 room)
written_fits p h (R.RelocRange section offset) (s, labels, code, init, placed, room, fits, written) (t, placed', room', astray) =
    let none : first_astray t.layout ≡ None = ap first_astray (sym (layout_unique p.form p.program p.closed p.entry s t placed placed')) ∙ fits in
    absurd (cc)
written_fits p h other written x = absurd x

pub not_refused : HardenedIsNotRefused
not_refused request h r (p, prepared, written) refuses = at_stage (stage request r refuses)
  where
    at_stage : Stage request r → ⊥
    at_stage (early e) = not_early request p prepared r e refuses
    at_stage (late q prepared' x) =
        let same : q ≡ p = prepared_unique request q p prepared' prepared in
        written_fits p h r written (subst (λ (y : PreparedParts). RefusesPlaced y r) same x)

-- one refusal of what is prepared
placed_one : (p : PreparedParts) (a b : Refusal) → RefusesPlaced p a → RefusesPlaced p b → a ≡ b
placed_one p (R.CodeTooLarge bytes) (R.CodeTooLarge more) x y = ap R.CodeTooLarge (x.0 ∙ sym y.0)
placed_one p (R.CodeTooLarge bytes) (R.DataTooLarge init end) x y =
    let size = x.0 in let large = x.1 in let small = y.0 in absurd (omega arith)
placed_one p (R.CodeTooLarge bytes) (R.RelocRange section offset) x (s, placed, room, astray) =
    let size = x.0 in let large = x.1 in let small = placed_room p.form p.program p.closed p.entry s placed in absurd (omega arith)
placed_one p (R.DataTooLarge init end) (R.CodeTooLarge bytes) x y =
    let size = y.0 in let large = y.1 in let small = x.0 in absurd (omega arith)
placed_one p (R.DataTooLarge init end) (R.DataTooLarge more last) x y =
    ap (λ (n : ℕ). R.DataTooLarge n end) (x.1 ∙ sym y.1) ∙ ap (R.DataTooLarge more) (x.2 ∙ sym y.2)
placed_one p (R.DataTooLarge init end) (R.RelocRange section offset) x (s, placed, room, astray) = absurd (x.3 room)
placed_one p (R.RelocRange section offset) (R.CodeTooLarge bytes) (s, placed, room, astray) y =
    let size = y.0 in let large = y.1 in let small = placed_room p.form p.program p.closed p.entry s placed in absurd (omega arith)
placed_one p (R.RelocRange section offset) (R.DataTooLarge init end) (s, placed, room, astray) y = absurd (y.3 room)
placed_one p (R.RelocRange section offset) (R.RelocRange section' offset') (s, placed, room, astray) (t, placed', room', astray') =
    let same = same_Some _ _ (sym astray ∙ ap first_astray (layout_unique p.form p.program p.closed p.entry s t placed placed') ∙ astray') in
    ap (λ (q : Place). R.RelocRange q.section q.offset) same
placed_one p (R.CodeTooLarge bytes) other x y = absurd y
placed_one p (R.DataTooLarge init end) other x y = absurd y
placed_one p (R.RelocRange section offset) other x y = absurd y
placed_one p other b x y = absurd x

-- the first wrong line is one
fails_once : (end : Result (Unit {0}) (End LineFault)) (n m : ℕ) → FailsAt end n → FailsAt end m → n ≡ m
fails_once (Err (Fault fault)) n m x y = sym x ∙ y
fails_once other n m x y = absurd x

wrong_once : (program : Program) (policy : Option (List ℕ)) (n m : ℕ) → IsWrongPolicy program policy n → IsWrongPolicy program policy m → n ≡ m
wrong_once program policy n m (inl x) (inl y) = same_Some n m (sym x ∙ y)
wrong_once program policy n m (inl x) (inr y) = let none = y.0 in absurd (cc)
wrong_once program policy n m (inr x) (inl y) = let none = x.0 in absurd (cc)
wrong_once program policy n m (inr x) (inr y) = fails_once (policy_end policy) n m x.1 y.1

-- one refusal before anything is placed
early_one : (request : ProgramRequest) (a b : Refusal) → IsEarly a → IsEarly b → RefusesProgram request a → RefusesProgram request b → a ≡ b
early_one request R.NoEntry R.NoEntry ea eb x y = refl
early_one request R.NoEntry (R.Policy n) ea eb x y = let no : false ≡ true = subst IsSome x y.0 in absurd (cc)
early_one request (R.Policy n) R.NoEntry ea eb x y = let no : false ≡ true = subst IsSome y x.0 in absurd (cc)
early_one request (R.Policy n) (R.Policy m) ea eb x y = ap R.Policy (wrong_once request.program request.policy n m x.1 y.1)
early_one request (R.CodeTooLarge bytes) b ea eb x y = absurd ea
early_one request (R.DataTooLarge init end) b ea eb x y = absurd ea
early_one request (R.RelocRange section offset) b ea eb x y = absurd ea
early_one request a (R.CodeTooLarge bytes) ea eb x y = absurd eb
early_one request a (R.DataTooLarge init end) ea eb x y = absurd eb
early_one request a (R.RelocRange section offset) ea eb x y = absurd eb
early_one request R.NoEntry other ea eb x y = absurd y
early_one request (R.Policy n) other ea eb x y = absurd y
early_one request other b ea eb x y = absurd x

pub refusal_unique : RefusedInOneWay
refusal_unique request a b x y = at_stages (stage request a x) (stage request b y)
  where
    at_stages : Stage request a → Stage request b → a ≡ b
    at_stages (early ea) (early eb) = early_one request a b ea eb x y
    at_stages (early ea) (late q prepared refuses) = absurd (not_early request q prepared a ea x)
    at_stages (late p prepared refuses) (early eb) = absurd (not_early request p prepared b eb y)
    at_stages (late p prepared refuses) (late q prepared' refuses') =
        let same : q ≡ p = prepared_unique request q p prepared' prepared in
        placed_one p a b refuses (subst (λ (z : PreparedParts). RefusesPlaced z b) same refuses')
