-- Which pieces a place spoils, as flags that are marked.
use Rattle.std.proofs.Common.{◌≡◌, ◌==◌, ℕ, suc, ◌+◌, ◌<◌, ◌≤◌, Bool, true, false, List, length, Option, Some, None, get_or, replicate, refl, sym, ap, ◌∙◌, arith}
use Rattle.std.specs.Prelude.{◌&&◌, ◌||◌, IfSome, is_some, nat_lt, not}
use Rattle.std.proofs.lemmas.Bool.{eqb-false, eqb-true, lt-ltb, ne_eqb}
use Rattle.std.proofs.lemmas.List.{length-replicate}
use Rattle.obj_program.specs.Program.{count, item_of}
use Rattle.cfi_class.proofs.Agreeing.{none_at}
use Rattle.cfi_leads.specs.Entered.{Entered}
use Rattle.cfi_leads.specs.Entries.{aims_at, if_kind}
use Rattle.cfi_leads.specs.Leaves.{crosses_to, edge_target, ends_before, head, is_spoilt_by, parts_them, spoils, spoils_inside}
use Rattle.cfi_leads.specs.Marks.{AreFlags, crossed, followed, marked}
use Rattle.cfi_leads.proofs.Called.{marked_at, marked_length}

aims_if : (b : Bool) (h e : ℕ) → aims_at e (if_kind b (Some h)) ≡ (b && (h == e))
aims_if true h e = refl
aims_if false h e = refl

some_if : (b : Bool) (h : ℕ) → is_some (if_kind b (Some h)) ≡ b
some_if true h = refl
some_if false h = refl

-- what is behind a place is told by its number alone, where that is there
behind : (lt neb e : Bool) → (e ≡ true → lt ≡ true) → ((lt && neb) && e) ≡ (e && neb)
behind true true true there = refl
behind true true false there = refl
behind true false true there = refl
behind true false false there = refl
behind false neb true there = absurd (let no = there refl in cc)
behind false neb false there = refl

-- no transfer leads from the place
stays : (g si h f : Bool) → (((g || ((si || false) && h)) || false) || f) ≡ (g || (h && si || (false || f)))
stays true si h f = refl
stays false true true f = refl
stays false true false f = refl
stays false false true f = refl
stays false false false f = refl

-- one leads to a place t, which is in the same piece where d holds
leads : (g si d h t f : Bool) → (d ≡ true → t ≡ h) → (d ≡ false → h ≡ true → t ≡ false) →
    (((g || ((si || not d) && h)) || (not d && t)) || f) ≡ (g || (h && si || (parts_them h t || f)))
leads true si d h t f same apart = refl
leads false true true true true f same apart = refl
leads false true true true false f same apart = absurd (let no = same refl in cc)
leads false true true false true f same apart = absurd (let no = same refl in cc)
leads false true true false false f same apart = refl
leads false false true true true f same apart = refl
leads false false true true false f same apart = absurd (let no = same refl in cc)
leads false false true false true f same apart = absurd (let no = same refl in cc)
leads false false true false false f same apart = refl
leads false true false true true f same apart = absurd (let no = apart refl refl in cc)
leads false true false true false f same apart = refl
leads false true false false true f same apart = refl
leads false true false false false f same apart = refl
leads false false false true true f same apart = absurd (let no = apart refl refl in cc)
leads false false false true false f same apart = refl
leads false false false false true f same apart = refl
leads false false false false false f same apart = refl

-- the marks at a piece's first place
module _ (of : Entered) (k e : ℕ) where
  spoils_by : Option ℕ → Bool → Bool
  spoils_by target f = (head of k == e) && spoils_inside of k || (crosses_to of e k target || f)

  marks_by : Bool → Option ℕ → Bool → Bool
  marks_by g other f = ((g || aims_at e (if_kind (spoils_inside of k || is_some other) (Some (head of k)))) || aims_at e other) || f

  -- in one piece with another place, and in another one
  together : (t : ℕ) → (head of t == head of k) ≡ true → (head of t == e) ≡ (head of k == e)
  together t same = ap (λ (n : ℕ). n == e) (eqb-true (head of t) (head of k) same)

  apart : (t : ℕ) → (head of t == head of k) ≡ false → (head of k == e) ≡ true → (head of t == e) ≡ false
  apart t differ here =
      ne_eqb (head of t) e (λ there. eqb-false (head of t) (head of k) differ (there ∙ sym (eqb-true (head of k) e here)))

  by_target : (g f : Bool) (target : Option ℕ) → marks_by g (crossed of k target) f ≡ (g || spoils_by target f)
  unfolding spoils_by marks_by
  by_target g f None =
      ap (λ (b : Bool). ((g || b) || false) || f) (aims_if (spoils_inside of k || false) (head of k) e) ∙ stays g (spoils_inside of k) (head of k == e) f
  by_target g f (Some t) =
      let d = head of t == head of k in
      ap (λ (b : Bool). ((g || aims_at e (if_kind (spoils_inside of k || b) (Some (head of k)))) || aims_at e (if_kind (not d) (Some (head of t)))) || f)
      (some_if (not d) (head of t))
      ∙ ap (λ (b : Bool). ((g || b) || aims_at e (if_kind (not d) (Some (head of t)))) || f) (aims_if (spoils_inside of k || not d) (head of k) e)
      ∙ ap (λ (b : Bool). ((g || ((spoils_inside of k || not d) && (head of k == e))) || b) || f) (aims_if (not d) (head of t) e)
      ∙ leads g (spoils_inside of k) d (head of k == e) (head of t == e) f (together t) (apart t)

  -- what is behind a place is there, where the piece begins with it
  followed_by : e < count of.program → aims_at e (followed of k) ≡ ((k + 1 == e) && not (ends_before (item_of of.program k).kind))
  followed_by below =
      aims_if (nat_lt (k + 1) (count of.program) && not (ends_before (item_of of.program k).kind)) (k + 1) e
      ∙ behind (nat_lt (k + 1) (count of.program)) (not (ends_before (item_of of.program k).kind)) (k + 1 == e)
      (λ here. lt-ltb (k + 1) (count of.program) (let same = eqb-true (k + 1) e here in omega (arith, same)))

  -- the flag of a piece after the marks of a place
  pub spoilt_marks : (o a b : List Bool) (mine other behind_it : Option ℕ) → length o ≡ count of.program → e < count of.program →
      mine ≡ if_kind (spoils_inside of k || is_some other) (Some (head of k)) → other ≡ crossed of k (edge_target (item_of of.program k)) →
      behind_it ≡ followed of k → IfSome mine (λ (n : ℕ). n < count of.program) → IfSome other (λ (n : ℕ). n < count of.program) →
      IfSome behind_it (λ (n : ℕ). n < count of.program) → a ≡ marked o mine → b ≡ marked a other →
      get_or (marked b behind_it) e false ≡ (get_or o e false || spoils of e k)
  unfolding spoils_by marks_by
  spoilt_marks o a b mine other behind_it size below mine_is other_is behind_is mine_in other_in behind_in a_is b_is =
      let size_a : length a ≡ count of.program = ap length a_is ∙ marked_length o mine ∙ size in
      let size_b : length b ≡ count of.program = ap length b_is ∙ marked_length a other ∙ size_a in
      let last : get_or (marked b behind_it) e false ≡ (get_or b e false || aims_at e behind_it) = marked_at b behind_it e (rw size_b behind_in) in
      let next : get_or b e false ≡ (get_or a e false || aims_at e other) =
      ap (λ (l : List Bool). get_or l e false) b_is ∙ marked_at a other e (rw size_a other_in) in
      let first : get_or a e false ≡ (get_or o e false || aims_at e mine) =
      ap (λ (l : List Bool). get_or l e false) a_is ∙ marked_at o mine e (rw size mine_in) in
      last
      ∙ ap (λ (x : Bool). x || aims_at e behind_it) (next ∙ ap (λ (x : Bool). x || aims_at e other) first)
      ∙ ap (λ (m : Option ℕ). ((get_or o e false || aims_at e m) || aims_at e other) || aims_at e behind_it) mine_is
      ∙ ap (λ (n : Option ℕ). marks_by (get_or o e false) n (aims_at e behind_it)) other_is
      ∙ by_target (get_or o e false) (aims_at e behind_it) (edge_target (item_of of.program k))
      ∙ ap (λ (x : Bool). get_or o e false || spoils_by (edge_target (item_of of.program k)) x) (ap (aims_at e) behind_is ∙ followed_by below)

-- while a loop marks them
pub record AreSpoiltTo (of : Entered) (k : ℕ) (flags : List Bool) : Type 0 where
  pub most : k ≤ count of.program
  pub counted : length flags ≡ count of.program
  pub each : (e : ℕ) → e < count of.program → get_or flags e false ≡ is_spoilt_by of e k

pub none_spoilt : (of : Entered) (n : ℕ) (flags : List Bool) → n ≡ count of.program → flags ≡ replicate n false → AreSpoiltTo of 0 flags
unfolding is_spoilt_by
none_spoilt of n flags size is = record {
  most = omega arith;
  counted = ap length is ∙ length-replicate n false ∙ size;
  each = λ e below. ap (λ (l : List Bool). get_or l e false) is ∙ none_at n e;
}

next_spoilt : (of : Entered) (e k : ℕ) → is_spoilt_by of e (suc k) ≡ (is_spoilt_by of e k || spoils of e k)
unfolding is_spoilt_by
next_spoilt of e k = refl

one_more : (of : Entered) (e k : ℕ) → is_spoilt_by of e (k + 1) ≡ (is_spoilt_by of e k || spoils of e k)
one_more of e k = ap (is_spoilt_by of e) (omega arith) ∙ next_spoilt of e k

pub one_more_spoilt : (of : Entered) (k : ℕ) (flags more : List Bool) → k < count of.program → AreSpoiltTo of k flags → length more ≡ count of.program →
    ((e : ℕ) → e < count of.program → get_or more e false ≡ (get_or flags e false || spoils of e k)) → AreSpoiltTo of (k + 1) more
one_more_spoilt of k flags more below so_far size each = record {
  most = omega arith;
  counted = size;
  each = λ e there. each e there ∙ ap (λ (b : Bool). b || spoils of e k) (so_far.each e there) ∙ sym (one_more of e k);
}

pub all_spoilt : (of : Entered) (k n : ℕ) (flags : List Bool) → n ≡ count of.program → n ≤ k → AreSpoiltTo of k flags →
    AreFlags (λ e. is_spoilt_by of e (count of.program)) (count of.program) flags
all_spoilt of k n flags size all made =
    let most = made.most in
    let same : k ≡ count of.program = omega arith in
    record { counted = made.counted; each = λ e below. made.each e below ∙ ap (is_spoilt_by of e) same }
