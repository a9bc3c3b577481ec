-- The whole run of a lean image: its entry saves its site and calls a leaf, which stores behind the mask in x4 and returns by x1. Each
-- step is tame, so the law says that the run exits within 24 steps (it takes 22).
use Rattle.std.proofs.Common.{◌≡◌, ℕ, ◌^◌, ◌<◌, ◌==◌, ◌||◌, inl, inr, true, false, List, [], ◌∷◌, Some, map, lit<, lit≤, refl, sym, ap, subst, ◌∙◌}
use Rattle.std.proofs.lemmas.Bool.{eqb-true, or_cases}
use Rattle.cfi_runs.proofs.Prelude.{OneHart, Contents, loaded, CODE_START, DATA_START, lean_version_1, Memory, placed, zeros, cleared, is_reserved, Instr, Immediate, Addi, Sd, decoded, After, Exit, Short, instrs_of, OPENING, opening_instrs, closing_instrs, Own, own_start, own_step, OwnRuns, NamesNoReserved, TameStep, HasPrologue, RunsTo, own_shared}
use Rattle.cfi_unit.specs.declared.unit.Unit as U
use Rattle.cfi_unit.specs.declared.unit.Unit.TheVariants as V
use Rattle.cfi_unit.proofs.EffectWorked.{each_read, placed_small, read_from}
use Rattle.cfi_runs.proofs.WholeRun.{run_keeps_match}

-- after the prologue an enter, `addi x9,x1,0`, `jal x1` to the leaf, `addi x1,x9,0` and a return; the leaf is `sd x1,8(x10)` behind a
-- short mask, and a leaf return
abbrev image : Contents
image = record {
  version = OneHart;
  init = [];
  code = 115 ∷ 0 ∷ 16 ∷ 0 ∷ 115 ∷ 0 ∷ 16 ∷ 0 ∷ 115 ∷ 0 ∷ 16 ∷ 0 ∷ 55 ∷ 1 ∷ 0 ∷ 16 ∷ 55 ∷ 2 ∷ 0 ∷ 16 ∷ 19 ∷ 2 ∷ 242 ∷ 255 ∷ 183 ∷ 1 ∷ 0 ∷ 96 ∷ 147 ∷ 129 ∷ 129 ∷ 0 ∷ 239 ∷ 0 ∷ 192 ∷ 0 ∷ 147 ∷ 8 ∷ 208 ∷ 5 ∷ 115 ∷ 0 ∷ 0 ∷ 0 ∷ 19 ∷ 159 ∷ 1 ∷ 3 ∷ 99 ∷ 20 ∷ 15 ∷ 0 ∷ 111 ∷ 240 ∷ 95 ∷ 253 ∷ 35 ∷ 176 ∷ 17 ∷ 0 ∷ 147 ∷ 129 ∷ 129 ∷ 0 ∷ 147 ∷ 132 ∷ 0 ∷ 0 ∷ 239 ∷ 0 ∷ 192 ∷ 1 ∷ 147 ∷ 128 ∷ 4 ∷ 0 ∷ 131 ∷ 191 ∷ 129 ∷ 255 ∷ 147 ∷ 129 ∷ 129 ∷ 255 ∷ 99 ∷ 132 ∷ 31 ∷ 0 ∷ 111 ∷ 240 ∷ 223 ∷ 250 ∷ 103 ∷ 128 ∷ 15 ∷ 0 ∷ 179 ∷ 127 ∷ 69 ∷ 0 ∷ 35 ∷ 180 ∷ 31 ∷ 0 ∷ 103 ∷ 128 ∷ 0 ∷ 0 ∷ [];
}

abbrev memory : Memory
memory = loaded image

abbrev entry : ℕ
entry = 0x4000002c

abbrev keeps_link : Instr
keeps_link = Immediate Addi 9 1 0

abbrev gets_link : Instr
gets_link = Immediate Addi 1 9 0

abbrev call : U.Unit
call = V.LinkCall 0x40000060

abbrev store : U.Unit
store = V.Stores Short 10 0 (record { op = Sd; value = 1; distance = 8 } ∷ [])

abbrev StoodAt : List Instr → ℕ → Type 0
StoodAt instrs at = read_from memory at instrs ≡ map Some instrs

abbrev Stood : U.Unit → ℕ → Type 0
Stood unit at = StoodAt (instrs_of unit at) at

opening_stood : StoodAt (opening_instrs lean_version_1 entry) OPENING
unfolding loaded placed decoded
opening_stood = refl

closing_stood : StoodAt closing_instrs lean_version_1.closing
unfolding loaded placed decoded
closing_stood = refl

enter_stood : Stood V.Enter 0x4000002c
unfolding loaded placed decoded
enter_stood = refl

keeps_stood : Stood (V.Plain keeps_link) 0x40000040
unfolding loaded placed decoded
keeps_stood = refl

call_stood : Stood call 0x40000044
unfolding loaded placed decoded
call_stood = refl

gets_stood : Stood (V.Plain gets_link) 0x40000048
unfolding loaded placed decoded
gets_stood = refl

return_stood : Stood V.Return 0x4000004c
unfolding loaded placed decoded
return_stood = refl

store_stood : Stood store 0x40000060
unfolding loaded placed decoded
store_stood = refl

leaf_return_stood : Stood V.LeafReturn 0x40000068
unfolding loaded placed decoded
leaf_return_stood = refl

bytes : (k : ℕ) → memory k < 2 ^ 8
unfolding loaded
bytes = placed_small (placed zeros DATA_START []) CODE_START image.code (placed_small zeros DATA_START [] (λ k. lit< tt) refl) refl

has_prologue : HasPrologue lean_version_1 image entry
has_prologue = record {
  is = inr (inl refl);
  bytes = bytes;
  fits = refl;
  opening = record { round = refl; low = lit≤ tt; high = lit≤ tt; words = each_read memory OPENING (opening_instrs lean_version_1 entry) opening_stood };
  closing = record { round = refl; low = lit≤ tt; high = lit≤ tt; words = each_read memory lean_version_1.closing closing_instrs closing_stood };
}

-- no site is on the shadow stack: the closing's address is in x1
abbrev first : Own
first = own_start lean_version_1 0 entry cleared (own_shared image [])

abbrev after : Own → U.Unit → Own
after o unit = (own_step lean_version_1 o unit).state

abbrev entered : Own
entered = after first V.Enter

abbrev kept : Own
kept = after entered (V.Plain keeps_link)

abbrev called : Own
called = after kept call

abbrev stored : Own
stored = after called store

abbrev back : Own
back = after stored V.LeafReturn

abbrev got : Own
got = after back (V.Plain gets_link)

abbrev last : Own
last = after got V.Return

abbrev Steps : U.Unit → Own → Type 0
Steps unit o = TameStep true memory unit o

enter_steps : Steps V.Enter first
enter_steps = record {
  fits = refl;
  stands = record { round = refl; low = lit≤ tt; high = lit≤ tt; words = each_read memory 0x4000002c (instrs_of V.Enter 0x4000002c) enter_stood };
  free = λ k named. absurd (cc);
  some = tt;
  leaves = λ is. refl;
  asks = λ r same held. subst (λ (x : ℕ). x < 2 ^ 64) (sym (same.same 1 refl)) (lit< tt);
  tame = (lit< tt, refl, lit< tt);
}

-- operands, of which neither is reserved
two_free : (a b k : ℕ) → is_reserved a ≡ false → is_reserved b ≡ false → (a == k || b == k) ≡ true → is_reserved k ≡ false
two_free a b k one two named =
    elim (or_cases (a == k) (b == k) named) [
      | inl is ↦ ap is_reserved (sym (eqb-true a k is)) ∙ one
      | inr is ↦ ap is_reserved (sym (eqb-true b k is)) ∙ two
    ]

keeps_steps : Steps (V.Plain keeps_link) entered
keeps_steps = record {
  fits = ((lit< tt, lit< tt, lit< tt), refl);
  stands = record { round = refl; low = lit≤ tt; high = lit≤ tt; words = each_read memory 0x40000040 (instrs_of (V.Plain keeps_link) 0x40000040) keeps_stood };
  free = λ k named. two_free 9 1 k refl refl named;
  some = tt;
  leaves = λ is. refl;
  asks = λ r same held. tt;
  tame = lit≤ tt;
}

call_steps : Steps call kept
call_steps = record {
  fits = refl;
  stands = record { round = refl; low = lit≤ tt; high = lit≤ tt; words = each_read memory 0x40000044 (instrs_of call 0x40000044) call_stood };
  free = λ k named. absurd (cc);
  some = tt;
  leaves = λ is. refl;
  asks = λ r same held. tt;
  tame = tt;
}

store_free : NamesNoReserved store
store_free k named =
    elim (or_cases (10 == k) (1 == k || false) named) [
      | inl is ↦ ap is_reserved (sym (eqb-true 10 k is))
      | inr other ↦
          elim (or_cases (1 == k) false other) [
            | inl is ↦ ap is_reserved (sym (eqb-true 1 k is))
            | inr none ↦ absurd (cc)
          ]
    ]

-- its mask is the one that x4 holds
store_steps : Steps store called
store_steps = record {
  fits = (lit< tt, lit< tt, record { some = lit< tt; most = lit≤ tt; each = ((lit< tt, lit< tt), tt) }, refl);
  stands = record { round = refl; low = lit≤ tt; high = lit≤ tt; words = each_read memory 0x40000060 (instrs_of store 0x40000060) store_stood };
  free = store_free;
  some = tt;
  leaves = λ is. refl;
  asks = λ r same held. held;
  tame = lit< tt;
}

leaf_return_steps : Steps V.LeafReturn stored
leaf_return_steps = record {
  fits = tt;
  stands = record { round = refl; low = lit≤ tt; high = lit≤ tt; words = each_read memory 0x40000068 (instrs_of V.LeafReturn 0x40000068) leaf_return_stood };
  free = λ k named. absurd (cc);
  some = tt;
  leaves = λ is. refl;
  asks = λ r same held. tt;
  tame = tt;
}

gets_steps : Steps (V.Plain gets_link) back
gets_steps = record {
  fits = ((lit< tt, lit< tt, lit< tt), refl);
  stands = record { round = refl; low = lit≤ tt; high = lit≤ tt; words = each_read memory 0x40000048 (instrs_of (V.Plain gets_link) 0x40000048) gets_stood };
  free = λ k named. two_free 1 9 k refl refl named;
  some = tt;
  leaves = λ is. refl;
  asks = λ r same held. tt;
  tame = lit≤ tt;
}

return_steps : Steps V.Return got
return_steps = record {
  fits = refl;
  stands = record { round = refl; low = lit≤ tt; high = lit≤ tt; words = each_read memory 0x4000004c (instrs_of V.Return 0x4000004c) return_stood };
  free = λ k named. absurd (cc);
  some = lit< tt;
  leaves = λ is. refl;
  asks = λ r same held. tt;
  tame = refl;
}

abbrev path : List U.Unit
path = V.Enter ∷ V.Plain keeps_link ∷ call ∷ store ∷ V.LeafReturn ∷ V.Plain gets_link ∷ V.Return ∷ []

steps : OwnRuns lean_version_1 memory path first last
steps = (
  enter_steps,
  refl,
  (keeps_steps, refl, (call_steps, refl, (store_steps, refl, (leaf_return_steps, refl, (gets_steps, refl, (return_steps, refl, refl)))))),
)

exits : RunsTo lean_version_1 image [] 24 (λ (a : After). a.turn ≡ Exit 0)
exits =
    let whole = run_keeps_match lean_version_1 image [] entry path last has_prologue steps in
    let end = whole.closes refl in
    (end.0, end.1, end.2.turn)
