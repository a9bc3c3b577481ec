-- The whole run of an image that stores two registers and returns 7, of its prologue and four units: its premises are met, so the
-- law says that the run exits with 7 within 24 steps (it takes 22).
use Rattle.std.proofs.Common.{◌≡◌, ℕ, zero, suc, ◌+◌, ◌*◌, ◌-◌, ◌^◌, ◌<◌, ◌==◌, ◌&&◌, ◌||◌, inl, inr, Bool, true, false, List, [], ◌∷◌, length, Some, lit<, lit≤, refl, sym, ap, arith}
use Rattle.std.specs.Prelude.{nat_le, nat_lt, slice_get, slice_index}
use Rattle.std.specs.List.{list_all}
use Rattle.std.proofs.lemmas.Bool.{cases_Bool, cond_both, and_parts, eqb-true, ltb-true}
use Rattle.cfi_runs.proofs.Prelude.{OneHart, Contents, loaded, CODE_START, DATA_START, version_1, placed, read, cleared, is_reserved, Instr, Immediate, Addi, Sd, decoded, After, Exit, Shifts, Member, instrs_of, OPENING, opening_instrs, closing_instrs, field, level, lowest, members_from, Own, own_start, own_step, OwnRuns, NamesNoReserved, TameStep, HasPrologue, RunsTo, own_shared}
use Rattle.cfi_unit.specs.declared.unit.Unit as U
use Rattle.cfi_unit.specs.declared.unit.Unit.TheVariants as V
use Rattle.cfi_runs.proofs.GroupMembers.{stores_free}
use Rattle.cfi_runs.proofs.WholeRun.{run_keeps_match}

-- after the prologue `addi x10,x0,7`, `sd x5,-8(x2)` and `sd x6,-16(x2)` behind one mask, a return, and a stop
abbrev pub image : Contents
image = record {
  version = OneHart;
  init = [];
  code = 115 ∷ 0 ∷ 16 ∷ 0 ∷ 115 ∷ 0 ∷ 16 ∷ 0 ∷ 115 ∷ 0 ∷ 16 ∷ 0 ∷ 55 ∷ 1 ∷ 0 ∷ 16 ∷ 183 ∷ 1 ∷ 0 ∷ 96 ∷ 147 ∷ 129 ∷ 129 ∷ 0 ∷ 19 ∷ 159 ∷ 1 ∷ 3 ∷ 99 ∷ 20 ∷ 15 ∷ 0 ∷ 111 ∷ 240 ∷ 159 ∷ 254 ∷ 23 ∷ 15 ∷ 0 ∷ 0 ∷ 19 ∷ 15 ∷ 79 ∷ 1 ∷ 35 ∷ 176 ∷ 225 ∷ 1 ∷ 147 ∷ 129 ∷ 129 ∷ 0 ∷ 239 ∷ 0 ∷ 192 ∷ 0 ∷ 147 ∷ 8 ∷ 208 ∷ 5 ∷ 115 ∷ 0 ∷ 0 ∷ 0 ∷ 19 ∷ 5 ∷ 112 ∷ 0 ∷ 147 ∷ 15 ∷ 1 ∷ 255 ∷ 147 ∷ 159 ∷ 79 ∷ 2 ∷ 147 ∷ 223 ∷ 79 ∷ 2 ∷ 35 ∷ 180 ∷ 95 ∷ 0 ∷ 35 ∷ 176 ∷ 111 ∷ 0 ∷ 131 ∷ 191 ∷ 129 ∷ 255 ∷ 147 ∷ 129 ∷ 129 ∷ 255 ∷ 99 ∷ 132 ∷ 31 ∷ 0 ∷ 111 ∷ 240 ∷ 31 ∷ 250 ∷ 103 ∷ 128 ∷ 15 ∷ 0 ∷ 111 ∷ 240 ∷ 95 ∷ 249 ∷ [];
}

abbrev pub entry : ℕ
entry = 0x40000040

abbrev pub seven : Instr
seven = Immediate Addi 10 0 7

-- the fields of the stores at places 1 and 2, of which the second is the lower one, and the unit of both
abbrev pub imm : ℕ → ℕ
imm k = slice_index (0 ∷ 0xff8 ∷ 0xff0 ∷ []) k

abbrev pub low : ℕ
low = lowest (λ (k : ℕ). level (imm k)) 1 1

abbrev pub member : ℕ → Member
member k = record { op = Sd; value = k + 4; distance = level (imm k) - low }

abbrev pub saves : U.Unit
saves = V.Stores Shifts 2 (field low) (members_from member 1 2)

opening_words : (k : ℕ) (i : Instr) → slice_get (opening_instrs version_1 entry) k ≡ Some i → decoded (read 4 (loaded image) (OPENING + 4 * k)) ≡ Some i
unfolding loaded placed decoded
opening_words zero i is = is
opening_words (suc zero) i is = is
opening_words (suc (suc zero)) i is = is
opening_words (suc (suc (suc zero))) i is = is
opening_words (suc (suc (suc (suc zero)))) i is = is
opening_words (suc (suc (suc (suc (suc zero))))) i is = is
opening_words (suc (suc (suc (suc (suc (suc zero)))))) i is = is
opening_words (suc (suc (suc (suc (suc (suc (suc zero))))))) i is = is
opening_words (suc (suc (suc (suc (suc (suc (suc (suc zero)))))))) i is = is
opening_words (suc (suc (suc (suc (suc (suc (suc (suc (suc zero))))))))) i is = is
opening_words (suc (suc (suc (suc (suc (suc (suc (suc (suc (suc zero)))))))))) i is = is
opening_words (suc (suc (suc (suc (suc (suc (suc (suc (suc (suc (suc k))))))))))) i is = absurd (cc)

closing_words : (k : ℕ) (i : Instr) → slice_get (closing_instrs) k ≡ Some i → decoded (read 4 (loaded image) (version_1.closing + 4 * k)) ≡ Some i
unfolding loaded placed decoded
closing_words zero i is = is
closing_words (suc zero) i is = is
closing_words (suc (suc k)) i is = absurd (cc)

seven_word : (k : ℕ) (i : Instr) → slice_get (instrs_of (V.Plain seven) entry) k ≡ Some i → decoded (read 4 (loaded image) (entry + 4 * k)) ≡ Some i
unfolding loaded placed decoded
seven_word zero i is = is
seven_word (suc k) i is = absurd (cc)

saves_words : (k : ℕ) (i : Instr) → slice_get (instrs_of saves 0x40000044) k ≡ Some i → decoded (read 4 (loaded image) (0x40000044 + 4 * k)) ≡ Some i
unfolding loaded placed decoded
saves_words zero i is = is
saves_words (suc zero) i is = is
saves_words (suc (suc zero)) i is = is
saves_words (suc (suc (suc zero))) i is = is
saves_words (suc (suc (suc (suc zero)))) i is = is
saves_words (suc (suc (suc (suc (suc k))))) i is = absurd (cc)

return_words : (k : ℕ) (i : Instr) → slice_get (instrs_of V.Return 0x40000058) k ≡ Some i → decoded (read 4 (loaded image) (0x40000058 + 4 * k)) ≡ Some i
unfolding loaded placed decoded
return_words zero i is = is
return_words (suc zero) i is = is
return_words (suc (suc zero)) i is = is
return_words (suc (suc (suc zero))) i is = is
return_words (suc (suc (suc (suc zero)))) i is = is
return_words (suc (suc (suc (suc (suc k))))) i is = absurd (cc)

-- each byte is one
abbrev is_byte : ℕ → Bool
is_byte b = nat_lt b (2 ^ 8)

byte_at : (bytes : List ℕ) (k : ℕ) → list_all is_byte bytes ≡ true → slice_index bytes k < 2 ^ 8
byte_at [] k all = lit< tt
byte_at (b ∷ bytes) zero all = ltb-true b (2 ^ 8) (and_parts _ _ all).0
byte_at (b ∷ bytes) (suc k) all = byte_at bytes k (and_parts (is_byte b) (list_all is_byte bytes) all).1

bytes : (k : ℕ) → loaded image k < 2 ^ 8
unfolding loaded placed
bytes k =
    cond_both (nat_le CODE_START k && nat_lt k (CODE_START + length image.code)) _ _ (λ (b : ℕ). b < 2 ^ 8)
    (λ inside. byte_at image.code (k - CODE_START) refl)
    (λ outside.
    cond_both (nat_le DATA_START k && nat_lt k (DATA_START + 0)) (slice_index image.init (k - DATA_START)) 0 (λ (b : ℕ). b < 2 ^ 8)
    (λ inside. lit< tt) (λ out. lit< tt))

has_prologue : HasPrologue version_1 image entry
has_prologue = record {
  is = inl (inl refl);
  bytes = bytes;
  fits = (refl, refl);
  opening = record { round = refl; low = lit≤ tt; high = lit≤ tt; words = opening_words };
  closing = record { round = refl; low = lit≤ tt; high = lit≤ tt; words = closing_words };
}

abbrev pub first : Own
first = own_start version_1 0 entry cleared (own_shared image [])

other_of : (a b : Bool) → a ≡ false → (a || b) ≡ true → b ≡ true
other_of true b fails either = absurd (cc)
other_of false b fails either = either

seven_free : NamesNoReserved (V.Plain seven)
seven_free k named =
    elim (cases_Bool (10 == k)) [
      | inl is ↦ ap is_reserved (sym (eqb-true 10 k is))
      | inr other ↦ ap is_reserved (sym (eqb-true 0 k (other_of (10 == k) (0 == k) other named)))
    ]

abbrev pub second : Own
second = (own_step version_1 first (V.Plain seven)).state

abbrev pub third : Own
third = (own_step version_1 second saves).state

abbrev pub last : Own
last = (own_step version_1 third V.Return).state

pub seven_steps : TameStep false (loaded image) (V.Plain seven) first
seven_steps = record {
  fits = ((lit< tt, lit< tt, lit< tt), refl);
  stands = record { round = refl; low = lit≤ tt; high = lit≤ tt; words = seven_word };
  free = seven_free;
  some = tt;
  leaves = λ is. absurd (cc);
  asks = λ r same held. tt;
  tame = lit≤ tt;
}

saved_free : (i : ℕ) → i < 2 → is_reserved (member (1 + i)).value ≡ false
saved_free zero below = refl
saved_free (suc zero) below = refl
saved_free (suc (suc i)) below = absurd (omega arith)

pub saves_steps : TameStep false (loaded image) saves second
saves_steps = record {
  fits = (lit< tt, lit< tt, record { some = lit< tt; most = lit≤ tt; each = ((lit< tt, lit< tt), ((lit< tt, lit< tt), tt)) }, tt);
  stands = record { round = refl; low = lit≤ tt; high = lit≤ tt; words = saves_words };
  free = stores_free member Shifts 2 (field low) 1 2 refl saved_free;
  some = tt;
  leaves = λ is. absurd (cc);
  asks = λ r same held. tt;
  tame = lit< tt;
}

pub return_steps : TameStep false (loaded image) V.Return third
return_steps = record {
  fits = refl;
  stands = record { round = refl; low = lit≤ tt; high = lit≤ tt; words = return_words };
  free = λ k named. absurd (cc);
  some = lit< tt;
  leaves = λ is. absurd (cc);
  asks = λ r same held. tt;
  tame = refl;
}

abbrev path : List U.Unit
path = V.Plain seven ∷ saves ∷ V.Return ∷ []

steps : OwnRuns version_1 (loaded image) path first last
steps = (seven_steps, refl, (saves_steps, refl, (return_steps, refl, refl)))

exits : RunsTo version_1 image [] 24 (λ (a : After). a.turn ≡ Exit 7)
exits =
    let kept = run_keeps_match version_1 image [] entry path last has_prologue steps in
    let end = kept.closes refl in
    (end.0, end.1, end.2.turn)
