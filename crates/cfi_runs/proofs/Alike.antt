-- An instruction that is executed on states that are the same to the program leaves such states.
use Rattle.std.proofs.Common.{◌≡◌, ℕ, ◌+◌, ◌^◌, ◌==◌, ◌||◌, ◌≤◌, true, false, Bool, refl, sym, ap, subst, ◌∙◌, arith}
use Rattle.std.proofs.lemmas.Bool.Decides.{nat_tests}
use Rattle.cfi_runs.proofs.Prelude.{wrap, Profile, can_load, names, Registers, get_reg, is_reserved, Instr, Upper, Load, Immediate, Shift, ShiftWord, Register, Fence, Ebreak, Lui, Auipc, LoadOp, immediate_result, shift_result, shift_word_result, register_result, load_size, load_result, Hart, Shared, After, exec, load_at, offset, puts, is_plain, sum_of, SameRegisters, SameData, touched}
use Rattle.rv_word.proofs.Booleans.{is_self}
use Rattle.cfi_runs.proofs.Same.{get_same, same_put, read_alike}

-- `o` is what the program's own step leaves
pub record AlikeAfter (o a : After) : Type 0 where
  pub turn : a.turn ≡ o.turn
  pub regs : SameRegisters o.hart.regs a.hart.regs
  pub shared : SameData o.shared a.shared

-- each register that an instruction names is one of the program's
abbrev pub NamesFree : Instr → Type 0
NamesFree i = (k : ℕ) → names i k ≡ true → is_reserved k ≡ false

pub or_first : (a b : Bool) → a ≡ true → (a || b) ≡ true
or_first true b e = refl
or_first false b e = absurd (cc)

pub or_second : (a b : Bool) → b ≡ true → (a || b) ≡ true
or_second true b e = refl
or_second false b e = e

can_load_data : (p : Profile) (a n : ℕ) → a + n ≤ 2 ^ 28 → can_load p a n ≡ true
can_load_data p a n low = grind (arith, nat_tests)

-- the address of a load or store
pub sum_same : (r regs : Registers) (rs1 imm : ℕ) → is_reserved rs1 ≡ false → SameRegisters r regs → sum_of regs rs1 imm ≡ sum_of r rs1 imm
sum_same r regs rs1 imm free same = ap (λ (x : ℕ). wrap (x + offset 12 imm)) (get_same r regs rs1 free same)

module _ (p : Profile) (r : Registers) (t : Shared) (h : Hart) (s : Shared) (same : SameRegisters r h.regs) (alike : SameData t s) where
  abbrev own : Hart
  own = record { pc = h.pc; regs = r }

  abbrev IsAlike : Instr → Type 0
  IsAlike i = AlikeAfter (exec p i own t) (exec p i h s)

  puts_alike : (rd v w : ℕ) → w ≡ v → AlikeAfter (puts own t rd v) (puts h s rd w)
  puts_alike rd v w e = record { turn = refl; regs = same_put r h.regs rd v w e same; shared = alike }

  loads_alike : (op : LoadOp) (rd a b : ℕ) → b ≡ a → a + load_size op ≤ 2 ^ 28 → AlikeAfter (load_at p op rd own t a) (load_at p op rd h s b)
  loads_alike op rd a b e low =
      let can = can_load_data p a (load_size op) low in
      let loaded = read_alike (load_size op) t.memory s.memory a (omega arith) alike.memory in
      subst (λ (x : ℕ). AlikeAfter (load_at p op rd own t a) (load_at p op rd h s x)) (sym e)
      (rw can (puts_alike rd _ _ (ap (load_result op) loaded)))

  pub plain_alike : (i : Instr) → is_plain i ≡ true → NamesFree i → touched i r ≤ 2 ^ 28 → IsAlike i
  plain_alike (Upper Lui rd imm) plain free low = puts_alike rd _ _ refl
  plain_alike (Upper Auipc rd imm) plain free low = puts_alike rd _ _ refl
  plain_alike (Load op rd rs1 imm) plain free low =
      loads_alike op rd _ _ (sum_same r h.regs rs1 imm (free rs1 (or_second (rd == rs1) _ (is_self rs1))) same) low
  plain_alike (Immediate op rd rs1 imm) plain free low =
      puts_alike rd _ _
      (ap (λ (x : ℕ). immediate_result op x (offset 12 imm)) (get_same r h.regs rs1 (free rs1 (or_second (rd == rs1) _ (is_self rs1))) same))
  plain_alike (Shift op rd rs1 amount) plain free low =
      puts_alike rd _ _ (ap (λ (x : ℕ). shift_result op x amount) (get_same r h.regs rs1 (free rs1 (or_second (rd == rs1) _ (is_self rs1))) same))
  plain_alike (ShiftWord op rd rs1 amount) plain free low =
      puts_alike rd _ _ (ap (λ (x : ℕ). shift_word_result op x amount) (get_same r h.regs rs1 (free rs1 (or_second (rd == rs1) _ (is_self rs1))) same))
  plain_alike (Register op rd rs1 rs2) plain free low =
      let first = get_same r h.regs rs1 (free rs1 (or_first (rd == rs1 || rs1 == rs1) (rs2 == rs1) (or_second (rd == rs1) (rs1 == rs1) (is_self rs1)))) same in
      let second = get_same r h.regs rs2 (free rs2 (or_second (rd == rs2 || rs1 == rs2) (rs2 == rs2) (is_self rs2))) same in
      puts_alike rd _ _ (ap (λ (x : ℕ). register_result op x (get_reg h.regs rs2)) first ∙ ap (register_result op (get_reg r rs1)) second)
  plain_alike (Fence word) plain free low = record { turn = refl; regs = same; shared = alike }
  plain_alike other plain free low = absurd (cc)

  pub break_alike : IsAlike Ebreak
  break_alike = record { turn = refl; regs = same; shared = alike }
