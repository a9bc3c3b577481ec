-- Kinds of instructions that leave the pending sites: their step is the same whichever sites are pending, and, where callees save sites, their
-- unit does all of it. No unit there has more than 19 words but that of a group of stores.
use Rattle.std.proofs.Common.{◌≡◌, ℕ, ◌≤◌, Bool, true, false, List, Option, Some, None, refl, arith}
use Rattle.cfi_meaning.proofs.Prelude.{CalleeSaves, Profile, Instr, ItemKind, is_end, suits, is_store, Fits, word_count, Own, OwnAfter, own_past, jump_word, Group, call_unit, lean_unit_of, kind_step}
use Rattle.rv_instr.specs.declared.instr.Instr.TheVariants as I
use Rattle.obj_input.specs.declared.item_kind.ItemKind.TheVariants as is
use Rattle.cfi_meaning.proofs.KindStep.{own_of_kind}

-- the same step with other sites pending
abbrev pub with_pending : List ℕ → OwnAfter → OwnAfter
with_pending pending a = record { state = record a.state { pending = pending }; turn = a.turn }

-- all kinds but calls and returns leave the pending sites
abbrev pub keeps_sites : ItemKind → Bool
keeps_sites is.Call = false
keeps_sites is.Icall = false
keeps_sites is.Return = false
keeps_sites other = true

pub kept_sites : (p : Profile) (kind : ItemKind) (i : Instr) (target next : ℕ) (o : Own) (pending : List ℕ) → keeps_sites kind ≡ true →
    kind_step p kind i target next (record o { pending = pending }) ≡ with_pending pending (kind_step p kind i target next o)
kept_sites p is.Call i target next o pending keeps = absurd (cc)
kept_sites p is.Icall i target next o pending keeps = absurd (cc)
kept_sites p is.Return i target next o pending keeps = absurd (cc)
kept_sites p is.Branch (I.Branch op rs1 rs2 imm) target next o pending keeps = refl
kept_sites p is.Ijump (I.Jalr rd rs1 imm) target next o pending keeps = refl
kept_sites p kind i target next o pending keeps = refl

pub same_sites : (p : Profile) (kind : ItemKind) (i : Instr) (target next : ℕ) (o : Own) → keeps_sites kind ≡ true → (kind_step p kind i target next o).state.pending ≡ o.pending
same_sites p is.Call i target next o keeps = absurd (cc)
same_sites p is.Icall i target next o keeps = absurd (cc)
same_sites p is.Return i target next o keeps = absurd (cc)
same_sites p is.Branch (I.Branch op rs1 rs2 imm) target next o keeps = refl
same_sites p is.Ijump (I.Jalr rd rs1 imm) target next o keeps = refl
same_sites p kind i target next o keeps = refl

-- the unit of such a kind does all of its instruction's step
pub lean_step : (p : Profile) (calls : Option (List ℕ)) (inside : Bool) (kind : ItemKind) (i : Instr) (whole : Bool) (target label next : ℕ) (group : Group) (o : Own) →
    is_end kind ≡ false → is_store kind ≡ false → suits kind i ≡ true → keeps_sites kind ≡ true →
    own_past p o (lean_unit_of calls inside kind i whole target label group) next ≡ kind_step p kind i target next o
lean_step p calls inside is.Call i whole target label next group o some other suit keeps = absurd (cc)
lean_step p calls inside is.Icall i whole target label next group o some other suit keeps = absurd (cc)
lean_step p calls inside is.Return i whole target label next group o some other suit keeps = absurd (cc)
lean_step p calls inside is.Ijump (I.Jalr rd rs1 imm) whole target label next group o some other suit keeps = refl
lean_step p calls inside kind i whole target label next group o some other suit keeps =
    own_of_kind p calls kind i whole target (jump_word CalleeSaves) label next group o some other suit

-- how many words a unit has at most, but that of a group of stores
call_words : (calls : Option (List ℕ)) (at : ℕ) → Fits (call_unit calls) at → word_count (call_unit calls) ≤ 19
call_words None at fits = omega arith
call_words (Some numbers) at fits = let few = fits.0.most in omega arith

pub lean_words : (calls : Option (List ℕ)) (inside : Bool) (kind : ItemKind) (i : Instr) (whole : Bool) (target label : ℕ) (group : Group) (at : ℕ) → is_store kind ≡ false →
    Fits (lean_unit_of calls inside kind i whole target label group) at → word_count (lean_unit_of calls inside kind i whole target label group) ≤ 19
lean_words calls inside is.Store i whole target label group at other fits = absurd (cc)
lean_words calls inside is.Call i whole target label group at other fits = omega arith
lean_words calls true is.Return i whole target label group at other fits = omega arith
lean_words calls false is.Return i whole target label group at other fits = omega arith
lean_words calls inside is.Ijump (I.Jalr rd rs1 imm) whole target label group at other fits = omega arith
lean_words calls inside is.Icall (I.Jalr rd rs1 imm) whole target label group at other fits = omega arith
lean_words calls inside is.System I.Ecall whole target label group at other fits = call_words calls at fits
lean_words calls inside is.Branch (I.Branch op rs1 rs2 imm) true target label group at other fits = omega arith
lean_words calls inside is.Branch (I.Branch op rs1 rs2 imm) false target label group at other fits = omega arith
lean_words calls inside is.Gate (I.Upper op rd imm) whole target label group at other fits = omega arith
lean_words calls inside kind i whole target label group at other fits = omega arith
