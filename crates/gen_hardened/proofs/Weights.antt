-- What an instruction weighs: how many bytes its hardened code has at most, the word of a gate counted.
use Rattle.std.proofs.Common.{ℕ, ◌+◌, ◌*◌, ◌≤◌, ◌==◌, ◌&&◌, Bool, if◌then◌else◌, length, Option, Some, None, unwrap_or, inl, inr, arith}
use Rattle.std.proofs.lemmas.Bool.{cases_Bool}
use Rattle.gen_hardened.proofs.Prelude.{Instr, Upper, Jal, Jalr, Branch, Store, Ecall, Ebreak, Lui, Auipc, ItemKind, SectionParts, acting_at, are_pair, has_pair_target, instr, is_pair, by_link, kind_at, pair_kind, single_kind, word_kind}
use Rattle.obj_input.specs.declared.item_kind.ItemKind.TheVariants as is

-- what a place of a kind weighs
abbrev pub kind_weight : ItemKind → ℕ
kind_weight is.Store = 20
kind_weight is.Branch = 12
kind_weight is.Call = 36
kind_weight is.Return = 24
kind_weight is.Ijump = 56
kind_weight is.Icall = 84
kind_weight other = 8

-- what an instruction weighs, whatever stands beside it
abbrev pub weight_of : Instr → ℕ
weight_of (Upper Lui rd imm) = 8
weight_of (Upper Auipc rd imm) = 36
weight_of (Jal link imm) = 36
weight_of (Jalr link base imm) = 84
weight_of (Branch op a b imm) = 12
weight_of (Store op base value imm) = 20
weight_of other = 8

abbrev pub word_weight : Option Instr → ℕ
word_weight (Some i) = weight_of i
word_weight None = 8

abbrev found_weight : Option ItemKind → ℕ
found_weight found = kind_weight (unwrap_or found is.Plain)

-- none weighs more than a call of a computed address
heaviest_kind : (kind : ItemKind) → kind_weight kind ≤ 84
heaviest_kind is.Store = omega arith
heaviest_kind is.Branch = omega arith
heaviest_kind is.Call = omega arith
heaviest_kind is.Return = omega arith
heaviest_kind is.Ijump = omega arith
heaviest_kind is.Icall = omega arith
heaviest_kind other = omega arith

heaviest_of : (i : Instr) → weight_of i ≤ 84
heaviest_of (Upper Lui rd imm) = omega arith
heaviest_of (Upper Auipc rd imm) = omega arith
heaviest_of (Jal link imm) = omega arith
heaviest_of (Jalr link base imm) = omega arith
heaviest_of (Branch op a b imm) = omega arith
heaviest_of (Store op base value imm) = omega arith
heaviest_of other = omega arith

pub heaviest_word : (word : Option Instr) → word_weight word ≤ 84
heaviest_word (Some i) = heaviest_of i
heaviest_word None = omega arith

link_weighs : (link : ℕ) → found_weight (by_link link) ≤ 36
link_weighs link = elim (cases_Bool (link == 0)) [
  | inl jump ↦ rw jump (omega arith)
  | inr other ↦ elim (cases_Bool (link == 1)) [
    | inl call ↦ rw (other, call) (omega arith)
    | inr neither ↦ rw (other, neither) (omega arith)
  ]
]

single_weighs : (plain : Bool) (i : Instr) → found_weight (single_kind plain i) ≤ weight_of i
single_weighs plain (Upper Lui rd imm) =
    elim (cases_Bool (rd == 0)) [ inl zero ↦ rw zero (omega arith) | inr written ↦ rw written (omega arith) ]
single_weighs plain (Upper Auipc rd imm) = omega arith
single_weighs plain (Jal link imm) = link_weighs link
single_weighs plain (Jalr link base imm) = heaviest_kind (unwrap_or (single_kind plain (Jalr link base imm)) is.Plain)
single_weighs plain (Branch op a b imm) = omega arith
single_weighs plain (Store op base value imm) = omega arith
single_weighs plain Ecall = omega arith
single_weighs plain Ebreak = omega arith
single_weighs plain other = omega arith

pair_weighs : (next : Option Instr) → found_weight (pair_kind next) ≤ 36
pair_weighs (Some (Jalr link base imm)) = link_weighs link
pair_weighs other = omega arith

-- what begins at a word, by the word itself, the next one, and what the relocations there tell
begun_weighs : (targeted plain : Bool) (word next : Option Instr)
    → found_weight (if are_pair word next && targeted then pair_kind next else word_kind plain word) ≤ word_weight word
begun_weighs targeted plain None next = omega arith
begun_weighs targeted plain (Some (Upper Auipc rd imm)) next =
    elim (cases_Bool (are_pair (Some (Upper Auipc rd imm)) next && targeted)) [
      | inl pair ↦ rw pair (pair_weighs next)
      | inr single ↦ rw single (omega arith)
    ]
begun_weighs targeted plain (Some (Upper Lui rd imm)) next = single_weighs plain (Upper Lui rd imm)
begun_weighs targeted plain (Some i) next = single_weighs plain i

pub place_weighs : (s : SectionParts) (i : ℕ) → kind_weight (unwrap_or (kind_at s i) is.Plain) ≤ word_weight (instr s i)
unfolding kind_at is_pair
place_weighs s i = begun_weighs (has_pair_target s i) (length (acting_at s (4 * i)) == 0) (instr s i) (instr s (i + 1))
