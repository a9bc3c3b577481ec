-- The code of a placement has room, and its short branches reach.
use Rattle.std.proofs.Common.{◌≡◌, ℕ, ◌+◌, ◌≤◌, List, sum, sym, ap, subst, take, arith}
use Rattle.cfi_map.proofs.Prelude.{profile_for, Form, count, is_whole, starts_from, Entered, entered_in, program_at, whole_at, IsShortAt, PlacementsFit, shorts_of, grouped_parts, part_sizes}
use Rattle.cfi_layout.proofs.Offsets.{sum_where}
use Rattle.cfi_map.proofs.GroupedSizes.{code_shorter, grouped_less}
use Rattle.cfi_map.proofs.PartSizes.{gates_told}
use Rattle.cfi_map.proofs.Shortened.{branch_reaches, sizes_are}

pub placements_fit : PlacementsFit
placements_fit form s is =
    let of : Entered = entered_in s.layout in
    let sizes = ap sum (sizes_are of s.whole is.sound) in
    let less = sum_where (is_whole (shorts_of of) (whole_at s.whole)) 0 (grouped_parts of s.whole) in
    let fewer = grouped_less of s.whole in
    let told : s.layout.gates ≡ take (count of.program) (starts_from (profile_for form).units_from (part_sizes of s.whole 0 of.program.items)) =
    gates_told of s.whole 0 (profile_for form).units_from of.program.items s.layout.gates is.legal in
    record {
      size = omega (arith, sizes, less, fewer, is.room);
      shorter = code_shorter form of s.whole;
      shorts = λ k target lt branch short aim.
          let there = subst (λ (gates : List ℕ). IsShortAt (program_at form of.program of.closed gates of.entry) k target) (sym told)
          (branch_reaches form of s.whole is.sound is.least.closed k target lt branch short aim) in
          record { back = there.back; ahead = there.ahead; free = there.free };
    }
