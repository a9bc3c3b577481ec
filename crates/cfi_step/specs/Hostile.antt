-- What the hostile meddler does. The harts step in turn. Before each step it goes, for each hart, harts rising, over the
-- 512 double words from the hart's x2 on, whose addresses are sums modulo 2 ^ 64, and zeroes each that lies in data and
-- equals a pending site of the hart: the double word in a slot of the hart's own part of the shadow stack below its x3.
use Rattle.std.specs.Prelude.{ℕ, zero, suc, ◌+◌, ◌-◌, ◌/◌, ◌%◌, nat_le, ◌&&◌, Bool, List, [], ◌∷◌, ◌++◌, min, if◌then◌else◌}
use Rattle.rv_word.specs.Bits.{wrap}
use Rattle.rv_image.specs.MemoryMap.{DATA_END, part_of}
use Rattle.rv_word.specs.Memory.{Memory, read}
use Rattle.rv_instr.specs.Registers.{get_reg}
use Rattle.rv_code.specs.State.{Hart, Harts}
use Rattle.cfi_unit.specs.Shadow.{MOST_PENDING}
use Rattle.cfi_rules.specs.Lines.{is_among}
use Rattle.cfi_script.specs.Plan.{Plan}

-- a hart's oldest slot, eight bytes into its own part, which bounds how many there are
abbrev pub first_slot : ℕ → ℕ
first_slot hart = part_of hart + 8

-- how many slots of a hart stand below its x3
abbrev pub slots_below : ℕ → ℕ → ℕ
slots_below hart x3 = min ((x3 - first_slot hart) / 8) MOST_PENDING

-- the double words in `count` slots from an address on
unfoldable pub sites_from : Memory → ℕ → ℕ → List ℕ
sites_from m a zero = []
sites_from m a (suc count) = read 8 m a ∷ sites_from m (a + 8) count

abbrev pub pending_sites : Memory → ℕ → ℕ → List ℕ
pending_sites m hart x3 = sites_from m (first_slot hart) (slots_below hart x3)

-- zeros for the `count` bytes from an address on
unfoldable pub zeros_from : ℕ → ℕ → List (ℕ × ℕ)
zeros_from a zero = []
zeros_from a (suc count) = (a, 0) ∷ zeros_from (a + 1) count

-- the double word at an address is data, all of it, and one of these sites
abbrev pub holds_site : Memory → List ℕ → ℕ → Bool
holds_site m sites a = nat_le (a + 8) DATA_END && is_among (read 8 m a) sites

-- zeros for the double word at an address, if it is a site
abbrev pub zeros_at : Memory → List ℕ → ℕ → List (ℕ × ℕ)
zeros_at m sites a = if holds_site m sites a then zeros_from a 8 else []

-- zeros for those of the `count` double words from an address on that are sites; after the last address
-- the first is next
unfoldable pub site_zeros : Memory → List ℕ → ℕ → ℕ → List (ℕ × ℕ)
site_zeros m sites a zero = []
site_zeros m sites a (suc count) = zeros_at m sites a ++ site_zeros m sites (wrap (a + 8)) count

-- zeros for the sites of one hart
abbrev pub hart_zeros : Memory → ℕ → Hart → List (ℕ × ℕ)
hart_zeros m k h = site_zeros m (pending_sites m k (get_reg h.regs 3)) (get_reg h.regs 2) 512

-- zeros for the sites of each of `count` harts from the hart `k` on
unfoldable pub zeros_of_harts : Memory → Harts → ℕ → ℕ → List (ℕ × ℕ)
zeros_of_harts m harts k zero = []
zeros_of_harts m harts k (suc count) = hart_zeros m k (harts k) ++ zeros_of_harts m harts (k + 1) count

abbrev pub hostile_plan : Plan
hostile_plan = record {
  hart = λ step count harts s. step % count;
  changes = λ step count harts s. zeros_of_harts s.memory harts 0 count;
}
