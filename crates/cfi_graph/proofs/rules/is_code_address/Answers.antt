use Rattle.std.proofs.Common.{◌≡◌, ℕ, ◌+◌, ◌-◌, ◌%◌, ◌^◌, ◌<◌, nat_lt, nat_le, ◌&&◌, inl, inr, refl, arith}
use Rattle.std.proofs.lemmas.Bool.{cases_lt, eq-eqb, le-leb, le-ltb, lt-leb, lt-ltb}
use Rattle.cfi_graph.proofs.rules.is_code_address.Goals as goal

within : (len a : ℕ) → a < 2 ^ 64 → len < 2 ^ 32 → nat_lt ((a + (2 ^ 64 - 0x40000000)) % 2 ^ 64) len ≡ nat_le 0x40000000 a && nat_lt a (0x40000000 + len)
within len a fits small = elim (cases_lt a 0x40000000) [
  | inl below ↦ rw (lt-leb 0x40000000 a below, le-ltb ((a + (2 ^ 64 - 0x40000000)) % 2 ^ 64) len (omega arith)) refl
  | inr above ↦ elim (cases_lt a (0x40000000 + len)) [
    | inl inside ↦ rw (le-leb 0x40000000 a above, lt-ltb a (0x40000000 + len) inside, lt-ltb ((a + (2 ^ 64 - 0x40000000)) % 2 ^ 64) len (omega arith)) refl
    | inr past ↦ rw (le-leb 0x40000000 a above, le-ltb a (0x40000000 + len) past, le-ltb ((a + (2 ^ 64 - 0x40000000)) % 2 ^ 64) len (omega arith)) refl
  ]
]

pub returns-then-address-eq0 : goal.returns-then-address-eq0
returns-then-address-eq0 c =
    rw (c.from.ensures, eq-eqb (c.args.address % 4) 0 c.if-address-eq0.true) (within c.args.len c.args.address (omega (arith, c.ranges.address.fits)) (omega (arith, c.ranges.len.fits)))
