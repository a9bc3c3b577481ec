-- The operations of long latency: upper halves of products, quotients and remainders. Only private
-- contracts cite it.
use Rattle.std.specs.Prelude.{Bool, true, false}
use Rattle.rv_instr.specs.declared.instr.RegisterOp.{RegisterOp}
use Rattle.rv_instr.specs.declared.instr.RegisterOp.TheVariants.{Mulh, Mulhsu, Mulhu, Div, Divu, Rem, Remu, Divw, Divuw, Remw, Remuw}

abbrev pub is_long_latency : RegisterOp → Bool
is_long_latency Mulh = true
is_long_latency Mulhsu = true
is_long_latency Mulhu = true
is_long_latency Div = true
is_long_latency Divu = true
is_long_latency Rem = true
is_long_latency Remu = true
is_long_latency Divw = true
is_long_latency Divuw = true
is_long_latency Remw = true
is_long_latency Remuw = true
is_long_latency other = false
