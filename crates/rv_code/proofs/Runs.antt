-- Worked runs, computed from the definition step by step: how many steps each takes to its stop.
use Rattle.std.proofs.Common.{◌≡◌, ℕ, List, [], ◌∷◌, ◌++◌, refl, replicate}
use Rattle.rv_image.specs.declared.version.ImageVersion.TheVariants.{OneHart}
use Rattle.rv_image.specs.Image.{Contents, loaded}
use Rattle.rv_image.specs.MemoryMap.{version_1}
use Rattle.rv_word.specs.Memory.{placed, write}
use Rattle.rv_code.specs.Decode.{decoded}
use Rattle.rv_code.specs.Run.{run, run_alone, ByteChange}
use Rattle.rv_code.specs.State.{start_hart, start_shared, last_exit}
use Rattle.rv_code.specs.Step.{step}
use Rattle.rv_code.specs.declared.turn.Turn.{Turn}
use Rattle.rv_code.specs.declared.turn.Turn.TheVariants.{Ran, Exit}

-- the prologue, whose call goes to the first unit
abbrev prologue_bytes : List ℕ
prologue_bytes = 115 ∷ 0 ∷ 16 ∷ 0 ∷ 115 ∷ 0 ∷ 16 ∷ 0 ∷ 115 ∷ 0 ∷ 16 ∷ 0 ∷ 55 ∷ 1 ∷ 0 ∷ 16 ∷ 183 ∷ 1 ∷ 0 ∷ 96 ∷ 147 ∷ 129 ∷ 129 ∷ 0 ∷ 19 ∷ 159 ∷ 1 ∷ 3 ∷ 99 ∷ 20 ∷ 15 ∷ 0 ∷ 111 ∷ 240 ∷ 159 ∷ 254 ∷ 23 ∷ 15 ∷ 0 ∷ 0 ∷ 19 ∷ 15 ∷ 79 ∷ 1 ∷ 35 ∷ 176 ∷ 225 ∷ 1 ∷ 147 ∷ 129 ∷ 129 ∷ 0 ∷ 239 ∷ 0 ∷ 192 ∷ 0 ∷ 147 ∷ 8 ∷ 208 ∷ 5 ∷ 115 ∷ 0 ∷ 0 ∷ 0 ∷ []

-- an image of the prologue, a call of the first unit, and these bytes
abbrev image_of : List ℕ → Contents
image_of code = record { version = OneHart; init = []; code = prologue_bytes ++ code }

-- nothing changes before `n` steps
abbrev pub calm : ℕ → List (List ByteChange)
calm n = replicate n []

-- how a run of so many steps ended
abbrev ended : List ℕ → List (List ByteChange) → Turn
ended code changes = (run_alone version_1 (start_hart 0) (start_shared (image_of code) []) changes).turn

-- `addi x10,x0,7`, then exit
abbrev exits_7 : List ℕ
exits_7 = 19 ∷ 5 ∷ 112 ∷ 0 ∷ 147 ∷ 8 ∷ 208 ∷ 5 ∷ 115 ∷ 0 ∷ 0 ∷ 0 ∷ 111 ∷ 240 ∷ 95 ∷ 251 ∷ []

exits_after_13 : ended exits_7 (calm 13) ≡ Exit 7
unfolding loaded placed decoded step write run last_exit
exits_after_13 = refl

runs_before_13 : ended exits_7 (calm 12) ≡ Ran
unfolding loaded placed decoded step write run last_exit
runs_before_13 = refl

-- `addi x10,x0,7`, then a return to the closing
abbrev returns_7 : List ℕ
returns_7 = 19 ∷ 5 ∷ 112 ∷ 0 ∷ 131 ∷ 191 ∷ 129 ∷ 255 ∷ 147 ∷ 129 ∷ 129 ∷ 255 ∷ 99 ∷ 132 ∷ 31 ∷ 0 ∷ 111 ∷ 240 ∷ 95 ∷ 251 ∷ 103 ∷ 128 ∷ 15 ∷ 0 ∷ 111 ∷ 240 ∷ 159 ∷ 250 ∷ []

returns_after_17 : ended returns_7 (calm 17) ≡ Exit 7
unfolding loaded placed decoded step write run last_exit
returns_after_17 = refl

runs_before_17 : ended returns_7 (calm 16) ≡ Ran
unfolding loaded placed decoded step write run last_exit
runs_before_17 = refl

-- loads x10 from the first data byte, then exit
abbrev exits_loaded : List ℕ
exits_loaded = 183 ∷ 2 ∷ 1 ∷ 0 ∷ 3 ∷ 181 ∷ 2 ∷ 0 ∷ 147 ∷ 8 ∷ 208 ∷ 5 ∷ 115 ∷ 0 ∷ 0 ∷ 0 ∷ 111 ∷ 240 ∷ 31 ∷ 251 ∷ []

-- the byte becomes 5
abbrev five : List ByteChange
five = record { address = 0x10000; byte = 5 } ∷ []

loads_zero : ended exits_loaded (calm 14) ≡ Exit 0
unfolding loaded placed decoded step write run last_exit
loads_zero = refl

-- a change before the load is seen
loads_five : ended exits_loaded (calm 11 ++ five ∷ calm 2) ≡ Exit 5
unfolding loaded placed decoded step write run last_exit
loads_five = refl

-- a change after it is not
loads_before : ended exits_loaded (calm 12 ++ five ∷ calm 1) ≡ Exit 0
unfolding loaded placed decoded step write run last_exit
loads_before = refl
