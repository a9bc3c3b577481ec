-- How an answer is printed. A system call is its number, its six arguments and its answer, each of sixteen hexadecimal digits,
-- and then the bytes that it wrote, of two digits each; `-` stands for none.
use Rattle.std.specs.Prelude.{ℕ, ◌==◌, if◌then◌else◌, List, ◌++◌, codes, length}
use Rattle.std.specs.Fmt.{decimal}
use Rattle.std.specs.List.{flat_map}
use Rattle.text_lines.specs.Hex.{hex_text}
use Rattle.rv_code.specs.declared.event.Event as calls
use Rattle.cfi_map.specs.declared.reason.Reason.{Reason}
use Rattle.cfi_map.specs.declared.reason.Reason.TheVariants.{Graph, Return, Window, Deep, End, Call}
use Rattle.cfi_compare.specs.declared.item.SideItem.{SideItem}
use Rattle.cfi_compare.specs.declared.item.SideItem.TheVariants.{Event, Exit, Break, Stop, Running}
use Rattle.cfi_compare.specs.declared.answer.Compared.{Compared}
use Rattle.cfi_compare.specs.declared.answer.Compared.TheVariants.{Same, Differs, Untame, Limit}

abbrev pub bytes_text : List ℕ → List ℕ
bytes_text bytes = if length bytes == 0 then codes "-" else flat_map (hex_text 2) bytes

abbrev pub pair_text : ℕ → ℕ → List ℕ
pair_text first second = hex_text 16 first ++ codes " " ++ hex_text 16 second

abbrev pub four_text : ℕ → ℕ → ℕ → ℕ → List ℕ
four_text first second third last = pair_text first second ++ codes " " ++ pair_text third last

abbrev pub event_text : calls.Event → List ℕ
event_text e = four_text e.number e.a0 e.a1 e.a2 ++ codes " " ++ four_text e.a3 e.a4 e.a5 e.answer ++ codes " " ++ bytes_text e.bytes

abbrev pub item_text : SideItem → List ℕ
item_text (Event event) = event_text event
item_text (Exit status) = codes "exit " ++ decimal status
item_text Break = codes "break"
item_text Stop = codes "stop"
item_text Running = codes "running"

abbrev pub reason_name : Reason → List ℕ
reason_name Graph = codes "graph"
reason_name Return = codes "return"
reason_name Window = codes "window"
reason_name Deep = codes "deep"
reason_name End = codes "end"
reason_name Call = codes "call"

abbrev pub answer_text : Compared → List ℕ
answer_text (Same events) = codes "same " ++ decimal events
answer_text (Differs index source image) =
    codes "differs " ++ decimal index ++ codes "\nsource " ++ item_text source ++ codes "\nimage " ++ item_text image
answer_text (Untame because section offset) =
    codes "untame " ++ reason_name because ++ codes " " ++ decimal section ++ codes " " ++ decimal offset
answer_text Limit = codes "limit"
