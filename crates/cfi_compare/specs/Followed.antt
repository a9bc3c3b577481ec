-- What is known of both runs as they are compared. Only private contracts cite this.
use Rattle.std.specs.Prelude.{◌≡◌, ℕ, ◌<◌, ◌++◌, ◌≤◌, ◌⊎◌, ◌==◌, Bool, true, false, if◌then◌else◌, Option, Some, None, List, [], ◌∷◌, length, slice_get, is_some}
use Rattle.rv_code.specs.State.{After}
use Rattle.rv_code.specs.declared.event.Event as calls
use Rattle.rv_code.specs.declared.turn.Turn.{Turn}
use Rattle.rv_code.specs.declared.turn.Turn.TheVariants as turns
use Rattle.src_machine.specs.Running.{SourceParts, source_of}
use Rattle.src_machine.specs.Told.{told}
use Rattle.src_machine.specs.declared.turn.SourceTurn.{SourceTurn}
use Rattle.src_machine.specs.declared.turn.SourceTurn.TheVariants as ends
use Rattle.cfi_meaning.specs.Compared.{Difference, TraceItem, broke, exited, first_difference, image_end, same_event, source_run, trace}
use Rattle.cfi_compare.specs.Told.{told_item}
use Rattle.cfi_compare.specs.declared.item.SideItem.{SideItem}
use Rattle.cfi_compare.specs.declared.item.SideItem.TheVariants.{Event, Exit, Break, Stop, Running}
use Rattle.cfi_compare.specs.declared.answer.Compared.{Compared}
use Rattle.cfi_compare.specs.declared.answer.Compared.TheVariants.{Same, Differs, Limit}

-- the program's run has gone to its end, its untame step or the limit
pub record IsFinished (before : SourceParts) (limit : ℕ) (turn : SourceTurn) (after : SourceParts) : Type 0 where
  pub turn_is : turn ≡ told before.layout.program (source_run before.layout limit (source_of before)).turn
  pub state : source_of after ≡ (source_run before.layout limit (source_of before)).state
  pub steps : after.steps ≡ (source_run before.layout limit (source_of before)).steps
  pub few : after.steps ≤ limit
  pub layout : after.layout ≡ before.layout

-- the end of a program's run as an item, and whether it has ended, by how its last step is told
abbrev pub end_told : SourceTurn → Option SideItem
end_told (ends.Exit status) = Some (Exit status)
end_told (ends.Break section offset) = Some Break
end_told other = None

abbrev pub both_same : Option calls.Event → Option calls.Event → Bool
both_same (Some e) (Some f) = same_event e f
both_same other another = false

-- at an index both runs have made the same system call
abbrev pub agree_at : List calls.Event → List calls.Event → ℕ → Bool
agree_at ours theirs i = both_same (slice_get ours i) (slice_get theirs i)

abbrev pub Agree : ℕ → List calls.Event → List calls.Event → Type 0
Agree n ours theirs = (i : ℕ) → i < n → agree_at ours theirs i ≡ true

-- every end of a step but one after which the next may come
abbrev pub is_stop : Turn → Bool
is_stop turns.Ran = false
is_stop other = true

-- an image's run has come far enough: to its whole length, or to a system call that is not the program's
pub record IsFollowed (ours : List calls.Event) (whole : After) (theirs : List calls.Event) (turn : Turn) (agreed : ℕ) : Type 0 where
  pub agree : Agree agreed ours theirs
  pub most : agree_at ours theirs agreed ≡ false
  pub later : (added : List calls.Event) × (whole.shared.events ≡ theirs ++ added)
  pub decided : (agreed < length theirs) ⊎ ((whole.shared.events ≡ theirs) × (whole.turn ≡ turn))

abbrev pub same_side : SideItem → SideItem → Bool
same_side (Event e) (Event f) = same_event e f
same_side (Exit s) (Exit t) = s == t
same_side Break Break = true
same_side Stop Stop = true
same_side Running Running = true
same_side other another = false

-- the item of a run at an index up to the number of its system calls
abbrev pub item_or : Option calls.Event → Option SideItem → Option SideItem
item_or (Some e) end = Some (Event e)
item_or None end = end

abbrev pub settled_items : ℕ → SideItem → SideItem → Compared
settled_items n x y = if same_side x y then Same n else Differs n x y

-- the answer where both lists are the same before an index
abbrev pub settled : ℕ → Bool → Option SideItem → Option SideItem → Compared
settled n ended None theirs = Limit
settled n ended (Some x) None = if ended then Differs n x Running else Limit
settled n ended (Some x) (Some y) = settled_items n x y

-- the same of the whole lists, by the first index at which they differ
abbrev pub answer_of : Bool → Option Difference → ℕ → Compared
answer_of ended (Some d) events = Differs d.index (told_item d.source) (told_item d.image)
answer_of true None events = Same events
answer_of false None events = Limit

-- the answer for a program's run, by its system calls and how its last step is told, and an image's
abbrev pub end_items : SourceTurn → List TraceItem
end_items (ends.Exit status) = exited status ∷ []
end_items (ends.Break section offset) = broke ∷ []
end_items other = []

abbrev pub IsAnswered : List calls.Event → SourceTurn → After → Compared → Type 0
IsAnswered ours turn whole answer =
    answer ≡ answer_of (is_some (end_told turn))
    (first_difference 0 (is_some (end_told turn)) (trace ours (end_items turn)) (trace whole.shared.events (image_end whole.turn)))
    (length ours)
