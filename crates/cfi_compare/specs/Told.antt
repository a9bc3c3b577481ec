-- How what is compared is told: a place by the index of its section and its offset there.
use Rattle.std.specs.Prelude.{◌≡◌, ℕ, ◌≤◌}
use Rattle.obj_program.specs.Program.{Program, item_of}
use Rattle.src_machine.specs.Running.{SourceParts, source_of}
use Rattle.cfi_meaning.specs.Compared as compared
use Rattle.cfi_meaning.specs.Compared.{TraceItem, called, exited, broke, stopped, running, untame_at, differs, same, limited, source_run}
use Rattle.cfi_compare.specs.declared.item.SideItem.{SideItem}
use Rattle.cfi_compare.specs.declared.item.SideItem.TheVariants.{Event, Exit, Break, Stop, Running}
use Rattle.cfi_compare.specs.declared.answer.Compared.{Compared}
use Rattle.cfi_compare.specs.declared.answer.Compared.TheVariants.{Same, Differs, Untame, Limit}

abbrev pub told_item : TraceItem → SideItem
told_item (called event) = Event event
told_item (exited status) = Exit status
told_item broke = Break
told_item stopped = Stop
told_item running = Running

abbrev pub told_answer : Program → compared.Compared → Compared
told_answer program (untame_at because k) = Untame because (item_of program k).section (item_of program k).offset
told_answer program (differs d) = Differs d.index (told_item d.source) (told_item d.image)
told_answer program (same events) = Same events
told_answer program limited = Limit

-- a run is where its own first steps, so many at most, have led it
pub record IsOwnState (before : SourceParts) (limit : ℕ) (after : SourceParts) : Type 0 where
  pub taken : ℕ
  pub within : taken ≤ limit
  pub state : source_of after ≡ (source_run before.layout taken (source_of before)).state
  pub steps : after.steps ≡ (source_run before.layout taken (source_of before)).steps
  pub layout : after.layout ≡ before.layout
