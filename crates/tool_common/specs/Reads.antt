-- Reading the files that the words name, one after the other.
use Rattle.std.specs.Prelude.{◌≡◌, ◌⊎◌, ◌≤◌, ◌<◌, ◌++◌, ◌^◌, ℕ, List, [], ◌∷◌, codes, length, ⊤, Option, Some, None, IfSome, Result, Ok, Err}
use Rattle.std.specs.List.{filter_map}
use Rattle.tool_common.specs.declared.read.Stop.{Stop}
use Rattle.tool_common.specs.declared.read.Stop.TheVariants as stop
use Rattle.tool_common.specs.declared.read.Unread.{Unread as UnreadFile}
use Rattle.tool_common.specs.declared.read.Unread.TheVariants.{Fault, TooLong}

-- how many bytes a file may have
abbrev pub file_limit : ℕ
file_limit = 2 ^ 26

-- what each name holds, where that is told
abbrev pub Content : Type 0
Content = List ℕ → Option (List ℕ)

-- the names of files, without the words that name none
abbrev pub file_names : List (Option (List ℕ)) → List (List ℕ)
file_names = filter_map (λ name. name)

-- a read gave these bytes: those that the file holds, where that is told
pub record Gave (held : Option (List ℕ)) (bytes : List ℕ) : Type 0 where
  pub all : IfSome held (λ told. bytes ≡ told)
  pub within : length bytes ≤ file_limit

-- a file was named, and its read gave these bytes; where none was named there are none
abbrev pub GaveNamed : Content → Option (List ℕ) → List ℕ → Type 0
GaveNamed content None bytes = bytes ≡ []
GaveNamed content (Some name) bytes = Gave (content name) bytes

-- so each of several names, in their order
abbrev pub GaveAll : Content → List (Option (List ℕ)) → List (List ℕ) → Type 0
GaveAll content [] [] = ⊤
GaveAll content [] (bytes ∷ others) = ⊥
GaveAll content (name ∷ names) [] = ⊥
GaveAll content (name ∷ names) (bytes ∷ others) = GaveNamed content name bytes × GaveAll content names others

-- the read of a name is reached: each file before it gave its bytes
abbrev pub IsReached : Content → List (Option (List ℕ)) → List ℕ → Type 0
IsReached content [] name = ⊥
IsReached content (None ∷ names) name = IsReached content names name
IsReached content (Some first ∷ names) name =
    (name ≡ first) ⊎ (((bytes : List ℕ) × Gave (content first) bytes) × IsReached content names name)

-- a file holds more than it may, where that is told
abbrev pub IsLong : Option (List ℕ) → Type 0
IsLong held = IfSome held (λ bytes. file_limit < length bytes)

-- why the read of one of these names gave no bytes; `failed` is the name of the last read that failed
abbrev pub IsUnread : Content → List ℕ → List (Option (List ℕ)) → UnreadFile → Type 0
IsUnread content failed names (Fault name) = IsReached content names name.now × (failed ≡ name.now)
IsUnread content failed names (TooLong name) = IsReached content names name.now × IsLong (content name.now)

-- why a command that reads these names stopped; only want of memory is free
abbrev pub IsStop : Content → List ℕ → List (Option (List ℕ)) → Stop → Type 0
IsStop content failed names (stop.Unread unread) = IsUnread content failed names unread
IsStop content failed names stop.NoMemory = ⊤

abbrev pub IsFault : {A : Type 0} → Result A Stop → Type 0
IsFault (Ok x) = ⊥
IsFault (Err (stop.Unread (Fault name))) = ⊤
IsFault (Err (stop.Unread (TooLong name))) = ⊥
IsFault (Err stop.NoMemory) = ⊥

abbrev pub IsTooLong : {A : Type 0} → Result A Stop → Type 0
IsTooLong (Ok x) = ⊥
IsTooLong (Err (stop.Unread (Fault name))) = ⊥
IsTooLong (Err (stop.Unread (TooLong name))) = ⊤
IsTooLong (Err stop.NoMemory) = ⊥

abbrev pub unread_line : UnreadFile → List ℕ
unread_line (Fault name) = codes "read fault " ++ name.now
unread_line (TooLong name) = codes "too long " ++ name.now

abbrev pub unread_status : UnreadFile → ℕ
unread_status (Fault name) = 3
unread_status (TooLong name) = 6
