-- A reader of lines, and what its calls do.
use Rattle.std.specs.Prelude.{◌≡◌, ◌≢◌, ◌⊎◌, ℕ, ◌+◌, ◌-◌, ◌<◌, ◌≤◌, ◌^◌, Bool, true, false, List, [], ◌∷◌, ◌++◌, length, take, Option, IfSome, Result, Ok, Err}
use Rattle.wse_io.specs.Stream.{Takes}
use Rattle.wse_io.specs.Lines.{lines, Cuts}
use Rattle.wse_io.specs.declared.lines.Ahead.{Ahead}
use Rattle.wse_io.specs.declared.lines.Ahead.TheVariants.{Open, Over, Failed}
use Rattle.wse_io.specs.declared.lines.Line.{Line}
use Rattle.wse_io.specs.declared.lines.Line.TheVariants.{Text, TooLong, End}
use Rattle.wse_io.specs.declared.lines.LineFault.{LineFault}
use Rattle.wse_io.specs.declared.lines.LineFault.TheVariants.{InputLimit, Memory}

-- A reader as contracts see it.
pub record Reader : Type 0 where
  -- A line of more bytes is too long.
  pub max_line : ℕ
  -- Lines are handed out of that many bytes at most.
  pub max_input : ℕ
  -- How many bytes were taken so far.
  pub taken : ℕ
  -- What was taken of the first `max_input` bytes and is not handed out yet.
  pub held : List ℕ
  -- What comes behind that.
  pub ahead : Ahead

-- Whether the input ended behind what is held.
abbrev pub is_over : Ahead → Bool
is_over Over = true
is_over ahead = false

-- How many bytes were taken where this comes next: one past the limit exactly where that is the fault, want of memory aside.
abbrev pub IsAfter : Ahead → ℕ → ℕ → Type 0
IsAfter (Failed (InputLimit n)) limit taken = (taken ≡ limit + 1) × (n ≡ taken)
IsAfter (Failed Memory) limit taken = taken ≤ limit + 1
IsAfter ahead limit taken = taken ≤ limit

-- What holds of each reader: its limit's range, how much was taken, how much is held, and that nothing is after want of memory.
pub record IsReader (r : Reader) : Type 0 where
  pub some : 1 ≤ r.max_input
  pub countable : r.max_input ≤ 2 ^ 62
  pub after : IsAfter r.ahead r.max_input r.taken
  pub counted : length r.held ≤ r.taken
  pub most : length r.held ≤ r.max_line + 1
  pub dropped : r.ahead ≡ Failed Memory → r.held ≡ []

-- One read: these bytes were taken, at least one where more is to be read, and joined what is held.
pub record Fills (left_old left_new : Option (List ℕ)) (old new : Reader) (read : List ℕ) : Type 0 where
  pub takes : Takes left_old left_new read
  pub limit : new.max_input ≡ old.max_input
  pub taken : new.taken ≡ old.taken + length read
  pub held : new.ahead ≢ Failed Memory → new.held ≡ old.held ++ take (old.max_input - old.taken) read
  pub some : new.ahead ≡ Open → 0 < length read
  pub ended : new.ahead ≡ Over → IfSome left_new (λ rest. rest ≡ [])

-- What was held is let go.
abbrev pub without_held : Reader → Reader
without_held r = record r { held = [] }

-- What a line tells of its bytes: all of them, or their number where they are too many.
abbrev pub Tells : Line → List ℕ → Type 0
Tells (Text text) line = text ≡ line
Tells (TooLong bytes) line = bytes ≡ length line
Tells End line = ⊥

-- Its number is told exactly of a line of more bytes than the most.
abbrev pub IsFit : ℕ → Line → Type 0
IsFit most (Text text) = length text ≤ most
IsFit most (TooLong bytes) = most < bytes
IsFit most End = ⊥

-- A line is handed out whose last bytes are these, so many before them having been dropped, and the rest stays; or there was no
-- memory for it.
abbrev pub HandsOut : ℕ → List ℕ → List ℕ → Reader → Reader → Result Line LineFault → Type 0
HandsOut dropped line rest old new (Ok (Text text)) = (text ≡ line) × (dropped + length line ≤ old.max_line) × (new ≡ record old { held = rest })
HandsOut dropped line rest old new (Ok (TooLong bytes)) = (bytes ≡ dropped + length line) × (old.max_line < bytes) × (new ≡ record old { held = rest })
HandsOut dropped line rest old new (Ok End) = ⊥
HandsOut dropped line rest old new (Err fault) = (fault ≡ Memory) × (new ≡ record old { held = []; ahead = Failed Memory })

-- What is handed out of bytes that were taken and not handed out yet: their next line, and where none is left, what comes behind them.
abbrev pub Given : Result Line LineFault → List ℕ → Reader → Type 0
Given (Ok (Text line)) bytes new = Cuts bytes (line ∷ []) new.held (is_over new.ahead) × (length new.held < length bytes) × (length line ≤ new.max_line)
Given (Ok (TooLong n)) bytes new =
    (line : List ℕ) × Cuts bytes (line ∷ []) new.held (is_over new.ahead) × (length new.held < length bytes) × (n ≡ length line) × (new.max_line < n)
Given (Ok End) bytes new = (new.ahead ≡ Over) × (new.held ≡ bytes) × (lines bytes true ≡ [])
Given (Err Memory) bytes new = (new.ahead ≡ Failed Memory) × (new.held ≡ [])
Given (Err fault) bytes new = (new.ahead ≡ Failed fault) × (lines new.held false ≡ []) × (lines bytes false ≡ [])

-- What is answered again once nothing is read any more and no line is left.
abbrev pub Repeats : Ahead → List ℕ → Result Line LineFault → Type 0
Repeats Open held result = Unit {0}
Repeats Over held result = lines held true ≡ [] → result ≡ Ok End
Repeats (Failed fault) held result = lines held false ≡ [] → result ≡ Err fault

-- One call: it takes some bytes, and hands out the next line of the first `max_input` bytes, or says why there is none.
pub record Hands (left_old left_new : Option (List ℕ)) (old new : Reader) (read : List ℕ) (result : Result Line LineFault) : Type 0 where
  -- These bytes left the source.
  pub takes : Takes left_old left_new read
  pub line : new.max_line ≡ old.max_line
  pub limit : new.max_input ≡ old.max_input
  pub taken : new.taken ≡ old.taken + length read
  pub within : new.taken ≤ old.max_input + 1
  pub after : IsAfter new.ahead old.max_input new.taken
  -- Of a line that is too long no more than one byte too many is ever held.
  pub most : length new.held ≤ old.max_line + 1
  -- Once the source ended or a fault is known, nothing is read, and that stays so but for want of memory.
  pub settled : old.ahead ≢ Open → (read ≡ []) × ((new.ahead ≡ old.ahead) ⊎ (result ≡ Err Memory))
  -- A line that is held whole is handed out before anything is read.
  pub ready : lines old.held false ≢ [] → read ≡ []
  -- Where the call found the end, the source has no bytes left.
  pub ended : old.ahead ≡ Open → new.ahead ≡ Over → IfSome left_new (λ rest. rest ≡ [])
  pub given : Given result (old.held ++ take (old.max_input - old.taken) read) new
  pub repeats : Repeats old.ahead old.held result

-- The last read of a call began when these bytes had been taken in it, and no line was held whole by then. As lines only
-- come, this was so at each read of the call.
abbrev pub AsksInNeed : (left_old left_before : Option (List ℕ)) → Reader → Type 0
AsksInNeed left_old left_before old =
    (front : List ℕ) × Takes left_old left_before front × (lines (old.held ++ take (old.max_input - old.taken) front) false ≡ [])
