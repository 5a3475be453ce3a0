-- What the calls of a reader took from a source, and the lines that they handed out. For the loops of callers.
use Rattle.std.proofs.Common.{◌≡◌, ◌≢◌, ⊎_elim, ℕ, ◌+◌, ◌-◌, ◌<◌, ◌≤◌, Bool, true, List, [], ◌∷◌, ◌++◌, length, take, Option, IfSome, Result, Ok, Err, refl, sym, ap, subst, ◌∙◌, arith, length-append, length-take}
use Rattle.wse_io.specs.Stream.{Takes}
use Rattle.wse_io.specs.Lines.{lines, Cuts}
use Rattle.wse_io.specs.Reader.{Reader, is_over, Given, Hands}
use Rattle.wse_io.specs.declared.lines.Ahead.{Ahead}
use Rattle.wse_io.specs.declared.lines.Ahead.TheVariants.{Open, Over, Failed}
use Rattle.wse_io.specs.declared.lines.Line.{Line}
use Rattle.wse_io.specs.declared.lines.Line.TheVariants.{Text}
use Rattle.wse_io.specs.declared.lines.LineFault.{LineFault}
use Rattle.wse_io.specs.declared.lines.LineFault.TheVariants.{Memory}
use Rattle.wse_io.proofs.StreamLemmas.{takes_none, takes_more, takes_nothing}
use Rattle.wse_io.proofs.LineLemmas.{take-nil, take_split, cuts_more, cuts_all}

-- These bytes were taken, and of the first of them these lines were handed out.
pub record Reads (left_old left_now : Option (List ℕ)) (r : Reader) (taken : List ℕ) (handed : List (List ℕ)) : Type 0 where
  pub takes : Takes left_old left_now taken
  pub count : r.taken ≡ length taken
  pub cuts : Cuts (take r.max_input taken) handed r.held (is_over r.ahead)
  pub over : r.ahead ≡ Over → IfSome left_now (λ rest. rest ≡ [])
  pub room : length handed + length r.held ≤ length taken

pub reads_none : (left : Option (List ℕ)) (r : Reader) → r.taken ≡ 0 → r.held ≡ [] → r.ahead ≡ Open → Reads left left r [] []
reads_none left r taken held ahead = record {
  takes = takes_none left left refl;
  count = taken;
  cuts = record { whole = λ more last follows. ap (λ l. lines (l ++ more) last) (take-nil r.max_input ∙ sym held) };
  over = λ over. let e = sym ahead ∙ over in cc;
  room = omega (arith, ap length held);
}

over_is : (ahead : Ahead) → is_over ahead ≡ true → ahead ≡ Over
over_is Open e = cc
over_is Over e = refl
over_is (Failed fault) e = cc

is_settled : (ahead : Ahead) → is_over ahead ≡ true → ahead ≢ Open
is_settled ahead over is = let e = sym is ∙ over_is ahead over in cc

module _ (left_old left_new : Option (List ℕ)) (old new : Reader) (read : List ℕ) (result : Result Line LineFault) (h : Hands left_old left_new old new read result) where
  starved : result ≡ Err Memory → new.ahead ≡ Failed Memory
  starved e = (subst (λ r. Given r (old.held ++ take (old.max_input - old.taken) read) new) e h.given).0

  -- What was over stays so, but for want of memory.
  pub hands_over : result ≢ Err Memory → is_over old.ahead ≡ true → (read ≡ []) × (is_over new.ahead ≡ true)
  hands_over kept over =
      let s = h.settled (is_settled old.ahead over) in
      (s.0, ⊎_elim (λ same. ap is_over same ∙ over) (λ e. absurd (kept e)) s.1)

  left_at : (ahead : Ahead) → old.ahead ≡ ahead → (ahead ≡ Over → IfSome left_old (λ rest. rest ≡ [])) → new.ahead ≡ Over → IfSome left_new (λ rest. rest ≡ [])
  left_at Open is before over = h.ended is over
  left_at Over is before over =
      let s = h.settled (λ e. let f = sym is ∙ e in cc) in
      subst (λ (l : Option (List ℕ)). IfSome l (λ rest. rest ≡ [])) (sym (takes_nothing left_old left_new (subst (Takes left_old left_new) s.0 h.takes))) (before refl)
  left_at (Failed fault) is before over =
      let s = h.settled (λ e. let f = sym is ∙ e in cc) in
      absurd (⊎_elim (λ same. let f = sym over ∙ same ∙ is in cc) (λ e. let f = sym over ∙ starved e in cc) s.1)

  -- What is over has no bytes left, by this call or by an earlier one.
  pub hands_left : (old.ahead ≡ Over → IfSome left_old (λ rest. rest ≡ [])) → new.ahead ≡ Over → IfSome left_new (λ rest. rest ≡ [])
  hands_left before over = left_at old.ahead refl before over

-- A line that is handed out brings a reader nearer to its end.
pub hands_fewer : (left_old left_new : Option (List ℕ)) (old new : Reader) (read line : List ℕ) → Hands left_old left_new old new read (Ok (Text line))
    → (old.max_input + 1 - new.taken) + length new.held < (old.max_input + 1 - old.taken) + length old.held
hands_fewer left_old left_new old new read line h =
    omega (arith, h.given.1, h.taken, h.within, length-append old.held (take (old.max_input - old.taken) read), length-take (old.max_input - old.taken) read)

module _ (left_old left_now left_new : Option (List ℕ)) (r r' : Reader) (taken read : List ℕ) (handed : List (List ℕ)) (a : Reads left_old left_now r taken handed) where
  taken_after : take r.max_input (taken ++ read) ≡ take r.max_input taken ++ take (r.max_input - r.taken) read
  taken_after = take_split r.max_input taken read ∙ ap (λ m. take r.max_input taken ++ take (r.max_input - m) read) (sym a.count)

  nothing_got : read ≡ [] → take (r.max_input - r.taken) read ≡ []
  nothing_got none = ap (take (r.max_input - r.taken)) none ∙ take-nil (r.max_input - r.taken)

  -- One line more.
  pub reads_more : (line : List ℕ) → Hands left_now left_new r r' read (Ok (Text line)) → Reads left_old left_new r' (taken ++ read) (handed ++ line ∷ [])
  reads_more line h =
      let got = take (r.max_input - r.taken) read in
      let cuts : Cuts (take r.max_input taken ++ got) (handed ++ line ∷ []) r'.held (is_over r'.ahead) =
      cuts_more (take r.max_input taken) got r.held r'.held handed (line ∷ []) (is_over r.ahead) (is_over r'.ahead) a.cuts
      (λ over. let o = hands_over left_now left_new r r' read (Ok (Text line)) h (λ e. cc) over in (nothing_got o.0, o.1)) h.given.0 in
      record {
        takes = takes_more _ _ _ taken read a.takes h.takes;
        count = omega (arith, h.taken, a.count, length-append taken read);
        cuts = subst (λ m. Cuts (take m (taken ++ read)) (handed ++ line ∷ []) r'.held (is_over r'.ahead)) (sym h.limit) (subst (λ l. Cuts l (handed ++ line ∷ []) r'.held (is_over r'.ahead)) (sym taken_after) cuts);
        over = λ over. hands_left left_now left_new r r' read (Ok (Text line)) h a.over over;
        room = omega (arith, a.room, h.given.1, length-append handed (line ∷ []), length-append taken read, length-append r.held got, length-take (r.max_input - r.taken) read);
      }

  -- All lines of what was taken: those that were handed out, and those of what was not.
  pub lines_then : (result : Result Line LineFault) (over : Bool) → Hands left_now left_new r r' read result → (is_over r.ahead ≡ true → over ≡ true)
      → lines (take r.max_input (taken ++ read)) over ≡ handed ++ lines (r.held ++ take (r.max_input - r.taken) read) over
  lines_then result over h stays =
      ap (λ l. lines l over) taken_after
      ∙ a.cuts.whole (take (r.max_input - r.taken) read) over (λ was. (nothing_got (h.settled (is_settled r.ahead was)).0, stays was))

-- The same with nothing taken since.
pub lines_now : (left_old left_now : Option (List ℕ)) (r : Reader) (taken : List ℕ) (handed : List (List ℕ)) → Reads left_old left_now r taken handed
    → lines (take r.max_input taken) (is_over r.ahead) ≡ handed ++ lines r.held (is_over r.ahead)
lines_now left_old left_now r taken handed a = cuts_all (take r.max_input taken) r.held handed (is_over r.ahead) a.cuts
