-- What a call of a reader took so far, and what it hands out then.
use Rattle.std.proofs.Common.{◌≡◌, ◌≢◌, ◌⊎◌, inl, inr, ⊎_elim, ℕ, ◌+◌, ◌-◌, ◌<◌, ◌≤◌, Bool, true, false, nat_lt, List, [], ◌∷◌, ◌++◌, length, take, drop, position, Option, Some, IfSome, Result, Ok, Err, refl, sym, ap, subst, ◌∙◌, append_assoc, arith, length-append, length-drop}
use Rattle.std.proofs.lemmas.Bool.{ltb-true, ltb-false}
use Rattle.std.proofs.lemmas.List.{append-nil}
use Rattle.wse_io.specs.Stream.{Takes}
use Rattle.wse_io.specs.Lines.{is_line_end, lines, Cuts}
use Rattle.wse_io.specs.Reader.{Reader, is_over, IsAfter, IsReader, Fills, HandsOut, Given, Repeats, Hands, AsksInNeed, without_held}
use Rattle.wse_io.specs.declared.lines.Ahead.{Ahead}
use Rattle.wse_io.specs.declared.lines.Ahead.TheVariants.{Open, Over, Failed}
use Rattle.wse_io.specs.declared.lines.Line.{Line}
use Rattle.wse_io.specs.declared.lines.Line.TheVariants.{Text, TooLong, End}
use Rattle.wse_io.specs.declared.lines.LineFault.{LineFault}
use Rattle.wse_io.specs.declared.lines.LineFault.TheVariants.{Read, InputLimit, Memory}
use Rattle.wse_io.proofs.StreamLemmas.{takes_none, takes_more}
use Rattle.wse_io.proofs.LineLemmas.{take-nil, take_split, NoEnd, no_end-nil, no_end-append, found_or_none, EndsAt, lines-nil, lines_open, cuts_all, cuts_line, cuts_last}

-- The bytes that were taken in the call are those of an open line that were dropped, and those before the reader as it is now.
pub record SoFar (left_old left_now : Option (List ℕ)) (old now : Reader) (read dropped : List ℕ) : Type 0 where
  pub takes : Takes left_old left_now read
  pub line : now.max_line ≡ old.max_line
  pub limit : now.max_input ≡ old.max_input
  pub taken : now.taken ≡ old.taken + length read
  pub held : now.ahead ≢ Failed Memory → dropped ++ now.held ≡ old.held ++ take (old.max_input - old.taken) read
  pub none : NoEnd dropped
  pub long : (dropped ≡ []) ⊎ (old.max_line < length dropped)
  pub counted : (dropped ≡ []) ⊎ (length dropped + length now.held ≤ now.taken)
  pub settled : old.ahead ≢ Open → (read ≡ []) × (dropped ≡ []) × (now ≡ old)
  pub ready : lines old.held false ≢ [] → read ≡ []
  pub ended : old.ahead ≡ Open → now.ahead ≡ Over → IfSome left_now (λ rest. rest ≡ [])

-- How many turns may follow: each read takes a byte or ends the reading.
abbrev pub turns : Ahead → ℕ → ℕ → ℕ
turns Open limit taken = limit + 2 - taken
turns ahead limit taken = 0

-- The count of the source's faults in a call, by what comes next.
abbrev pub KeptBy : Ahead → List ℕ → ℕ → ℕ → Type 0
KeptBy Open held before count = count ≡ before
KeptBy Over held before count = count ≡ before
KeptBy (Failed Read) held before count = (count ≡ before) ⊎ NoEnd held
KeptBy (Failed (InputLimit n)) held before count = count ≡ before
KeptBy (Failed Memory) held before count = count ≡ before

-- It is as at the start of the call, unless a fault was found in it and no line end is held.
pub record Kept (ahead : Ahead) (held : List ℕ) (before count : ℕ) : Type 0 where
  pub case : KeptBy ahead held before count

pub kept_same : (ahead : Ahead) (held : List ℕ) (count : ℕ) → Kept ahead held count count
kept_same Open held count = record { case = refl }
kept_same Over held count = record { case = refl }
kept_same (Failed Read) held count = record { case = inl refl }
kept_same (Failed (InputLimit n)) held count = record { case = refl }
kept_same (Failed Memory) held count = record { case = refl }

-- After one read more.
pub kept_more : (ahead : Ahead) (held : List ℕ) (before count : ℕ) → (ahead ≢ Failed Read → count ≡ before) → (ahead ≡ Failed Read → NoEnd held) → Kept ahead held before count
kept_more Open held before count kept none = record { case = kept (λ e. cc) }
kept_more Over held before count kept none = record { case = kept (λ e. cc) }
kept_more (Failed Read) held before count kept none = record { case = inr (none refl) }
kept_more (Failed (InputLimit n)) held before count kept none = record { case = kept (λ e. cc) }
kept_more (Failed Memory) held before count kept none = record { case = kept (λ e. cc) }

-- Where a line end is held.
pub kept_found : (ahead : Ahead) (held : List ℕ) (before count end : ℕ) → position is_line_end held ≡ Some end → Kept ahead held before count → count ≡ before
kept_found Open held before count end found kept = kept.case
kept_found Over held before count end found kept = kept.case
kept_found (Failed Read) held before count end found kept = ⊎_elim (λ same. same) (λ none. absurd (found_or_none held end found none)) kept.case
kept_found (Failed (InputLimit n)) held before count end found kept = kept.case
kept_found (Failed Memory) held before count end found kept = kept.case

-- Where what comes next is no fault of the source.
pub kept_unless : (ahead : Ahead) (held : List ℕ) (before count : ℕ) → ahead ≢ Failed Read → Kept ahead held before count → count ≡ before
kept_unless Open held before count other kept = kept.case
kept_unless Over held before count other kept = kept.case
kept_unless (Failed Read) held before count other kept = absurd (other refl)
kept_unless (Failed (InputLimit n)) held before count other kept = kept.case
kept_unless (Failed Memory) held before count other kept = kept.case

held_all : (held : List ℕ) (n : ℕ) → held ++ take n [] ≡ held
held_all held n = ap (λ l. held ++ l) (take-nil n) ∙ append-nil held

pub so_far_none : (left : Option (List ℕ)) (r : Reader) → SoFar left left r r [] []
so_far_none left r = record {
  takes = takes_none left left refl;
  line = refl;
  limit = refl;
  taken = omega arith;
  held = λ _. sym (held_all r.held (r.max_input - r.taken));
  none = no_end-nil;
  long = inl refl;
  counted = inl refl;
  settled = λ _. (refl, refl, refl);
  ready = λ _. refl;
  ended = λ is over. let e = sym is ∙ over in cc;
}

-- A reader by its parts is the one that they are of.
pub same_reader : (left_old left_now : Option (List ℕ)) (old now parts : Reader) (held read dropped : List ℕ) → parts ≡ now → held ≡ parts.held → IsReader parts → SoFar left_old left_now old now read dropped
    → SoFar left_old left_now old (record parts { held = held }) read dropped × IsReader (record parts { held = held })
same_reader left_old left_now old now parts held read dropped same kept sound so =
    let is : parts ≡ record parts { held = held } = ap (λ h. record parts { held = h }) (sym kept) in
    (subst (λ r. SoFar left_old left_now old r read dropped) (sym same ∙ is) so, subst IsReader is sound)

after_within : (ahead : Ahead) (limit taken : ℕ) → IsAfter ahead limit taken → taken ≤ limit + 1
after_within Open limit taken h = omega arith
after_within Over limit taken h = omega arith
after_within (Failed Read) limit taken h = omega arith
after_within (Failed (InputLimit n)) limit taken h = let e = h.0 in omega arith
after_within (Failed Memory) limit taken h = h

repeats_line : (ahead : Ahead) (held : List ℕ) (result : Result Line LineFault) → lines held (is_over ahead) ≢ [] → Repeats ahead held result
repeats_line Open held result some = tt
repeats_line Over held result some = λ none. absurd (some none)
repeats_line (Failed fault) held result some = λ none. absurd (some none)

repeats_settled : (ahead : Ahead) (held : List ℕ) (result : Result Line LineFault) → (ahead ≢ Open → Repeats ahead held result) → Repeats ahead held result
repeats_settled Open held result f = tt
repeats_settled Over held result f = f (λ e. cc)
repeats_settled (Failed fault) held result f = f (λ e. cc)

nothing_behind : (xs ys : List ℕ) → xs ++ ys ≡ [] → ys ≡ []
nothing_behind [] ys e = e
nothing_behind (x ∷ xs) ys e = cc

none_or_some : (xs : List ℕ) → (xs ≡ []) ⊎ (0 < length xs)
none_or_some [] = inl refl
none_or_some (x ∷ xs) = inr (omega arith)

by_order : (P : Type 0) (m n : ℕ) (t : Bool) → nat_lt m n ≡ t → (m < n → P) → (n ≤ m → P) → P
by_order P m n true is less more = less (ltb-true m n is)
by_order P m n false is less more = more (ltb-false m n is)

module _ (left_old left_now : Option (List ℕ)) (old now : Reader) (read dropped : List ℕ) (so : SoFar left_old left_now old now read dropped) where
  -- What was taken of the first bytes and not handed out when the call began.
  abbrev pub taken_bytes : List ℕ
  taken_bytes = old.held ++ take (old.max_input - old.taken) read

  -- Where no line end is held, there is none at all.
  pub none_left : now.ahead ≢ Failed Memory → NoEnd now.held → NoEnd taken_bytes
  none_left fed none = subst NoEnd (so.held fed) (no_end-append dropped now.held so.none none)

  -- Something is read only where no line was held and nothing else was known when the call began.
  pub needed : now.ahead ≡ Open → NoEnd now.held → (lines old.held false ≢ [] → ⊥) × (old.ahead ≢ Open → ⊥)
  needed is none =
      let room = old.max_input - old.taken in (
        λ some. some (ap (λ l. lines l false) (sym (ap (λ r. old.held ++ take room r) (so.ready some) ∙ held_all old.held room)) ∙ lines_open taken_bytes (none_left (λ m. let e = sym is ∙ m in cc) none)),
        λ known. known (sym (ap (λ (r : Reader). r.ahead) (so.settled known).2) ∙ is),
      )

  -- One read more, where no line is held.
  pub so_far_more : (left_new : Option (List ℕ)) (new : Reader) (more : List ℕ) → length dropped + length now.held ≤ now.taken → now.ahead ≡ Open → NoEnd now.held → Fills left_now left_new now new more → new.max_line ≡ now.max_line → length new.held + now.taken ≤ length now.held + new.taken
      → SoFar left_old left_new old new (read ++ more) dropped
  so_far_more left_new new more counted is none f line most =
      let room = old.max_input - old.taken in
      let before : dropped ++ now.held ≡ old.held ++ take room read = so.held (λ m. let e = sym is ∙ m in cc) in
      let got = take (now.max_input - now.taken) more in
      record {
        takes = takes_more _ _ _ read more so.takes f.takes;
        line = line ∙ so.line;
        limit = f.limit ∙ so.limit;
        taken = omega (arith, f.taken, so.taken, length-append read more);
        held = λ kept.
            ap (λ l. dropped ++ l) (f.held kept)
            ∙ sym (append_assoc dropped now.held got)
            ∙ ap (λ l. l ++ got) before
            ∙ append_assoc old.held (take room read) got
            ∙ ap (λ m. old.held ++ (take room read ++ take m more)) {x = now.max_input - now.taken} {y = room - length read} (omega (arith, so.limit, so.taken))
            ∙ ap (λ l. old.held ++ l) (sym (take_split room read more));
        none = so.none;
        long = so.long;
        counted = inr (omega (arith, counted, most));
        settled = λ known. absurd ((needed is none).1 known);
        ready = λ some. absurd ((needed is none).0 some);
        ended = λ _ over. f.ended over;
      }

module _ (left_old left_now : Option (List ℕ)) (old now : Reader) (read dropped : List ℕ) (so : SoFar left_old left_now old now read dropped) (sound : IsReader now) where
  abbrev bytes : List ℕ
  bytes = taken_bytes left_old left_now old now read dropped so

  -- No more was dropped and is held than was taken.
  pub counted : length dropped + length now.held ≤ now.taken
  counted = ⊎_elim (λ none. omega (arith, ap length none, sound.counted)) (λ le. le) so.counted

  -- What is held of a line that is too long already is dropped, and then no more than a line may have is held.
  pub so_far_dropped : (mid : Reader) (count : ℕ) → now.ahead ≡ Open → NoEnd now.held
      → (length dropped + length now.held ≤ now.max_line → (count ≡ length dropped) × (mid ≡ now))
      → (now.max_line < length dropped + length now.held → (count ≡ length dropped + length now.held) × (mid ≡ without_held now))
      → (gone : List ℕ) × (count ≡ length gone) × SoFar left_old left_now old mid read gone × (length gone + length mid.held ≤ mid.taken) × NoEnd mid.held × (length mid.held ≤ mid.max_line) × (mid.ahead ≡ Open)
  so_far_dropped mid count is none short long =
      by_order _ now.max_line (length dropped + length now.held) _ refl
      (λ more.
      let let_go = long more in
      let gone = dropped ++ now.held in
      let so' : SoFar left_old left_now old (without_held now) read gone = record {
        takes = so.takes;
        line = so.line;
        limit = so.limit;
        taken = so.taken;
        held = λ fed. append-nil gone ∙ so.held fed;
        none = no_end-append dropped now.held so.none none;
        long = inr (omega (arith, more, so.line, length-append dropped now.held));
        counted = inr (omega (arith, counted, length-append dropped now.held));
        settled = λ known. absurd ((needed left_old left_now old now read dropped so is none).1 known);
        ready = so.ready;
        ended = so.ended;
      } in (
        gone,
        omega (arith, let_go.0, length-append dropped now.held),
        subst (λ r. SoFar left_old left_now old r read gone) (sym let_go.1) so',
        subst (λ (r : Reader). length gone + length r.held ≤ r.taken) (sym let_go.1) (omega (arith, counted, length-append dropped now.held)),
        subst (λ (r : Reader). NoEnd r.held) (sym let_go.1) no_end-nil,
        subst (λ (r : Reader). length r.held ≤ r.max_line) (sym let_go.1) (omega arith),
        ap (λ (r : Reader). r.ahead) let_go.1 ∙ is,
      ))
      (λ less.
      let kept = short less in (
        dropped,
        kept.0,
        subst (λ r. SoFar left_old left_now old r read dropped) (sym kept.1) so,
        subst (λ (r : Reader). length dropped + length r.held ≤ r.taken) (sym kept.1) counted,
        subst (λ (r : Reader). NoEnd r.held) (sym kept.1) none,
        subst (λ (r : Reader). length r.held ≤ r.max_line) (sym kept.1) (omega (arith, less)),
        ap (λ (r : Reader). r.ahead) kept.1 ∙ is,
      ))

  -- What is answered now, where the reader changes no more than the handing out of a line or want of memory changes.
  hands_of : (new : Reader) (result : Result Line LineFault) → new.max_line ≡ now.max_line → new.max_input ≡ now.max_input → new.taken ≡ now.taken → length new.held ≤ length now.held
      → (new.ahead ≡ now.ahead) ⊎ ((result ≡ Err Memory) × (new.ahead ≡ Failed Memory)) → Given result bytes new → (dropped ≡ [] → Repeats now.ahead now.held result) → Hands left_old left_now old new read result
  hands_of new result line limit taken fewer ahead given repeats =
      let within : new.taken ≤ old.max_input + 1 = omega (arith, after_within now.ahead now.max_input now.taken sound.after, taken, so.limit) in
      let after : IsAfter now.ahead old.max_input new.taken =
      subst (λ t. IsAfter now.ahead old.max_input t) (sym taken) (subst (λ m. IsAfter now.ahead m now.taken) so.limit sound.after) in
      record {
        takes = so.takes;
        line = line ∙ so.line;
        limit = limit ∙ so.limit;
        taken = taken ∙ so.taken;
        within = within;
        after = ⊎_elim (λ same. subst (λ a. IsAfter a old.max_input new.taken) (sym same) after) (λ starved. subst (λ a. IsAfter a old.max_input new.taken) (sym starved.1) within) ahead;
        most = omega (arith, fewer, sound.most, so.line);
        settled = λ known. let same = so.settled known in (same.0, ⊎_elim (λ kept. inl (kept ∙ ap (λ (r : Reader). r.ahead) same.2)) (λ starved. inr starved.0) ahead);
        ready = so.ready;
        ended = λ is over. ⊎_elim (λ same. so.ended is (sym same ∙ over)) (λ starved. let e = sym over ∙ starved.1 in cc) ahead;
        given = given;
        repeats = repeats_settled old.ahead old.held result (λ known. let same = so.settled known in subst (λ (r : Reader). Repeats r.ahead r.held result) same.2 (repeats same.1));
      }

  -- A line is taken off behind what was dropped of it.
  hands_cut : (new : Reader) (line rest : List ℕ) (result : Result Line LineFault) → now.ahead ≢ Failed Memory → Cuts (dropped ++ now.held) ((dropped ++ line) ∷ []) rest (is_over now.ahead)
      → length rest < length (dropped ++ now.held) → length rest ≤ length now.held → HandsOut (length dropped) line rest now new result → Hands left_old left_now old new read result
  hands_cut new line rest result fed cuts shorter fewer out =
      let whole = dropped ++ line in
      let cut : Cuts bytes (whole ∷ []) rest (is_over now.ahead) = subst (λ b. Cuts b (whole ∷ []) rest (is_over now.ahead)) (so.held fed) cuts in
      let less : length rest < length bytes = omega (arith, shorter, ap length (so.held fed)) in
      let some : dropped ≡ [] → lines now.held (is_over now.ahead) ≢ [] = λ nothing none.
      let all = cuts_all (dropped ++ now.held) rest (whole ∷ []) (is_over now.ahead) cuts in
      let held = subst (λ d. lines (d ++ now.held) (is_over now.ahead) ≡ whole ∷ [] ++ lines rest (is_over now.ahead)) nothing all in cc in
      by_result result cut less some out
    where
      same_line : (r : Reader) → r ≡ record now { held = rest } → (r.max_line ≡ now.max_line) × (r.max_input ≡ now.max_input) × (r.taken ≡ now.taken) × (length r.held ≤ length now.held) × (r.ahead ≡ now.ahead)
      same_line r is = (
        ap (λ (r : Reader). r.max_line) is,
        ap (λ (r : Reader). r.max_input) is,
        ap (λ (r : Reader). r.taken) is,
        omega (arith, fewer, ap (λ (r : Reader). length r.held) is),
        ap (λ (r : Reader). r.ahead) is,
      )

      by_result : (result : Result Line LineFault) → Cuts bytes ((dropped ++ line) ∷ []) rest (is_over now.ahead) → length rest < length bytes → (dropped ≡ [] → lines now.held (is_over now.ahead) ≢ [])
          → HandsOut (length dropped) line rest now new result → Hands left_old left_now old new read result
      by_result (Ok (Text text)) cut less some out =
          let nothing : dropped ≡ [] = ⊎_elim (λ e. e) (λ long. absurd (let short = out.1 in omega (arith, long, short, so.line))) so.long in
          let same = same_line new out.2 in
          let given : Given (Ok (Text line)) bytes (record now { held = rest }) =
          (subst (λ d. Cuts bytes ((d ++ line) ∷ []) rest (is_over now.ahead)) nothing cut, less, omega (arith, out.1)) in
          hands_of new (Ok (Text text)) same.0 same.1 same.2 same.3 (inl same.4)
          (subst (λ t. Given (Ok (Text t)) bytes new) (sym out.0) (subst (λ r. Given (Ok (Text line)) bytes r) (sym out.2) given))
          (λ none. repeats_line now.ahead now.held (Ok (Text text)) (some none))
      by_result (Ok (TooLong n)) cut less some out =
          let same = same_line new out.2 in
          let given : Given (Ok (TooLong n)) bytes (record now { held = rest }) =
          (dropped ++ line, cut, less, out.0 ∙ sym (length-append dropped line), out.1) in
          hands_of new (Ok (TooLong n)) same.0 same.1 same.2 same.3 (inl same.4)
          (subst (λ r. Given (Ok (TooLong n)) bytes r) (sym out.2) given)
          (λ none. repeats_line now.ahead now.held (Ok (TooLong n)) (some none))
      by_result (Ok End) cut less some out = absurd out
      by_result (Err fault) cut less some out =
          hands_of new (Err fault) (ap (λ (r : Reader). r.max_line) out.1) (ap (λ (r : Reader). r.max_input) out.1) (ap (λ (r : Reader). r.taken) out.1) (omega (arith, ap (λ (r : Reader). length r.held) out.1)) (inr (ap (λ f. Err f) out.0, ap (λ (r : Reader). r.ahead) out.1))
          (subst (λ f. Given (Err f) bytes new) (sym out.0) (ap (λ (r : Reader). r.ahead) out.1, ap (λ (r : Reader). r.held) out.1))
          (λ none. repeats_line now.ahead now.held (Err fault) (some none))

  -- A line with its end is held.
  pub hands_line : (new : Reader) (end : ℕ) (result : Result Line LineFault) → EndsAt now.held end → HandsOut (length dropped) (take end now.held) (drop (end + 1) now.held) now new result → Hands left_old left_now old new read result
  hands_line new end result at out =
      let line = take end now.held in
      let rest = drop (end + 1) now.held in
      let whole : (dropped ++ line) ++ 10 ∷ rest ≡ dropped ++ now.held = append_assoc dropped line (10 ∷ rest) ∙ ap (λ l. dropped ++ l) (sym at.cut) in
      hands_cut new line rest result (λ m. let none = sound.dropped m in omega (arith, at.within, ap length none))
      (subst (λ b. Cuts b ((dropped ++ line) ∷ []) rest (is_over now.ahead)) whole (cuts_line (dropped ++ line) rest (is_over now.ahead) (no_end-append dropped line so.none at.none)))
      (omega (arith, at.within, length-drop (end + 1) now.held, length-append dropped now.held)) (omega (arith, length-drop (end + 1) now.held)) out

  -- The input is over, and no line end is held.
  pub hands_last : (new : Reader) (result : Result Line LineFault) → now.ahead ≡ Over → NoEnd now.held → (length dropped + length now.held ≡ 0 → (result ≡ Ok End) × (new ≡ now))
      → (0 < length dropped + length now.held → HandsOut (length dropped) now.held [] now new result) → Hands left_old left_now old new read result
  hands_last new result over none nothing some =
      let fed : now.ahead ≢ Failed Memory = λ m. let e = sym over ∙ m in cc in
      let whole = dropped ++ now.held in
      ⊎_elim
      (λ empty.
      let end = nothing (omega (arith, ap length empty, length-append dropped now.held)) in
      let left : now.held ≡ [] = nothing_behind dropped now.held empty in
      let given : Given (Ok End) bytes now = (over, left ∙ sym empty ∙ so.held fed, ap (λ l. lines l true) (sym (so.held fed) ∙ empty) ∙ lines-nil true) in
      hands_of new result (ap (λ (r : Reader). r.max_line) end.1) (ap (λ (r : Reader). r.max_input) end.1) (ap (λ (r : Reader). r.taken) end.1) (omega (arith, ap (λ (r : Reader). length r.held) end.1)) (inl (ap (λ (r : Reader). r.ahead) end.1))
      (subst (λ r. Given r bytes new) (sym end.0) (subst (λ r. Given (Ok End) bytes r) (sym end.1) given))
      (λ _. subst (λ a. Repeats a now.held result) (sym over) (λ _. end.0)))
      (λ bytes_left.
      hands_cut new now.held [] result fed (subst (λ a. Cuts whole (whole ∷ []) [] (is_over a)) (sym over) (cuts_last whole (no_end-append dropped now.held so.none none) bytes_left)) bytes_left (omega arith)
      (some (omega (arith, bytes_left, length-append dropped now.held))))
      (none_or_some whole)

  given_fault : (fault : LineFault) → now.ahead ≡ Failed fault → NoEnd now.held → Given (Err fault) bytes now
  given_fault Memory is none = (is, sound.dropped is)
  given_fault Read is none = (is, lines_open now.held none, lines_open bytes (none_left left_old left_now old now read dropped so (λ m. let e = sym is ∙ m in cc) none))
  given_fault (InputLimit n) is none = (is, lines_open now.held none, lines_open bytes (none_left left_old left_now old now read dropped so (λ m. let e = sym is ∙ m in cc) none))

  -- A fault is known, and no line end is held.
  pub hands_fault : (fault : LineFault) → now.ahead ≡ Failed fault → NoEnd now.held → Hands left_old left_now old now read (Err fault)
  hands_fault fault is none = hands_of now (Err fault) refl refl refl (omega arith) (inl refl) (given_fault fault is none) (λ _. subst (λ a. Repeats a now.held (Err fault)) (sym is) (λ _. refl))

-- A read begins where no line is held whole.
in_need : (left_old left_now left_before : Option (List ℕ)) (old now : Reader) (read dropped : List ℕ) → SoFar left_old left_now old now read dropped → now.ahead ≡ Open → NoEnd now.held → left_before ≡ left_now → AsksInNeed left_old left_before old
in_need left_old left_now left_before old now read dropped so is_open none began = (
  read,
  subst (λ (l : Option (List ℕ)). Takes left_old l read) (sym began) so.takes,
  lines_open _ (subst NoEnd (so.held (λ failed. let e = sym is_open ∙ failed in cc)) (no_end-append dropped now.held so.none none)),
)

-- One read more, or none.
pub waits_more : {S : Type 0} (left before : S → Option (List ℕ)) (start mid new : S) (old now : Reader) (read dropped : List ℕ) → SoFar (left start) (left mid) old now read dropped → now.ahead ≡ Open → NoEnd now.held
    → (mid ≡ start) ⊎ AsksInNeed (left start) (before mid) old → (new ≡ mid) ⊎ (before new ≡ left mid) → (new ≡ start) ⊎ AsksInNeed (left start) (before new) old
waits_more left before start mid new old now read dropped so is_open none was (inl same) = subst (λ s. (s ≡ start) ⊎ AsksInNeed (left start) (before s) old) (sym same) was
waits_more left before start mid new old now read dropped so is_open none was (inr began) = inr (in_need (left start) (left mid) (before new) old now read dropped so is_open none began)
