-- What an image of an area is while a record is written, in which some places differ from the area.
use Rattle.std.proofs.Common.{◌≡◌, ◌≢◌, ◌⊎◌, inl, inr, ℕ, ◌+◌, ◌-◌, ◌^◌, ◌<◌, ◌≤◌, List, [], ◌∷◌, ◌++◌, length, get_or, take, drop, sym, ◌∙◌, ap, subst, arith, append_assoc, length-append}
use Rattle.std.specs.List.{All}
use Rattle.std.proofs.lemmas.Bool.{cases_eq}
use Rattle.std.proofs.lemmas.List.{take_at, drop_at, drop_more, length_push}
use Rattle.std.proofs.lemmas.List.Prefix.{front_from_reads, front_reads, at_from_reads, at_reads}
use Rattle.wse_disk.specs.Reading.{patched}
use Rattle.wse_log.specs.Grammar.{JournalRecord, IsSettled, HasShortBody, open_gate, settled_byte, framed, behind_gate, front, IsJournal}
use Rattle.wse_log.specs.Writing.{unsettled, settled, staging, next_gate}
use Rattle.wse_log.proofs.Fronts.{front-push, length-front-push}
use Rattle.wse_log.proofs.Order.{order-push, settled_before, short_front, short_last}

push_some : (records : List JournalRecord) (r : JournalRecord) → records ++ r ∷ [] ≢ []
push_some records r none = omega (arith, ap length none, length_push records r)

-- An open gate, and behind it what was written there, is one record more and a closed gate.
opened : (records : List JournalRecord) (body rest : List ℕ) → front records ++ open_gate ∷ (staging body ++ rest) ≡ front (records ++ unsettled body ∷ []) ++ 0 ∷ rest
opened records body rest =
    let r = unsettled body in
    ap (λ (l : List ℕ). front records ++ open_gate ∷ l) (append_assoc (behind_gate r) (0 ∷ []) rest)
    ∙ sym (append_assoc (front records) (framed r) (0 ∷ rest))
    ∙ ap (λ (l : List ℕ). l ++ 0 ∷ rest) (sym (front-push records r))

pub length_staging : (body : List ℕ) → length (staging body) ≡ length body + 6
length_staging body = omega (arith, length-append (behind_gate (unsettled body)) (0 ∷ []), length-append body (0 ∷ []))

module _ (area : List ℕ) (records : List JournalRecord) (gate : ℕ) (is : IsJournal area records gate) where
  shut : List ℕ
  shut = front records ++ is.ends.byte ∷ []

  upto : area ≡ shut ++ is.ends.rest
  unfolding shut
  upto = is.ends.spelled ∙ sym (append_assoc (front records) (is.ends.byte ∷ []) is.ends.rest)

  length_shut : length shut ≡ gate + 1
  unfolding shut
  length_shut = omega (arith, is.ends.place, length_push (front records) is.ends.byte)

  pub gate_within : gate + 1 ≤ length area
  gate_within = omega (arith, ap length upto, length_shut, length-append shut is.ends.rest)

  -- What stands behind the closed gate means nothing.
  pub tail_means_nothing : (image : List ℕ) → length area ≤ length image → ((i : ℕ) → i < gate + 1 → get_or image i 0 ≡ get_or area i 0) → IsJournal image records gate
  unfolding shut
  tail_means_nothing image longer same =
      let reads : (i : ℕ) → i < length shut → get_or image i 0 ≡ get_or shut i 0 = λ i lt. same i (omega (arith, lt, length_shut)) ∙ front_reads 0 area shut is.ends.rest upto i lt in
      let whole : image ≡ shut ++ drop (length shut) image = front_from_reads 0 image shut (omega (arith, gate_within, length_shut, longer)) reads in
      record {
        order = is.order;
        ends = record {
          some = is.ends.some;
          byte = is.ends.byte;
          rest = drop (length shut) image;
          closed = is.ends.closed;
          spelled = whole ∙ append_assoc (front records) (is.ends.byte ∷ []) (drop (length shut) image);
          place = is.ends.place;
        };
      }

  module _ (body : List ℕ) where
    -- The area once the record is written behind the closed gate.
    abbrev pub staged : List ℕ
    staged = patched (gate + 1) (staging body) area

    behind : List ℕ
    behind = drop (gate + 1 + length (staging body)) area

    staged_is : staged ≡ front records ++ is.ends.byte ∷ (staging body ++ behind)
    unfolding shut behind
    staged_is =
        let fore : take (gate + 1) area ≡ shut = ap (take (gate + 1)) upto ∙ take_at shut is.ends.rest (gate + 1) length_shut in
        ap (λ (l : List ℕ). l ++ staging body ++ behind) fore
        ∙ append_assoc shut (staging body) behind
        ∙ append_assoc (front records) (is.ends.byte ∷ []) (staging body ++ behind)

    pub staged_journal : IsJournal staged records gate
    staged_journal = record {
      order = is.order;
      ends = record {
        some = is.ends.some;
        byte = is.ends.byte;
        rest = staging body ++ behind;
        closed = is.ends.closed;
        spelled = staged_is;
        place = is.ends.place;
      };
    }

    length_staged : length staged ≡ gate + 1 + length (staging body) + length behind
    length_staged = omega (arith, is.ends.place, ap length staged_is, length-append (front records) (is.ends.byte ∷ (staging body ++ behind)), length-append (staging body) behind)

    pub gate_within_staged : gate + 1 ≤ length staged
    gate_within_staged = omega (arith, length_staged)

    staged_behind : drop (gate + 1) staged ≡ staging body ++ behind
    staged_behind =
        ap (drop (gate + 1)) (staged_is ∙ sym (append_assoc (front records) (is.ends.byte ∷ []) (staging body ++ behind)))
        ∙ drop_at (front records ++ is.ends.byte ∷ []) (staging body ++ behind) (gate + 1) (omega (arith, is.ends.place, length_push (front records) is.ends.byte))

    module _ (all : All IsSettled records) (short : length body < 2 ^ 32) where
      longer_journal : (image more : List ℕ) → image ≡ front records ++ open_gate ∷ (staging body ++ more) → IsJournal image (records ++ unsettled body ∷ []) (next_gate gate body)
      longer_journal image more whole = record {
        order = order-push records (unsettled body) is.order.short all short (λ none. absurd (is.ends.some none));
        ends = record {
          some = push_some records (unsettled body);
          byte = 0;
          rest = more;
          closed = λ e. omega arith;
          spelled = whole ∙ opened records body more;
          place = omega (arith, is.ends.place, length-front-push records (unsettled body));
        };
      }

      -- While the gate is opened, the journal is the old one, or has the record unsettled.
      pub opening_image : (image : List ℕ) → length staged ≤ length image → ((i : ℕ) → i < length staged → (i < gate) ⊎ (gate + 1 ≤ i) → get_or image i 0 ≡ get_or staged i 0) → IsJournal image records gate ⊎ IsJournal image (records ++ unsettled body ∷ []) (next_gate gate body)
      opening_image image longer same =
          let in_front : (i : ℕ) → i < length (front records) → get_or image i 0 ≡ get_or (front records) i 0 =
          λ i lt. same i (omega (arith, lt, is.ends.place, length_staged)) (inl (omega (arith, lt, is.ends.place))) ∙ front_reads 0 staged (front records) (is.ends.byte ∷ (staging body ++ behind)) staged_is i lt in
          let fore : image ≡ front records ++ drop (length (front records)) image = front_from_reads 0 image (front records) (omega (arith, is.ends.place, length_staged, longer)) in_front in
          let at_gate : drop (length (front records)) image ≡ drop gate image = ap (λ (n : ℕ). drop n image) (sym is.ends.place) in
          let byte = get_or image gate 0 in
          let next : drop gate image ≡ byte ∷ drop (gate + 1) image = drop_more image gate 0 (omega (arith, length_staged, longer)) in
          let at_body : (i : ℕ) → i < length (staging body) → get_or image (gate + 1 + i) 0 ≡ get_or (staging body) i 0 =
          λ i lt. same (gate + 1 + i) (omega (arith, lt, length_staged)) (inr (omega arith)) ∙ at_reads 0 staged (staging body) (gate + 1) behind staged_behind i lt in
          let more = drop (gate + 1 + length (staging body)) image in
          let body_stands : drop (gate + 1) image ≡ staging body ++ more = at_from_reads 0 image (staging body) (gate + 1) (omega (arith, length_staged, longer)) at_body in
          let whole : image ≡ front records ++ byte ∷ (staging body ++ more) =
          fore ∙ ap (λ (l : List ℕ). front records ++ l) (at_gate ∙ next ∙ ap (λ (l : List ℕ). byte ∷ l) body_stands) in
          elim (cases_eq byte 165) [
            | inl is_open ↦ inr (longer_journal image more (whole ∙ ap (λ (b : ℕ). front records ++ b ∷ (staging body ++ more)) is_open))
            | inr closed ↦ inl (record {
              order = is.order;
              ends = record {
                some = is.ends.some;
                byte = byte;
                rest = staging body ++ more;
                closed = closed;
                spelled = whole;
                place = is.ends.place;
              };
            })
          ]

      -- Once the gate is open, the journal has the record, unsettled.
      pub sealed_journal : IsJournal (patched gate (open_gate ∷ []) staged) (records ++ unsettled body ∷ []) (next_gate gate body)
      sealed_journal =
          let tail = staging body ++ behind in
          let fore : take gate staged ≡ front records = ap (take gate) staged_is ∙ take_at (front records) (is.ends.byte ∷ tail) gate (sym is.ends.place) in
          longer_journal (patched gate (open_gate ∷ []) staged) behind
          (ap (λ (l : List ℕ). l ++ open_gate ∷ [] ++ drop (gate + 1) staged) fore
          ∙ ap (λ (l : List ℕ). front records ++ open_gate ∷ [] ++ l) staged_behind
          ∙ append_assoc (front records) (open_gate ∷ []) tail)

-- The mark of the last record.
module _ (area : List ℕ) (others : List JournalRecord) (r : JournalRecord) (gate : ℕ) (is : IsJournal area (others ++ r ∷ []) gate) (some : others ≢ []) where
  upto_mark : List ℕ
  upto_mark = front others ++ (open_gate ∷ take 4 (behind_gate r) ++ r.body)

  abbrev marked : ℕ → JournalRecord
  marked mark = record { body = r.body; mark = mark }

  with_mark : (mark : ℕ) → front (others ++ marked mark ∷ []) ≡ upto_mark ++ mark ∷ []
  unfolding upto_mark
  with_mark mark = front-push others (marked mark) ∙ sym (append_assoc (front others) (open_gate ∷ take 4 (behind_gate r) ++ r.body) (mark ∷ []))

  length_upto : gate ≡ length upto_mark + 1
  length_upto = omega (arith, is.ends.place, ap length (with_mark r.mark), length_push upto_mark r.mark)

  area_is : area ≡ upto_mark ++ r.mark ∷ (is.ends.byte ∷ is.ends.rest)
  area_is = is.ends.spelled ∙ ap (λ (l : List ℕ). l ++ is.ends.byte ∷ is.ends.rest) (with_mark r.mark) ∙ append_assoc upto_mark (r.mark ∷ []) (is.ends.byte ∷ is.ends.rest)

  -- The journal with another mark on its last record.
  marked_journal : (image : List ℕ) (mark : ℕ) (rest : List ℕ) → image ≡ upto_mark ++ mark ∷ (is.ends.byte ∷ rest) → IsJournal image (others ++ marked mark ∷ []) gate
  marked_journal image mark rest whole = record {
    order = order-push others (marked mark) others_short (settled_before others r is.order) r_short (λ none. absurd (some none));
    ends = record {
      some = push_some others (marked mark);
      byte = is.ends.byte;
      rest = rest;
      closed = is.ends.closed;
      spelled = whole ∙ sym (append_assoc upto_mark (mark ∷ []) (is.ends.byte ∷ rest)) ∙ ap (λ (l : List ℕ). l ++ is.ends.byte ∷ rest) (sym (with_mark mark));
      place = omega (arith, length_upto, ap length (with_mark mark), length_push upto_mark mark);
    };
  }
    where
      others_short : All HasShortBody others
      others_short = short_front others r is.order.short

      r_short : HasShortBody r
      r_short = short_last others r is.order.short

  -- While the mark is written, the journal is the same but for the last record's mark.
  pub settling_image : (image : List ℕ) → length area ≤ length image → ((i : ℕ) → i < length area → (i < gate - 1) ⊎ (gate ≤ i) → get_or image i 0 ≡ get_or area i 0) → IsJournal image (others ++ marked (get_or image (gate - 1) 0) ∷ []) gate
  settling_image image longer same =
      let n = length upto_mark in
      let long : length area ≡ n + 2 + length is.ends.rest = omega (arith, ap length area_is, length-append upto_mark (r.mark ∷ (is.ends.byte ∷ is.ends.rest))) in
      let in_front : (i : ℕ) → i < n → get_or image i 0 ≡ get_or upto_mark i 0 =
      λ i lt. same i (omega (arith, lt, long)) (inl (omega (arith, lt, length_upto))) ∙ front_reads 0 area upto_mark (r.mark ∷ (is.ends.byte ∷ is.ends.rest)) area_is i lt in
      let fore : image ≡ upto_mark ++ drop n image = front_from_reads 0 image upto_mark (omega (arith, long, longer)) in_front in
      let next : drop n image ≡ get_or image n 0 ∷ drop (n + 1) image = drop_more image n 0 (omega (arith, long, longer)) in
      let behind_mark : drop (n + 1) area ≡ (is.ends.byte ∷ []) ++ is.ends.rest =
      ap (drop (n + 1)) (area_is ∙ sym (append_assoc upto_mark (r.mark ∷ []) (is.ends.byte ∷ is.ends.rest))) ∙ drop_at (upto_mark ++ r.mark ∷ []) (is.ends.byte ∷ is.ends.rest) (n + 1) (length_push upto_mark r.mark) in
      let at_gate : (i : ℕ) → i < 1 → get_or image (n + 1 + i) 0 ≡ get_or (is.ends.byte ∷ []) i 0 =
      λ i lt. same (n + 1 + i) (omega (arith, lt, long)) (inr (omega (arith, length_upto))) ∙ at_reads 0 area (is.ends.byte ∷ []) (n + 1) is.ends.rest behind_mark i lt in
      let more = drop (n + 1 + 1) image in
      let gate_stands : drop (n + 1) image ≡ (is.ends.byte ∷ []) ++ more = at_from_reads 0 image (is.ends.byte ∷ []) (n + 1) (omega (arith, long, longer)) at_gate in
      let whole : image ≡ upto_mark ++ get_or image n 0 ∷ (is.ends.byte ∷ more) = fore ∙ ap (λ (l : List ℕ). upto_mark ++ l) (next ∙ ap (λ (l : List ℕ). get_or image n 0 ∷ l) gate_stands) in
      let place : n ≡ gate - 1 = omega (arith, length_upto) in
      subst (λ (k : ℕ). IsJournal image (others ++ marked (get_or image k 0) ∷ []) gate) place (marked_journal image (get_or image n 0) more whole)

  -- Once the mark is written, the last record is settled.
  pub settled_journal : IsJournal (patched (gate - 1) (settled_byte ∷ []) area) (others ++ settled r.body ∷ []) gate
  settled_journal =
      let n = length upto_mark in
      let fore : take (gate - 1) area ≡ upto_mark = ap (take (gate - 1)) area_is ∙ take_at upto_mark (r.mark ∷ (is.ends.byte ∷ is.ends.rest)) (gate - 1) (omega (arith, length_upto)) in
      let tail : drop (gate - 1 + 1) area ≡ is.ends.byte ∷ is.ends.rest =
      ap (drop (gate - 1 + 1)) (area_is ∙ sym (append_assoc upto_mark (r.mark ∷ []) (is.ends.byte ∷ is.ends.rest))) ∙ drop_at (upto_mark ++ r.mark ∷ []) (is.ends.byte ∷ is.ends.rest) (gate - 1 + 1) (omega (arith, length_upto, length_push upto_mark r.mark)) in
      marked_journal (patched (gate - 1) (settled_byte ∷ []) area) settled_byte is.ends.rest
      (ap (λ (l : List ℕ). l ++ settled_byte ∷ [] ++ drop (gate - 1 + 1) area) fore
      ∙ ap (λ (l : List ℕ). upto_mark ++ settled_byte ∷ [] ++ l) tail
      ∙ append_assoc upto_mark (settled_byte ∷ []) (is.ends.byte ∷ is.ends.rest))
