-- Reading a journal record by record, whatever it reads as.
use Rattle.std.proofs.Common.{◌≡◌, inl, inr, ℕ, ◌+◌, Bool, true, List, [], ◌∷◌, ◌++◌, length, Option, Some, None, Result, Ok, Err, refl, sym, ap, subst, ◌∙◌, append_assoc, append-nil, take, arith}
use Rattle.std.specs.Prelude.{◌==◌}
use Rattle.std.proofs.lemmas.Bool.{true≢false, eq-eqb}
use Rattle.std.specs.List.{All}
use Rattle.std.specs.Option.{option_map_or}
use Rattle.std.proofs.lemmas.List.Elements.{recursion_from_All}
use Rattle.wse_element.proofs.ListLemmas.{last_or_push}
use Rattle.wse_element.specs.declared.effect.Effect.{Effect}
use Rattle.wse_element.specs.Applicable.{first_refused_of_kept}
use Rattle.wse_element.specs.Linked.{IsKeptLinked}
use Rattle.wse_codec.specs.declared.snapshot.Snapshot.{Snapshot}
use Rattle.wse_codec.specs.Reading.{read_effects, read_snapshot}
use Rattle.wse_log.specs.declared.step.Step.{Step}
use Rattle.wse_log.specs.declared.step.Step.TheVariants.{Entry, End}
use Rattle.wse_log.specs.declared.step.ScanFault.{ScanFault}
use Rattle.wse_log.specs.declared.step.ScanFault.TheVariants.{NotALog}
use Rattle.wse_log.specs.Grammar.{JournalRecord, IsSettled, settled_byte, AreInOrder, JournalEnd, ClosedAt, BrokenAt, Reads, front}
use Rattle.wse_log.specs.Writing.{next_gate}
use Rattle.wse_log.specs.Scan.{answer_behind}
use Rattle.wse_log.proofs.Fronts.{front-nil, length-front-push}
use Rattle.wse_txn.specs.Replay.{Replayed, Given, Leaves, NoStoreAt, replayed, kept_in, begun_with, GivesNext, GivesBehind, GivesFirst, Gives}
use Rattle.wse_codec.specs.Spelling.{record_bytes}
use Rattle.wse_element.specs.State.{stacks_of}
use Rattle.wse_recover.specs.declared.unsettled.Unsettled.{Unsettled}
use Rattle.wse_recover.specs.Unsettled.{IsKeptOf, IsLast}
use Rattle.wse_recover.specs.Replaying.{IsReplayed}

-- the answer of a scan, taken apart
step_body : List ℕ → Step → List ℕ
step_body none (Entry body gate settled next) = body
step_body none (End gate) = none

step_gate : Step → ℕ
step_gate (Entry body gate settled next) = gate
step_gate (End gate) = gate

step_settled : Step → Bool
step_settled (Entry body gate settled next) = settled
step_settled (End gate) = true

step_next : Step → ℕ
step_next (Entry body gate settled next) = next
step_next (End gate) = gate

answer_step : Step → Result Step ScanFault → Step
answer_step none (Ok step) = step
answer_step none (Err e) = none

-- the records that are left begin with the one that was scanned
pub record Scanned (before more : List JournalRecord) (body : List ℕ) (gate : ℕ) (settled : Bool) (next : ℕ) : Type 0 where
  pub one : JournalRecord
  pub others : List JournalRecord
  pub is : more ≡ one ∷ others
  pub body_is : one.body ≡ body
  pub gate_is : gate ≡ length (front before)
  pub next_is : next ≡ next_gate gate body
  pub mark_is : settled ≡ (one.mark == settled_byte)

scanned : (before more : List JournalRecord) (ending : JournalEnd) (body : List ℕ) (gate : ℕ) (settled : Bool) (next : ℕ) → Ok (Entry body gate settled next) ≡ answer_behind before more ending → Scanned before more body gate settled next
unfolding step_body step_gate step_settled step_next answer_step
scanned before [] (ClosedAt g) body gate settled next e = cc
scanned before [] (BrokenAt place) body gate settled next e = cc
scanned before (r ∷ others) ending body gate settled next e =
    let none : Step = Entry body gate settled next in
    let gate_is : gate ≡ length (front before) = ap (λ a. step_gate (answer_step none a)) e in
    let body_is : body ≡ r.body = ap (λ a. step_body [] (answer_step none a)) e in
    let end : next ≡ length (front before) + 6 + length r.body = ap (λ a. step_next (answer_step none a)) e in
    record {
      one = r;
      others = others;
      is = refl;
      body_is = sym body_is;
      gate_is = gate_is;
      next_is = omega (arith, end, gate_is, ap length body_is);
      mark_is = ap (λ a. step_settled (answer_step none a)) e;
    }

-- ---- the first record

-- the first record of an area is settled
order_of : (area : List ℕ) (records : List JournalRecord) (ending : JournalEnd) → Reads area records ending → AreInOrder records
order_of area records (ClosedAt gate) reads = reads.order
order_of area records (BrokenAt place) reads = reads.0

first_settled : (area : List ℕ) (records : List JournalRecord) (ending : JournalEnd) (one : JournalRecord) (others : List JournalRecord) → Reads area records ending → records ≡ one ∷ others → one.mark ≡ settled_byte
first_settled area records ending one others reads is =
    (recursion_from_All IsSettled (one ∷ []) (subst (λ (rs : List JournalRecord). All IsSettled (take 1 rs)) is (order_of area records ending reads).first)).0

pub first_replayed : (area : List ℕ) (records : List JournalRecord) (ending : JournalEnd) (body : List ℕ) (gate : ℕ) (settled : Bool) (next : ℕ) (s : Snapshot) → Reads area records ending → Ok (Entry body gate settled next) ≡ answer_behind [] records ending → read_snapshot body ≡ Ok s → IsKeptLinked (kept_in s) → IsReplayed records ending next (begun_with s) None
first_replayed area records ending body gate settled next s reads e read linked =
    let found = scanned [] records ending body gate settled next e in
    let eight : gate ≡ 8 = found.gate_is ∙ ap length front-nil in
    let place : next ≡ next_gate 8 found.one.body = found.next_is ∙ ap (λ n. next_gate n body) eight ∙ ap (next_gate 8) (sym found.body_is) in
    record {
      before = found.one ∷ [];
      more = found.others;
      some = λ k. cc;
      all = found.is;
      gate = omega (arith, found.next_is, found.gate_is, ap length found.body_is, length-front-push [] found.one);
      goes = λ given h.
          subst (λ (rs : List JournalRecord). Gives rs ending given) (sym found.is)
          (subst (λ (o : Result Snapshot ℕ). GivesFirst o (λ left. GivesBehind left (next_gate 8 found.one.body) found.others ending given) given)
          (sym (ap read_snapshot found.body_is ∙ read))
          (inl (linked, subst (λ (n : ℕ). GivesBehind (begun_with s) n found.others ending given) place h)));
      ends = ap (λ m. m == settled_byte) (first_settled area records ending found.one found.others reads found.is);
    }

-- The first record can't be read, or its state isn't linked.
module _ (records : List JournalRecord) (ending : JournalEnd) (body : List ℕ) (gate : ℕ) (settled : Bool) (next : ℕ) (e : Ok (Entry body gate settled next) ≡ answer_behind [] records ending) where
  eight : gate ≡ 8
  eight = (scanned [] records ending body gate settled next e).gate_is ∙ ap length front-nil

  by_first : (given : Given) → GivesFirst (read_snapshot body) (λ left. GivesBehind left (next_gate 8 body) (scanned [] records ending body gate settled next e).others ending given) given → Gives records ending given
  by_first given h =
      let f = scanned [] records ending body gate settled next e in
      subst (λ (rs : List JournalRecord). Gives rs ending given) (sym f.is)
      (subst (λ (b : List ℕ). GivesFirst (read_snapshot b) (λ left. GivesBehind left (next_gate 8 b) f.others ending given) given) (sym f.body_is) h)

  pub first_unreadable : (at : ℕ) → read_snapshot body ≡ Err at → Gives records ending (NoStoreAt (gate + 5 + at))
  first_unreadable at read =
      let given = NoStoreAt (gate + 5 + at) in
      by_first given
      (subst (λ (o : Result Snapshot ℕ). GivesFirst o (λ left. GivesBehind left (next_gate 8 body) (scanned [] records ending body gate settled next e).others ending given) given) (sym read)
      (ap NoStoreAt (omega (arith, eight))))

  pub first_unlinked : (s : Snapshot) → read_snapshot body ≡ Ok s → (IsKeptLinked (kept_in s) → ⊥) → Gives records ending (NoStoreAt gate)
  first_unlinked s read unlinked =
      let given = NoStoreAt gate in
      by_first given
      (subst (λ (o : Result Snapshot ℕ). GivesFirst o (λ left. GivesBehind left (next_gate 8 body) (scanned [] records ending body gate settled next e).others ending given) given) (sym read)
      (inr (unlinked, ap NoStoreAt eight)))

-- The area is no journal from the start on. (It doesn't end there.)
pub first_broken : (records : List JournalRecord) (ending : JournalEnd) (at : ℕ) → Err (NotALog at) ≡ answer_behind [] records ending → Gives records ending (NoStoreAt at)
first_broken [] (ClosedAt g) at e = cc
first_broken [] (BrokenAt p) at e = let same : at ≡ p = cc in ap NoStoreAt same
first_broken (r ∷ rest) ending at e = cc

pub first_ended : (area : List ℕ) (records : List JournalRecord) (ending : JournalEnd) (gate : ℕ) → Reads area records ending → Ok (End gate) ≡ answer_behind [] records ending → ⊥
first_ended area [] (ClosedAt g) gate reads e = reads.ends.some refl
first_ended area [] (BrokenAt p) gate reads e = cc
first_ended area (r ∷ rest) ending gate reads e = cc

-- ---- one record more

module _ (records : List JournalRecord) (ending : JournalEnd) (place : ℕ) (left : Replayed) (last : Option Unsettled) (is : IsReplayed records ending place left last) where
  module _ (body : List ℕ) (gate : ℕ) (settled : Bool) (next : ℕ) (e : Ok (Entry body gate settled next) ≡ answer_behind is.before is.more ending) where
    same_gate : gate ≡ place
    same_gate = (scanned is.before is.more ending body gate settled next e).gate_is ∙ sym is.gate

    -- what the next record gives, all give
    by_next : (given : Given) → GivesNext left.kept place (read_effects body) (λ n. GivesBehind n (next_gate place body) (scanned is.before is.more ending body gate settled next e).others ending given) given → Gives records ending given
    by_next given h =
        let f = scanned is.before is.more ending body gate settled next e in
        is.goes given
        (subst (λ (rs : List JournalRecord). GivesBehind left place rs ending given) (sym f.is)
        (subst (λ (b : List ℕ). GivesNext left.kept place (read_effects b) (λ n. GivesBehind n (next_gate place b) f.others ending given) given) (sym f.body_is) h))

    -- the record behind the others, settled or not
    last_now : (es : List Effect) (kept : Option Unsettled) → body ≡ record_bytes es → IsKeptOf settled (stacks_of left.kept) es kept
        → IsLast (is.before ++ (scanned is.before is.more ending body gate settled next e).one ∷ []) (replayed left.kept es) kept
    last_now es None spelled k =
        let f = scanned is.before is.more ending body gate settled next e in
        ap (λ o. option_map_or (λ (r : JournalRecord). r.mark == settled_byte) o true) (last_or_push None is.before f.one) ∙ sym f.mark_is ∙ k
    last_now es (Some kept) spelled k =
        let f = scanned is.before is.more ending body gate settled next e in
        let mark = sym f.mark_is ∙ k.0 in (
          ap (λ o. option_map_or (λ (r : JournalRecord). r.mark == settled_byte) o true) (last_or_push None is.before f.one) ∙ mark,
          record {
            before = is.before;
            mark = f.one.mark;
            some = is.some;
            unsettled = λ same. true≢false (sym (eq-eqb f.one.mark settled_byte same) ∙ mark);
            all = ap (λ (b : List ℕ). is.before ++ record { body = b; mark = f.one.mark } ∷ []) (f.body_is ∙ spelled ∙ ap record_bytes (sym k.1.effects_are));
            sets_are = k.1.sets_are;
          },
        )

    pub more_replayed : (es : List Effect) (kept : Option Unsettled) → read_effects body ≡ Ok es → body ≡ record_bytes es → first_refused_of_kept left.kept es ≡ None → IsKeptOf settled (stacks_of left.kept) es kept
        → IsReplayed records ending next (replayed left.kept es) kept
    more_replayed es kept read spelled may k =
        let f = scanned is.before is.more ending body gate settled next e in
        let there : next ≡ next_gate place body = f.next_is ∙ ap (λ n. next_gate n body) same_gate in
        record {
          before = is.before ++ f.one ∷ [];
          more = f.others;
          some = λ k. no_end is.before f.one k;
          all = is.all ∙ ap (λ (rs : List JournalRecord). is.before ++ rs) f.is ∙ sym (append_assoc is.before (f.one ∷ []) f.others);
          gate = omega (arith, f.next_is, f.gate_is, ap length f.body_is, length-front-push is.before f.one);
          goes = λ given h.
              by_next given
              (subst (λ (o : Result (List Effect) ℕ). GivesNext left.kept place o (λ n. GivesBehind n (next_gate place body) f.others ending given) given) (sym read)
              (inl (may, subst (λ (n : ℕ). GivesBehind (replayed left.kept es) n f.others ending given) there h)));
          ends = last_now es kept spelled k;
        }
      where
        no_end : (rs : List JournalRecord) (r : JournalRecord) → rs ++ r ∷ [] ≡ [] → ⊥
        no_end [] r k = cc
        no_end (x ∷ rs) r k = cc

    -- The record can't be read, or its effects can't come.
    pub unreadable : (at : ℕ) → read_effects body ≡ Err at → Gives records ending (NoStoreAt (gate + 5 + at))
    unreadable at read =
        subst (λ (n : ℕ). Gives records ending (NoStoreAt (n + 5 + at))) (sym same_gate)
        (by_next (NoStoreAt (place + 5 + at))
        (subst (λ (o : Result (List Effect) ℕ). GivesNext left.kept place o (λ n. GivesBehind n (next_gate place body) (scanned is.before is.more ending body gate settled next e).others ending (NoStoreAt (place + 5 + at))) (NoStoreAt (place + 5 + at))) (sym read) refl))

    pub refused : (es : List Effect) → read_effects body ≡ Ok es → (first_refused_of_kept left.kept es ≡ None → ⊥) → Gives records ending (NoStoreAt gate)
    refused es read may =
        subst (λ (n : ℕ). Gives records ending (NoStoreAt n)) (sym same_gate)
        (by_next (NoStoreAt place)
        (subst (λ (o : Result (List Effect) ℕ). GivesNext left.kept place o (λ n. GivesBehind n (next_gate place body) (scanned is.before is.more ending body gate settled next e).others ending (NoStoreAt place)) (NoStoreAt place)) (sym read) (inr (may, refl))))

  -- The journal ends, or it is none from here on.
  pub ended : (gate : ℕ) → Ok (End gate) ≡ answer_behind is.before is.more ending → record { closed : ending ≡ ClosedAt gate; gives : Gives records ending (Leaves left); last_is : IsLast records left last }
  ended gate e =
      let found = ends is.more ending e is.goes in
      record {
        closed = found.closed;
        gives = found.gives;
        last_is = subst (λ (rs : List JournalRecord). IsLast rs left last) (sym (is.all ∙ ap (λ (rs : List JournalRecord). is.before ++ rs) found.none ∙ append-nil is.before)) is.ends;
      }
    where
      ends : (more : List JournalRecord) (end : JournalEnd) → Ok (End gate) ≡ answer_behind is.before more end → ((given : Given) → GivesBehind left place more end given → Gives records end given) → record { closed : end ≡ ClosedAt gate; gives : Gives records end (Leaves left); none : more ≡ [] }
      ends [] (ClosedAt g) k goes = record { closed = let same : gate ≡ g = cc in ap ClosedAt (sym same); gives = goes (Leaves left) refl; none = refl }
      ends [] (BrokenAt p) k goes = cc
      ends (r ∷ rest) end k goes = cc

  pub broken : (at : ℕ) → Err (NotALog at) ≡ answer_behind is.before is.more ending → Gives records ending (NoStoreAt at)
  broken at e = breaks is.more ending e is.goes
    where
      breaks : (more : List JournalRecord) (end : JournalEnd) → Err (NotALog at) ≡ answer_behind is.before more end → ((given : Given) → GivesBehind left place more end given → Gives records end given) → Gives records end (NoStoreAt at)
      breaks [] (ClosedAt g) k goes = cc
      breaks [] (BrokenAt p) k goes = let same : at ≡ p = cc in goes (NoStoreAt at) (ap NoStoreAt same)
      breaks (r ∷ rest) end k goes = cc
