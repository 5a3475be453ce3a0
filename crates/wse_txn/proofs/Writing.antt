-- What a crash leaves of a journal, and what is read, while one record is written.
use Rattle.std.proofs.Common.{◌≡◌, inl, inr, ⊎_elim, ℕ, ◌+◌, ◌-◌, ◌^◌, ◌<◌, List, [], ◌∷◌, ◌++◌, length, get_or, refl, sym, ◌∙◌, ap, subst, arith}
use Rattle.std.specs.List.{All}
use Rattle.wse_disk.specs.declared.area.Area.{Area}
use Rattle.wse_disk.specs.Reading.{Reading, area_of, patched, applied}
use Rattle.wse_disk.specs.Reading.Write.{Patches}
use Rattle.wse_disk.specs.Image.{IsTorn}
use Rattle.wse_disk.proofs.AreaLemmas.{area_itself, area_other, files_stay}
use Rattle.wse_log.specs.Grammar.{JournalRecord, IsSettled, open_gate, settled_byte, IsJournal}
use Rattle.wse_log.specs.Writing.{unsettled, settled, staging, next_gate}
use Rattle.wse_log.proofs.Fronts.{length-front-le}
use Rattle.wse_log.proofs.Order.{settled_to_the_end, all_settled, all_end_settled}
use Rattle.wse_log.proofs.Images.{gate_within, tail_means_nothing, opening_image, sealed_journal, settling_image, settled_journal}
use Rattle.wse_txn.specs.Journal.{IsSettledJournal, IsUnsettledJournal}
use Rattle.wse_txn.specs.Images.{DiffersInArea, IsSealing, IsSealed, IsClosing, IsClosed}

-- A write into the area leaves the rest.
patched_only : (area : Area) (place : ℕ) (bytes : List ℕ) (old new : Reading) → new ≡ applied (Patches area place bytes) old → DiffersInArea area old new
patched_only area place bytes old new is = record {
  files = ap (λ (r : Reading). r.files) is ∙ files_stay area (patched place bytes (area_of area old)) old;
  others = λ b other. ap (area_of b) is ∙ area_other area b (patched place bytes (area_of area old)) old other;
}

-- What the area has then.
pub patched_area : (area : Area) (place : ℕ) (bytes : List ℕ) (old new : Reading) → new ≡ applied (Patches area place bytes) old → area_of area new ≡ patched place bytes (area_of area old)
patched_area area place bytes old new is = ap (area_of area) is ∙ area_itself area (patched place bytes (area_of area old)) old

only_then : (area : Area) (old mid new : Reading) → DiffersInArea area old mid → DiffersInArea area mid new → DiffersInArea area old new
only_then area old mid new first next = record {
  files = next.files ∙ first.files;
  others = λ b other. next.others b other ∙ first.others b other;
}

torn_only : (area : Area) (place count : ℕ) (old image : Reading) → IsTorn area place count old image → DiffersInArea area old image
torn_only area place count old image torn = record { files = torn.files; others = torn.others }

module _ (area : Area) (records : List JournalRecord) (gate : ℕ) (body : List ℕ) (old : Reading) (is : IsSettledJournal (area_of area old) records gate) where
  all : All IsSettled records
  all = settled_to_the_end records is.journal.order is.settled

  pub first_image : (count : ℕ) (image : Reading) → IsTorn area (gate + 1) count old image → IsSealing area records gate body old image
  first_image count image torn = record {
    only = torn_only area (gate + 1) count old image torn;
    journal = inl (record {
      journal = tail_means_nothing (area_of area old) records gate is.journal (area_of area image) torn.no_shorter
          (λ i lt. torn.kept i (omega (arith, lt, gate_within (area_of area old) records gate is.journal)) (inl lt));
      settled = is.settled;
    });
  }

  module _ (short : length body < 2 ^ 32) (mid : Reading) (is_mid : mid ≡ applied (Patches area (gate + 1) (staging body)) old) where
    abbrev pub written_bytes : List ℕ
    written_bytes = patched (gate + 1) (staging body) (area_of area old)

    in_mid : area_of area mid ≡ written_bytes
    in_mid = patched_area area (gate + 1) (staging body) old mid is_mid

    only_mid : DiffersInArea area old mid
    only_mid = patched_only area (gate + 1) (staging body) old mid is_mid

    pub second_image : (image : Reading) → IsTorn area gate 1 mid image → IsSealing area records gate body old image
    second_image image torn = record {
      only = only_then area old mid image only_mid (torn_only area gate 1 mid image torn);
      journal = ⊎_elim
          (λ journal. inl (record { journal = journal; settled = is.settled }))
          (λ journal. inr (record { some = is.journal.ends.some; mark = 0; unsettled = λ e. omega (arith, e); journal = journal }))
          (opening_image (area_of area old) records gate is.journal body all short (area_of area image)
          (omega (arith, ap length in_mid, torn.no_shorter))
          (λ i lt out. torn.kept i (omega (arith, lt, ap length in_mid)) out ∙ ap (λ (l : List ℕ). get_or l i 0) in_mid));
    }

    pub record_written : (new : Reading) → new ≡ applied (Patches area gate (open_gate ∷ [])) mid → IsSealed area records gate body old new
    record_written new is_new = record {
      only = only_then area old mid new only_mid (patched_only area gate (open_gate ∷ []) mid new is_new);
      journal = record {
        some = is.journal.ends.some;
        mark = 0;
        unsettled = λ e. omega (arith, e);
        journal = subst (λ (l : List ℕ). IsJournal l (records ++ unsettled body ∷ []) (next_gate gate body))
            (sym (patched_area area gate (open_gate ∷ []) mid new is_new ∙ ap (patched gate (open_gate ∷ [])) in_mid))
            (sealed_journal (area_of area old) records gate is.journal body all short);
      };
    }

module _ (area : Area) (records : List JournalRecord) (gate : ℕ) (body : List ℕ) (old : Reading) (is : IsUnsettledJournal (area_of area old) records body gate) where
  some_gate : 0 < gate
  some_gate = omega (arith, is.journal.ends.place, length-front-le (records ++ record { body = body; mark = is.mark } ∷ []))

  pub closing_image : (image : Reading) → IsTorn area (gate - 1) 1 old image → IsClosing area records gate body old image
  closing_image image torn = record {
    only = torn_only area (gate - 1) 1 old image torn;
    mark = get_or (area_of area image) (gate - 1) 0;
    journal = settling_image (area_of area old) records (record { body = body; mark = is.mark }) gate is.journal is.some (area_of area image) torn.no_shorter
        (λ i lt out. torn.kept i lt (⊎_elim (λ before. inl before) (λ behind. inr (omega (arith, behind, some_gate))) out));
  }

  pub record_settled : (new : Reading) → new ≡ applied (Patches area (gate - 1) (settled_byte ∷ [])) old → IsClosed area records gate body old new
  record_settled new is_new =
      let journal : IsJournal (area_of area new) (records ++ settled body ∷ []) gate =
      subst (λ (l : List ℕ). IsJournal l (records ++ settled body ∷ []) gate)
      (sym (patched_area area (gate - 1) (settled_byte ∷ []) old new is_new))
      (settled_journal (area_of area old) records (record { body = body; mark = is.mark }) gate is.journal is.some) in
      record {
        only = patched_only area (gate - 1) (settled_byte ∷ []) old new is_new;
        journal = record {
          journal = journal;
          settled = all_end_settled (records ++ settled body ∷ []) (all_settled records (settled body) journal.order refl);
        };
      }
