-- A record that stands whole behind its gate.
use Rattle.std.proofs.Common.{◌≡◌, ℕ, ◌+◌, ◌-◌, ◌<◌, ◌≤◌, List, ◌++◌, length, take, drop, get_or, refl, ap, ◌∙◌, arith, length-drop}
use Rattle.std.specs.Prelude.{slice_range}
use Rattle.std.specs.Int.{w32, to_be_bytes}
use Rattle.std.proofs.lemmas.List.{length-take}
use Rattle.wse_log.specs.Grammar.{JournalRecord, behind_gate}
use Rattle.wse_log.proofs.Finds.{record_there}

count_is : (bytes body : List ℕ) (place n : ℕ) → body ≡ slice_range bytes place (place + n) → place + n ≤ length bytes → length body ≡ n
count_is bytes body place n e l = omega (arith, ap length e, length-take (place + n - place) (drop place bytes), length-drop place bytes, l)

pub record_whole : (bytes body : List ℕ) (gate n : ℕ) → to_be_bytes w32 n ≡ slice_range bytes (gate + 1) (gate + 1 + 4) → body ≡ slice_range bytes (gate + 5) (gate + 5 + n) → gate + 5 + n < length bytes
    → (more : List ℕ) × (drop (gate + 1) bytes ≡ behind_gate (record { body = body; mark = get_or bytes (gate + 5 + n) 0 }) ++ more)
record_whole bytes body gate n number e l =
    (drop (gate + 5 + n + 1) bytes, record_there bytes body gate n (get_or bytes (gate + 5 + n) 0) number e (count_is bytes body (gate + 5) n e (omega (arith, l))) refl l)
