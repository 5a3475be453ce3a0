-- An area reads in one way.
use Rattle.std.proofs.Common.{◌≡◌, ℕ, List, [], ◌∷◌, ◌++◌, refl, sym, ◌∙◌, ap, subst, append_assoc}
use Rattle.wse_log.specs.Grammar.{JournalRecord, JournalEnd, ClosedAt, BrokenAt, Reads}
use Rattle.wse_log.proofs.Once.{Holds, Ends, Breaks, one_piece}
use Rattle.wse_log.proofs.InOrder.{piece_of, reads_piece}

same_ending : (e f : JournalEnd) → piece_of [] e ≡ piece_of [] f → e ≡ f
same_ending (ClosedAt a) (ClosedAt b) same = let at' : a ≡ b = cc in ap ClosedAt at'
same_ending (ClosedAt a) (BrokenAt b) same = cc
same_ending (BrokenAt a) (ClosedAt b) same = cc
same_ending (BrokenAt a) (BrokenAt b) same = let at' : a ≡ b = cc in ap BrokenAt at'

regroup : (area : List ℕ) (before : List JournalRecord) (r : JournalRecord) (rest : List JournalRecord) (e : JournalEnd) → Reads area (before ++ r ∷ rest) e → Reads area ((before ++ r ∷ []) ++ rest) e
regroup area before r rest e is = subst (λ (l : List JournalRecord). Reads area l e) (sym (append_assoc before (r ∷ []) rest)) is

rest_once : (area : List ℕ) (before a b : List JournalRecord) (e f : JournalEnd) → Reads area (before ++ a) e → Reads area (before ++ b) f → (a ≡ b) × (e ≡ f)
rest_once area before [] [] e f is also =
    (refl, same_ending e f (one_piece area before (piece_of [] e) (piece_of [] f) (reads_piece area before [] e is) (reads_piece area before [] f also)))
rest_once area before [] (s ∷ b) (ClosedAt gate) f is also =
    let same : Ends gate ≡ Holds s = one_piece area before (Ends gate) (Holds s) (reads_piece area before [] (ClosedAt gate) is) (reads_piece area before (s ∷ b) f also) in cc
rest_once area before [] (s ∷ b) (BrokenAt place) f is also =
    let same : Breaks place ≡ Holds s = one_piece area before (Breaks place) (Holds s) (reads_piece area before [] (BrokenAt place) is) (reads_piece area before (s ∷ b) f also) in cc
rest_once area before (r ∷ a) [] e (ClosedAt gate) is also =
    let same : Holds r ≡ Ends gate = one_piece area before (Holds r) (Ends gate) (reads_piece area before (r ∷ a) e is) (reads_piece area before [] (ClosedAt gate) also) in cc
rest_once area before (r ∷ a) [] e (BrokenAt place) is also =
    let same : Holds r ≡ Breaks place = one_piece area before (Holds r) (Breaks place) (reads_piece area before (r ∷ a) e is) (reads_piece area before [] (BrokenAt place) also) in cc
rest_once area before (r ∷ a) (s ∷ b) e f is also =
    let same : Holds r ≡ Holds s = one_piece area before (Holds r) (Holds s) (reads_piece area before (r ∷ a) e is) (reads_piece area before (s ∷ b) f also) in
    let one : r ≡ s = cc in
    let other : Reads area (before ++ r ∷ b) f = subst (λ (t : JournalRecord). Reads area (before ++ t ∷ b) f) (sym one) also in
    let rest = rest_once area (before ++ r ∷ []) a b e f (regroup area before r a e is) (regroup area before r b f other) in
    (ap (λ (l : List JournalRecord). r ∷ l) rest.0 ∙ ap (λ (t : JournalRecord). t ∷ b) one, rest.1)

pub one_reading : (area : List ℕ) (a b : List JournalRecord) (e f : JournalEnd) → Reads area a e → Reads area b f → (a ≡ b) × (e ≡ f)
one_reading area a b e f is also = rest_once area [] a b e f is also
