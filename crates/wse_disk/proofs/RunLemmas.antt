-- Calls, one after another.
use Rattle.std.proofs.Common.{◌≡◌, ℕ, ◌+◌, ◌-◌, ◌<◌, ◌≤◌, Bool, false, ◌||◌, List, [], ◌∷◌, ◌++◌, length, take, drop, get_or, refl, sym, ◌∙◌, ap, arith, append_assoc, length-append}
use Rattle.std.proofs.lemmas.List.{take_more, append-nil, drop_more}
use Rattle.std.specs.List.{list_any}
use Rattle.wse_disk.specs.declared.call.Call.{Call}
use Rattle.wse_disk.specs.declared.call.Call.TheVariants.{Store, Erase, Patch, Sync}
use Rattle.wse_disk.specs.Reading.{Reading, Write}
use Rattle.wse_disk.specs.Chosen.{fate, left_by, left_from}
use Rattle.wse_disk.specs.Runs.{write_of, writes_of, redone, redone_all, left_one, is_done_sync}

pub redone_more : (r : Reading) (cs : List Call) (c : Call) → redone_all r (cs ++ c ∷ []) ≡ redone c (redone_all r cs)
redone_more r [] c = refl
redone_more r (d ∷ cs) c = redone_more (redone d r) cs c

pub writes_of-append : (cs ds : List Call) → writes_of (cs ++ ds) ≡ writes_of cs ++ writes_of ds
writes_of-append [] ds = refl
writes_of-append (c ∷ cs) ds = ap (λ (l : List Write). write_of c ++ l) (writes_of-append cs ds) ∙ sym (append_assoc (write_of c) (writes_of cs) (writes_of ds))

pub writes_of_last : (cs : List Call) (c : Call) → writes_of (cs ++ c ∷ []) ≡ writes_of cs ++ write_of c
writes_of_last cs c = writes_of-append cs (c ∷ []) ∙ ap (λ (l : List Write). writes_of cs ++ l) (append-nil (write_of c))

pub left_from-append : (choice k : ℕ) (r : Reading) (ws vs : List Write) → left_from choice k r (ws ++ vs) ≡ left_from choice (k + length ws) (left_from choice k r ws) vs
left_from-append choice k r [] vs = ap (λ (n : ℕ). left_from choice n r vs) {x = k} {y = k + 0} (omega arith)
left_from-append choice k r (w ∷ ws) vs =
    left_from-append choice (k + 1) (left_by (fate choice k) w r) ws vs
    ∙ ap (λ (n : ℕ). left_from choice n (left_from choice (k + 1) (left_by (fate choice k) w r) ws) vs) {x = k + 1 + length ws} {y = k + length (w ∷ ws)} (omega arith)

left_call : (choice k : ℕ) (c : Call) (r : Reading) → left_from choice k r (write_of c) ≡ left_one (fate choice k) (write_of c) r
left_call choice k (Store path bytes failed) r = refl
left_call choice k (Erase path failed) r = refl
left_call choice k (Patch area at bytes failed) r = refl
left_call choice k (Sync failed) r = refl

-- One call more.
pub left_more : (choice k : ℕ) (start now new : Reading) (cs : List Call) (i : ℕ) (c d : Call) → i < length cs → c ≡ get_or cs i d → now ≡ left_from choice 0 start (writes_of (take i cs)) → k ≡ length (writes_of (take i cs))
    → new ≡ left_one (fate choice k) (write_of c) now → new ≡ left_from choice 0 start (writes_of (take (i + 1) cs))
left_more choice k start now new cs i c d lt is before count one =
    let writes = writes_of (take i cs) in
    let more : writes_of (take (i + 1) cs) ≡ writes ++ write_of c =
    ap writes_of (take_more cs i d lt ∙ ap (λ (x : Call). take i cs ++ x ∷ []) (sym is)) ∙ writes_of_last (take i cs) c in
    one
    ∙ sym (left_call choice k c now)
    ∙ ap (left_from choice k now) {x = write_of c} {y = write_of c} refl
    ∙ ap (λ (r : Reading). left_from choice k r (write_of c)) before
    ∙ ap (λ (n : ℕ). left_from choice n (left_from choice 0 start writes) (write_of c)) {x = k} {y = 0 + length writes} (omega arith)
    ∙ sym (left_from-append choice 0 start writes (write_of c))
    ∙ ap (left_from choice 0 start) (sym more)

few_writes : (c : Call) → length (write_of c) ≤ 1
few_writes (Store path bytes failed) = omega arith
few_writes (Erase path failed) = omega arith
few_writes (Patch area at bytes failed) = omega arith
few_writes (Sync failed) = omega arith

pub count_more : (cs : List Call) (i : ℕ) (c d : Call) → i < length cs → c ≡ get_or cs i d → length (writes_of (take (i + 1) cs)) ≡ length (writes_of (take i cs)) + length (write_of c)
count_more cs i c d lt is =
    ap (λ (l : List Call). length (writes_of l)) (take_more cs i d lt ∙ ap (λ (x : Call). take i cs ++ x ∷ []) (sym is))
    ∙ ap length (writes_of_last (take i cs) c) ∙ length-append (writes_of (take i cs)) (write_of c)

pub few_more : (c : Call) (n : ℕ) → n ≡ length (write_of c) → n ≤ 1
few_more c n is = omega (arith, few_writes c)

pub redo_more : (start now new : Reading) (cs : List Call) (i : ℕ) (c d : Call) → i < length cs → c ≡ get_or cs i d → now ≡ redone_all start (take i cs) → new ≡ redone c now → new ≡ redone_all start (take (i + 1) cs)
redo_more start now new cs i c d lt is before one =
    one ∙ ap (redone c) before ∙ sym (redone_more start (take i cs) c)
    ∙ ap (redone_all start) (ap (λ (x : Call). take i cs ++ x ∷ []) is ∙ sym (take_more cs i d lt))

-- One call more, from the end, that isn't a sync that succeeded.
pub none_behind : (cs : List Call) (n : ℕ) (c d : Call) → 0 < n → n ≤ length cs → c ≡ get_or cs (n - 1) d → is_done_sync c ≡ false → list_any is_done_sync (drop n cs) ≡ false → list_any is_done_sync (drop (n - 1) cs) ≡ false
none_behind cs n c d some le is not_done none =
    ap (list_any is_done_sync) (drop_more cs (n - 1) d (omega arith) ∙ ap (λ (x : Call). x ∷ drop (n - 1 + 1) cs) (sym is))
    ∙ ap (λ (b : Bool). b || list_any is_done_sync (drop (n - 1 + 1) cs)) not_done
    ∙ ap (λ (m : ℕ). list_any is_done_sync (drop m cs)) {x = n - 1 + 1} {y = n} (omega arith)
    ∙ none
