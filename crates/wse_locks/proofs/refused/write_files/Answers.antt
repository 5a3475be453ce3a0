use Rattle.std.proofs.Common.{codes, ◌≡◌, ◌+◌, ◌-◌, length, true, ◌++◌, get_or, take, take_all, drop, sym, refl, ap, ◌∙◌, arith}
use Rattle.std.proofs.Output.{has_written_append, has_written_of_eq}
use Rattle.std.proofs.lemmas.List.{get_or-take}
use Rattle.std.proofs.lemmas.Grind.{get_or_after_one}
use Rattle.std.specs.List.{join_by}
use Rattle.wse_path.specs.Path.{text_of}
use Rattle.wse_locks.proofs.ListedLemmas.{joined_first, joined_next}
use Rattle.wse_locks.proofs.refused.write_files.Goals as goal

pub loop-file-init : goal.loop-file-init
loop-file-init g c p =
    let xs = c.args.files.now in
    let d = c.first-item.result in
    has_written_of_eq _ _ _ _ _ (ap text_of c.first-item.is ∙ sym (joined_first text_of (codes ", ") xs d (omega arith))) (c.in_ok-write.ensures.writes p (refl {a = true}))

pub loop-file-preserved : goal.loop-file-preserved
loop-file-preserved g c p =
    let xs = c.args.files.now in
    let i = c.loop-file.file-index in
    let d = c.file-item.result in
    let item : d ≡ get_or xs (i + 1) d =
    c.file-item.is ∙ get_or-take (length xs - 1) (drop 1 xs) i d (omega arith) ∙ get_or_after_one xs i d ∙ ap (λ n. get_or xs n d) {x = 1 + i} (omega arith) in
    let before = c.loop-file.invariant p in
    has_written_of_eq _ _ _ _ _
    (ap (λ q. join_by text_of (codes ", ") (take (i + 1) xs) ++ (codes ", " ++ text_of q)) item ∙ joined_next text_of (codes ", ") xs i d (omega arith))
    (has_written_append _ _ _ _ _ _ before (c.in_ok-write-2.ensures.writes before.plain (refl {a = true})))

pub returns-after-loop-file : goal.returns-after-loop-file
returns-after-loop-file g c p ok =
    let xs = c.args.files.now in
    has_written_of_eq _ _ _ _ _ (ap (join_by text_of (codes ", ")) (take_all (c.loop-file.file-index + 1) xs (omega (arith, c.loop-file-test.false)))) (c.loop-file.invariant p)
