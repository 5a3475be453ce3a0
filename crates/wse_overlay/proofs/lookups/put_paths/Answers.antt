use Rattle.std.proofs.Common.{◌≡◌, ℕ, true, List, [], ◌++◌, map, sym, ap, subst, ◌∙◌}
use Rattle.std.proofs.lemmas.List.{append-nil}
use Rattle.std.specs.FinMap.{is_sorted}
use Rattle.std.specs.FinMap.Entries.{below_all}
use Rattle.std.specs.Cmp.Lexicographic.{lists_total, nat_list_cmp_total}
use Rattle.wse_path.specs.Path.{Path}
use Rattle.wse_path.specs.Order.{path_cmp}
use Rattle.wse_path.specs.Tree.{Entries, paths_under}
use Rattle.wse_path.proofs.EntryLemmas.{sorted_behind, below_behind}
use Rattle.wse_path.proofs.UnderLemmas.{where_behind, none_first}
use Rattle.wse_path.proofs.PutLemmas.{sorted_ordered}
use Rattle.wse_overlay.proofs.RangeLemmas.{between_is_behind, under_part}
use Rattle.wse_overlay.proofs.lookups.put_paths.Goals as goal
use Rattle.wse_overlay.proofs.lookups.put_paths.Goals.{in-None, in-Some+then-not-is_under}

pub loop-file-init : goal.loop-file-init
loop-file-init c =
    let p = c.args.path.now in
    let files = c.args.put.now.entries in
    let it = c.into_iter-file-iterator.result in
    let is : it ≡ where_behind p files = c.into_iter-file-iterator.ensures.into_iter_gives ∙ c.range-file-items.ensures.between tt ∙ between_is_behind p files in
    record {
      rest = under_part p files it is ∙ ap (λ (l : List Path). l ++ paths_under it p) (sym c.new-paths.ensures.items);
      rises = ap (λ (l : Entries). is_sorted path_cmp l) is ∙ sorted_behind (lists_total nat_list_cmp_total) files p (sorted_ordered files c.range-file-items.ensures.ordered);
      behind = ap (λ (l : Entries). below_all path_cmp p l) is ∙ below_behind (lists_total nat_list_cmp_total) files p;
    }

pub returns : goal.returns
returns c =
    let p = c.args.path.now in
    let now = c.loop-file.file-iterator in
    let rest : paths_under now p ≡ [] = elim c.match-next.branch [
      | in-None w ↦ ap (λ (l : Entries). paths_under l p) w.in-None.ensures.steps.0
      | in-Some+then-not-is_under w ↦
          let e : Path × List ℕ = (w.in-Some.file.now, w.in-Some.field-0-1.now) in
          let step = w.in-Some.ensures.steps in
          ap (λ (l : Entries). paths_under l p) step
          ∙ ap (λ (l : Entries). map (λ x. x.0) l) (none_first p e c.next.new.self (subst (λ (l : Entries). is_sorted path_cmp l ≡ true) step c.loop-file.invariant.rises) (subst (λ (l : Entries). below_all path_cmp p l ≡ true) step c.loop-file.invariant.behind) (sym w.is_under.ensures ∙ w.if-not-is_under.true))
    ] in
    sym (c.loop-file.invariant.rest ∙ ap (λ (l : List Path). c.loop-file.paths.items ++ l) rest ∙ append-nil c.loop-file.paths.items)
