use Rattle.std.proofs.Common.{◌≡◌, true, List, ℕ, ap, sym, subst, ◌∙◌}
use Rattle.std.specs.FinMap.{is_sorted}
use Rattle.std.specs.List.{All}
use Rattle.std.proofs.lemmas.List.Elements.{All-from_recursion, recursion_from_All}
use Rattle.wse_path.specs.Order.{path_cmp}
use Rattle.wse_path.specs.Path.{Path}
use Rattle.wse_path.specs.PathMap.{update_all}
use Rattle.wse_path.specs.Versions.{Numbers, VersionsState, bumped_by}
use Rattle.wse_path.proofs.VersionLemmas.{added, IsSmall, IsSome, bumped_by_is, some_bumped_by}
use Rattle.wse_path.proofs.versions.Versions.bump_all.Goals as goal

entries_are : (bumps : List (Path × ℕ)) (old map new : Numbers) → new ≡ update_all added bumps map → map ≡ old → is_sorted path_cmp bumps ≡ true → All (IsSmall old) bumps → new ≡ bumped_by bumps old
entries_are bumps old map new is same rises small =
    is ∙ ap (λ (es : Numbers). update_all added bumps es) same ∙ bumped_by_is bumps old rises (recursion_from_All (IsSmall old) bumps small)

pub returns-clause-entries : goal.returns-clause-entries
returns-clause-entries c =
    entries_are c.args.bumps.items c.args.self.now.entries c.self.inside.map.entries c.update_all.new.self.entries c.update_all.ensures.entries (ap (λ (v : VersionsState). v.entries) c.self.view_is) c.requires.rises c.requires.small

pub invariant_of-self-inside : goal.invariant_of-self-inside
invariant_of-self-inside c =
    let bumps = c.args.bumps.items in
    let old = c.args.self.now.entries in
    let is = entries_are bumps old c.self.inside.map.entries c.update_all.new.self.entries c.update_all.ensures.entries (ap (λ (v : VersionsState). v.entries) c.self.view_is) c.requires.rises c.requires.small in
    let some = some_bumped_by bumps old (recursion_from_All IsSome bumps c.requires.some) (recursion_from_All IsSome old c.args.self.now.some) in
    (subst (All IsSome) (sym is) (All-from_recursion IsSome (bumped_by bumps old) some), tt)
