-- What is known of an edit that was performed, and what it leaves of versions. This project's own rule.
use Rattle.std.specs.Prelude.{◌≡◌, ◌==◌, ℕ, ◌+◌, ◌≤◌, true, List, [], ◌∷◌, map, length, None, if◌then◌else◌}
use Rattle.std.specs.List.{AllByRecursion}
use Rattle.std.specs.FinMap.{put, is_sorted}
use Rattle.wse_path.specs.Path.{Path, text_of}
use Rattle.wse_path.specs.Order.{path_cmp}
use Rattle.wse_path.specs.Tree.{Entries}
use Rattle.wse_path.specs.Changes.{LeadToTree}
use Rattle.wse_path.specs.Versions.{Numbers, version_of}
use Rattle.wse_path.specs.declared.change.Numbered.{Numbered}
use Rattle.wse_path.specs.declared.limits.Limits.{Limits}
use Rattle.wse_apply.specs.Limit.{limit_hit}
use Rattle.wse_apply.specs.declared.performed.Performed.{Performed}

-- The paths with their numbers, as pairs.
abbrev pub pairs_of : List Numbered → List (Path × ℕ)
pairs_of numbered = map (λ b. (b.path, b.number)) numbered

-- Each version rises by 1 or 2.
abbrev pub AreRises : List Numbered → Type 0
AreRises bumps = AllByRecursion (λ b. (1 ≤ b.number) × (b.number ≤ 2)) bumps

-- The paths, each rising by one.
abbrev pub ones : List Path → List Numbered
ones paths = map (λ p. record { path = p; number = 1 }) paths

-- The changes of the edit lead to a tree, and versions rise by 1 or 2 each, in path order.
pub record IsDone (files : Entries) (done : Performed) : Type 0 where
  pub lead : LeadToTree files done.changes
  pub sorted : is_sorted path_cmp (pairs_of done.bumps) ≡ true
  pub rises : AreRises done.bumps

-- And that tree passes no limit.
pub record IsDoneWithin (limits : Limits) (files : Entries) (done : Performed) : Type 0 where
  pub is : IsDone files done
  pub fits : limit_hit limits is.lead.new ≡ None

-- The paths whose version rises, with their new versions.
abbrev pub raised : Numbers → List Numbered → List Numbered
raised versions bumps = map (λ b. record { path = b.path; number = version_of versions b.path + b.number }) bumps

-- The versions with these in their place.
abbrev pub with_versions : List Numbered → Numbers → Numbers
with_versions [] versions = versions
with_versions (b ∷ more) versions = with_versions more (put path_cmp b.path b.number versions)

-- What a path counts for that has no version yet, and else nothing.
abbrev pub new_known : Numbers → Path → ℕ
new_known versions p = if version_of versions p == 0 then 32 + length (text_of p) else 0
