-- How many files a tree has and how many bytes, and what changes make of it.
use Rattle.std.specs.Prelude.{ℕ, ◌+◌, ◌-◌, List, length, sum_by, nat_lt, Option, Some, None, option_map, if◌then◌else◌}
use Rattle.std.specs.Option.{option_or}
use Rattle.wse_path.specs.PathMap.{capped}
use Rattle.wse_path.specs.Tree.{Entries, total_bytes}
use Rattle.wse_path.specs.declared.change.Change.{Change}
use Rattle.wse_path.specs.declared.limits.Limits.{Limits}
use Rattle.wse_path.specs.declared.limits.Hit.{Hit}
use Rattle.wse_path.specs.declared.limits.Which.TheVariants.{Files, FileBytes, TreeBytes}
use Rattle.wse_edits.specs.Refusal.{find_map}
use Rattle.wse_apply.specs.Limit.{file_count, hit_by, hit_above}
use Rattle.wse_apply.specs.declared.sizes.Sizes.{Sizes}

-- A content is one file or none.
abbrev pub files_of : Option (List ℕ) → ℕ
files_of None = 0
files_of (Some bytes) = 1

abbrev pub bytes_of : Option (List ℕ) → ℕ
bytes_of None = 0
bytes_of (Some bytes) = length bytes

abbrev pub content_size : Option (List ℕ) → Sizes
content_size content = record { files = files_of content; bytes = bytes_of content }

-- Both together.
abbrev pub plus : Sizes → Sizes → Sizes
plus a b = record { files = capped (a.files + b.files); bytes = capped (a.bytes + b.bytes) }

abbrev pub minus : Sizes → Sizes → Sizes
minus a b = record { files = a.files - b.files; bytes = a.bytes - b.bytes }

-- The size of the files.
abbrev pub sizes_of : Entries → Sizes
sizes_of files = record { files = file_count files; bytes = total_bytes files }

-- What the changed paths held before.
abbrev pub size_before : List Change → Sizes
size_before changes =
    record { files = capped (sum_by (λ c. files_of c.before) changes); bytes = capped (sum_by (λ c. bytes_of c.before) changes) }

-- What they hold after.
abbrev pub size_after : List Change → Sizes
size_after changes =
    record { files = capped (sum_by (λ c. files_of c.after) changes); bytes = capped (sum_by (λ c. bytes_of c.after) changes) }

-- The bytes of a content that has more than these.
abbrev pub bytes_above : ℕ → Option (List ℕ) → Option ℕ
bytes_above limit None = None
bytes_above limit (Some bytes) = if nat_lt limit (length bytes) then Some (length bytes) else None

-- The bytes of the first new content that has more than these.
abbrev pub first_after_above : ℕ → List Change → Option ℕ
first_after_above limit changes = find_map (λ c. bytes_above limit c.after) changes

-- The first limit that the size passes.
abbrev pub size_hit : Limits → Sizes → Option Hit
size_hit limits sizes = option_or (hit_above Files limits.files sizes.files) (hit_above TreeBytes limits.tree_bytes sizes.bytes)

-- The limit that is passed after the changes, by the size of all files then.
abbrev pub hit_after : Limits → Sizes → List Change → Option Hit
hit_after limits sizes changes = option_or (option_map (hit_by FileBytes) (first_after_above limits.file_bytes changes)) (size_hit limits sizes)
