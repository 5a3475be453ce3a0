-- The state in which a run over a store begins. This project's own rule.
use Rattle.std.specs.Prelude.{◌≡◌, ◌⊎◌, ◌≤◌, ℕ, Bool, true, false, [], Option, None}
use Rattle.wse_path.specs.declared.limits.Limits.{Limits}
use Rattle.wse_apply.specs.Limit.{limit_hit}
use Rattle.wse_element.specs.State.{State}
use Rattle.wse_element.specs.Linked.{IsStateLinked}
use Rattle.wse_disk.specs.Reading.{Reading}
use Rattle.wse_disk.specs.Standing.{Standing}
use Rattle.wse_disk.specs.Told.{WhereTold, LeftSince, IsTold}
use Rattle.wse_stream.specs.Machine.{Machine}
use Rattle.wse_stream.specs.Opened.{IsEarlier}
use Rattle.wse_stream.specs.Scene.{Scene}
use Rattle.wse_recover.specs.Adopting.{IsAdopted}
use Rattle.wse_recover.specs.Open.{AdoptsWithin}

-- The first line comes in the state for which the disk was opened, or with `adopt` in what adopting makes of that.
abbrev pub IsFirst : (adopt : Bool) → (opened first : State) → Type 0
IsFirst false opened first = first ≡ opened
IsFirst true opened first = IsAdopted opened first

-- So it is, where the disk tells. Nobody holds a path then, the state is linked, its tree passes no limit, and where adopting
-- changed it it passes none of those on what is known and on serial numbers.
pub record Begins (adopt : Bool) (limits : Limits) (told : Option Standing) (opened first : State) : Type 0 where
  pub is_first : IsTold told → IsFirst adopt opened first
  pub unlocked : first.locks ≡ []
  pub linked : IsStateLinked first
  pub fits : limit_hit limits first.files ≡ None
  pub adopts : WhereTold told (λ s. AdoptsWithin limits first s.reading)

-- Where adopting may have come to the disk, it makes the second state of the first. Else nothing does.
abbrev pub MayAdopt : (adopt : Bool) → State → State → Type 0
MayAdopt false s t = ⊥
MayAdopt true s t = IsAdopted s t

-- No line was read: the source and the sink are as they were. What a crash may leave since the start is what it might have left
-- then, or stands for the state for which what is read stands, or for one that may become of it.
pub record Unread {S : Type 0} (m : Machine S) (Becomes : S → S → Type 0) (before now : Scene) : Type 0 where
  pub source : now.left ≡ before.left
  pub sink : now.pieces ≡ before.pieces
  pub later : before.disk.moment ≤ now.disk.moment
  pub images : IsTold before.disk.told → (s : S) → WhereTold before.disk.told (λ d. m.stands s d.reading)
      → (moment : ℕ) (image : Reading) → before.disk.moment ≤ moment → LeftSince now.disk.told moment image
      → IsEarlier m s before.disk image ⊎ ((t : S) × Becomes s t × m.stands t image)
