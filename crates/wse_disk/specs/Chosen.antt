-- Which image a choice takes. This project's own rule.
use Rattle.std.specs.Prelude.{◌≡◌, ◌⊎◌, ℕ, zero, suc, ◌+◌, ◌/◌, ◌%◌, ◌^◌, nat_lt, List, [], ◌∷◌, length, replicate, if◌then◌else◌}
use Rattle.wse_path.specs.Tree.{IsTree}
use Rattle.wse_disk.specs.Reading.{Reading, Write, Stores, Erases, Patches, applied}
use Rattle.wse_disk.specs.Standing.{Pending, IsImageOf}
use Rattle.wse_disk.specs.Replay.{laid}
use Rattle.wse_disk.specs.declared.fate.Fate.{Fate}
use Rattle.wse_disk.specs.declared.fate.Fate.TheVariants.{Lost, Kept, Blank}

abbrev pub fate_of : ℕ → Fate
fate_of zero = Lost
fate_of (suc zero) = Kept
fate_of (suc (suc n)) = Blank

-- What becomes of the write with that index: 0, 1 and 2 do the same to each, and another choice has a digit to the base 3
-- for each.
abbrev pub fate : ℕ → ℕ → Fate
fate choice index = fate_of (if nat_lt choice 3 then choice else (choice / 3 ^ (index % 40)) % 3)

-- What a write leaves: nothing, all of it, or no file and zeros.
abbrev pub left_by : Fate → Write → Reading → Reading
left_by Lost w r = r
left_by Kept w r = laid w r
left_by Blank (Stores p bytes) r = applied (Erases p) r
left_by Blank (Erases p) r = applied (Erases p) r
left_by Blank (Patches a place bytes) r = laid (Patches a place (replicate (length bytes) 0)) r

-- What the writes leave, of which the first has that index.
abbrev pub left_from : ℕ → ℕ → Reading → List Write → Reading
left_from choice index r [] = r
left_from choice index r (w ∷ ws) = left_from choice (index + 1) (left_by (fate choice index) w r) ws

-- What the choice leaves of all the writes since the base.
abbrev pub left_at : ℕ → Pending → Reading
left_at choice p = left_from choice 0 p.base p.writes

-- The image that a choice takes: what it leaves of the writes where that is a tree, and else the base.
pub record IsChosen (choice : ℕ) (p : Pending) (image : Reading) : Type 0 where
  pub tree : IsTree (left_at choice p).files → image ≡ left_at choice p
  pub none : (IsTree (left_at choice p).files → ⊥) → image ≡ p.base

-- One of the two readings: the second where that is a tree.
pub record Picks (base left image : Reading) : Type 0 where
  pub tree : IsTree left.files → image ≡ left
  pub none : (IsTree left.files → ⊥) → image ≡ base
  pub one : ((image ≡ left) × IsTree left.files) ⊎ (image ≡ base)

-- The image that a choice takes.
pub record IsPicked (choice : ℕ) (p : Pending) (image : Reading) : Type 0 where
  pub chosen : IsChosen choice p image
  pub left : IsImageOf p image
