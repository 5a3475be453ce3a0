-- The image that is picked.
use Rattle.std.proofs.Common.{◌≡◌, ◌⊎◌, inl, inr, ℕ, ◌≤◌, List, [], length, take, Option, Some, None, refl, sym, ◌∙◌, ap, subst}
use Rattle.std.specs.Prelude.{MatchOption}
use Rattle.wse_path.specs.Tree.{Entries, IsTree, TreeState}
use Rattle.wse_disk.specs.declared.call.Call.{Call}
use Rattle.wse_disk.specs.declared.draft.Draft.{Draft}
use Rattle.wse_disk.specs.MemState.{MemState, standing}
use Rattle.wse_disk.specs.Reading.{Reading, Write}
use Rattle.wse_disk.specs.Image.{IsImage}
use Rattle.wse_disk.specs.Standing.{Pending, fresh}
use Rattle.wse_disk.specs.Replay.{held, drafted, replay, pending_at, with_all}
use Rattle.wse_disk.specs.Chosen.{left_from, IsChosen, Picks, IsPicked}
use Rattle.wse_disk.specs.Told.{IsAtRest, IsSynced}
use Rattle.wse_disk.proofs.ImageLemmas.{at_rest}
use Rattle.wse_disk.proofs.ReplayLemmas.{moment_is}
use Rattle.wse_disk.proofs.NearLemmas.{base_image, left_image, left_at_0, left_at_1}

tree_is : (o : Option TreeState) (t : TreeState) (P : Type 0) (es : Entries) → o ≡ Some t → MatchOption o P (λ u. u.files ≡ es) → t.files ≡ es
tree_is None t P es e h = cc
tree_is (Some u) t P es e h = let same : u ≡ t = cc in ap (λ (v : TreeState). v.files) (sym same) ∙ h

-- Where what is left is a tree, it is picked.
pub picks_left : (base left : Draft) (o : Option TreeState) (t : TreeState) → o ≡ Some t → MatchOption o (IsTree left.files.entries → ⊥) (λ u. u.files ≡ left.files.entries) → Picks (drafted base) (drafted left) (held t.files left.areas)
picks_left base left o t some found =
    let is = tree_is o t (IsTree left.files.entries → ⊥) left.files.entries some found in
    let same : held t.files left.areas ≡ drafted left = ap (λ (es : Entries). held es left.areas) is in
    let tree = subst IsTree is t.is_tree in
    record { tree = λ h. same; none = λ n. absurd (n tree); one = inl (same, tree) }

-- What is pending at a moment of a disk in memory.
pub of_moment : (d : MemState) (moment : ℕ) → moment ≤ length d.calls → pending_at (standing d) moment ≡ (replay (fresh d.first) (take moment d.calls)).pending
of_moment d moment le = moment_is d.first d.calls moment le

-- What was read after a sync is a tree.
pub base_of_moment : (d : MemState) (moment : ℕ) (start : Reading) (calls : List Call) → moment ≤ length d.calls → start ≡ d.first → calls ≡ take moment d.calls → IsTree (replay (fresh start) calls).pending.base.files
base_of_moment d moment start calls le same is =
    subst (λ (p : Pending). IsTree p.base.files) (of_moment d moment le ∙ (λ i. (replay (fresh (sym same i)) (sym is i)).pending)) (d.sound.bases moment)

-- What is picked after the calls up to a moment is picked at that moment.
pub picked_at : (choice : ℕ) (d : MemState) (moment : ℕ) (start image : Reading) (calls : List Call) → moment ≤ length d.calls → start ≡ d.first → calls ≡ take moment d.calls → IsPicked choice (replay (fresh start) calls).pending image → IsPicked choice (pending_at (standing d) moment) image
picked_at choice d moment start image calls le same is picks =
    subst (λ (p : Pending). IsPicked choice p image) (sym (of_moment d moment le ∙ (λ i. (replay (fresh (sym same i)) (sym is i)).pending))) picks

image_one : (choice : ℕ) (base : Reading) (ws : List Write) (image : Reading) → IsTree base.files → ((image ≡ left_from choice 0 base ws) × IsTree (left_from choice 0 base ws).files) ⊎ (image ≡ base) → IsImage base ws image
image_one choice base ws image tree (inl left) = subst (IsImage base ws) (sym left.0) (left_image choice base ws tree left.1)
image_one choice base ws image tree (inr same) = subst (IsImage base ws) (sym same) (base_image base ws tree)

-- What is picked is the image that the choice takes.
pub picked : (choice : ℕ) (p : Pending) (base left image : Reading) (ws : List Write) → p ≡ record { base = base; writes = ws } → left ≡ left_from choice 0 base ws → IsTree base.files → Picks base left image → IsPicked choice p image
picked choice p base left image ws is left_is tree picks =
    let here = subst (λ (l : Reading). Picks base l image) left_is picks in
    subst (λ (q : Pending). IsPicked choice q image) (sym is) (record {
      chosen = record { tree = here.tree; none = here.none };
      left = image_one choice base ws image tree here.one;
    })

pub none_kept : (p : Pending) (image : Reading) → IsTree p.base.files → IsChosen 0 p image → image ≡ p.base
none_kept p image tree chosen =
    let same = left_at_0 p.base p.writes in
    chosen.tree (subst (λ (r : Reading). IsTree r.files) (sym same) tree) ∙ same

pub all_kept : (p : Pending) (image : Reading) → IsChosen 1 p image → IsTree (with_all p).files → image ≡ with_all p
all_kept p image chosen tree =
    let same = left_at_1 p.base p.writes in
    chosen.tree (subst (λ (r : Reading). IsTree r.files) (sym same) tree) ∙ same

-- Before its first call nothing is pending on a disk in memory.
pub uncalled_rests : (d : MemState) → d.calls ≡ [] → IsAtRest (Some (standing d))
uncalled_rests d none =
    at_rest (Some (standing d)) d.sound.stays (subst (λ (cs : List Call). IsSynced (Some (replay (fresh d.first) cs))) (sym none) (refl, refl))
