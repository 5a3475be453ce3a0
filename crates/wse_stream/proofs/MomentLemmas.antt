-- What a crash since a moment might have left, by moments that are counted.
use Rattle.std.proofs.Common.{◌≡◌, ◌⊎◌, inl, inr, ℕ, zero, suc, ◌-◌, ◌≤◌, List, [], ◌∷◌, drop, length, Option, Some, None, sym, ap, subst, ◌∙◌, arith}
use Rattle.std.proofs.lemmas.List.{drop_all, drop-drop}
use Rattle.wse_disk.specs.Reading.{Reading}
use Rattle.wse_disk.specs.Standing.{Pending, Standing, IsOfOne}
use Rattle.wse_disk.specs.Told.{MayLeave, LeftSince, IsTold, CountsMoments}
use Rattle.wse_stream.specs.Rests.{Rests, Stretches}

-- since the present moment there is but what may be left now
pub left_now_only : (told : Option Standing) (now t : ℕ) (c : Reading) → CountsMoments told now → now ≤ t → LeftSince told t c → MayLeave told c
left_now_only None now t c counts le left = absurd left
left_now_only (Some s) now t c counts le (inl is) = is
left_now_only (Some s) now t c counts le (inr before) = absurd (subst (λ (ps : List Pending). IsOfOne ps c) (drop_all t s.past (omega (arith, le, counts))) before)

-- a disk that rests leaves what has the property
pub rests_leave : (told : Option Standing) (P : Reading → Type 0) → Rests told P → (c : Reading) → MayLeave told c → P c
rests_leave None P rests c may = absurd may
rests_leave (Some s) P rests c may = subst P (sym (rests.at_rest c may)) rests.reads

-- a stretch adds but what has the property, to what was left since any moment before it
pub stretch_before : (old new : Option Standing) (now t : ℕ) (P : Reading → Type 0) (c : Reading) → CountsMoments old now → IsTold old → Stretches old new P → t ≤ now → LeftSince new t c → LeftSince old t c ⊎ P c
stretch_before None new now t P c counts told st le left = absurd told
stretch_before (Some s) new now t P c counts told st le left = (st told).before t c (omega (arith, le, counts)) left

-- what is left since a later moment is left since an earlier one
of_dropped : (k : ℕ) (ps : List Pending) (c : Reading) → IsOfOne (drop k ps) c → IsOfOne ps c
of_dropped zero ps c one = one
of_dropped (suc k) [] c one = absurd one
of_dropped (suc k) (p ∷ ps) c one = inr (of_dropped k ps c one)

of_drop : (ps : List Pending) (t u : ℕ) (c : Reading) → t ≤ u → IsOfOne (drop u ps) c → IsOfOne (drop t ps) c
of_drop ps t u c le one =
    let is : drop (u - t) (drop t ps) ≡ drop u ps = drop-drop (u - t) t ps ∙ ap (λ k. drop k ps) (omega (arith, le)) in
    of_dropped (u - t) (drop t ps) c (subst (λ (qs : List Pending). IsOfOne qs c) (sym is) one)

pub fewer : (told : Option Standing) (t u : ℕ) (c : Reading) → t ≤ u → LeftSince told u c → LeftSince told t c
fewer None t u c le left = absurd left
fewer (Some s) t u c le (inl is) = inl is
fewer (Some s) t u c le (inr one) = inr (of_drop s.past t u c le one)

-- what a stretch leaves since its start, or later
pub stretch_since : (old new : Option Standing) (now t : ℕ) (P : Reading → Type 0) (c : Reading) → CountsMoments old now → IsTold old → Stretches old new P → now ≤ t → LeftSince new t c → P c
stretch_since None new now t P c counts told st le left = absurd told
stretch_since (Some s) new now t P c counts told st le left = (st told).each c (fewer new (length s.past) t c (omega (arith, le, counts)) left)
