use Rattle.std.proofs.Common.{◌≡◌, ◌≤◌, length, vec_capacity, Some, ◌∙◌, refl, ap, sym, subst}
use Rattle.wse_element.specs.State.{State}
use Rattle.wse_history.specs.History.{HistoryNow, state_in, IsHistory}
use Rattle.wse_history.specs.Planning.{bumps_in, MayRecord}
use Rattle.wse_history.specs.Reserved.{IsReady}
use Rattle.wse_history.proofs.ReserveLemmas.{is_ready, bumps_fit}
use Rattle.wse_history.proofs.history.History.reserve.Goals as goal

pub invariant_of-self-in-Ok : goal.invariant_of-self-in-Ok
invariant_of-self-in-Ok c =
    let a = c.self.inside in
    let plan = c.args.plan.now in
    let room = c.in_ok-room.room in
    let effects = c.as_slice-effects.ensures in
    let s : State = state_in a.stacks.state a.versions.entries a.tree.files a.locks.entries in
    let may = subst (λ (h : HistoryNow). MayRecord h.limits h.state plan) (sym c.self.view_is) c.requires.may in
    let ready = is_ready a.limits s plan may c.reserve-3.new.self.prepared c.reserve.new.self.spare c.reserve-2.new.self.spare room
    (c.in-Ok.ensures.prepared ∙ ap Some effects)
    c.in_ok-room.ensures.none
    (subst (λ n. n ≤ vec_capacity room.contents) c.len.ensures c.in_ok-room.ensures.contents)
    (subst (λ n. n ≤ c.reserve.new.self.spare) c.len-2.ensures c.in_ok-reserve.ensures.room)
    (c.in_ok-room.ensures.bumps ∙ ap bumps_in effects)
    (bumps_fit room.bumps.items c.as_slice-effects.result.now c.reserve-2.new.self.spare (length c.as_slice-effects.result.now) c.in_ok-room.ensures.bumps refl c.in_ok-reserve-2.ensures.room) in
    let next : State = state_in c.reserve-3.new.self.state c.reserve-2.new.self.entries c.reserve.new.self.files a.locks.entries in
    let same : s ≡ next = λ i. state_in (sym c.reserve-3.ensures.state i) (sym c.reserve-2.ensures.same i) (sym c.reserve.ensures.same i) a.locks.entries in (
      subst (λ (x : State). IsHistory x a.limits) same c.self.invariant.0,
      subst (λ (x : State). IsReady a.limits x c.reserve-3.new.self.prepared c.reserve.new.self.spare c.reserve-2.new.self.spare room) same ready,
    )
