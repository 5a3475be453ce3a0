use Rattle.std.proofs.Common.{◌≡◌, [], ◌++◌, ◌∙◌, Err, sym, position, refl, ap, inl, inr, arith}
use Rattle.wse_io.specs.Lines.{is_line_end}
use Rattle.wse_io.specs.Reader.{Reader}
use Rattle.wse_io.specs.declared.lines.Ahead.TheVariants.{Failed}
use Rattle.wse_io.specs.declared.lines.LineFault.TheVariants.{Read}
use Rattle.wse_io.proofs.LineLemmas.{ends_at, no_end_from}
use Rattle.wse_io.proofs.Reading.{so_far_none, so_far_more, kept_same, kept_more, kept_unless, kept_found, needed, so_far_dropped, waits_more, same_reader, hands_line, hands_last, hands_fault}
use Rattle.wse_io.proofs.lines.Lines.next.Goals as goal

pub loop-end-init : goal.loop-end-init
loop-end-init g c = record {
  so_far = ([], [], refl, so_far_none _ _);
  ready = λ _. refl;
  settled = λ _. refl;
  waits = inl refl;
  later = omega arith;
  kept = kept_same _ _ _;
  cause = λ failed. inl failed;
}

-- a line end is held
pub returns-in-Some-clause-hands : goal.returns-in-Some-clause-hands
returns-in-Some-clause-hands g c =
    let inside = c.self.inside in
    let found = c.line_end.ensures in
    let so = c.loop-end.invariant.so_far in
    let parts : Reader = record { max_line = inside.max_line; max_input = inside.max_input; taken = inside.taken; held = inside.held; ahead = inside.ahead } in
    let now = same_reader _ _ _ _ parts c.line_end.new.self so.0 so.1 c.self.view_is found.same c.self.invariant so.3 in
    let at = ends_at c.line_end.new.self c.in-Some.end (ap (position is_line_end) found.same ∙ sym found.place ∙ c.in-Some.is) in
    (so.0, hands_line _ _ _ _ so.0 so.1 now.0 now.1 c.hand_out.new.self c.in-Some.end c.hand_out.result at (rw (sym so.2) c.hand_out.ensures))

pub returns-in-Some-clause-kept : goal.returns-in-Some-clause-kept
returns-in-Some-clause-kept g c = λ other.
    let found = c.line_end.ensures in
    let held = ap (λ (r : Reader). r.held) (sym c.self.view_is) in
    kept_found _ _ _ _ c.in-Some.end (ap (position is_line_end) held ∙ sym found.place ∙ c.in-Some.is) c.loop-end.invariant.kept

-- one read more
pub loop-end-preserved : goal.loop-end-preserved
loop-end-preserved g c =
    let inside = c.self.inside in
    let found = c.line_end.ensures in
    let inv = c.loop-end.invariant in
    let so = inv.so_far in
    let fills = c.fill.ensures.fills in
    let parts : Reader = record { max_line = inside.max_line; max_input = inside.max_input; taken = inside.taken; held = inside.held; ahead = inside.ahead } in
    let now = same_reader _ _ _ _ parts c.line_end.new.self so.0 so.1 c.self.view_is found.same c.self.invariant so.3 in
    let none = no_end_from c.line_end.new.self (ap (position is_line_end) found.same ∙ sym found.place ∙ c.in_default.is) in
    let need = needed _ _ _ _ so.0 so.1 now.0 c.in-Open.is none in
    let mid = so_far_dropped _ _ _ _ so.0 so.1 now.0 now.1 c.drop_long-dropped.new.self c.drop_long-dropped.result c.in-Open.is none
    (λ short. let kept = c.drop_long-dropped.ensures.short (omega (arith, short, so.2)) in (kept.0 ∙ so.2, kept.1))
    (λ long. let let_go = c.drop_long-dropped.ensures.long (omega (arith, long, so.2)) in (omega (arith, let_go.0, so.2), let_go.1)) in
    let is_open = ap (λ (r : Reader). r.ahead) (sym c.self.view_is) ∙ c.in-Open.is in
    record {
      so_far = (so.0 ++ fills.0, mid.0, mid.1, so_far_more _ _ _ _ so.0 mid.0 mid.2 _ c.fill.new.self fills.0 mid.3 mid.6 mid.4 fills.1 c.fill.ensures.line c.fill.ensures.most);
      ready = λ some. absurd (need.0 some);
      settled = λ known. absurd (need.1 known);
      waits = waits_more g.S.Source.left g.S.Source.left_before _ _ _ _ _ so.0 so.1 now.0 c.in-Open.is none inv.waits c.fill.ensures.began;
      later = omega (arith, inv.later, c.fill.ensures.later);
      kept = kept_more _ _ _ _ (λ other. c.fill.ensures.kept other ∙ kept_unless _ _ _ _ (λ failed. let e = sym is_open ∙ failed in cc) inv.kept) (λ failed. rw (c.fill.ensures.still failed) mid.4);
      cause = λ failed. let rose = c.fill.ensures.cause failed in inr (omega (arith, inv.later, rose));
    }

-- the input is over
pub returns-in-Over-clause-hands : goal.returns-in-Over-clause-hands
returns-in-Over-clause-hands g c =
    let inside = c.self.inside in
    let found = c.line_end.ensures in
    let so = c.loop-end.invariant.so_far in
    let parts : Reader = record { max_line = inside.max_line; max_input = inside.max_input; taken = inside.taken; held = inside.held; ahead = inside.ahead } in
    let now = same_reader _ _ _ _ parts c.line_end.new.self so.0 so.1 c.self.view_is found.same c.self.invariant so.3 in
    let none = no_end_from c.line_end.new.self (ap (position is_line_end) found.same ∙ sym found.place ∙ c.in_default.is) in (
      so.0,
      hands_last _ _ _ _ so.0 so.1 now.0 now.1 c.last.new.self c.last.result c.in-Over.is none
          (λ empty. c.last.ensures.none (omega (arith, empty, so.2))) (λ some. rw (sym so.2) (c.last.ensures.some (omega (arith, some, so.2)))),
    )

pub returns-in-Over-clause-kept : goal.returns-in-Over-clause-kept
returns-in-Over-clause-kept g c = λ other.
    let is_over = ap (λ (r : Reader). r.ahead) (sym c.self.view_is) ∙ c.in-Over.is in
    kept_unless _ _ _ _ (λ failed. let e = sym is_over ∙ failed in cc) c.loop-end.invariant.kept

-- a fault is known
pub returns-in-Failed-clause-hands : goal.returns-in-Failed-clause-hands
returns-in-Failed-clause-hands g c =
    let inside = c.self.inside in
    let found = c.line_end.ensures in
    let so = c.loop-end.invariant.so_far in
    let parts : Reader = record { max_line = inside.max_line; max_input = inside.max_input; taken = inside.taken; held = inside.held; ahead = inside.ahead } in
    let now = same_reader _ _ _ _ parts c.line_end.new.self so.0 so.1 c.self.view_is found.same c.self.invariant so.3 in
    let none = no_end_from c.line_end.new.self (ap (position is_line_end) found.same ∙ sym found.place ∙ c.in_default.is) in
    (so.0, hands_fault _ _ _ _ so.0 so.1 now.0 now.1 c.in-Failed.fault c.in-Failed.is none)

pub returns-in-Failed-clause-kept : goal.returns-in-Failed-clause-kept
returns-in-Failed-clause-kept g c = λ other.
    let is_failed = ap (λ (r : Reader). r.ahead) (sym c.self.view_is) ∙ c.in-Failed.is in
    kept_unless _ _ _ _ (λ failed. let read : Failed c.in-Failed.fault ≡ Failed Read = sym is_failed ∙ failed in let same : c.in-Failed.fault ≡ Read = cc in other (ap (λ fault. Err fault) same)) c.loop-end.invariant.kept
