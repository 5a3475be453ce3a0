use Rattle.std.proofs.Common.{◌≡◌, ◌≤◌, ◌+◌, ◌-◌, ◌++◌, length, take, drop, refl, sym, ap, ◌∙◌, arith}
use Rattle.std.proofs.lemmas.List.{take_rest, drop-drop}
use Rattle.wse_io.specs.Mem.{MemSourceState}
use Rattle.wse_io.proofs.MemLemmas.{taken_front}
use Rattle.wse_io.proofs.mem.MemSourceSource.read.Goals as goal

pub returns-clause-taken : goal.returns-clause-taken
returns-clause-taken c =
    let inside = c.self.inside in
    let n = c.min-count.result in
    let left = drop inside.at inside.bytes.items in
    let rest : take (length c.deref.result.now - inside.at) (drop inside.at c.deref.result.now) ≡ left = take_rest c.deref.result.now inside.at ∙ ap (drop inside.at) c.deref.ensures.value in
    let within : n ≤ length left = omega (arith, c.min-count.ensures, ap length rest) in
    let copied : c.copy_from_slice.new.self ≡ take n left = c.copy_from_slice.ensures.after ∙ ap (take n) rest in (
      drop (inside.at + n) inside.bytes.items,
      refl,
      sym (ap (λ (s : MemSourceState). s.left) c.self.view_is)
          ∙ taken_front left c.copy_from_slice.new.self (drop n c.args.buf.now) n within copied
          ∙ ap (λ l. take n (c.copy_from_slice.new.self ++ drop n c.args.buf.now) ++ l) (drop-drop n inside.at inside.bytes.items),
    )
