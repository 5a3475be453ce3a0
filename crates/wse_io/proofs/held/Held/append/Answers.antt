use Rattle.std.proofs.Common.{◌≡◌, ◌++◌, drop, is_ok, cond, ap, not, true, ◌∙◌}
use Rattle.wse_io.proofs.HeldLemmas.{searched_more}
use Rattle.wse_io.proofs.held.Held.append.Goals as goal

pub invariant_of-self-else-is_err : goal.invariant_of-self-else-is_err
invariant_of-self-else-is_err c =
    let old = c.self.inside in
    let more = c.args.more.now in
    let ok : is_ok c.extend_from_slice.result ≡ true = c.is_err.ensures.negation ∙ ap not c.if-is_err.false in
    let items : c.extend_from_slice.new.self.items ≡ drop old.start old.bytes.items ++ more = c.extend_from_slice.ensures.items ∙ ap (λ t. cond t (c.drop_front.new.bytes.items ++ more) c.drop_front.new.bytes.items) ok ∙ ap (λ l. l ++ more) c.drop_front.ensures in
    rw items (searched_more old.bytes.items old.start old.searched c.self.invariant more)
