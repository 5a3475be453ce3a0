use Rattle.std.proofs.Common.{◌≡◌, Ok, refl, arith}
use Rattle.wse_codec.specs.Reading.{parts_at}
use Rattle.wse_codec.proofs.PartLemmas.{parts}
use Rattle.wse_codec.proofs.parts.take_parts.Goals as goal

pub returns-clause-rule : goal.returns-clause-rule
unfolding parts_at
returns-clause-rule c =
    let read : parts_at c.args.bytes.now ≡ Ok (c.new.result, c.in_ok-parts.rest.now) = rw (c.in_ok-count.ensures, c.in_ok-parts.ensures, c.new.ensures) refl in
    (parts.takes c.args.bytes.now (c.new.result, c.in_ok-parts.rest.now) (λ i. omega (arith, c.type_inv.bytes i)) read).1.parts
