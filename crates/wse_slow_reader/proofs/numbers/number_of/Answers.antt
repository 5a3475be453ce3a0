use Rattle.std.proofs.Common.{arith, rules}
use Rattle.std.proofs.lemmas.Nat.{be_bytes_4}
use Rattle.wse_slow_reader.proofs.numbers.number_of.Goals as goal

pub returns : goal.returns
returns c = be_bytes_4 c.args.bytes.now c.from_be_bytes.result (search rules) (λ i. omega (arith, c.fits-bytes i)) c.from_be_bytes.ensures
