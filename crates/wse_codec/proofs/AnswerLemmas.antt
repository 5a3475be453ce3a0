-- What the public readers answer where reading gives a value.
use Rattle.std.proofs.Common.{◌≡◌, ℕ, List, Result, Ok, Err, sym, ◌∙◌}
use Rattle.wse_codec.specs.declared.unread.Unread.{Unread}
use Rattle.wse_codec.specs.declared.unread.Unread.TheVariants as unread
use Rattle.wse_codec.specs.Gives.{Fails}
use Rattle.wse_codec.specs.Answers.{IsReading, refusal_in}

pub only_ok : {V : Type 0} (read : Result V ℕ) (v w : V) → read ≡ Ok v → read ≡ Ok w → IsReading (Ok v) (Ok w)
only_ok read v w a b = sym b ∙ a

pub only_err : {V : Type 0} (body : List ℕ) (why : Unread) (read : Result V ℕ) (w : V) → Fails why read → read ≡ Ok w → IsReading (Err (refusal_in body why)) (Ok w)
only_err body unread.Memory read w f e = tt
only_err body (unread.Wrong left) read w f e = absurd cc
