-- Lines that are emitted in several pieces, and the numbers of statuses.
use Rattle.std.proofs.Common.{◌≡◌, ◌⊎◌, inl, inr, ℕ, List, ◌++◌, Option, Result, Ok, Err, refl, sym, ap, subst, ◌∙◌, arith, append_assoc}
use Rattle.std.specs.Prelude.{OnOk}
use Rattle.wse_path.specs.Causes.{Rose, HasCause}
use Rattle.wse_io.specs.Stream.{Piece, Adds, IsPrefix, bytes_of}
use Rattle.wse_io.proofs.StreamLemmas.{adds_more, bytes_of-append, prefix_of, prefix_behind}
use Rattle.wse_run.specs.End.{ending_of}
use Rattle.wse_run.specs.declared.end.RunEnd.{RunEnd}
use Rattle.wse_run.specs.declared.end.RunEnd.TheVariants.{Done, Read, Write, Disk, Memory, NotAStore, TooBig, InputLimit, Differs}
use Rattle.wsedit.specs.Status.{code_of, code_of_end, ending_by, IsStatus}
use Rattle.wsedit.specs.declared.status.Status.{Status}
use Rattle.wsedit.specs.declared.status.Status.TheVariants.{Words, Ran}

-- a whole first part, and a front of the rest
pub told_behind : (old mid new : Option (List Piece)) (ps qs : List Piece) (first rest : List ℕ) → Adds old mid ps → bytes_of ps ≡ first → Adds mid new qs → IsPrefix (bytes_of qs) rest
    → Adds old new (ps ++ qs) × IsPrefix (bytes_of (ps ++ qs)) (first ++ rest)
told_behind old mid new ps qs first rest a whole b front =
    (adds_more old mid new ps qs a b, subst (λ l. IsPrefix l (first ++ rest)) (sym (bytes_of-append ps qs ∙ ap (λ l. l ++ bytes_of qs) whole)) (prefix_behind first (bytes_of qs) rest front))

pub told_whole : (ps qs : List Piece) (first rest : List ℕ) → bytes_of ps ≡ first → bytes_of qs ≡ rest → bytes_of (ps ++ qs) ≡ first ++ rest
told_whole ps qs first rest a b = bytes_of-append ps qs ∙ ap (λ l. l ++ bytes_of qs) a ∙ ap (λ l. first ++ l) b

-- what was told so far, and a front of the next part
pub told_front : (old mid new : Option (List Piece)) (ps qs : List Piece) (part more whole : List ℕ) → Adds old mid ps → bytes_of ps ++ (part ++ more) ≡ whole → Adds mid new qs → IsPrefix (bytes_of qs) part
    → Adds old new (ps ++ qs) × IsPrefix (bytes_of (ps ++ qs)) whole
told_front old mid new ps qs part more whole a is b front =
    (adds_more old mid new ps qs a b, subst (λ l. IsPrefix l whole) (sym (bytes_of-append ps qs)) (subst (λ l. IsPrefix (bytes_of ps ++ bytes_of qs) l) is (prefix_behind (bytes_of ps) (bytes_of qs) (part ++ more) (prefix_of (bytes_of qs) part more front))))

-- what was told so far, and the whole next part
pub told_part : (old mid new : Option (List Piece)) (ps qs : List Piece) (part more whole : List ℕ) → Adds old mid ps → bytes_of ps ++ (part ++ more) ≡ whole → Adds mid new qs → bytes_of qs ≡ part
    → Adds old new (ps ++ qs) × (bytes_of (ps ++ qs) ++ more ≡ whole)
told_part old mid new ps qs part more whole a is b all =
    (adds_more old mid new ps qs a b, ap (λ l. l ++ more) (bytes_of-append ps qs ∙ ap (λ l. bytes_of ps ++ l) all) ∙ append_assoc (bytes_of ps) part more ∙ is)

-- all was told, or the sink failed
pub told_or_rose : {P T E : Type 0} (r : Result T E) (before now : ℕ) → OnOk r P → HasCause before now r → P ⊎ Rose before now
told_or_rose (Ok x) before now whole cause = inl whole
told_or_rose (Err e) before now whole cause = inr cause.failed

-- ---- numbers

pub is_status : (status : Status) → IsStatus (code_of status)
is_status Words = inr (inl refl)
is_status (Ran Done) = inl refl
is_status (Ran Read) = inr (inr (inl refl))
is_status (Ran Write) = inr (inr (inr (inl refl)))
is_status (Ran Disk) = inr (inr (inr (inr (inl refl))))
is_status (Ran Memory) = inr (inr (inr (inr (inr (inl refl)))))
is_status (Ran (NotAStore at)) = inr (inr (inr (inr (inr (inr (inl refl))))))
is_status (Ran (TooBig hit)) = inr (inr (inr (inr (inr (inr (inr (inl refl)))))))
is_status (Ran (InputLimit limit)) = inr (inr (inr (inr (inr (inr (inr (inr (inl refl))))))))
is_status (Ran (Differs p)) = inr (inr (inr (inr (inr (inr (inr (inr (inr refl))))))))

-- the number tells the same as the end
pub ending_code : (end : RunEnd) → ending_by (code_of_end end) ≡ ending_of end
ending_code Done = refl
ending_code Read = refl
ending_code Write = refl
ending_code Disk = refl
ending_code Memory = refl
ending_code (NotAStore at) = refl
ending_code (TooBig hit) = refl
ending_code (InputLimit limit) = refl
ending_code (Differs p) = refl

-- no end has the number of words that aren't understood
pub not_words : (end : RunEnd) → code_of_end end ≡ 2 → ⊥
not_words Done e = absurd (omega arith)
not_words Read e = absurd (omega arith)
not_words Write e = absurd (omega arith)
not_words Disk e = absurd (omega arith)
not_words Memory e = absurd (omega arith)
not_words (NotAStore at) e = absurd (omega arith)
not_words (TooBig hit) e = absurd (omega arith)
not_words (InputLimit limit) e = absurd (omega arith)
not_words (Differs p) e = absurd (omega arith)
