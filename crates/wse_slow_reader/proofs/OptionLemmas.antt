-- What holds of the value of an option or a result.
use Rattle.std.proofs.Common.{◌≡◌, None, subst}
use Rattle.std.specs.Prelude.{Option, Some, IfSome, IfNone, Result, Ok, Err, IfOk}

pub some_of : {X : Type 0} (P : X → Type 0) (o : Option X) (x : X) → o ≡ Some x → IfSome o P → P x
some_of P o x is h = subst (λ y. IfSome y P) is h

pub none_of : {X : Type 0} (P : Type 0) (o : Option X) → o ≡ None → IfNone o P → P
none_of P o is h = subst (λ y. IfNone y P) is h

pub ok_map : {X E : Type 0} (P Q : X → Type 0) (result : Result X E) → ((x : X) → P x → Q x) → IfOk result P → IfOk result Q
ok_map P Q (Ok x) f h = f x h
ok_map P Q (Err e) f h = tt
