-- What follows from what holds of an answer that is Ok.
use Rattle.std.specs.Prelude.{Result, Ok, Err, OnOk}

pub ok_then : {T E : Type 0} (result : Result T E) (P Q : Type 0) → (P → Q) → OnOk result P → OnOk result Q
ok_then (Ok x) P Q f p = f p
ok_then (Err e) P Q f p = tt
