-- A call that gives a value, or an error: the clauses of either case.
use Rattle.std.specs.Prelude.{Result, Ok, Err, OnErr, OnOk}

pub on_ok : {X E : Type 0} (r : Result X E) {P Q : Type 0} → (P → Q) → OnOk r P → OnOk r Q
on_ok (Ok x) f p = f p
on_ok (Err e) f p = tt

pub on_err : {X E : Type 0} (r : Result X E) {P Q : Type 0} → (P → Q) → OnErr r P → OnErr r Q
on_err (Ok x) f p = tt
on_err (Err e) f p = f p
