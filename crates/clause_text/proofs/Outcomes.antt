-- What holds of a result, or of its error.
use Rattle.std.proofs.Common.{Result, Ok, Err, IfOk, IfErr, IsErrAnd, OnOk}

pub on_err : {T E : Type 0} (r : Result T E) (P Q : E → Type 0) → IsErrAnd r P → ((e : E) → P e → Q e) → IfErr r Q
on_err (Ok x) P Q is next = tt
on_err (Err e) P Q is next = next e is

pub err_only : {T E : Type 0} (r : Result T E) (P Q : E → Type 0) → IfErr r P → ((e : E) → P e → Q e) → IfErr r Q
err_only (Ok x) P Q is next = tt
err_only (Err e) P Q is next = next e is

-- and of one that is none
pub ok_only : {T E : Type 0} (r : Result T E) (P Q : Type 0) → OnOk r P → (P → Q) → OnOk r Q
ok_only (Ok x) P Q is next = next is
ok_only (Err e) P Q is next = tt

pub ok_with : {T E : Type 0} (r : Result T E) (P Q : T → Type 0) → IfOk r P → ((x : T) → P x → Q x) → IfOk r Q
ok_with (Ok x) P Q is next = next x is
ok_with (Err e) P Q is next = tt
