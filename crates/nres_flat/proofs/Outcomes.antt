-- What holds of a result holds of what follows from it.
use Rattle.std.proofs.Common.{Result, Ok, Err, IfOk, OnOk}

pub always_ok : {A E Q : Type 0} (r : Result A E) → Q → OnOk r Q
always_ok (Ok x) q = q
always_ok (Err e) q = tt

pub on_ok : {A E P Q : Type 0} (r : Result A E) → (P → Q) → OnOk r P → OnOk r Q
on_ok (Ok x) f p = f p
on_ok (Err e) f p = tt

pub if_ok : {A E : Type 0} {P Q : A → Type 0} (r : Result A E) → ((x : A) → P x → Q x) → IfOk r P → IfOk r Q
if_ok (Ok x) f p = f x p
if_ok (Err e) f p = tt

pub so_on_ok : {A E Q : Type 0} {P : A → Type 0} (r : Result A E) → ((x : A) → P x → Q) → IfOk r P → OnOk r Q
so_on_ok (Ok x) f p = f x p
so_on_ok (Err e) f p = tt

-- of three facts
pub if_all_ok : {A E B C : Type 0} {P Q : A → Type 0} (r : Result A E) → ((x : A) → P x → B → C → Q x) → IfOk r P → OnOk r B → OnOk r C → IfOk r Q
if_all_ok (Ok x) f p b c = f x p b c
if_all_ok (Err e) f p b c = tt
