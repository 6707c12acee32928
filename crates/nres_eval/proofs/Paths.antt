-- The path of the first choices, part by part.
use Rattle.std.proofs.Common.{◌≡◌, ℕ, ◌+◌, ◌<◌, List, [], ◌∷◌, ◌++◌, length, drop, get_or, append_assoc, add-one, drop-cons, Result, Ok, Err, refl, sym, ap, ◌∙◌, subst}
use Rattle.std.specs.Result.{IsErrAnd}
use Rattle.std.proofs.lemmas.Result.{err_from_is_err_and}
use Rattle.nres_core.specs.Runs.{Runs, Done, Failed, Over, Choose, ◌>>=◌, End, Gave, Fell, Late, first_path, first_of}
use Rattle.nres_eval.specs.declared.end.EvalEnd.{EvalEnd}
use Rattle.nres_eval.specs.declared.end.EvalEnd.TheVariants as e
use Rattle.nres_eval.specs.Ends.{Leads, Tells, onto}

-- the end of a path whose first part ends so
unfoldable pub behind : {A B : Type 0} → End A → (A → End B) → End B
behind (Gave a) f = f a
behind (Fell l) f = Fell l
behind (Late l) f = Late l

pub first_bind : {A B : Type 0} (r : Runs A) (f : A → Runs B) → first_path (r >>= f) ≡ behind (first_path r) (λ a. first_path (f a))
unfolding behind
first_bind (Done a) f = refl
first_bind (Failed l) f = refl
first_bind (Over l) f = refl
first_bind (Choose c k) f = first_bind (k (first_of c)) f

pub at_gave : {A B : Type 0} (a : A) (f : A → End B) → behind (Gave a) f ≡ f a
unfolding behind
at_gave a f = refl

-- a part behind a part behind a part
pub regroup : {A B C : Type 0} (end : End A) (f : A → End B) (g : B → End C) → behind (behind end f) g ≡ behind end (λ a. behind (f a) g)
unfolding behind
regroup (Gave a) f g = refl
regroup (Fell l) f g = refl
regroup (Late l) f g = refl

-- the first part gave a value
pub next : {A B : Type 0} {all : End B} {end : End A} (f : A → End B) {a : A} → all ≡ behind end f → end ≡ Gave a → all ≡ f a
unfolding behind
next f h k = h ∙ ap (λ z. behind z f) k

-- the first part ended otherwise
stays : {A B : Type 0} {all : End B} (end : End A) (f : A → End B) (x : EvalEnd) → all ≡ behind end f → Tells {A = A} (Err x) end → Tells {A = B} (Err x) all
unfolding behind
stays end f (e.Fails l) h k = h ∙ ap (λ z. behind z f) k
stays end f (e.OutOfTurns l) h k = h ∙ ap (λ z. behind z f) k
stays end f e.Memory h k = tt

-- the exit of a `?`
pub stop : {A B : Type 0} {all : End B} (end : End A) (f : A → End B) (x : EvalEnd) (res : Result B EvalEnd) → all ≡ behind end f → IsErrAnd res (λ y. y ≡ x) → Tells {A = A} (Err x) end → Tells res all
stop {all = all} end f x res h err t = let p = err_from_is_err_and res err in subst (λ z. Tells z all) (sym (p.1 ∙ ap Err p.2)) (stays end f x h t)

-- the same of a step before others
leads_on : (A : Type 0) {B : Type 0} (all : End B) (x : EvalEnd) (later : End B) → Tells {A = B} (Err x) all → Leads {A = A} (Err x) later all
leads_on A all (e.Fails l) later h = h
leads_on A all (e.OutOfTurns l) later h = h
leads_on A all e.Memory later h = tt

pub halts : {A B C : Type 0} {all : End B} (end : End A) (f : A → End B) (x : EvalEnd) (res : Result C EvalEnd) (later : End B) → all ≡ behind end f → IsErrAnd res (λ y. y ≡ x) → Tells {A = A} (Err x) end → Leads res later all
halts {C = C} {all = all} end f x res later h err t = let p = err_from_is_err_and res err in subst (λ z. Leads z later all) (sym (p.1 ∙ ap Err p.2)) (leads_on C all x later (stays end f x h t))

pub tells_all : (A : Type 0) {B : Type 0} (all : End B) (x : EvalEnd) (later : End B) → Leads {A = A} (Err x) later all → Tells {A = B} (Err x) all
tells_all A all (e.Fails l) later h = h
tells_all A all (e.OutOfTurns l) later h = h
tells_all A all e.Memory later h = tt

-- want of memory tells nothing
pub starved : {A B : Type 0} (later all : End B) (res : Result A EvalEnd) → IsErrAnd res (λ y. y ≡ e.Memory) → Leads res later all
starved later all res h = let p = err_from_is_err_and res h in subst (λ z. Leads z later all) (sym (p.1 ∙ ap Err p.2)) tt

-- the exit of a `?` at the end
pub exits : {A : Type 0} {all end : End A} (x : EvalEnd) (res : Result A EvalEnd) → all ≡ end → IsErrAnd res (λ y. y ≡ x) → Tells {A = A} (Err x) end → Tells res all
exits {all = all} x res h err t = let p = err_from_is_err_and res err in subst (λ z. Tells z all) (sym (p.1 ∙ ap Err p.2)) (subst (λ z. Tells (Err x) z) (sym h) t)

-- an answer tells of the same path
pub told : {A : Type 0} {all end : End A} (res : Result A EvalEnd) → all ≡ end → Tells res end → Tells res all
told res h t = subst (λ z. Tells res z) (sym h) t

-- values in front
put_front : {A : Type 0} (us : List A) (u : A) (end : End (List A)) → onto us (behind end (λ vs. Gave (u ∷ vs))) ≡ onto (us ++ u ∷ []) end
unfolding behind
put_front us u (Gave vs) = ap Gave (sym (append_assoc us (u ∷ []) vs))
put_front us u (Fell l) = refl
put_front us u (Late l) = refl

onto_behind : {A : Type 0} (us : List A) (first : End A) (rest : End (List A)) → onto us (behind first (λ u. behind rest (λ vs. Gave (u ∷ vs)))) ≡ behind first (λ u. onto (us ++ u ∷ []) rest)
unfolding behind
onto_behind us (Gave u) rest = put_front us u rest
onto_behind us (Fell l) rest = refl
onto_behind us (Late l) rest = refl

pub onto_one : {A : Type 0} (r : Runs A) (s : Runs (List A)) (us : List A) → onto us (first_path (r >>= λ x. s >>= λ xs. Done (x ∷ xs))) ≡ behind (first_path r) (λ u. onto (us ++ u ∷ []) (first_path s))
onto_one r s us =
    ap (onto us) (first_bind r (λ x. s >>= λ xs. Done (x ∷ xs)) ∙ (λ i. behind (first_path r) (λ u. first_bind s (λ xs. Done (u ∷ xs)) i)))
    ∙ onto_behind us (first_path r) (first_path s)

-- the next item of a list
pub next_item : {A : Type 0} (xs : List A) (i : ℕ) {x : A} → i < length xs → x ≡ get_or xs i x → drop i xs ≡ x ∷ drop (i + 1) xs
next_item xs i {x = x} h e = (rw add-one (drop-cons xs i x h)) ∙ ap (λ y. y ∷ drop (i + 1) xs) (sym e)
