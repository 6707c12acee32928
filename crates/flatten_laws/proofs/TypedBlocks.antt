-- The flat parts of typed blocks are typed.
use Rattle.std.proofs.Common.{◌≡◌, ℕ, suc, ◌≤◌, List, [], ◌∷◌, Some, refl, arith}
use Rattle.nres_rules.specs.FlatTyped.{Scope, Profile, scope_next, profile_at}
use Rattle.nres_rules.specs.Flatten as fl
use Rattle.nres_rules.specs.Flatten.{flat_exp, flat_exps, flat_blk, flat_steps, flat_bod, arg_of, place_of, scoped, fresh, beyond, vars, unnamed, first_name}
use Rattle.nres_core.specs.Tree as t
use Rattle.nres_core.specs.Tree.{Exps, Blk, Steps, Bod}
use Rattle.nres_rules.specs.Typed as td
use Rattle.nres_rules.specs.Typed.{scope_with, profile_of}
use Rattle.nres_rules.specs.Types as ts
use Rattle.nres_core.specs.declared.flat.Arg.TheVariants as a
use Rattle.nres_core.specs.declared.op.Op.{Op}
use Rattle.nres_core.specs.declared.place.Named.{Named}
use Rattle.nres_core.specs.declared.ty.Ty.{Ty}
use Rattle.nres_core.specs.declared.ty.Ty.TheVariants as ty
use Rattle.flatten_laws.proofs.TypedBodies.{BlockTyped, in_order_typed, asserted_typed, take_typed, call_typed, if_typed, while_typed, par_typed, either_typed, split_typed, foreach_typed, counted, turning}
use Rattle.flatten_laws.proofs.TypedExps.{exp_typed, exps_typed, exp_straight}
use Rattle.flatten_laws.proofs.TypedParts.{PartsTyped, single_typed, any_typed}
use Rattle.flatten_laws.proofs.TypedScopes.{Below, grown_on, still, below_more, put_here, put_grown, all_keep, vars_have, vars_before, fresh_grown, last_grown, Aligned, aligned_on, arg_has, scoped_aligned}
use Rattle.typing_laws.specs.TypedTrees as has
use Rattle.typing_laws.specs.TypedTrees.{BlkHas, StepsHave, BodHas}
use Rattle.typing_laws.proofs.TypedLemmas.{Fits, fits}

module _ (procs : List ts.Profile) (flat : List Profile) (number : List ℕ → ℕ) (agree : (x : List ℕ) (q : ts.Profile) → profile_of procs x ≡ Some q → profile_at flat (number x) ≡ Some (q.takes, q.gives)) where
  mutual
    pub blk_typed : (b : Blk Op) (g : td.Scope) (s : fl.Scope) (d : Scope) (k : ℕ) (us : List Ty) → BlkHas procs g b us → Aligned g s d → Below k d → BlockTyped flat (flat_blk number b s k) us d k
    blk_typed (t.Returns ss p es) g s d k us (has.returns h) l b = steps_typed ss es g s d k us h l b

    steps_typed : (ss : Steps Op) (es : Exps Op) (g : td.Scope) (s : fl.Scope) (d : Scope) (k : ℕ) (us : List Ty) → StepsHave procs g ss es us → Aligned g s d → Below k d
        → BlockTyped flat (flat_steps number ss es s k) us d k
    steps_typed t.No_step es g s d k us (has.ends h) l b = record { some = h.some; are = exps_typed flat es g s d k us h.are l b }
    steps_typed (t.Bind xs p x ss) es g s d k us (has.binds {ws = ws} first pattern rest) l b =
        let fit = fits xs ws pattern in
        let part = flat_bod number x s xs k in
        let one = bod_typed x g s d xs k ws first l b fit in
        let two = steps_typed ss es (scope_with xs ws g) (scoped xs part.args s) one.after part.next us rest
        (scoped_aligned xs ws part.args g s one.after fit.count one.args (aligned_on one.grown g s l)) one.grown.below in
        in_order_typed flat part _ ws us d k one two
    steps_typed (t.Assert p e ss) es g s d k us (has.asserts test rest) l b =
        let one = exp_typed flat e g s d unnamed k ty.Bool test l b in
        let later = below_more k (flat_exp e s unnamed k).next d one.grown.grows b in
        asserted_typed flat p _ _ us d k b one (exp_straight e s unnamed k) (steps_typed ss es g s d (flat_exp e s unnamed k).next us rest l later)

    bod_typed : (x : Bod Op) (g : td.Scope) (s : fl.Scope) (d : Scope) (xs : List Named) (k : ℕ) (us : List Ty) → BodHas procs g x us → Aligned g s d → Below k d → Fits xs us
        → PartsTyped flat (flat_bod number x s xs k) us d k
    bod_typed (t.Value e) g s d xs k us (has.value {u = u} h) l b fit = single_typed flat _ u d k (exp_typed flat e g s d (first_name xs) k u h l b)
    bod_typed (t.Take p op e) g s d xs k us (has.takes {u = u} taker from h) l b fit =
        take_typed flat p op xs _ u d k (exp_typed flat e g s d unnamed k u h l b) taker from fit
    bod_typed (t.Any p x y) g s d xs k us (has.any left right) l b fit =
        let one = exp_typed flat x g s d unnamed k ty.Nat left l b in
        let two = exp_typed flat y g s one.after unnamed (flat_exp x s unnamed k).next ty.Nat right (aligned_on one.grown g s l) one.grown.below in
        any_typed flat p (first_name xs) _ _ d k one two
    bod_typed (t.If p e x y) g s d xs k us (has.choice test left right) l b fit =
        let one = exp_typed flat e g s d unnamed k ty.Bool test l b in
        let l' = aligned_on one.grown g s l in
        let m = (flat_exp e s unnamed k).next in
        let two = blk_typed x g s one.after m us left l' one.grown.below in
        let n = (flat_blk number x s m).next in
        let three = blk_typed y g s one.after n us right l' (below_more m n one.after two.are.grown.grows one.grown.below) in
        if_typed flat p xs _ (place_of x) _ (place_of y) _ us d k one two three fit
    bod_typed (t.While p ys q es e x) g s d xs k us (has.loop begins pattern test turn) l b fit =
        let starts = fits ys us pattern in
        let one = exps_typed flat es g s d k us begins.are l b in
        let m = (flat_exps es s k).next in
        let j = beyond ys m in
        let inner = scope_next us m one.after in
        let entry = fresh_grown ys us m one.after starts.count one.grown.below in
        let g' = scope_with ys us g in
        let s' = scoped ys (vars (fresh ys m)) s in
        let l' = scoped_aligned ys us (vars (fresh ys m)) g s inner starts.count (vars_have ys us m one.after starts.count one.grown.below) (aligned_on (grown_on one.grown entry) g s l) in
        let two = exp_typed flat e g' s' inner unnamed j ty.Bool test l' entry.below in
        let n = (flat_exp e s' unnamed j).next in
        let three = blk_typed x g' s' inner n us turn l' (below_more j n inner two.grown.grows entry.below) in
        while_typed flat p xs ys _ _ (place_of x) _ us d k one starts two three fit
    bod_typed (t.Par p x y) g s d xs k us (has.pair {us = vs} {ws = ws} left right) l b fit =
        let one = blk_typed x g s d k vs left l b in
        let n = (flat_blk number x s k).next in
        let two = blk_typed y g s d n ws right l (below_more k n d one.are.grown.grows b) in
        par_typed flat p xs _ (place_of x) _ (place_of y) _ vs ws d k b one two fit
    bod_typed (t.Split p z e x u y v) g s d xs k us (has.parts {us = vs} {ws = ws} list at left begins right begins') l b fit =
        let gl = (x.name, ty.List) ∷ g in
        let gr = (y.name, ty.List) ∷ g in
        let one = exp_typed flat e g s d unnamed k ty.Nat at l b in
        let l' = aligned_on one.grown g s l in
        let m = (flat_exp e s unnamed k).next in
        let put = put_grown m ty.List one.after one.grown.below in
        let two = blk_typed u gl ((x.name, a.Var m) ∷ s) ((m, ty.List) ∷ one.after) (suc m) vs left (refl, put_here m ty.List one.after, aligned_on {d = one.after} {d' = (m, ty.List) ∷ one.after} put g s l') put.below in
        let n = (flat_blk number u ((x.name, a.Var m) ∷ s) (suc m)).next in
        let le : m ≤ n = omega (arith, two.are.grown.grows) in
        let put' = put_grown n ty.List one.after (below_more m n one.after le one.grown.below) in
        let three = blk_typed v gr ((y.name, a.Var n) ∷ s) ((n, ty.List) ∷ one.after) (suc n) ws right (refl, put_here n ty.List one.after, aligned_on {d = one.after} {d' = (n, ty.List) ∷ one.after} put' g s l') put'.below in
        split_typed flat p xs _ (arg_of s z.name) _ (place_of u) _ (place_of v) _ vs ws d k one (arg_has g s one.after z.name ty.List l' list) two three begins begins' fit
    bod_typed (t.Either p x y) g s d xs k us (has.either left right) l b fit =
        let one = blk_typed x g s d k us left l b in
        let n = (flat_blk number x s k).next in
        let two = blk_typed y g s d n us right l (below_more k n d one.are.grown.grows b) in
        either_typed flat p xs _ (place_of x) _ (place_of y) _ us d k b one two fit
    bod_typed (t.Foreach p x z ys q es y) g s d xs k us (has.each set begins pattern turn) l b fit =
        let starts = fits ys us pattern in
        let list = put_grown k ty.List d b in
        let number' = put_grown (suc k) ty.Nat ((k, ty.List) ∷ d) list.below in
        let before = grown_on list number' in
        let one = exps_typed flat es g s (counted flat d k) (suc (suc k)) us begins.are (aligned_on before g s l) before.below in
        let m = (flat_exps es s (suc (suc k))).next in
        let i = beyond ys m in
        let inner = turning flat us m one.after in
        let entry = last_grown ys us ty.Nat m one.after starts.count one.grown.below in
        let element = put_grown (suc (suc i)) ty.Nat inner (below_more (suc i) (suc (suc i)) inner (omega arith) entry.below) in
        let d' : Scope = (suc (suc i), ty.Nat) ∷ inner in
        let all = grown_on before (grown_on one.grown (grown_on entry (grown_on (still entry.below (put_grown (suc i) ty.Nat inner entry.below)) element))) in
        let s' = (x.name, a.Var (suc (suc i))) ∷ s in
        let vs = vars (fresh ys m) in
        let l' = scoped_aligned ys us vs ((x.name, ty.Nat) ∷ g) s' d' starts.count (all_keep element vs us (vars_before ys us (ty.Nat ∷ []) m one.after starts.count one.grown.below))
        (refl, put_here (suc (suc i)) ty.Nat inner, aligned_on all g s l) in
        let two = blk_typed y (scope_with ys us ((x.name, ty.Nat) ∷ g)) (scoped ys vs s') d' (suc (suc (suc i))) us turn l' element.below in
        foreach_typed flat p xs ys x.name (arg_of s z.name) k _ (place_of y) _ us d b (arg_has g s d z.name ty.Set l set) one starts two fit
    bod_typed (t.Call p f es) g s d xs k us (has.calls {h = q} there args) l b fit =
        call_typed flat p (number f.name) xs _ q.takes q.gives d k (exps_typed flat es g s d k q.takes args l b) (agree f.name q there) fit
