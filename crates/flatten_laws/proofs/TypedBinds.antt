-- Binds behind others.
use Rattle.std.proofs.Common.{◌≡◌, ℕ, suc, nat_eq, ◌&&◌, true, List, [], ◌∷◌, ◌++◌, Option, Some, None, refl, ap, ◌∙◌}
use Rattle.nres_core.specs.FlatTree as f
use Rattle.nres_core.specs.FlatTree.{Binds, ◌+++◌}
use Rattle.nres_rules.specs.FlatTyped.{Scope, State, Profile, var_ty, arg_ty, args_ty, calc_ty, binding, ended, profile_at, is_straight, binds_ty}
use Rattle.nres_rules.specs.Typed.{op_takes, op_gives, maker, made_right, same_types, when, and_then, is_one, are_these, tail_of, begins_with_list}
use Rattle.nres_core.specs.declared.ty.Ty.TheVariants as ty

pub straight_append : (bs cs : Binds) → is_straight bs ≡ true → is_straight cs ≡ true → is_straight (bs +++ cs) ≡ true
straight_append f.No_bind cs h k = k
straight_append (f.Calc_to p to w x y rest) cs h k = straight_append rest cs h k
straight_append (f.Apply_to p to op made us rest) cs h k = straight_append rest cs h k
straight_append bs cs h k = absurd (cc)

-- a step before what follows, grouped otherwise
then_on : {A : Type 0} (o : Option A) (f f' : A → Option State) (g : State → Option State) → ((x : A) → f' x ≡ and_then (f x) g) → and_then o f' ≡ and_then (and_then o f) g
then_on None f f' g h = refl
then_on (Some x) f f' g h = h x

module _ (procs : List Profile) where
  append_ty : (bs cs : Binds) (s : Scope) (k : ℕ) → binds_ty procs (bs +++ cs) s k ≡ and_then (binds_ty procs bs s k) (λ z. binds_ty procs cs z.0 z.1)
  append_ty f.No_bind cs s k = refl
  append_ty (f.Calc_to p to w x y rest) cs s k =
      then_on (calc_ty w (arg_ty s x) (arg_ty s y)) _ _ _ (λ u. then_on (binding (to ∷ []) (u ∷ []) s k) _ _ _ (λ z. append_ty rest cs z.0 z.1))
  append_ty (f.Apply_to p to op made us rest) cs s k =
      then_on (when (are_these (op_takes op) (args_ty s us) && made_right (maker op) made) (op_gives op)) _ _ _ (λ ws. then_on (binding to ws s k) _ _ _ (λ z. append_ty rest cs z.0 z.1))
  append_ty (f.Assert p inner x rest) cs s k =
      then_on (binds_ty procs inner s k) _ _ _ (λ z. then_on (when (is_straight inner && is_one ty.Bool (arg_ty z.0 x)) z.1) _ _ _ (λ j. append_ty rest cs s j))
  append_ty (f.If p to x l le r re rest) cs s k =
      then_on (when (is_one ty.Bool (arg_ty s x)) k) _ _ _ (λ k. then_on (ended le (binds_ty procs l s k)) _ _ _ (λ us. then_on (ended re (binds_ty procs r s us.1)) _ _ _ (λ ws.
      then_on (when (same_types us.0 ws.0) us.0) _ _ _ (λ ts. then_on (binding to ts s ws.1) _ _ _ (λ z. append_ty rest cs z.0 z.1)))))
  append_ty (f.While p to xs us test x b be rest) cs s k =
      then_on (args_ty s us) _ _ _ (λ ts. then_on (binding xs ts s k) _ _ _ (λ z. then_on (binds_ty procs test z.0 z.1) _ _ _ (λ y.
      then_on (when (is_one ty.Bool (arg_ty y.0 x)) y.1) _ _ _ (λ j. then_on (ended be (binds_ty procs b z.0 j)) _ _ _ (λ ws.
      then_on (when (same_types ts ws.0) ts) _ _ _ (λ ts. then_on (binding to ts s ws.1) _ _ _ (λ z. append_ty rest cs z.0 z.1)))))))
  append_ty (f.Par p to l le r re rest) cs s k =
      then_on (ended le (binds_ty procs l s k)) _ _ _ (λ us. then_on (ended re (binds_ty procs r s us.1)) _ _ _ (λ ws.
      then_on (binding to (us.0 ++ ws.0) s ws.1) _ _ _ (λ z. append_ty rest cs z.0 z.1)))
  append_ty (f.Split p to list at i l le j r re rest) cs s k =
      then_on (when (is_one ty.List (var_ty s list) && (is_one ty.Nat (arg_ty s at) && nat_eq i k)) (suc k)) _ _ _ (λ k.
      then_on (ended le (binds_ty procs l ((i, ty.List) ∷ s) k)) _ _ _ (λ us. then_on (when (begins_with_list us.0 && nat_eq j us.1) (suc us.1)) _ _ _ (λ k.
      then_on (ended re (binds_ty procs r ((j, ty.List) ∷ s) k)) _ _ _ (λ ws. then_on (when (begins_with_list ws.0) ws.1) _ _ _ (λ k.
      then_on (binding to (ty.List ∷ (tail_of us.0 ++ tail_of ws.0)) s k) _ _ _ (λ z. append_ty rest cs z.0 z.1))))))
  append_ty (f.Either p to l le r re rest) cs s k =
      then_on (ended le (binds_ty procs l s k)) _ _ _ (λ us. then_on (ended re (binds_ty procs r s us.1)) _ _ _ (λ ws.
      then_on (when (same_types us.0 ws.0) us.0) _ _ _ (λ ts. then_on (binding to ts s ws.1) _ _ _ (λ z. append_ty rest cs z.0 z.1))))
  append_ty (f.Any p to x y rest) cs s k =
      then_on (when (is_one ty.Nat (arg_ty s x) && is_one ty.Nat (arg_ty s y)) ty.Nat) _ _ _ (λ u. then_on (binding (to ∷ []) (u ∷ []) s k) _ _ _ (λ z. append_ty rest cs z.0 z.1))
  append_ty (f.Call p to g us rest) cs s k =
      then_on (profile_at procs g) _ _ _ (λ q. then_on (when (are_these q.0 (args_ty s us)) q.1) _ _ _ (λ ts. then_on (binding to ts s k) _ _ _ (λ z. append_ty rest cs z.0 z.1)))

  -- from one state to the next
  pub behind : (bs cs : Binds) (s : Scope) (k : ℕ) (s' : Scope) (k' : ℕ) (o : Option State) → binds_ty procs bs s k ≡ Some (s', k') → binds_ty procs cs s' k' ≡ o → binds_ty procs (bs +++ cs) s k ≡ o
  behind bs cs s k s' k' o h e = append_ty bs cs s k ∙ ap (λ z. and_then z (λ z. binds_ty procs cs z.0 z.1)) h ∙ e
