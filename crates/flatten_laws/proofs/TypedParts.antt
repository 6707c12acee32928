-- Parts of a flat tree that are typed, and the binds that join them.
use Rattle.std.proofs.Common.{◌≡◌, ℕ, suc, true, List, [], ◌∷◌, Option, Some, refl, ap, ◌∙◌, arith}
use Rattle.target_code.specs.declared.tree.Calc.{Calc}
use Rattle.target_code.specs.declared.tree.Rep.{Rep}
use Rattle.nres_core.specs.FlatTree as f
use Rattle.nres_core.specs.FlatTree.{Binds, ◌+++◌}
use Rattle.nres_rules.specs.FlatTyped.{Scope, Profile, arg_ty, calc_ty, binding, binds_ty}
use Rattle.nres_rules.specs.Flatten.{Part, Parts, none, calc_part, apply_part, also, single, any_parts}
use Rattle.nres_rules.specs.Typed.{op_takes, op_gives, maker, made_right}
use Rattle.nres_core.specs.declared.flat.Arg.{Arg}
use Rattle.nres_core.specs.declared.op.Op.{Op}
use Rattle.nres_core.specs.declared.place.Place.{Place}
use Rattle.nres_core.specs.declared.ty.Ty.{Ty}
use Rattle.nres_core.specs.declared.ty.Ty.TheVariants as ty
use Rattle.flatten_laws.proofs.TypedBinds.{behind}
use Rattle.flatten_laws.proofs.TypedScopes.{Below, Grown, grown_on, stays, put_here, put_grown, AllHave, args_have, arg_keeps, one_bound}
use Rattle.typing_laws.proofs.TypedLemmas.{types_themselves}

module _ (procs : List Profile) where
  -- a part's binds are typed from a scope and a number on, and its argument has this type behind them
  pub record PartTyped (p : Part) (u : Ty) (d : Scope) (k : ℕ) : Type 0 where
    pub after : Scope
    pub binds : binds_ty procs p.binds d k ≡ Some (after, p.next)
    pub arg : arg_ty after p.arg ≡ Some u
    pub grown : Grown d k after p.next

  pub record PartsTyped (p : Parts) (us : List Ty) (d : Scope) (k : ℕ) : Type 0 where
    pub after : Scope
    pub binds : binds_ty procs p.binds d k ≡ Some (after, p.next)
    pub args : AllHave after p.args us
    pub grown : Grown d k after p.next

  -- ---- single binds

  pub calc_step : (p : Place) (w : Calc) (x y : Arg) (rest : Binds) (u z o : Ty) (d : Scope) (k : ℕ)
      → arg_ty d x ≡ Some u → arg_ty d y ≡ Some z → calc_ty w (Some u) (Some z) ≡ Some o → binds_ty procs (f.Calc_to p k w x y rest) d k ≡ binds_ty procs rest ((k, o) ∷ d) (suc k)
  calc_step p w x y rest u z o d k hx hy e = rw (hx, hy, e, one_bound o d k) refl

  pub apply_step : (p : Place) (to : List ℕ) (op : Op) (made : Option Rep) (us : List Arg) (rest : Binds) (d d' : Scope) (k k' : ℕ)
      → AllHave d us (op_takes op) → made_right (maker op) made ≡ true → binding to (op_gives op) d k ≡ Some (d', k')
      → binds_ty procs (f.Apply_to p to op made us rest) d k ≡ binds_ty procs rest d' k'
  apply_step p to op made us rest d d' k k' h m b = rw (args_have d us (op_takes op) h, types_themselves (op_takes op), m, b) refl

  any_step : (p : Place) (x y : Arg) (rest : Binds) (d : Scope) (k : ℕ)
      → arg_ty d x ≡ Some ty.Nat → arg_ty d y ≡ Some ty.Nat → binds_ty procs (f.Any p k x y rest) d k ≡ binds_ty procs rest ((k, ty.Nat) ∷ d) (suc k)
  any_step p x y rest d k hx hy = rw (hx, hy, one_bound ty.Nat d k) refl

  -- ---- expressions

  pub none_typed : (x : Arg) (u : Ty) (d : Scope) (k : ℕ) → Below k d → arg_ty d x ≡ Some u → PartTyped (none k x) u d k
  none_typed x u d k b h = record { after = d; binds = refl; arg = h; grown = stays d k k (omega arith) b }

  pub calc_typed : (p : Place) (w : Calc) (x : List ℕ) (l r : Part) (u z o : Ty) (d : Scope) (k : ℕ) (one : PartTyped l u d k) → PartTyped r z one.after l.next
      → calc_ty w (Some u) (Some z) ≡ Some o → PartTyped (calc_part p w x l r) o d k
  calc_typed p w x l r u z o d k one two e =
      let last = f.Calc_to p r.next w l.arg r.arg f.No_bind in
      record {
        after = (r.next, o) ∷ two.after;
        binds = behind procs l.binds (r.binds +++ last) d k one.after l.next _ one.binds
            (behind procs r.binds last one.after l.next two.after r.next _ two.binds (calc_step p w l.arg r.arg f.No_bind u z o two.after r.next (arg_keeps two.grown l.arg u one.arg) two.arg e));
        arg = put_here r.next o two.after;
        grown = grown_on one.grown (grown_on two.grown (put_grown r.next o two.after two.grown.below));
      }

  pub apply_typed : (p : Place) (op : Op) (made : Option Rep) (x : List ℕ) (us : Parts) (u : Ty) (d : Scope) (k : ℕ) → PartsTyped us (op_takes op) d k
      → made_right (maker op) made ≡ true → op_gives op ≡ u ∷ [] → PartTyped (apply_part p op made x us) u d k
  apply_typed p op made x us u d k one m e =
      let last = f.Apply_to p (us.next ∷ []) op made us.args f.No_bind in
      let bound = ap (λ ws. binding (us.next ∷ []) ws one.after us.next) e ∙ one_bound u one.after us.next in
      record {
        after = (us.next, u) ∷ one.after;
        binds = behind procs us.binds last d k one.after us.next _ one.binds (apply_step p (us.next ∷ []) op made us.args f.No_bind one.after _ us.next _ one.args m bound);
        arg = put_here us.next u one.after;
        grown = grown_on one.grown (put_grown us.next u one.after one.grown.below);
      }

  pub also_typed : (l : Part) (r : Parts) (u : Ty) (us : List Ty) (d : Scope) (k : ℕ) (one : PartTyped l u d k) → PartsTyped r us one.after l.next → PartsTyped (also l r) (u ∷ us) d k
  also_typed l r u us d k one two = record {
    after = two.after;
    binds = behind procs l.binds r.binds d k one.after l.next _ one.binds two.binds;
    args = (arg_keeps two.grown l.arg u one.arg, two.args);
    grown = grown_on one.grown two.grown;
  }

  pub single_typed : (e : Part) (u : Ty) (d : Scope) (k : ℕ) → PartTyped e u d k → PartsTyped (single e) (u ∷ []) d k
  single_typed e u d k one = record { after = one.after; binds = one.binds; args = (one.arg, tt); grown = one.grown }

  pub any_typed : (p : Place) (x : List ℕ) (l r : Part) (d : Scope) (k : ℕ) (one : PartTyped l ty.Nat d k) → PartTyped r ty.Nat one.after l.next → PartsTyped (any_parts p x l r) (ty.Nat ∷ []) d k
  any_typed p x l r d k one two =
      let last = f.Any p r.next l.arg r.arg f.No_bind in
      record {
        after = (r.next, ty.Nat) ∷ two.after;
        binds = behind procs l.binds (r.binds +++ last) d k one.after l.next _ one.binds
            (behind procs r.binds last one.after l.next two.after r.next _ two.binds (any_step p l.arg r.arg f.No_bind two.after r.next (arg_keeps two.grown l.arg ty.Nat one.arg) two.arg));
        args = (put_here r.next ty.Nat two.after, tt);
        grown = grown_on one.grown (grown_on two.grown (put_grown r.next ty.Nat two.after two.grown.below));
      }
