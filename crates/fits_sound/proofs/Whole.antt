-- The semantic theorem: what fits is sound.
use Rattle.std.proofs.Common.{◌≡◌, ℕ, suc, ◌<◌, ◌≤◌, length, List, [], ◌∷◌, arith, refl, sym, ap, ◌∙◌, subst}
use Rattle.std.specs.Prelude.{Option, Some}
use Rattle.nres_core.specs.FlatTree as t
use Rattle.nres_core.specs.FlatTree.{Binds, Ending}
use Rattle.nres_core.specs.declared.flat.Arg.{Arg}
use Rattle.nres_core.specs.declared.op.Op.{Op}
use Rattle.nres_core.specs.declared.place.Place.{Place}
use Rattle.nres_core.specs.declared.row.RowCode.{RowCode}
use Rattle.nres_core.specs.declared.row.RowCode.TheVariants as c
use Rattle.target_code.specs.declared.tree.Proc.{Proc}
use Rattle.target_code.specs.declared.tree.Rep.{Rep}
use Rattle.rule_check.specs.Table.{Rule}
use Rattle.fits.specs.Places.{Entry, Info, arg_info, arg_infos, info_shapes, info_reps}
use Rattle.fits.specs.Follow.{OnFound, fit, row_step}
use Rattle.fits_sound.specs.Meant.{Via_sound}
use Rattle.fits_sound.specs.RowShapes.{row_on}
use Rattle.fits_sound.specs.World.{World, Row_sound}
use Rattle.fits_sound.proofs.Found.{some_elim, found_is}
use Rattle.fits_sound.proofs.Basic.{some_is}
use Rattle.fits_sound.proofs.Spots.{cons_parts}
use Rattle.fits_sound.proofs.Asserts.{assert_sound}
use Rattle.fits_sound.proofs.Branch.{if_sound}
use Rattle.fits_sound.proofs.Calcs.{calc_sound}
use Rattle.fits_sound.proofs.Join.{le_same}
use Rattle.fits_sound.proofs.Loop.{loop_sound}
use Rattle.fits_sound.proofs.Parallel.{par_sound}
use Rattle.fits_sound.proofs.Regs.{reg_sound}
use Rattle.fits_sound.proofs.Rows.{call_sound}
use Rattle.fits_sound.proofs.Sides.{either_sound, any_sound}
use Rattle.fits_sound.proofs.Sound.{Met, Sound}
use Rattle.fits_sound.proofs.SplitSound.{split_sound}
use Rattle.fits_sound.proofs.Tests.{info_reps_are}
use Rattle.fits_sound.proofs.Uses.{use_sound}

-- as many arguments as infos
infos_count : (es : List Entry) (us : List Arg) (is : List Info) → arg_infos es us ≡ Some is → length (info_shapes is) ≡ length us
infos_count es [] is e = subst (λ y. length (info_shapes y) ≡ 0) (some_is [] is e) refl
infos_count es (u ∷ us) is e =
    let k = cons_parts (arg_info es u) (arg_infos es us) is e in
    subst (λ y. length (info_shapes y) ≡ length (u ∷ us)) k.4 (ap suc (infos_count es us k.1 k.3))

none_less : (a : ℕ) → 0 ≤ a
none_less a = omega arith

module _ (W : World) (R : ℕ) (proc : Proc) (f : ℕ) where
  row_sound : (pl : Place) (outs : List ℕ) (op : Op) (made : Option Rep) (us : List Arg) (rest : Binds) → Sound W R proc f rest → Sound W R proc f (t.Apply_to pl outs op made us rest)
  row_sound pl outs op made us rest ih s code lines K h =
      some_elim G (arg_infos s.entries us) lines _ K h (λ infos ei h2.
      some_elim G (W.views.book.row_for op (info_reps infos) made) lines _ K h2 (λ x ex h3.
      let rs = W.sound op (info_shapes infos) made x (ap (λ z. W.views.book.row_for op z made) (sym (info_reps_are infos)) ∙ ex) in
      by infos ei x ex rs x.code refl rs.via h3))
    where
      G : Type 1
      G = Met W R proc f (t.Apply_to pl outs op made us rest) s code K

      by : (infos : List Info) → arg_infos s.entries us ≡ Some infos → (x : Rule) → W.views.book.row_for op (info_reps infos) made ≡ Some x → Row_sound W.procs W.laws W.views op (info_shapes infos) made x → (k : RowCode) → x.code ≡ k → Via_sound W.procs W.laws W.views.lib_name op (row_on (info_shapes infos) made x) k → OnFound (row_step R W.views s code lines pl outs op made us infos x k (fit R W.views rest)) K → G
      by infos ei x ex rs (c.Register j) ek law h = reg_sound W R proc f pl outs op made us rest ih infos (row_on (info_shapes infos) made x) j refl law s code lines K ei h
      by infos ei x ex rs (c.Proc name) ek law h = call_sound W R proc f pl outs op made us rest infos x name law ih ex rs.few (λ k e. subst (λ y. k < y) (infos_count s.entries us infos ei) (rs.fact k e)) s code lines K ei h

  none_sound : Sound W R proc f t.No_bind
  none_sound s code lines K h = record {
    end = s;
    rest = code;
    lines = lines;
    found = found_is s code lines K h;
    later = le_same s.next;
    defs = refl;
    past = λ line. line;
    steps = λ c. c;
    run = λ line mark base D0 D regs p inv lives Q n c goes. goes n (le_same n) D regs p inv 0 (λ e. none_less W.limit) refl;
  }

module _ (W : World) where
  pub sound : (bs : Binds) (R : ℕ) (proc : Proc) (f : ℕ) → Sound W R proc f bs
  sound t.No_bind R proc f = none_sound W R proc f
  sound (t.Calc_to p to w x y rest) R proc f = calc_sound W R proc f p to w x y rest (sound rest R proc f)
  sound (t.Apply_to p to op made us rest) R proc f = row_sound W R proc f p to op made us rest (sound rest R proc f)
  sound (t.Assert p inner x rest) R proc f = assert_sound W R proc f p inner x rest (sound rest R proc f)
  sound (t.If p to x l le r re rest) R proc f = if_sound W R proc f p to x l le r re rest (sound l R proc f) (sound r R proc f) (sound rest R proc f)
  sound (t.While p to xs us cs x b be rest) R proc f = loop_sound W R proc f p to xs us cs x b be rest (sound cs R proc f) (sound b R proc f) (sound rest R proc f)
  sound (t.Par p to l le r re rest) R proc f = par_sound W R proc f p to l le r re rest (sound l) (sound r) (sound rest R proc f)
  sound (t.Split p to list at i l le j r re rest) R proc f = split_sound W R proc f p to list at i l le j r re rest (sound l) (sound r) (sound rest R proc f)
  sound (t.Either p to l le r re rest) R proc f = either_sound W R proc f p to l le r re rest (sound l R proc f) (sound r R proc f) (sound rest R proc f)
  sound (t.Any p to x y rest) R proc f = any_sound W R proc f p to x y rest (sound rest R proc f)
  sound (t.Call p to g us rest) R proc f = use_sound W R proc f p to g us rest (sound rest R proc f)
