-- An assert is met by no code.
use Rattle.std.proofs.Common.{◌≡◌, ℕ, suc, ◌<◌, ◌≤◌, true, false, ◌&&◌, List, [], ◌∷◌, refl, sym, ap, ◌∙◌, subst, arith, leb, leb-true, ltb-true, ⊎_elim}
use Rattle.std.proofs.lemmas.Bool.{and_parts, false≢true}
use Rattle.flat_paths.specs.Paths.{Fault, Stops, never, only, may, on_truth, paths}
use Rattle.flat_paths.proofs.Single.{may_go_wrong, may_give_one, calc_settles, settled_value}
use Rattle.flat_paths.proofs.Unfold.{paths_assert, paths_calc, paths_apply}
use Rattle.nres_core.specs.FlatTree as t
use Rattle.nres_core.specs.FlatTree.{Binds}
use Rattle.nres_core.specs.Ops.{calc_out, op_out}
use Rattle.nres_core.specs.Runs.{Done, Gives}
use Rattle.nres_core.specs.declared.flat.Arg.{Arg}
use Rattle.nres_core.specs.declared.flat.Arg.TheVariants as a
use Rattle.nres_core.specs.declared.place.Place.{Place}
use Rattle.nres_core.specs.declared.value.Value.{Value}
use Rattle.nres_core.specs.declared.value.Value.TheVariants as v
use Rattle.nres_meaning.specs.FlatMeaning.{Vars, arg_value, arg_values, puts}
use Rattle.nres_meaning.specs.FlatMeaning as fm
use Rattle.nres_meaning.specs.Meaning.{head_of, tail_of}
use Rattle.target_code.specs.declared.tree.Proc.{Proc}
use Rattle.rule_check.specs.Context.{Def}
use Rattle.rule_check.specs.Facts.{defs_in, learnt}
use Rattle.fits.specs.Follow.{is_old, is_plain, past_plain, past, rises, asserted}
use Rattle.fits_sound.specs.Meant.{Defs, Old_arg}
use Rattle.fits_sound.specs.World.{World}
use Rattle.fits_sound.proofs.Basic.{put_same, put_below, arg_same, old_more, facts_more, defs_same, below_more, le_then}
use Rattle.fits_sound.proofs.Found.{need_elim}
use Rattle.fits_sound.proofs.Somes.{op_some}
use Rattle.fits_sound.proofs.Sound.{Met, Sound, facts-append}
use Rattle.fits_sound.proofs.Take.{among_below}
use Rattle.fits_sound.proofs.Told.{learnt_hold, hold_facts}

-- new variables leave old ones as they were
past_more : (n : ℕ) (vs : List ℕ) → rises n vs ≡ true → n ≤ past n vs
past_more n [] e = omega arith
past_more n (x ∷ vs) e =
    let p = and_parts (leb n x) (rises (suc x) vs) e in
    let le = leb-true n x p.0 in
    let z = past_more (suc x) vs p.1 in
    omega (arith, le, z)

puts_old : (n : ℕ) (to : List ℕ) (vs : List Value) (V : Vars) → rises n to ≡ true → (k : ℕ) → k < n → puts to vs V k ≡ V k
puts_old n [] vs V e k lt = refl
puts_old n (x ∷ to) vs V e k lt =
    let p = and_parts (leb n x) (rises (suc x) to) e in
    let le = leb-true n x p.0 in
    puts_old (suc x) to (tail_of vs) (fm.put x (head_of vs) V) p.1 k (omega (arith, lt, le)) ∙ put_below V x (head_of vs) k (omega (arith, lt, le))

old_is : (n : ℕ) (x : Arg) → is_old n x ≡ true → Old_arg n x
old_is n (a.Var k) e = ltb-true k n e
old_is n (a.Num m) e = tt
old_is n (a.Truth b) e = tt

old_up : (n m : ℕ) (x : Arg) → n ≤ m → Old_arg n x → Old_arg m x
old_up n m (a.Var k) le o = omega (arith, o, le)
old_up n m (a.Num k) le o = tt
old_up n m (a.Truth b) le o = tt

pub record Plain_calc (n to : ℕ) (x y : Arg) (rest : Binds) : Type 0 where
  pub left : Old_arg n x
  pub right : Old_arg n y
  pub later : n ≤ to
  pub plain : is_plain (suc to) rest ≡ true

plain_calc : (n to : ℕ) (x y : Arg) (rest : Binds) → (is_old n x && (is_old n y && (rises n (to ∷ []) && is_plain (suc to) rest))) ≡ true → Plain_calc n to x y rest
plain_calc n to x y rest e =
    let p = and_parts (is_old n x) (is_old n y && (rises n (to ∷ []) && is_plain (suc to) rest)) e in
    let q = and_parts (is_old n y) (rises n (to ∷ []) && is_plain (suc to) rest) p.1 in
    let r = and_parts (rises n (to ∷ [])) (is_plain (suc to) rest) q.1 in
    let k = and_parts (leb n to) true r.0 in
    record { left = old_is n x p.0; right = old_is n y q.0; later = leb-true n to k.0; plain = r.1 }

plain_more : (n : ℕ) (bs : Binds) → is_plain n bs ≡ true → n ≤ past_plain n bs
plain_more n t.No_bind e = omega arith
plain_more n (t.Calc_to p to w x y rest) e =
    let q = plain_calc n to x y rest e in
    let le = q.later in
    let z = plain_more (suc to) rest q.plain in
    omega (arith, le, z)
plain_more n (t.Apply_to p to op made us rest) e =
    let q = and_parts (rises n to) (is_plain (past n to) rest) e in
    let le = past_more n to q.0 in
    let z = plain_more (past n to) rest q.1 in
    omega (arith, le, z)
plain_more n (t.Assert p inner x rest) e = absurd (false≢true e)
plain_more n (t.If p to x l le r re rest) e = absurd (false≢true e)
plain_more n (t.While p to xs us cs x b be rest) e = absurd (false≢true e)
plain_more n (t.Par p to l le r re rest) e = absurd (false≢true e)
plain_more n (t.Split p to list at i l le j r re rest) e = absurd (false≢true e)
plain_more n (t.Either p to l le r re rest) e = absurd (false≢true e)
plain_more n (t.Any p to x y rest) e = absurd (false≢true e)
plain_more n (t.Call p to g us rest) e = absurd (false≢true e)

module _ (W : World) where
  -- some path of the inner part, with any turns and calls, where the test is not refused
  pub record Way (bs : Binds) (n : ℕ) (V : Vars) (ds : List Def) (F : Vars → Type 0) : Type 1 where
    pub at : Vars
    pub goes : (N : ℕ) (ok : Vars → Type 0) (bad : Stops) → ok at → paths W.calls N bs V ok bad
    pub same : (k : ℕ) → k < n → at k ≡ V k
    pub defs : Defs (past_plain n bs) at (defs_in bs ds)
    pub right : F at → ⊥

  way : (bs : Binds) (n : ℕ) (V : Vars) (ds : List Def) (F : Vars → Type 0) → Defs n V ds → is_plain n bs ≡ true → (paths W.calls 0 bs V F (only Fault) → ⊥) → Way bs n V ds F
  way t.No_bind n V ds F kd e lives = record { at = V; goes = λ N ok bad w. w; same = λ k lt. refl; defs = kd; right = lives }
  way (t.Calc_to p to w x y rest) n V ds F kd e lives =
      let q = plain_calc n to x y rest e in
      let le = q.later in
      let c = settled_value (calc_out w (arg_value V x) (arg_value V y)) (calc_settles w (arg_value V x) (arg_value V y))
      (λ z. lives (subst (λ u. u) (sym (paths_calc W.calls 0 V F (only Fault) p to w x y rest)) (may_go_wrong _ _ (only Fault) z tt))) in
      let U : Vars = fm.put to c.value V in
      let old : (k : ℕ) → k < n → U k ≡ V k = λ k lt. put_below V to c.value k (omega (arith, lt, le)) in
      let next : (N : ℕ) (ok : Vars → Type 0) (bad : Stops) → paths W.calls N rest U ok bad → paths W.calls N (t.Calc_to p to w x y rest) V ok bad =
      λ N ok bad z. subst (λ u. u) (sym (paths_calc W.calls N V ok bad p to w x y rest)) (subst (λ u. may u (λ k. paths W.calls N rest (fm.put to k V) ok bad) bad) (sym c.same) z) in
      let i = way rest (suc to) U (record { place = p; to = to; word = w; left = x; right = y } ∷ ds) F (
        (
          omega arith,
          old_up n (suc to) x (omega (arith, le)) q.left,
          old_up n (suc to) y (omega (arith, le)) q.right,
          ap (λ k. calc_out w k (arg_value U y)) (arg_same n V U x old q.left) ∙ ap (calc_out w (arg_value V x)) (arg_same n V U y old q.right) ∙ c.same ∙ ap Done (sym (put_same V to c.value)),
        ),
        defs_same n (suc to) V U (omega (arith, le)) old ds kd,
      ) q.plain (λ z. lives (next 0 F (only Fault) z)) in
      record { at = i.at; goes = λ N ok bad z. next N ok bad (i.goes N ok bad z); same = λ k lt. i.same k (omega (arith, lt, le)) ∙ old k lt; defs = i.defs; right = i.right }
  way (t.Apply_to p to op made us rest) n V ds F kd e lives =
      let q = and_parts (rises n to) (is_plain (past n to) rest) e in
      let m = past_more n to q.0 in
      ⊎_elim
      (λ z. absurd (lives (subst (λ u. u) (sym (paths_apply W.calls 0 V F (only Fault) p to op made us rest)) (may_go_wrong _ _ (only Fault) z tt))))
      (λ (g : (ws : List Value) × Gives (op_out op (arg_values V us)) ws).
      let U : Vars = puts to g.0 V in
      let old : (k : ℕ) → k < n → U k ≡ V k = λ k lt. puts_old n to g.0 V q.0 k lt in
      let next : (N : ℕ) (ok : Vars → Type 0) (bad : Stops) → paths W.calls N rest U ok bad → paths W.calls N (t.Apply_to p to op made us rest) V ok bad =
      λ N ok bad z. subst (λ u. u) (sym (paths_apply W.calls N V ok bad p to op made us rest)) (may_give_one _ g.0 _ bad g.1 z) in
      let i = way rest (past n to) U ds F (defs_same n (past n to) V U m old ds kd) q.1 (λ z. lives (next 0 F (only Fault) z)) in
      record { at = i.at; goes = λ N ok bad z. next N ok bad (i.goes N ok bad z); same = λ k lt. i.same k (omega (arith, lt, m)) ∙ old k lt; defs = i.defs; right = i.right })
      (op_some op (arg_values V us))
  way (t.Assert p inner x rest) n V ds F kd e lives = absurd (false≢true e)
  way (t.If p to x l le r re rest) n V ds F kd e lives = absurd (false≢true e)
  way (t.While p to xs us cs x b be rest) n V ds F kd e lives = absurd (false≢true e)
  way (t.Par p to l le r re rest) n V ds F kd e lives = absurd (false≢true e)
  way (t.Split p to list at i l le j r re rest) n V ds F kd e lives = absurd (false≢true e)
  way (t.Either p to l le r re rest) n V ds F kd e lives = absurd (false≢true e)
  way (t.Any p to x y rest) n V ds F kd e lives = absurd (false≢true e)
  way (t.Call p to g us rest) n V ds F kd e lives = absurd (false≢true e)

-- a test that is not refused is true
pub is_true : (x : Value) (A : Type 0) → (on_truth x A (Unit {0}) (only Fault) → ⊥) → x ≡ v.Bool true
is_true (v.Bool true) A w = refl
is_true (v.Bool false) A w = absurd (w tt)
is_true (v.Nat n) A w = absurd (w tt)
is_true (v.List n) A w = absurd (w tt)
is_true (v.Set n) A w = absurd (w tt)
is_true (v.Map n) A w = absurd (w tt)
is_true (v.Bag n) A w = absurd (w tt)

module _ (W : World) (R : ℕ) (proc : Proc) (f : ℕ) where
  pub assert_sound : (p : Place) (inner : Binds) (x : Arg) (rest : Binds) → Sound W R proc f rest → Sound W R proc f (t.Assert p inner x rest)
  assert_sound p inner x rest ih s code lines K h =
      need_elim (Met W R proc f (t.Assert p inner x rest) s code K) (is_plain s.next inner) lines _ K h (λ e h2. at e (ih (asserted s inner x) code lines K h2))
    where
      at : is_plain s.next inner ≡ true → Met W R proc f rest (asserted s inner x) code K → Met W R proc f (t.Assert p inner x rest) s code K
      at e M =
          let up = plain_more s.next inner e in
          record {
            end = M.end;
            rest = M.rest;
            lines = M.lines;
            found = M.found;
            later = le_then s.next (past_plain s.next inner) M.end.next up M.later;
            defs = M.defs;
            past = M.past;
            steps = M.steps;
            run = λ line mark base D0 D regs q inv lives Q n c goes.
                let V = D.value in
                let z = way W inner s.next V [] (λ g. on_truth (arg_value g x) (paths W.calls 0 rest V (λ g. ⊥) (only Fault)) (Unit {0}) (only Fault)) tt e (λ w. lives 0 Fault tt (subst (λ u. u) (sym (paths_assert W.calls 0 V (λ g. ⊥) (only Fault) p inner x rest)) w)) in
                let true_at = is_true (arg_value z.at x) _ z.right in
                let through : (N : ℕ) (ok : Vars → Type 0) (bad : Stops) → paths W.calls N rest V ok bad → paths W.calls N (t.Assert p inner x rest) V ok bad =
                λ N ok bad w. subst (λ u. u) (sym (paths_assert W.calls N V ok bad p inner x rest)) (z.goes N (λ g. on_truth (arg_value g x) (paths W.calls N rest V ok bad) (bad Fault) bad) bad (subst (λ u. on_truth u (paths W.calls N rest V ok bad) (bad Fault) bad) (sym true_at) w)) in
                M.run line mark base D0 D regs q
                (record {
                  known = record { old = λ r t w. old_more s.next (past_plain s.next inner) t up (inv.known.old r t w); is = inv.known.is };
                  count = inv.count;
                  ctx = record {
                    below = below_more s.next (past_plain s.next inner) s.entries up inv.ctx.below;
                    rels = inv.ctx.rels;
                    shares = inv.ctx.shares;
                    kept = inv.ctx.kept;
                    facts =
                        facts-append (past_plain s.next inner) V s.entries (learnt (defs_in inner []) x) s.facts
                        (hold_facts (past_plain s.next inner) z.at V s.entries (learnt (defs_in inner []) x) (λ k m. z.same k (among_below s.next k s.entries inv.ctx.below m)) (learnt_hold (past_plain s.next inner) z.at (defs_in inner []) x z.defs true_at))
                        (facts_more s.next (past_plain s.next inner) V s.entries s.facts up inv.ctx.facts);
                    defs = defs_same s.next (past_plain s.next inner) V V up (λ k lt. refl) s.defs inv.ctx.defs;
                    piece = inv.ctx.piece;
                    marked = le_then mark s.next (past_plain s.next inner) inv.ctx.marked up;
                    origin = inv.ctx.origin;
                    agree = inv.ctx.agree;
                  };
                })
                (λ N k must w. lives N k must (through N (λ g. ⊥) (only k) w))
                Q n c
                (λ m kl D' regs2 p2 inv2 N wi path. goes m kl D' regs2 p2 inv2 N wi (through N (λ g. g ≡ D'.value) never path));
          }
