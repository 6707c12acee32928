-- The instructions that may stand anywhere.
use Rattle.std.proofs.Common.{◌≡◌, ℕ, suc, cond, ◌+◌, ◌<◌, Bool, true, false, not, ◌&&◌, List, [], ◌∷◌, map, length, refl, sym, ap, ◌∙◌, subst, ltb-true, inl, inr, ◌⊎◌, ⊎_elim}
use Rattle.std.proofs.lemmas.Bool.{and_parts, cond_both}
use Rattle.std.proofs.lemmas.List.{length-set}
use Rattle.std.proofs.lemmas.Bool.Decides.{eqb_tells}
use Rattle.std.specs.Prelude.{Option, Some, None, slice_index, slice_set, nat_lt}
use Rattle.target_code.specs.declared.tree.Instr.{Instr, out-Instr, Instr-F}
use Rattle.target_code.specs.declared.tree.Instr.TheOpen as I
use Rattle.target_code.specs.declared.tree.Code.{Code}
use Rattle.target_code.specs.declared.tree.Proc.{Proc}
use Rattle.target_code.specs.declared.tree.Rep.{Rep}
use Rattle.target_code.specs.declared.tree.Rep.TheVariants as rep
use Rattle.target_meaning.specs.Leaf.{Do, do_all, instr_act, Cut, Stack, act}
use Rattle.target_meaning.specs.Lines.{lines_of}
use Rattle.target_meaning.specs.Piece.{Piece, plus, IsAllWhole}
use Rattle.triple_logic.specs.Safe.{Halt, at_code_end}
use Rattle.triple_logic.specs.Laws.{End_fact, at_code}
use Rattle.layout_facts.specs.Footprints as footprints
use Rattle.layout_facts.specs.Footprints.{OneBlock}
use Rattle.layout_facts.proofs.Facts.{one_block, can_free, freed}
use Rattle.run_laws.specs.RunLaws.{Laws}
use Rattle.rule_check.specs.Context.{Hold, Gone, is_owned, is_container, is_slice}
use Rattle.fits.specs.Places.{Token, Number, Entry, State, put, with_toks, with_hold}
use Rattle.fits.specs.Follow.{is_block, Line, Answer, OnFound, Unmet, pass_one, pass_all, pass_until, owner, first_word}
use Rattle.fits_sound.specs.Meant.{Dyn, word, live, Old, Rels, Inv, Among}
use Rattle.fits_sound.specs.World.{World, Code_run}
use Rattle.fits_sound.proofs.Found.{To, need_found, some_found, unmet}
use Rattle.fits_sound.proofs.Basic.{put_same, put_other, has_is, some_is, known_put}
use Rattle.fits_sound.proofs.Take.{pull, owned_there, owned_whole, kept_less, same_container}

-- the container that a register names
record Owner (D : Dyn) (es : List Entry) (hold : ℕ → Hold) (o : Option Token) (v : ℕ) : Type 0 where
  among : Among v es
  owned : is_owned (hold v) ≡ true
  regs : List ℕ
  block : OneBlock regs (D.piece v)
  token : Token
  at : o ≡ Some token
  first : footprints.first_word regs ≡ word D token

no_slice : (x : Rep) → is_slice x ≡ false → x ≡ rep.Slice → ⊥
no_slice x e q = let w : true ≡ false = sym (ap is_slice q) ∙ e in let o : ⊥ = cc w in o

found_owner : (D : Dyn) (es : List Entry) (hold : ℕ → Hold) (o : Option Token) (v : ℕ) → Rels D es → owner es hold o ≡ Some v → Owner D es hold o v
found_owner D [] hold o v r e = absurd (let z : ⊥ = cc e in z)
found_owner D (d ∷ es) hold o v r e =
    cond_both {A = Option ℕ} (is_block d.shape.rep && is_owned (hold d.var) && first_word o d.words) (Some d.var) (owner es hold o) (λ y. y ≡ Some v → Owner D (d ∷ es) hold o v)
    (λ w e.
    let a = and_parts (is_block d.shape.rep && is_owned (hold d.var)) (first_word o d.words) w in
    let b = and_parts (is_block d.shape.rep) (is_owned (hold d.var)) a.0 in
    let c = and_parts (is_container d.shape.rep) (not (is_slice d.shape.rep)) b.0 in
    let t = first d.words a.1 in
    subst (λ y. Owner D (d ∷ es) hold o y) (some_is d.var v e)
    (record {
      among = inl refl;
      owned = b.1;
      regs = map (word D) d.words;
      block = one_block d.shape.rep (D.value d.var) (map (word D) d.words) (D.piece d.var) (sym (same_container d.shape.rep) ∙ c.0) (no_slice d.shape.rep (not_true (is_slice d.shape.rep) c.1)) r.0.0;
      token = t.0;
      at = t.1;
      first = t.2;
    }))
    (λ w e. let x = found_owner D es hold o v r.1 e in record { among = inr x.among; owned = x.owned; regs = x.regs; block = x.block; token = x.token; at = x.at; first = x.first })
    e
  where
    not_true : (b : Bool) → not b ≡ true → b ≡ false
    not_true false e = refl
    not_true true e = absurd (let z : ⊥ = cc e in z)

    first : (ws : List Token) → first_word o ws ≡ true → (t : Token) × (o ≡ Some t) × (footprints.first_word (map (word D) ws) ≡ word D t)
    first [] e = absurd (let z : ⊥ = cc e in z)
    first (t ∷ ws) e = (t, has_is o t e, refl)

-- the block goes, and the rest stays
free : (T : List Proc) (L : Laws T) (halt : Halt) (Q : End_fact) (n c f : ℕ) (regs : List ℕ) (q : Piece) → OneBlock regs q → IsAllWhole q → (r : Piece) (st u : Stack) → halt st ≡ None → act T st ≡ Cut (footprints.first_word regs) u → L.run halt Q n c f r u → L.run halt Q n (suc c) f (plus q r) st
free T L halt Q n c f regs q o w r st u none e su =
    L.assume halt Q n (suc c) f (plus q r) st (λ h hs.
    L.cut halt Q n c f (plus q r) st (footprints.first_word regs) u none e (can_free regs q o w r h hs)
    (subst (λ y. L.run halt Q n c f y u) (sym (freed regs q o w r h hs)) su))

cond_split : (b : Bool) (x y : Answer) (M : Answer → Type 1) → (b ≡ true → M x) → (b ≡ false → M y) → M (cond b x y)
cond_split true x y M f g = f refl
cond_split false x y M f g = g refl

module _ (W : World) (R : ℕ) (proc : Proc) (f : ℕ) where
  -- what follows an instruction that was passed, or instructions
  pub record Passing (P : State → Type 0) (items : List Instr) (s : State) (go : State → List Instr → Answer) (K : To) : Type 1 where
    pub u : State
    pub is : List Instr
    pub ok : P u
    pub found : OnFound (go u is) K
    pub next : u.next ≡ s.next
    pub entries : u.entries ≡ s.entries
    pub facts : u.facts ≡ s.facts
    pub defs : u.defs ≡ s.defs
    pub branch : u.branch ≡ s.branch
    pub past : ℕ → ℕ
    pub steps : ℕ → ℕ
    pub run : (line mark : ℕ) (base : List Entry) (D0 D : Dyn) (regs : List ℕ) (p : Piece) → Inv R f mark base D0 s D regs p → (Q : End_fact) (n c : ℕ) → ((regs' : List ℕ) (p' : Piece) → Inv R f mark base D0 u D regs' p' → Code_run W proc Q n c f (do_all (past line) is) regs' p') → Code_run W proc Q n (steps c) f (do_all line items) regs p

  abbrev pub any_state : State → Type 0
  any_state u = Unit {0}

  put_less : (h : ℕ → Hold) (v : ℕ) (w : ℕ) → (put h v Gone w ≡ h w) ⊎ (put h v Gone w ≡ Gone)
  put_less h v w = ⊎_elim (λ q. inr (ap (put h v Gone) q.1 ∙ put_same h v Gone)) (λ q. inl (put_other h v Gone w q.1)) (eqb_tells w v)

  -- one instruction that is passed, or the stop
  one_passed : (G : Type 1) (i : Instr) (is : List Instr) (s : State) (ls : List Line) (k : State → Answer) (stop : Answer) (K : To) (x : Instr-F Instr Code) → out-Instr i ≡ x → OnFound (pass_one R W.views ls s x k stop) K → ((w : Passing any_state (i ∷ is) s (λ u js. k u) K) → w.is ≡ is → G) → (OnFound stop K → G) → G
  unfolding pass_one
  one_passed G i is s ls k stop K (I.Const to v) e h more other =
      let a = need_found (nat_lt to R) ls (k (with_toks s (put s.toks to (Some (Number v))))) K h in
      more
      (record {
        u = with_toks s (put s.toks to (Some (Number v)));
        is = is;
        ok = tt;
        found = a.1;
        next = refl;
        entries = refl;
        facts = refl;
        defs = refl;
        branch = refl;
        past = λ line. line + lines_of i;
        steps = λ c. suc c;
        run = λ line mark base D0 D regs p inv Q n c go.
            let lt : to < length regs = subst (λ y. to < y) (sym inv.count) (ltb-true to R a.0) in
            W.laws.go at_code_end Q n c f p (at_code proc (Do line i ∷ do_all (line + lines_of i) is) regs) (at_code proc (do_all (line + lines_of i) is) (slice_set regs to v)) refl (ap (instr_act W.procs line (do_all (line + lines_of i) is) regs proc []) e)
            (go (slice_set regs to v) p
            (record {
              known = known_put s.toks s.next D regs inv.known to (Some (Number v)) v lt (λ t z. subst (λ y. Old s.next y × (v ≡ word D y)) (some_is (Number v) t z) (tt, refl));
              count = length-set regs to v ∙ inv.count;
              ctx = record { below = inv.ctx.below; rels = inv.ctx.rels; shares = inv.ctx.shares; kept = inv.ctx.kept; facts = inv.ctx.facts; defs = inv.ctx.defs; piece = inv.ctx.piece; marked = inv.ctx.marked; origin = inv.ctx.origin; agree = inv.ctx.agree };
            }));
      })
      refl
  one_passed G i is s ls k stop K (I.Mov to from) e h more other =
      let a = need_found (nat_lt to R) ls (k (with_toks s (put s.toks to (s.toks from)))) K h in
      more
      (record {
        u = with_toks s (put s.toks to (s.toks from));
        is = is;
        ok = tt;
        found = a.1;
        next = refl;
        entries = refl;
        facts = refl;
        defs = refl;
        branch = refl;
        past = λ line. line + lines_of i;
        steps = λ c. suc c;
        run = λ line mark base D0 D regs p inv Q n c go.
            let lt : to < length regs = subst (λ y. to < y) (sym inv.count) (ltb-true to R a.0) in
            W.laws.go at_code_end Q n c f p (at_code proc (Do line i ∷ do_all (line + lines_of i) is) regs) (at_code proc (do_all (line + lines_of i) is) (slice_set regs to (slice_index regs from))) refl (ap (instr_act W.procs line (do_all (line + lines_of i) is) regs proc []) e)
            (go (slice_set regs to (slice_index regs from)) p
            (record {
              known = known_put s.toks s.next D regs inv.known to (s.toks from) (slice_index regs from) lt (λ t z. (inv.known.old from t z, inv.known.is from t z));
              count = length-set regs to (slice_index regs from) ∙ inv.count;
              ctx = record { below = inv.ctx.below; rels = inv.ctx.rels; shares = inv.ctx.shares; kept = inv.ctx.kept; facts = inv.ctx.facts; defs = inv.ctx.defs; piece = inv.ctx.piece; marked = inv.ctx.marked; origin = inv.ctx.origin; agree = inv.ctx.agree };
            }));
      })
      refl
  one_passed G i is s ls k stop K (I.Free b) e h more other =
      let a = some_found (owner s.entries s.hold (s.toks b)) ls (λ v. k (with_hold s (put s.hold v Gone))) K h in
      let v = a.0 in
      more
      (record {
        u = with_hold s (put s.hold v Gone);
        is = is;
        ok = tt;
        found = a.2;
        next = refl;
        entries = refl;
        facts = refl;
        defs = refl;
        branch = refl;
        past = λ line. line + lines_of i;
        steps = λ c. suc c;
        run = λ line mark base D0 D regs p inv Q n c go.
            let o = found_owner D s.entries s.hold (s.toks b) v inv.ctx.rels a.1 in
            let cut : slice_index regs b ≡ footprints.first_word o.regs = inv.known.is b o.token o.at ∙ sym o.first in
            let w = owned_whole f D s.entries s.hold v inv.ctx.shares inv.ctx.kept o.among o.owned in
            subst (λ y. Code_run W proc Q n (suc c) f (Do line i ∷ do_all (line + lines_of i) is) regs y) (sym (inv.ctx.piece ∙ pull s.next s.entries s.hold D.piece v inv.ctx.below o.among (owned_there (s.hold v) o.owned)))
            (free W.procs W.laws at_code_end Q n c f o.regs (D.piece v) o.block w (live s.entries (put s.hold v Gone) D.piece) (at_code proc (Do line i ∷ do_all (line + lines_of i) is) regs) (at_code proc (do_all (line + lines_of i) is) regs) refl
            (ap (instr_act W.procs line (do_all (line + lines_of i) is) regs proc []) e ∙ ap (λ y. Cut y (at_code proc (do_all (line + lines_of i) is) regs)) cut)
            (go regs (live s.entries (put s.hold v Gone) D.piece)
            (record {
              known = record { old = inv.known.old; is = inv.known.is };
              count = inv.count;
              ctx = record { below = inv.ctx.below; rels = inv.ctx.rels; shares = inv.ctx.shares; kept = kept_less s.entries s.hold (put s.hold v Gone) (put_less s.hold v) inv.ctx.kept; facts = inv.ctx.facts; defs = inv.ctx.defs; piece = refl; marked = inv.ctx.marked; origin = inv.ctx.origin; agree = inv.ctx.agree };
            })));
      })
      refl
  one_passed G i is s ls k stop K _ e h more other = other h

  -- nothing is passed
  none_passed : (P : State → Type 0) (code : List Instr) (s : State) (go : State → List Instr → Answer) (K : To) → P s → OnFound (go s code) K → Passing P code s go K
  none_passed P code s k K ok h =
      record { u = s; is = code; ok = ok; found = h; next = refl; entries = refl; facts = refl; defs = refl; branch = refl; past = λ line. line; steps = λ c. c; run = λ line mark base D0 D regs p inv Q n c go. go regs p inv }

  -- one instruction, and then others
  then_passed : (P : State → Type 0) (i : Instr) (is : List Instr) (s : State) (k : State → Answer) (go : State → List Instr → Answer) (K : To) (w : Passing any_state (i ∷ is) s (λ u js. k u) K) → w.is ≡ is → Passing P is w.u go K → Passing P (i ∷ is) s go K
  then_passed P i is s k go K w e z =
      record {
        u = z.u;
        is = z.is;
        ok = z.ok;
        found = z.found;
        next = z.next ∙ w.next;
        entries = z.entries ∙ w.entries;
        facts = z.facts ∙ w.facts;
        defs = z.defs ∙ w.defs;
        branch = z.branch ∙ w.branch;
        past = λ line. z.past (w.past line);
        steps = λ c. w.steps (z.steps c);
        run = λ line mark base D0 D regs p inv Q n c go.
            w.run line mark base D0 D regs p inv Q n (z.steps c) (λ regs' p' inv'. subst (λ y. Code_run W proc Q n (z.steps c) f (do_all (w.past line) y) regs' p') (sym e) (z.run (w.past line) mark base D0 D regs' p' inv' Q n c go));
      }

  pub passed : (code : List Instr) (s : State) (ls : List Line) (go : State → List Instr → Answer) (K : To) → OnFound (pass_all R W.views s code ls go) K → Passing any_state code s go K
  unfolding pass_all
  passed [] s ls k K h = none_passed any_state [] s k K tt h
  passed (i ∷ is) s ls k K h =
      one_passed (Passing any_state (i ∷ is) s k K) i is s ls (λ u. pass_all R W.views u is ls k) (k s (i ∷ is)) K (out-Instr i) refl h
      (λ w e. then_passed any_state i is s (λ u. pass_all R W.views u is ls k) k K w e (passed is w.u ls k K w.found))
      (λ h'. none_passed any_state (i ∷ is) s k K tt h')

  -- the same, up to where a test holds
  pub until : (ok : State → Bool) (code : List Instr) (s : State) (ls : List Line) (go : State → List Instr → Answer) (K : To) → OnFound (pass_until R W.views ok s code ls go) K → Passing (λ u. ok u ≡ true) code s go K
  unfolding pass_until
  until ok [] s ls k K h = let w = need_found (ok s) ls (k s []) K h in none_passed (λ u. ok u ≡ true) [] s k K w.0 w.1
  until ok (i ∷ is) s ls k K h =
      cond_split (ok s) (k s (i ∷ is)) (pass_one R W.views ls s (out-Instr i) (λ u. pass_until R W.views ok u is ls k) (Unmet ls)) (λ y. OnFound y K → Passing (λ u. ok u ≡ true) (i ∷ is) s k K)
      (λ w h. none_passed (λ u. ok u ≡ true) (i ∷ is) s k K w h)
      (λ w h.
      one_passed (Passing (λ u. ok u ≡ true) (i ∷ is) s k K) i is s ls (λ u. pass_until R W.views ok u is ls k) (Unmet ls) K (out-Instr i) refl h
      (λ w e. then_passed (λ u. ok u ≡ true) i is s (λ u. pass_until R W.views ok u is ls k) k K w e (until ok is w.u ls k K w.found))
      (λ z. absurd (unmet ls K z)))
      h
