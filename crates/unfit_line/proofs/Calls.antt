-- The names that code calls are those of which it is said that it calls them.
use Rattle.std.specs.Prelude.{◌≡◌, ℕ, true, false, List, [], ◌∷◌, map, Contains}
use Rattle.std.specs.Str.{bytes_eq}
use Rattle.std.proofs.Common.{refl, sym, ap, ◌∙◌, subst, ⊎_elim}
use Rattle.soundness.specs.Shape.{Calls}
use Rattle.soundness.specs.Shape as s
use Rattle.target_code.specs.declared.tree.Code.{Code, roll-Code}
use Rattle.target_code.specs.declared.tree.Instr.{Instr, out-Instr}
use Rattle.target_code.specs.declared.tree.Instr.TheOpen as I
use Rattle.target_code.specs.declared.tree.Instr.TheViews.{roll-Instr, out-roll-Instr, out-roll-Code}
use Rattle.target_code.specs.declared.tree.Instr.TheFolds.{map-Instr, map-Code, fold_out-Instr, fold_out-Code, ind-Code}
use Rattle.target_code.specs.declared.tree.Proc.{Proc}
use Rattle.unfit_line.specs.Tests.{Names, all_names, calls_in, calls_of, calls_step, code_calls, instr_calls, is_in}
use Rattle.unfit_line.proofs.Names.{nothing, here, behind, first_or_behind, or_first, either_of, same_name, name_is, in_front, in_back, in_either}

abbrev Layer : Type 0
Layer = I.Instr-F Instr Code

abbrev pub layer_calls : Layer → Names
layer_calls x = calls_step (map-Instr Instr Code Names Names instr_calls code_calls x)

abbrev list_calls : List Instr → Names
list_calls is = all_names (map instr_calls is)

pub opened : (i : Instr) → instr_calls i ≡ layer_calls (out-Instr i)
opened i = fold_out-Instr Names Names calls_step calls_in i

pub listed : (c : Code) → code_calls c ≡ list_calls c.list
listed c = fold_out-Code Names Names calls_step calls_in c

-- ---- a name that is called is one of them

in_code : (c : Code) (name : List ℕ) → is_in name (list_calls c.list) ≡ true → is_in name (code_calls c) ≡ true
in_code c name h = subst (λ z. is_in name z ≡ true) (sym (listed c)) h

in_layer : (i : Instr) (is : List Instr) (name : List ℕ) (x : Layer) → out-Instr i ≡ x → is_in name (layer_calls x) ≡ true → is_in name (list_calls (i ∷ is)) ≡ true
in_layer i is name x e h = in_front name (instr_calls i) (list_calls is) (subst (λ z. is_in name z ≡ true) (sym (opened i ∙ ap layer_calls e)) h)

calls_seen : (is : List Instr) (name : List ℕ) → Calls is name → is_in name (list_calls is) ≡ true
calls_seen [] name h = elim h [ ]
calls_seen (i ∷ is) name (s.here {to = to} {args = args} e) = in_layer i is name (I.Call to name args) e (or_first (bytes_eq name name) false (same_name name))
calls_seen (i ∷ is) name (s.later h) = in_back name (instr_calls i) (list_calls is) (calls_seen is name h)
calls_seen (i ∷ is) name (s.in_yes {t = t} {c = c} {d = d} e h) = in_layer i is name (I.If t c d) e (in_front name (code_calls c) (code_calls d) (in_code c name (calls_seen c.list name h)))
calls_seen (i ∷ is) name (s.in_no {t = t} {c = c} {d = d} e h) = in_layer i is name (I.If t c d) e (in_back name (code_calls c) (code_calls d) (in_code d name (calls_seen d.list name h)))
calls_seen (i ∷ is) name (s.in_test {t = t} {c = c} {d = d} e h) = in_layer i is name (I.While c t d) e (in_front name (code_calls c) (code_calls d) (in_code c name (calls_seen c.list name h)))
calls_seen (i ∷ is) name (s.in_body {t = t} {c = c} {d = d} e h) = in_layer i is name (I.While c t d) e (in_back name (code_calls c) (code_calls d) (in_code d name (calls_seen d.list name h)))

pub calls_named : (c : Code) (name : List ℕ) → Calls c.list name → is_in name (code_calls c) ≡ true
calls_named c name h = in_code c name (calls_seen c.list name h)

-- ---- and each of them is called

abbrev CodeCalls : Code → Type 0
CodeCalls c = (name : List ℕ) → is_in name (code_calls c) ≡ true → Calls c.list name

abbrev InstrCalls : Instr → Type 0
InstrCalls i = (name : List ℕ) → is_in name (instr_calls i) ≡ true → (is : List Instr) → Calls (i ∷ is) name

abbrev SomeInstr : Type 0
SomeInstr = (i : Instr) × InstrCalls i

abbrev SomeCode : Type 0
SomeCode = (c : Code) × CodeCalls c

rolled : (x : Layer) → instr_calls (roll-Instr x) ≡ layer_calls x
rolled x = opened (roll-Instr x) ∙ ap layer_calls (out-roll-Instr x)

of_layer : (x : Layer) (name : List ℕ) → is_in name (instr_calls (roll-Instr x)) ≡ true → is_in name (layer_calls x) ≡ true
of_layer x name e = subst (λ z. is_in name z ≡ true) (rolled x) e

none_called : (x : Layer) → layer_calls x ≡ [] → InstrCalls (roll-Instr x)
none_called x none name e is = let o : false ≡ true = subst (λ z. is_in name z ≡ true) none (of_layer x name e) in absurd (let n : ⊥ = cc o in n)

each_instr : (y : I.Instr-F SomeInstr SomeCode) → InstrCalls (roll-Instr (map-Instr SomeInstr SomeCode Instr Code (λ e. e.0) (λ e. e.0) y))
each_instr (I.Const to v) = none_called (I.Const to v) refl
each_instr (I.Mov to from) = none_called (I.Mov to from) refl
each_instr (I.Calc to w l r) = none_called (I.Calc to w l r) refl
each_instr (I.Load to b i) = none_called (I.Load to b i) refl
each_instr (I.Store b i v) = none_called (I.Store b i v) refl
each_instr (I.Alloc to len) = none_called (I.Alloc to len) refl
each_instr (I.Free b) = none_called (I.Free b) refl
each_instr (I.If t c d) = λ name e is.
    ⊎_elim (λ h. s.in_yes {t = t} {c = c.0} {d = d.0} (out-roll-Instr (I.If t c.0 d.0)) (c.1 name h)) (λ h. s.in_no {t = t} {c = c.0} {d = d.0} (out-roll-Instr (I.If t c.0 d.0)) (d.1 name h))
    (in_either name (code_calls c.0) (code_calls d.0) (of_layer (I.If t c.0 d.0) name e))
each_instr (I.While c t d) = λ name e is.
    ⊎_elim (λ h. s.in_test {t = t} {c = c.0} {d = d.0} (out-roll-Instr (I.While c.0 t d.0)) (c.1 name h)) (λ h. s.in_body {t = t} {c = c.0} {d = d.0} (out-roll-Instr (I.While c.0 t d.0)) (d.1 name h))
    (in_either name (code_calls c.0) (code_calls d.0) (of_layer (I.While c.0 t d.0) name e))
each_instr (I.Call to called args) = λ name e is.
    ⊎_elim (λ h. s.here {to = to} {args = args} (out-roll-Instr (I.Call to called args) ∙ ap (λ z. I.Call to z args) (name_is called name h))) (λ h. absurd (let n : ⊥ = cc h in n))
    (either_of (bytes_eq called name) false (of_layer (I.Call to called args) name e))
each_instr (I.Par l r) = none_called (I.Par l r) refl

each_list : (ys : List SomeInstr) (name : List ℕ) → is_in name (list_calls (map (λ e. e.0) ys)) ≡ true → Calls (map (λ e. e.0) ys) name
each_list [] name e = absurd (let n : ⊥ = cc e in n)
each_list (y ∷ ys) name e =
    ⊎_elim (λ h. y.1 name h (map (λ (x : SomeInstr). x.0) ys)) (λ h. s.later (each_list ys name h))
    (in_either name (instr_calls y.0) (list_calls (map (λ (x : SomeInstr). x.0) ys)) e)

abbrev code_of : List Instr → I.Code-F Instr Code
code_of is = record { list = is }

each_code : (y : I.Code-F SomeInstr SomeCode) → CodeCalls (roll-Code (map-Code SomeInstr SomeCode Instr Code (λ e. e.0) (λ e. e.0) y))
each_code y name e =
    let is = map (λ (x : SomeInstr). x.0) y.list in
    let same : code_calls (roll-Code (code_of is)) ≡ list_calls is = listed (roll-Code (code_of is)) ∙ ap (λ (z : I.Code-F Instr Code). list_calls z.list) (out-roll-Code (code_of is)) in
    subst (λ (z : I.Code-F Instr Code). Calls z.list name) (sym (out-roll-Code (code_of is))) (each_list y.list name (subst (λ z. is_in name z ≡ true) same e))

pub named_calls : (c : Code) → CodeCalls c
named_calls =
    ind-Code InstrCalls CodeCalls (λ z y e. subst (λ (z : I.Instr-F Instr Code). InstrCalls (roll-Instr z)) e (each_instr y)) (λ z y e. subst (λ (z : I.Code-F Instr Code). CodeCalls (roll-Code z)) e (each_code y))

-- ---- procedures

pub calls_of_one : (qs : List Proc) (q : Proc) (name : List ℕ) → Contains qs q → Calls q.code.list name → is_in name (calls_of qs) ≡ true
calls_of_one [] q name c h = absurd (nothing q c)
calls_of_one (p ∷ ps) q name c h =
    ⊎_elim (λ e. in_front name (code_calls p.code) (calls_of ps) (calls_named p.code name (subst (λ (z : Proc). Calls z.code.list name) (sym e) h)))
    (λ d. in_back name (code_calls p.code) (calls_of ps) (calls_of_one ps q name d h)) (first_or_behind p q ps c)

pub one_calls : (qs : List Proc) (name : List ℕ) → is_in name (calls_of qs) ≡ true → (q : Proc) × Contains qs q × Calls q.code.list name
one_calls [] name e = absurd (let n : ⊥ = cc e in n)
one_calls (p ∷ ps) name e =
    ⊎_elim (λ h. (p, here p ps, named_calls p.code name h)) (λ h. (let r = one_calls ps name h in (r.0, behind p r.0 ps r.1, r.2)))
    (in_either name (code_calls p.code) (calls_of ps) e)
