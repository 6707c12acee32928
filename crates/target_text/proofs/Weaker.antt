-- Code that passes a test passes a weaker one.
use Rattle.std.proofs.Common.{◌≡◌, ◌&&◌, Bool, true, List, [], ◌∷◌, map, refl, ap, sym, subst, ◌∙◌}
use Rattle.std.specs.Cmp.Derive.{both_true}
use Rattle.target_code.specs.declared.tree.Code.{Code, out-Code, roll-Code}
use Rattle.target_code.specs.declared.tree.Instr.{Instr}
use Rattle.target_code.specs.declared.tree.Instr.TheOpen as Open
use Rattle.target_code.specs.declared.tree.Instr.TheViews.{roll-Instr, out-roll-Code}
use Rattle.target_code.specs.declared.tree.Instr.TheFolds.{map-Instr, map-Code, ind-Code}
use Rattle.target_code.specs.Lines as tests
use Rattle.target_lines.proofs.Pieces.{and_parts}
use Rattle.target_text.proofs.FormedLines.{passes_out, passes_roll}

abbrev pub Test : Type 0
Test = tests.Layer → Bool

abbrev pub Weaker : Test → Test → Type 0
Weaker f g = (x : tests.Layer) → f x ≡ true → g x ≡ true

abbrev pub Instead : Test → Test → Instr → Type 0
Instead f g i = tests.instr_passes f i ≡ true → tests.instr_passes g i ≡ true

abbrev pub CodeInstead : Test → Test → Code → Type 0
CodeInstead f g c = tests.code_passes f c ≡ true → tests.code_passes g c ≡ true

abbrev SomeInstr : Test → Test → Type 0
SomeInstr f g = (i : Instr) × Instead f g i

abbrev SomeCode : Test → Test → Type 0
SomeCode f g = (c : Code) × CodeInstead f g c

abbrev Seen : Test → Open.Instr-F Instr Code → tests.Layer
Seen f x = map-Instr Instr Code Bool Bool (tests.instr_passes f) (tests.code_passes f) x

-- an instruction without blocks
flat : (f g : Test) → Weaker f g → (x : Open.Instr-F Instr Code) (y : tests.Layer) → Seen f x ≡ y → Seen g x ≡ y → tests.blocks_pass y ≡ true → Instead f g (roll-Instr x)
flat f g weaker x y p q blocks e =
    let here : tests.line_step f y ≡ true = ap (tests.line_step f) (sym p) ∙ sym (passes_roll f x) ∙ e in
    passes_roll g x ∙ ap (tests.line_step g) q ∙ both_true (weaker y (and_parts (f y) (tests.blocks_pass y) here).0) blocks

-- with two blocks
blocks : (f g : Test) → Weaker f g → (x : Open.Instr-F Instr Code) (layer : Bool → Bool → tests.Layer) (c d : Code) → Seen f x ≡ layer (tests.code_passes f c) (tests.code_passes f d) → Seen g x ≡ layer (tests.code_passes g c) (tests.code_passes g d)
    → ((a b : Bool) → tests.blocks_pass (layer a b) ≡ (a && b)) → CodeInstead f g c → CodeInstead f g d → Instead f g (roll-Instr x)
blocks f g weaker x layer c d p q inner first other e =
    let a = tests.code_passes f c in
    let b = tests.code_passes f d in
    let here : tests.line_step f (layer a b) ≡ true = ap (tests.line_step f) (sym p) ∙ sym (passes_roll f x) ∙ e in
    let parts = and_parts (f (layer a b)) (tests.blocks_pass (layer a b)) here in
    let both = and_parts a b (sym (inner a b) ∙ parts.1) in
    let full : f (layer true true) ≡ true = ap (λ v. f (layer true v)) (sym both.1) ∙ ap (λ v. f (layer v b)) (sym both.0) ∙ parts.0 in
    let passes : tests.line_step g (layer true true) ≡ true = both_true (weaker (layer true true) full) (inner true true) in
    passes_roll g x
    ∙ ap (tests.line_step g) q
    ∙ ap (λ v. tests.line_step g (layer v (tests.code_passes g d))) (first both.0)
    ∙ ap (λ v. tests.line_step g (layer true v)) (other both.1)
    ∙ passes

each_instr : (f g : Test) → Weaker f g → (y : Open.Instr-F (SomeInstr f g) (SomeCode f g)) → Instead f g (roll-Instr (map-Instr (SomeInstr f g) (SomeCode f g) Instr Code (λ e. e.0) (λ e. e.0) y))
each_instr f g w (Open.If t c d) = blocks f g w (Open.If t c.0 d.0) (λ a b. Open.If t a b) c.0 d.0 refl refl (λ a b. refl) c.1 d.1
each_instr f g w (Open.While c t d) = blocks f g w (Open.While c.0 t d.0) (λ a b. Open.While a t b) c.0 d.0 refl refl (λ a b. refl) c.1 d.1
each_instr f g w (Open.Const to v) = flat f g w (Open.Const to v) (Open.Const to v) refl refl refl
each_instr f g w (Open.Mov to from) = flat f g w (Open.Mov to from) (Open.Mov to from) refl refl refl
each_instr f g w (Open.Calc to c l r) = flat f g w (Open.Calc to c l r) (Open.Calc to c l r) refl refl refl
each_instr f g w (Open.Load to b i) = flat f g w (Open.Load to b i) (Open.Load to b i) refl refl refl
each_instr f g w (Open.Store b i v) = flat f g w (Open.Store b i v) (Open.Store b i v) refl refl refl
each_instr f g w (Open.Alloc to len) = flat f g w (Open.Alloc to len) (Open.Alloc to len) refl refl refl
each_instr f g w (Open.Free b) = flat f g w (Open.Free b) (Open.Free b) refl refl refl
each_instr f g w (Open.Call to name args) = flat f g w (Open.Call to name args) (Open.Call to name args) refl refl refl
each_instr f g w (Open.Par l r) = flat f g w (Open.Par l r) (Open.Par l r) refl refl refl

abbrev ListInstead : Test → Test → List Instr → Type 0
ListInstead f g is = tests.all_true (map (tests.instr_passes f) is) ≡ true → tests.all_true (map (tests.instr_passes g) is) ≡ true

all_instead : (f g : Test) (ys : List (SomeInstr f g)) → ListInstead f g (map (λ e. e.0) ys)
all_instead f g [] h = refl
all_instead f g (y ∷ ys) h =
    let is = map (λ (e : SomeInstr f g). e.0) ys in
    let parts = and_parts (tests.instr_passes f y.0) (tests.all_true (map (tests.instr_passes f) is)) h in
    both_true (y.1 parts.0) (all_instead f g ys parts.1)

each_code : (f g : Test) (y : Open.Code-F (SomeInstr f g) (SomeCode f g)) → CodeInstead f g (roll-Code (map-Code (SomeInstr f g) (SomeCode f g) Instr Code (λ e. e.0) (λ e. e.0) y))
each_code f g y e =
    let z = map-Code (SomeInstr f g) (SomeCode f g) Instr Code (λ (e : SomeInstr f g). e.0) (λ (e : SomeCode f g). e.0) y in
    let list : ListInstead f g (out-Code (roll-Code z)).list = subst (λ (x : Open.Code-F Instr Code). ListInstead f g x.list) (sym (out-roll-Code z)) (all_instead f g y.list) in
    passes_out g (roll-Code z) ∙ list (sym (passes_out f (roll-Code z)) ∙ e)

pub code_instead : (f g : Test) → Weaker f g → (c : Code) → CodeInstead f g c
code_instead f g w =
    ind-Code (Instead f g) (CodeInstead f g)
    (λ z y e. subst (λ (z : Open.Instr-F Instr Code). Instead f g (roll-Instr z)) e (each_instr f g w y))
    (λ z y e. subst (λ (z : Open.Code-F Instr Code). CodeInstead f g (roll-Code z)) e (each_code f g y))
