-- Tests of code, made on texts.
use denote.Hole.Carrier
use Rattle.std.proofs.Common.{◌≡◌, ℕ, suc, Bool, true, ◌&&◌, List, [], ◌∷◌, map, nat_lt, refl, ap, ◌∙◌}
use Rattle.std.proofs.lemmas.Bool.{and_parts}
use Rattle.std.specs.List.{list_all}
use Rattle.target_code.specs.Lines.{Layer, Nesting, all_true, line_step, lines_step, instr_passes, code_passes, nests_step, code_nests_step, instr_nests, code_nests, all_nest}
use Rattle.target_code.specs.declared.tree.Code.{Code}
use Rattle.target_code.specs.declared.tree.Instr.{Instr, out-Instr}
use Rattle.target_code.specs.declared.tree.Instr.TheFolds.{map-Instr, fold_out-Instr, fold_out-Code}
use Rattle.target_code.specs.declared.tree.Instr.TheOpen as Open
use Rattle.target_code.specs.declared.tree.Instr.TheVariants as V
use Rattle.target_code.specs.declared.tree.Instr.TheVariants.{outs-If, outs-While}
use Rattle.target_code.specs.declared.tree.Proc.{Proc}
use Rattle.triple_logic.specs.Text.{Text, Stop, Const, Mov, Op, Load, Store, Alloc, Free, If, While, Call, code}

and_both : {a b c d : Bool} → a ≡ b → c ≡ d → (a && c) ≡ (b && d)
and_both e f = rw (e, f) refl

module _ (passes : Layer → Bool) where
  abbrev pub text_passes : Text → Bool
  text_passes Stop = true
  text_passes (Const to v k) = line_step passes (Open.Const to v) && text_passes k
  text_passes (Mov to from k) = line_step passes (Open.Mov to from) && text_passes k
  text_passes (Op to w l r k) = line_step passes (Open.Calc to w l r) && text_passes k
  text_passes (Load to b i k) = line_step passes (Open.Load to b i) && text_passes k
  text_passes (Store b i v k) = line_step passes (Open.Store b i v) && text_passes k
  text_passes (Alloc to n k) = line_step passes (Open.Alloc to n) && text_passes k
  text_passes (Free b k) = line_step passes (Open.Free b) && text_passes k
  text_passes (If t x y k) = line_step passes (Open.If t (text_passes x) (text_passes y)) && text_passes k
  text_passes (While c t b k) = line_step passes (Open.While (text_passes c) t (text_passes b)) && text_passes k
  text_passes (Call to name args k) = line_step passes (Open.Call to name args) && text_passes k

  abbrev open_line : Open.Instr-F Instr Code → Bool
  open_line i = line_step passes (map-Instr Instr Code Bool Bool (instr_passes passes) (code_passes passes) i)

  line : (i : Instr) → instr_passes passes i ≡ line_step passes (map-Instr Instr Code Bool Bool (instr_passes passes) (code_passes passes) (out-Instr i))
  line = fold_out-Instr Bool Bool (line_step passes) lines_step

  code_list : (is : List Instr) → code_passes passes (record { list = is }) ≡ all_true (map (instr_passes passes) is)
  code_list is = fold_out-Code Bool Bool (line_step passes) lines_step (record { list = is })

  list_text : (k : Text) → all_true (map (instr_passes passes) (code k)) ≡ text_passes k
  unfolding out-Instr Carrier.out
  list_text Stop = refl
  list_text (Const to v k) = and_both (line (V.Const to v)) (list_text k)
  list_text (Mov to from k) = and_both (line (V.Mov to from)) (list_text k)
  list_text (Op to w l r k) = and_both (line (V.Calc to w l r)) (list_text k)
  list_text (Load to b i k) = and_both (line (V.Load to b i)) (list_text k)
  list_text (Store b i v k) = and_both (line (V.Store b i v)) (list_text k)
  list_text (Alloc to n k) = and_both (line (V.Alloc to n)) (list_text k)
  list_text (Free b k) = and_both (line (V.Free b)) (list_text k)
  list_text (If t x y k) = and_both
      (line (V.If t (record { list = code x }) (record { list = code y }))
      ∙ ap open_line (outs-If t (record { list = code x }) (record { list = code y }))
      ∙ ap (λ (a : Bool). line_step passes (Open.If t a (code_passes passes (record { list = code y })))) (code_list (code x) ∙ list_text x)
      ∙ ap (λ (a : Bool). line_step passes (Open.If t (text_passes x) a)) (code_list (code y) ∙ list_text y))
      (list_text k)
  list_text (While c t b k) = and_both
      (line (V.While (record { list = code c }) t (record { list = code b }))
      ∙ ap open_line (outs-While (record { list = code c }) t (record { list = code b }))
      ∙ ap (λ (a : Bool). line_step passes (Open.While a t (code_passes passes (record { list = code b })))) (code_list (code c) ∙ list_text c)
      ∙ ap (λ (a : Bool). line_step passes (Open.While (text_passes c) t a)) (code_list (code b) ∙ list_text b))
      (list_text k)
  list_text (Call to name args k) = and_both (line (V.Call to name args)) (list_text k)

  code_text : (k : Text) → code_passes passes (record { list = code k }) ≡ text_passes k
  code_text k = code_list (code k) ∙ list_text k

abbrev pub text_nests : Text → ℕ → Bool
text_nests Stop n = true
text_nests (Const to v k) n = text_nests k n
text_nests (Mov to from k) n = text_nests k n
text_nests (Op to w l r k) n = text_nests k n
text_nests (Load to b i k) n = text_nests k n
text_nests (Store b i v k) n = text_nests k n
text_nests (Alloc to m k) n = text_nests k n
text_nests (Free b k) n = text_nests k n
text_nests (If t x y k) n = (nat_lt n 100 && (text_nests x (suc n) && text_nests y (suc n))) && text_nests k n
text_nests (While c t b k) n = (nat_lt n 100 && (text_nests c (suc n) && text_nests b (suc n))) && text_nests k n
text_nests (Call to name args k) n = text_nests k n

abbrev open_nests : Open.Instr-F Instr Code → Nesting
open_nests i = nests_step (map-Instr Instr Code Nesting Nesting instr_nests code_nests i)

nest_line : (i : Instr) → instr_nests i ≡ nests_step (map-Instr Instr Code Nesting Nesting instr_nests code_nests (out-Instr i))
nest_line = fold_out-Instr Nesting Nesting nests_step code_nests_step

at : {f g : Nesting} (n : ℕ) → f ≡ g → f n ≡ g n
at n e = ap (λ (h : Nesting). h n) e

nest_list : (is : List Instr) (n : ℕ) → code_nests (record { list = is }) n ≡ all_nest n (map instr_nests is)
nest_list is n = at n (fold_out-Code Nesting Nesting nests_step code_nests_step (record { list = is }))

list_nests : (k : Text) (n : ℕ) → all_nest n (map instr_nests (code k)) ≡ text_nests k n
unfolding out-Instr Carrier.out
list_nests Stop n = refl
list_nests (Const to v k) n = and_both (at n (nest_line (V.Const to v))) (list_nests k n)
list_nests (Mov to from k) n = and_both (at n (nest_line (V.Mov to from))) (list_nests k n)
list_nests (Op to w l r k) n = and_both (at n (nest_line (V.Calc to w l r))) (list_nests k n)
list_nests (Load to b i k) n = and_both (at n (nest_line (V.Load to b i))) (list_nests k n)
list_nests (Store b i v k) n = and_both (at n (nest_line (V.Store b i v))) (list_nests k n)
list_nests (Alloc to m k) n = and_both (at n (nest_line (V.Alloc to m))) (list_nests k n)
list_nests (Free b k) n = and_both (at n (nest_line (V.Free b))) (list_nests k n)
list_nests (If t x y k) n = and_both
    (at n (nest_line (V.If t (record { list = code x }) (record { list = code y })) ∙ ap open_nests (outs-If t (record { list = code x }) (record { list = code y })))
    ∙ and_both {a = nat_lt n 100} refl (and_both (nest_list (code x) (suc n) ∙ list_nests x (suc n)) (nest_list (code y) (suc n) ∙ list_nests y (suc n))))
    (list_nests k n)
list_nests (While c t b k) n = and_both
    (at n (nest_line (V.While (record { list = code c }) t (record { list = code b })) ∙ ap open_nests (outs-While (record { list = code c }) t (record { list = code b })))
    ∙ and_both {a = nat_lt n 100} refl (and_both (nest_list (code c) (suc n) ∙ list_nests c (suc n)) (nest_list (code b) (suc n) ∙ list_nests b (suc n))))
    (list_nests k n)
list_nests (Call to name args k) n = and_both (at n (nest_line (V.Call to name args))) (list_nests k n)

code_nests_text : (k : Text) → code_nests (record { list = code k }) 0 ≡ text_nests k 0
code_nests_text k = nest_list (code k) 0 ∙ list_nests k 0

-- ---- of all procedures with these texts

abbrev pub AreTexts : List Proc → List Text → Type 0
AreTexts [] [] = Unit {0}
AreTexts (p ∷ ps) (k ∷ ks) = (p.code ≡ (record { list = code k })) × AreTexts ps ks
AreTexts _ _ = ⊥

abbrev pub texts_pass : (Proc → Layer → Bool) → List Proc → List Text → Bool
texts_pass test (p ∷ ps) (k ∷ ks) = text_passes (test p) k && texts_pass test ps ks
texts_pass test _ _ = true

abbrev pub texts_nest : List Text → Bool
texts_nest [] = true
texts_nest (k ∷ ks) = text_nests k 0 && texts_nest ks

pub all_pass : (test : Proc → Layer → Bool) (ps : List Proc) (ks : List Text) → AreTexts ps ks → list_all (λ p. code_passes (test p) p.code) ps ≡ texts_pass test ps ks
all_pass test [] [] h = refl
all_pass test [] (k ∷ ks) h = absurd h
all_pass test (p ∷ ps) [] h = absurd h
all_pass test (p ∷ ps) (k ∷ ks) h = and_both (ap (code_passes (test p)) h.0 ∙ code_text (test p) k) (all_pass test ps ks h.1)

pub all_nest_texts : (ps : List Proc) (ks : List Text) → AreTexts ps ks → list_all (λ p. code_nests p.code 0) ps ≡ texts_nest ks
all_nest_texts [] [] h = refl
all_nest_texts [] (k ∷ ks) h = absurd h
all_nest_texts (p ∷ ps) [] h = absurd h
all_nest_texts (p ∷ ps) (k ∷ ks) h = and_both (ap (λ (c : Code). code_nests c 0) h.0 ∙ code_nests_text k) (all_nest_texts ps ks h.1)

pub all_registers : (test : Proc → Layer → Bool) (more : Proc → Bool) (ps : List Proc) → list_all (λ p. code_passes (test p) p.code) ps ≡ true → list_all more ps ≡ true
    → list_all (λ p. code_passes (test p) p.code && more p) ps ≡ true
all_registers test more [] h i = refl
all_registers test more (p ∷ ps) h i =
    let a = and_parts (code_passes (test p) p.code) (list_all (λ p. code_passes (test p) p.code) ps) h in
    let b = and_parts (more p) (list_all more ps) i in
    and_both {d = true} (and_both {d = true} a.0 b.0) (all_registers test more ps a.1 b.1)
