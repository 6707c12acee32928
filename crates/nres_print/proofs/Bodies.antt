-- Printed blocks read back.
use Rattle.std.proofs.Common.{◌≡◌, ℕ, suc, ◌+◌, true, List, [], ◌∷◌, ◌++◌, refl, sym, append-nil, codes, arith}
use Rattle.target_code.specs.Reserved.{reserved_words}
use Rattle.nres_core.specs.Front as at_front
use Rattle.nres_core.specs.Front.{front}
use Rattle.nres_core.specs.Grammar as g
use Rattle.nres_core.specs.Grammar.{IsWhole, IsWholeAtom, AreResults, AreOthers, IsPattern, AreArgs, IsBlock, AreSteps, IsStep, IsBody}
use Rattle.nres_core.specs.Vocabulary.{is_free_name}
use Rattle.nres_core.specs.Vocabulary.{Tok, word, named, place_of, is_take_word}
use Rattle.nres_core.specs.declared.place.Named.{Named}
use Rattle.nres_core.specs.declared.place.Place.{Place}
use Rattle.nres_core.specs.declared.token.TokenKind.TheVariants as kind
use Rattle.nres_core.specs.declared.tree.Block.{Block, roll-Block}
use Rattle.nres_core.specs.declared.tree.Body.{Body}
use Rattle.nres_core.specs.declared.tree.Body.TheVariants as body
use Rattle.nres_core.specs.declared.tree.Expr.{Expr}
use Rattle.nres_core.specs.declared.tree.Step.{Step}
use Rattle.nres_core.specs.declared.tree.Step.TheVariants as steps
use Rattle.nres_print.specs.Alike as a
use Rattle.nres_print.specs.Alike.{Each, AlikeNamed, AlikeExpr, AllExprs, AlikeBlock, AllSteps, AlikeStep, AlikeBody}
use Rattle.nres_print.specs.Blocks.{block_text, step_text, body_text, steps_at, inner_text}
use Rattle.nres_print.specs.Exprs.{expr_text, whole_text, results_text}
use Rattle.nres_print.specs.Heads.{pattern_text}
use Rattle.nres_print.proofs.Expressions.{Printed, whole_printed, atom_printed, open_shows}
use Rattle.nres_print.proofs.Fronts.{word_shows, name_shows}
use Rattle.nres_print.proofs.Lexing.{Anything, Closed, Nothing, nothing, IsTok, here, Seq, seq, One, Shows, also, same_text, wherever, then_, then_any, nothing_shows, token_shows, spaced, fed, indented, line}
use Rattle.nres_print.proofs.Lists.{pattern_printed, others_printed, results_printed, args_printed}
use Rattle.nres_print.proofs.Originals.{AreFine}
use Rattle.nres_print.proofs.Printed as t
use Rattle.nres_print.proofs.Tables.{take_is_word}

-- the text at each indentation shows what P says, and the tokens behind the text that it was read from are fine
pub record Laid (C : List ℕ → Type 0) (text : ℕ → List ℕ) (P : List Tok → List Tok → Type 0) (rest : List Tok) : Type 0 where
  pub at : (n : ℕ) → Shows C (text n) P
  pub behind : AreFine rest

abbrev BlockLaid : ℕ → ℕ → Block → List Tok → Type 0
BlockLaid l r b rest = Laid Anything (block_text b) (One (IsBlock l r) AlikeBlock b) rest

abbrev BodyLaid : ℕ → ℕ → Body → List Tok → Type 0
BodyLaid l r b rest = Laid Closed (body_text b) (One (IsBody l r) AlikeBody b) rest

abbrev Word : List ℕ → List Tok → List Tok → Type 0
Word w = IsTok kind.Reserved w

arrow_shows : {C : List ℕ → Type 0} → Shows C (codes "<-") (IsTok kind.Sign (codes "<-"))
unfolding front at_front.sign
arrow_shows = token_shows kind.Sign (codes "<-") (omega arith) (λ z c. refl)

-- a block within a body, and what stands behind it
inner_shows : {l r : ℕ} {x : Block} {rest : List Tok} {b : List ℕ} {Q : List Tok → List Tok → Type 0} (n : ℕ) → BlockLaid l r x rest → Shows Closed b Q
    → Shows Closed (inner_text block_text x n b) (Seq (One (IsBlock l r) AlikeBlock x) Q)
inner_shows n f q = fed (then_any (f.at (n + 1)) (indented n q))

-- two blocks, each with the word behind it
two_shows : {l r : ℕ} {x y : Block} {mid rest : List Tok} {b c : List ℕ} {P Q : List Tok → List Tok → Type 0} (n : ℕ) → BlockLaid l r x mid → Shows Closed b P → BlockLaid l r y rest → Shows Closed c Q
    → Shows Closed (inner_text block_text x n b ++ inner_text block_text y n c) (Seq (Seq (One (IsBlock l r) AlikeBlock x) P) (Seq (One (IsBlock l r) AlikeBlock y) Q))
two_shows n f p h q = then_ {D = Closed} (λ z c. refl) (inner_shows n f p) (inner_shows n h q)

-- what has no block
alone : {b : List ℕ} {P : List Tok → List Tok → Type 0} → Shows Closed b P → Shows Closed (b ++ []) P
alone {b = b} f = same_text (sym (append-nil b)) f

-- ---- bodies without blocks

value_laid : {l r : ℕ} {e : Expr} {rest : List Tok} → Printed Closed (whole_text e) (One (IsWhole l r) AlikeExpr e) rest → BodyLaid l r (body.Value e) rest
value_laid {e = e} f = record {
  at = λ n. same_text (sym (t.value e n)) (also (alone f.text) (λ us more x. record { tree = body.Value x.tree; is = g.value x.is; alike = a.values x.alike }));
  behind = f.behind;
}

take_laid : {l r : ℕ} {e : Expr} {rest : List Tok} (p : Place) (w : List ℕ) → is_take_word w ≡ true → Printed Closed (expr_text e 0) (One (IsWholeAtom l r) AlikeExpr e) rest → BodyLaid l r (body.Take p w e) rest
take_laid {l = l} {r = r} {e = e} p w i f = record {
  at = λ n. same_text (sym (t.take p w e n)) (also (alone (then_ {D = Closed} (λ z c. refl) (word_shows w (take_is_word w i)) (spaced f.text))) read);
  behind = f.behind;
}
  where
    read : (us more : List Tok) → Seq (Word w) (One (IsWholeAtom l r) AlikeExpr e) us more → One (IsBody l r) AlikeBody (body.Take p w e) us more
    read us more (seq (here {q = q}) x) = record { tree = body.Take q w x.tree; is = g.takes i x.is; alike = a.takes x.alike }

any_laid : {l r : ℕ} {x y : Expr} {mid rest : List Tok} (p : Place) → Printed Closed (expr_text x 0) (One (IsWholeAtom l r) AlikeExpr x) mid
    → Printed Closed (expr_text y 0) (One (IsWholeAtom l r) AlikeExpr y) rest → BodyLaid l r (body.Any p x y) rest
unfolding reserved_words
any_laid {l = l} {r = r} {x = x} {y = y} p f h = record {
  at = λ n. same_text (sym (t.any p x y n)) (also (alone (then_ {D = Closed} (λ z c. refl) (word_shows (codes "any") refl) (spaced (then_ {D = Closed} (λ z c. refl) f.text (spaced h.text))))) read);
  behind = h.behind;
}
  where
    read : (us more : List Tok) → Seq (Word (codes "any")) (Seq (One (IsWholeAtom l r) AlikeExpr x) (One (IsWholeAtom l r) AlikeExpr y)) us more → One (IsBody l r) AlikeBody (body.Any p x y) us more
    read us more (seq (here {q = q}) (seq v w)) = record { tree = body.Any q v.tree w.tree; is = g.any v.is w.is; alike = a.anys v.alike w.alike }

call_laid : {l r : ℕ} {ts rest : List Tok} {es : List Expr} (p pf : Place) (f : List ℕ) → is_free_name f ≡ true → AreArgs l r ts rest es → AreFine ts → BodyLaid l r (body.Call p (named f pf) es) rest
unfolding reserved_words
call_laid {l = l} {r = r} {es = es} p pf f i d h =
    let k = args_printed d h in
    record {
      at = λ n. same_text (sym (t.call p (named f pf) es n))
          (also (alone (then_ {D = Closed} (λ z c. refl) (word_shows (codes "call") refl) (spaced (then_ {D = Closed} (λ z c. refl) (name_shows f i) (then_any open_shows (wherever k.text)))))) read);
      behind = k.behind;
    }
  where
    read : (us more : List Tok) → Seq (Word (codes "call")) (Seq (IsTok kind.Name f) (Seq (IsTok kind.Sign (codes "(")) (One (AreArgs l r) AllExprs es))) us more
        → One (IsBody l r) AlikeBody (body.Call p (named f pf) es) us more
    read us more (seq (here {q = q}) (seq (here {q = s}) (seq here xs))) = record { tree = body.Call q (named f s) xs.tree; is = g.call xs.is; alike = a.calls (record { name = refl }) xs.alike }

-- ---- bodies with blocks

choice_laid : {l r : ℕ} {e : Expr} {x y : Block} {k m rest : List Tok} (p : Place) → Printed Closed (whole_text e) (One (IsWhole l r) AlikeExpr e) k → BlockLaid l r x m → BlockLaid l r y rest
    → BodyLaid l (suc r) (body.If p e x y) rest
unfolding reserved_words
choice_laid {l = l} {r = r} {e = e} {x = x} {y = y} p f h i = record {
  at = λ n. same_text (sym (t.choice p e x y n))
      (also
      (then_ {D = Closed} (λ z c. refl)
      (then_ {D = Closed} (λ z c. refl) (word_shows (codes "if") refl) (spaced (then_ {D = Closed} (λ z c. refl) f.text (spaced (word_shows (codes "then") refl)))))
      (two_shows n h (word_shows (codes "else") refl) i (word_shows (codes "end") refl)))
      read);
  behind = i.behind;
}
  where
    read : (us more : List Tok)
        → Seq (Seq (Word (codes "if")) (Seq (One (IsWhole l r) AlikeExpr e) (Word (codes "then")))) (Seq (Seq (One (IsBlock l r) AlikeBlock x) (Word (codes "else"))) (Seq (One (IsBlock l r) AlikeBlock y) (Word (codes "end")))) us more
        → One (IsBody l (suc r)) AlikeBody (body.If p e x y) us more
    read us more (seq (seq (here {q = q}) (seq u here)) (seq (seq v here) (seq w here))) = record { tree = body.If q u.tree v.tree w.tree; is = g.choice u.is v.is w.is; alike = a.choices u.alike v.alike w.alike }

loop_laid : {l r : ℕ} {xs : List Named} {es : List Expr} {e : Expr} {x : Block} {i j k rest : List Tok} (p q : Place) → Printed Closed (pattern_text xs) (One (IsPattern r) (Each AlikeNamed) xs) i
    → Printed Closed (results_text es) (One (AreResults l r) AllExprs es) j → Printed Closed (whole_text e) (One (IsWhole l r) AlikeExpr e) k → BlockLaid l r x rest
    → BodyLaid l (suc r) (body.While p xs q es e x) rest
unfolding reserved_words
loop_laid {l = l} {r = r} {xs = xs} {es = es} {e = e} {x = x} p q f h i k = record {
  at = λ n. same_text (sym (t.loop p xs q es e x n))
      (also
      (then_ {D = Closed} (λ z c. refl)
      (then_ {D = Closed} (λ z c. refl) (word_shows (codes "while") refl) (spaced (then_ {D = Closed} (λ z c. refl) f.text
      (spaced (then_ {D = Closed} (λ z c. refl) (word_shows (codes "from") refl) (spaced (then_ {D = Closed} (λ z c. refl) h.text
      (spaced (then_ {D = Closed} (λ z c. refl) (word_shows (codes "if") refl) (spaced (then_ {D = Closed} (λ z c. refl) i.text (spaced (word_shows (codes "do") refl)))))))))))))
      (inner_shows n k (word_shows (codes "end") refl)))
      read);
  behind = k.behind;
}
  where
    read : (us more : List Tok)
        → Seq
        (Seq (Word (codes "while")) (Seq (One (IsPattern r) (Each AlikeNamed) xs) (Seq (Word (codes "from")) (Seq (One (AreResults l r) AllExprs es) (Seq (Word (codes "if")) (Seq (One (IsWhole l r) AlikeExpr e) (Word (codes "do"))))))))
        (Seq (One (IsBlock l r) AlikeBlock x) (Word (codes "end"))) us more
        → One (IsBody l (suc r)) AlikeBody (body.While p xs q es e x) us more
    read us more (seq (seq (here {q = s}) (seq {ts = ts} vars (seq here (seq starts (seq here (seq u here)))))) (seq v here)) = record {
      tree = body.While s vars.tree (place_of ts) starts.tree u.tree v.tree;
      is = g.loop vars.is starts.is u.is v.is;
      alike = a.loops vars.alike starts.alike u.alike v.alike;
    }

pair_laid : {l r : ℕ} {x y : Block} {m rest : List Tok} (p : Place) → BlockLaid l r x m → BlockLaid l r y rest → BodyLaid l (suc r) (body.Par p x y) rest
unfolding reserved_words
pair_laid {l = l} {r = r} {x = x} {y = y} p h i = record {
  at = λ n. same_text (sym (t.pair p x y n))
      (also (then_ {D = Closed} (λ z c. refl) (word_shows (codes "par") refl) (two_shows n h (word_shows (codes "and") refl) i (word_shows (codes "end") refl))) read);
  behind = i.behind;
}
  where
    read : (us more : List Tok) → Seq (Word (codes "par")) (Seq (Seq (One (IsBlock l r) AlikeBlock x) (Word (codes "and"))) (Seq (One (IsBlock l r) AlikeBlock y) (Word (codes "end")))) us more
        → One (IsBody l (suc r)) AlikeBody (body.Par p x y) us more
    read us more (seq (here {q = q}) (seq (seq v here) (seq w here))) = record { tree = body.Par q v.tree w.tree; is = g.pair v.is w.is; alike = a.pairs v.alike w.alike }

either_laid : {l r : ℕ} {x y : Block} {m rest : List Tok} (p : Place) → BlockLaid l r x m → BlockLaid l r y rest → BodyLaid l (suc r) (body.Either p x y) rest
unfolding reserved_words
either_laid {l = l} {r = r} {x = x} {y = y} p h i = record {
  at = λ n. same_text (sym (t.either p x y n))
      (also (then_ {D = Closed} (λ z c. refl) (word_shows (codes "either") refl) (two_shows n h (word_shows (codes "or") refl) i (word_shows (codes "end") refl))) read);
  behind = i.behind;
}
  where
    read : (us more : List Tok) → Seq (Word (codes "either")) (Seq (Seq (One (IsBlock l r) AlikeBlock x) (Word (codes "or"))) (Seq (One (IsBlock l r) AlikeBlock y) (Word (codes "end")))) us more
        → One (IsBody l (suc r)) AlikeBody (body.Either p x y) us more
    read us more (seq (here {q = q}) (seq (seq v here) (seq w here))) = record { tree = body.Either q v.tree w.tree; is = g.either v.is w.is; alike = a.eithers v.alike w.alike }

split_laid : {l r : ℕ} {e : Expr} {x y : Block} {k m rest : List Tok} (p pz pu pv : Place) (z u v : List ℕ) → is_free_name z ≡ true → is_free_name u ≡ true → is_free_name v ≡ true
    → Printed Closed (whole_text e) (One (IsWhole l r) AlikeExpr e) k → BlockLaid l r x m → BlockLaid l r y rest
    → BodyLaid l (suc r) (body.Split p (named z pz) e (named u pu) x (named v pv) y) rest
unfolding reserved_words
split_laid {l = l} {r = r} {e = e} {x = x} {y = y} p pz pu pv z u v free_z free_u free_v f h i = record {
  at = λ n. same_text (sym (t.split p (named z pz) e (named u pu) x (named v pv) y n))
      (also
      (then_ {D = Closed} (λ s c. refl)
      (then_ {D = Closed} (λ s c. refl) (word_shows (codes "split") refl) (spaced (then_ {D = Closed} (λ s c. refl) (name_shows z free_z)
      (spaced (then_ {D = Closed} (λ s c. refl) (word_shows (codes "at") refl) (spaced (then_ {D = Closed} (λ s c. refl) f.text
      (spaced (then_ {D = Closed} (λ s c. refl) (word_shows (codes "left") refl) (spaced (name_shows u free_u)))))))))))
      (two_shows n h (then_ {D = Closed} (λ s c. refl) (word_shows (codes "right") refl) (spaced (name_shows v free_v))) i (word_shows (codes "end") refl)))
      read);
  behind = i.behind;
}
  where
    read : (us more : List Tok)
        → Seq
        (Seq (Word (codes "split")) (Seq (IsTok kind.Name z) (Seq (Word (codes "at")) (Seq (One (IsWhole l r) AlikeExpr e) (Seq (Word (codes "left")) (IsTok kind.Name u))))))
        (Seq (Seq (One (IsBlock l r) AlikeBlock x) (Seq (Word (codes "right")) (IsTok kind.Name v))) (Seq (One (IsBlock l r) AlikeBlock y) (Word (codes "end")))) us more
        → One (IsBody l (suc r)) AlikeBody (body.Split p (named z pz) e (named u pu) x (named v pv) y) us more
    read us more (seq (seq (here {q = q}) (seq (here {q = qz}) (seq here (seq d (seq here (here {q = qu})))))) (seq (seq b (seq here (here {q = qv}))) (seq c here))) = record {
      tree = body.Split q (named z qz) d.tree (named u qu) b.tree (named v qv) c.tree;
      is = g.split d.is b.is c.is;
      alike = a.splits (record { name = refl }) d.alike (record { name = refl }) b.alike (record { name = refl }) c.alike;
    }

each_laid : {l r : ℕ} {xs : List Named} {es : List Expr} {x : Block} {ts us j rest : List Tok} (p pv pz s : Place) (v z : List ℕ) → is_free_name v ≡ true → is_free_name z ≡ true
    → AreOthers ts us xs → AreFine ts → Printed Closed (results_text es) (One (AreResults l r) AllExprs es) j → BlockLaid l r x rest
    → BodyLaid l (suc r) (body.Foreach p (named v pv) (named z pz) xs s es x) rest
unfolding reserved_words
each_laid {l = l} {r = r} {xs = xs} {es = es} {x = x} p pv pz s v z free_v free_z d fine h k =
    let f = others_printed d fine in
    record {
      at = λ n. same_text (sym (t.each p (named v pv) (named z pz) xs s es x n))
          (also
          (then_ {D = Closed} (λ y c. refl)
          (then_ {D = Closed} (λ y c. refl) (word_shows (codes "foreach") refl) (spaced (then_ {D = Closed} (λ y c. refl) (name_shows v free_v)
          (spaced (then_ {D = Closed} (λ y c. refl) (word_shows (codes "in") refl) (spaced (then_ {D = Closed} (λ y c. refl) (name_shows z free_z)
          (spaced (then_any (then_any open_shows f.text)
          (spaced (then_ {D = Closed} (λ y c. refl) (word_shows (codes "from") refl) (spaced (then_ {D = Closed} (λ y c. refl) h.text (spaced (word_shows (codes "do") refl)))))))))))))))
          (inner_shows n k (word_shows (codes "end") refl)))
          read);
      behind = k.behind;
    }
  where
    read : (us more : List Tok)
        → Seq
        (Seq (Word (codes "foreach")) (Seq (IsTok kind.Name v) (Seq (Word (codes "in")) (Seq (IsTok kind.Name z) (Seq (Seq (IsTok kind.Sign (codes "(")) (One AreOthers (Each AlikeNamed) xs))
        (Seq (Word (codes "from")) (Seq (One (AreResults l r) AllExprs es) (Word (codes "do")))))))))
        (Seq (One (IsBlock l r) AlikeBlock x) (Word (codes "end"))) us more
        → One (IsBody l (suc r)) AlikeBody (body.Foreach p (named v pv) (named z pz) xs s es x) us more
    read us more (seq (seq (here {q = q}) (seq (here {q = qv}) (seq here (seq (here {q = qz}) (seq (seq (here {q = qs}) ys) (seq here (seq starts here))))))) (seq b here)) = record {
      tree = body.Foreach q (named v qv) (named z qz) ys.tree qs starts.tree b.tree;
      is = g.each ys.is starts.is b.is;
      alike = a.eaches (record { name = refl }) (record { name = refl }) ys.alike starts.alike b.alike;
    }

-- ---- steps and blocks

assert_laid : {l r : ℕ} {e : Expr} {rest : List Tok} (p : Place) → Printed Closed (whole_text e) (One (IsWhole l r) AlikeExpr e) rest
    → Laid Anything (step_text (steps.Assert p e)) (One (IsStep l r) AlikeStep (steps.Assert p e)) rest
unfolding reserved_words
assert_laid {l = l} {r = r} {e = e} p f = record {
  at = λ n. same_text (sym (t.assert p e n)) (also (indented n (then_ {D = Anything} (λ z c. refl) (word_shows (codes "assert") refl) (spaced (line f.text)))) read);
  behind = f.behind;
}
  where
    read : (us more : List Tok) → Seq (Word (codes "assert")) (One (IsWhole l r) AlikeExpr e) us more → One (IsStep l r) AlikeStep (steps.Assert p e) us more
    read us more (seq (here {q = q}) x) = record { tree = steps.Assert q x.tree; is = g.asserts x.is; alike = a.asserts x.alike }

bind_laid : {l r : ℕ} {xs : List Named} {b : Body} {k rest : List Tok} (p : Place) → Printed Closed (pattern_text xs) (One (IsPattern r) (Each AlikeNamed) xs) k → BodyLaid l r b rest
    → Laid Anything (step_text (steps.Bind xs p b)) (One (IsStep l r) AlikeStep (steps.Bind xs p b)) rest
bind_laid {l = l} {r = r} {xs = xs} {b = b} p f h = record {
  at = λ n. same_text (sym (t.bind xs p b n)) (also (indented n (then_ {D = Anything} (λ z c. refl) f.text (spaced (then_any arrow_shows (spaced (line (h.at n))))))) read);
  behind = h.behind;
}
  where
    read : (us more : List Tok) → Seq (One (IsPattern r) (Each AlikeNamed) xs) (Seq (IsTok kind.Sign (codes "<-")) (One (IsBody l r) AlikeBody b)) us more → One (IsStep l r) AlikeStep (steps.Bind xs p b) us more
    read us more (seq ys (seq here x)) = record { tree = steps.Bind ys.tree (place_of us) x.tree; is = g.binds ys.is x.is; alike = a.binds ys.alike x.alike }

no_step : {l r : ℕ} (us more : List Tok) → Nothing us more → One (AreSteps l r) AllSteps [] us more
no_step us more nothing = record { tree = []; is = g.no_step; alike = a.no_step }

step_laid : {l r : ℕ} {s : Step} {ss : List Step} {mid rest : List Tok} → Laid Anything (step_text s) (One (IsStep l r) AlikeStep s) mid
    → Laid Anything (steps_at step_text ss) (One (AreSteps l r) AllSteps ss) rest → Laid Anything (steps_at step_text (s ∷ ss)) (One (AreSteps l r) AllSteps (s ∷ ss)) rest
step_laid {l = l} {r = r} {s = s} {ss = ss} f h = record { at = λ n. also (then_any (f.at n) (h.at n)) read; behind = h.behind }
  where
    read : (us more : List Tok) → Seq (One (IsStep l r) AlikeStep s) (One (AreSteps l r) AllSteps ss) us more → One (AreSteps l r) AllSteps (s ∷ ss) us more
    read us more (seq x xs) = record { tree = x.tree ∷ xs.tree; is = g.step x.is xs.is; alike = a.more_steps x.alike xs.alike }

block_of : {l r : ℕ} {ss : List Step} {es : List Expr} {k rest : List Tok} (p : Place) → Laid Anything (steps_at step_text ss) (One (AreSteps l r) AllSteps ss) k
    → Printed Closed (results_text es) (One (AreResults l r) AllExprs es) rest → BlockLaid l r (roll-Block (record { steps = ss; place = p; results = es })) rest
unfolding reserved_words
block_of {l = l} {r = r} {ss = ss} {es = es} p f h = record {
  at = λ n. same_text (sym (t.block ss p es n))
      (also (then_any (f.at n) (indented n (then_ {D = Anything} (λ z c. refl) (word_shows (codes "return") refl) (spaced (line h.text))))) read);
  behind = h.behind;
}
  where
    read : (us more : List Tok) → Seq (One (AreSteps l r) AllSteps ss) (Seq (Word (codes "return")) (One (AreResults l r) AllExprs es)) us more
        → One (IsBlock l r) AlikeBlock (roll-Block (record { steps = ss; place = p; results = es })) us more
    read us more (seq xs (seq (here {q = q}) ys)) = record {
      tree = roll-Block (record { steps = xs.tree; place = q; results = ys.tree });
      is = g.block xs.is ys.is;
      alike = a.blocks xs.alike ys.alike;
    }

-- behind its last word
ended : {l r : ℕ} {b : Body} {w : List ℕ} {q : Place} {rest : List Tok} → BodyLaid l r b (word w q ∷ rest) → BodyLaid l r b rest
ended f = record { at = f.at; behind = f.behind.1 }

mutual
  pub block_laid : {l r : ℕ} {ts rest : List Tok} {b : Block} → IsBlock l r ts rest b → AreFine ts → BlockLaid l r b rest
  block_laid (g.block {p = p} ds d) h =
      let f = steps_laid ds h in
      block_of p f (results_printed d f.behind.1)

  steps_laid : {l r : ℕ} {ts rest : List Tok} {ss : List Step} → AreSteps l r ts rest ss → AreFine ts → Laid Anything (steps_at step_text ss) (One (AreSteps l r) AllSteps ss) rest
  steps_laid g.no_step h = record { at = λ n. also nothing_shows no_step; behind = h }
  steps_laid (g.step d ds) h =
      let f = any_step_laid d h in
      step_laid f (steps_laid ds f.behind)

  any_step_laid : {l r : ℕ} {ts rest : List Tok} {s : Step} → IsStep l r ts rest s → AreFine ts → Laid Anything (step_text s) (One (IsStep l r) AlikeStep s) rest
  any_step_laid (g.asserts {p = p} d) h = assert_laid p (whole_printed d h.1)
  any_step_laid {ts = ts} (g.binds i d) h =
      let f = pattern_printed i h in
      bind_laid (place_of ts) f (body_laid d f.behind.1)

  body_laid : {l r : ℕ} {ts rest : List Tok} {b : Body} → IsBody l r ts rest b → AreFine ts → BodyLaid l r b rest
  body_laid (g.value d) h = value_laid (whole_printed d h)
  body_laid (g.takes {p = p} {w = w} i d) h = take_laid p w i (atom_printed d h.1)
  body_laid (g.any {p = p} d e) h =
      let f = atom_printed d h.1 in
      any_laid p f (atom_printed e f.behind)
  body_laid (g.choice {p = p} d i j) h =
      let f = whole_printed d h.1 in
      let x = block_laid i f.behind.1 in
      ended (choice_laid p f x (block_laid j x.behind.1))
  body_laid (g.loop {ts = ts} {p = p} i ds d j) h =
      let f = pattern_printed i h.1 in
      let es = results_printed ds f.behind.1 in
      let e = whole_printed d es.behind.1 in
      ended (loop_laid p (place_of ts) f es e (block_laid j e.behind.1))
  body_laid (g.pair {p = p} i j) h =
      let x = block_laid i h.1 in
      ended (pair_laid p x (block_laid j x.behind.1))
  body_laid (g.split {p = p} {pz = pz} {pu = pu} {pv = pv} {z = z} {nu = u} {nv = v} d i j) h =
      let f = whole_printed d h.1.1.1 in
      let x = block_laid i f.behind.1.1 in
      ended (split_laid p pz pu pv z u v h.1.0 f.behind.1.0 x.behind.1.0 f x (block_laid j x.behind.1.1))
  body_laid (g.either {p = p} i j) h =
      let x = block_laid i h.1 in
      ended (either_laid p x (block_laid j x.behind.1))
  body_laid (g.each {p = p} {pv = pv} {pz = pz} {s = s} {nv = v} {z = z} i ds j) h =
      let fine = h.1.1.1.1.1 in
      let xs = others_printed i fine in
      let es = results_printed ds xs.behind.1 in
      ended (each_laid p pv pz s v z h.1.0 h.1.1.1.0 i fine es (block_laid j es.behind.1))
  body_laid (g.call {p = p} {pf = pf} {g = f} ds) h = call_laid p pf f h.1.0 ds h.1.1.1
