-- Printed specifications read back.
use Rattle.std.proofs.Common.{◌≡◌, ℕ, suc, true, false, List, [], ◌∷◌, refl, sym, subst, codes}
use Rattle.target_code.specs.Reserved.{reserved_words}
use Rattle.nres_core.specs.Grammar.{IsBlock}
use Rattle.nres_core.specs.Texts as x
use Rattle.nres_core.specs.Texts.{AreParams, AreShown, IsSpec, AreFuns, IsFile, SpecText}
use Rattle.nres_core.specs.Vocabulary.{Tok}
use Rattle.nres_core.specs.declared.place.Place.{Place}
use Rattle.nres_core.specs.declared.token.TokenKind.TheVariants as kind
use Rattle.nres_core.specs.declared.tree.Block.{Block}
use Rattle.nres_core.specs.declared.tree.Fun.{Fun}
use Rattle.nres_core.specs.declared.tree.Param.{Param}
use Rattle.nres_core.specs.declared.tree.Shown.{Shown}
use Rattle.nres_core.specs.declared.tree.Spec.{Spec}
use Rattle.nres_core.specs.declared.tree.With.{With}
use Rattle.nres_print.specs.Alike as a
use Rattle.nres_print.specs.Alike.{Each, AlikeBlock, AlikeFun, Alike}
use Rattle.nres_print.specs.Blocks.{funs_text, spec_text}
use Rattle.nres_print.specs.ReadsBack.{IsOfGrammar, ReadsAs, ReadsBack}
use Rattle.nres_print.proofs.Bodies.{block_laid}
use Rattle.nres_print.proofs.Entries.{HeadIs, head_printed}
use Rattle.nres_print.proofs.Expressions.{Printed}
use Rattle.nres_print.proofs.Fronts.{word_shows}
use Rattle.nres_print.proofs.Lexing.{Anything, Nothing, nothing, IsTok, here, Seq, seq, One, Shows, also, then_, then_any, nothing_shows, fed, line, whole_shown}
use Rattle.nres_print.proofs.Likeness.{alike_on}
use Rattle.nres_print.proofs.Originals.{AreFine, tokens_fine}
use Rattle.nres_print.proofs.Places.{no_place_shown}

-- ---- procedures

-- the procedure, from its head on
read_fun : {l r : ℕ} {n : List ℕ} {p : Place} {xs : List Param} {ys : List Shown} {z : Block} {fs : List Fun} (us more : List Tok)
    → Seq (Seq (HeadIs true r (codes "fun") n xs ys) (Seq (One (IsBlock l r) AlikeBlock z) (IsTok kind.Reserved (codes "end")))) (One (AreFuns l (suc r)) (Each AlikeFun) fs) us more
    → One (AreFuns l (suc r)) (Each AlikeFun) (record { name = n; place = p; params = xs; shown = ys; body = z } ∷ fs) us more
read_fun {n = n} us more (seq (seq (seq here (seq (here {q = q}) (seq xs (seq here ys)))) (seq z here)) fs) = record {
  tree = record { name = n; place = q; params = xs.tree; shown = ys.tree; body = z.tree } ∷ fs.tree;
  is = x.fun xs.is ys.is z.is fs.is;
  alike = a.more (record { name = refl; params = xs.alike; shown = ys.alike; body = z.alike }) fs.alike;
}

no_fun : {l r : ℕ} (us more : List Tok) → Nothing us more → One (AreFuns l r) (Each AlikeFun) [] us more
no_fun us more nothing = record { tree = []; is = x.no_fun; alike = a.none }

funs_printed : {l r : ℕ} {ts rest : List Tok} {fs : List Fun} → AreFuns l r ts rest fs → AreFine ts → Printed Anything (funs_text fs) (One (AreFuns l r) (Each AlikeFun) fs) rest
unfolding reserved_words
funs_printed x.no_fun h = record { text = also nothing_shows no_fun; behind = h }
funs_printed (x.fun {x = n} d e i ds) h =
    let f = head_printed (codes "fun") n refl h.1.0 d e h.1.1 in
    let z = block_laid i f.behind in
    let fs = funs_printed ds z.behind.1 in
    record { text = also (then_any (then_any f.text (then_any (z.at 1) (line (word_shows (codes "end") refl)))) fs.text) read_fun; behind = fs.behind }

-- ---- whole specifications

-- the tokens are those of a specification and its procedures that differ from s in places alone
record FileIs (l r : ℕ) (s : Spec) (us more : List Tok) : Type 0 where
  tree : Spec
  mid : List Tok
  is_spec : IsSpec l r us mid tree.funs tree
  are_funs : AreFuns l r mid more tree.funs
  alike : Alike s tree

spec_shows : {l r : ℕ} {ts mid rest : List Tok} {fs : List Fun} {s : Spec} → IsSpec l r ts mid fs s → AreFuns l r mid rest fs → AreFine ts → Shows Anything (spec_text s) (FileIs l r s)
unfolding reserved_words
spec_shows (x.spec {l = l} {r = r} {x = n} {xs = xs} {ys = ys} {z = z} {fs = fs} d e i) ds h =
    let f = head_printed (codes "spec") n refl h.1.0 d e h.1.1 in
    let b = block_laid i f.behind in
    let gs = funs_printed ds b.behind.1 in
    also (then_any f.text (then_any (b.at 1) (then_ {D = Anything} (λ y c. refl) (word_shows (codes "end") refl) (fed gs.text)))) read
  where
    read : (us more : List Tok) → Seq (HeadIs false r (codes "spec") n xs ys) (Seq (One (IsBlock l r) AlikeBlock z) (Seq (IsTok kind.Reserved (codes "end")) (One (AreFuns l (suc r)) (Each AlikeFun) fs))) us more
        → FileIs l (suc r) (record { name = n; params = xs; shown = ys; body = z; funs = fs }) us more
    read us more (seq (seq here (seq here (seq vs (seq here ws)))) (seq b (seq {ts = ts} (here {rest = mid}) gs))) = record {
      tree = record { name = n; params = vs.tree; shown = ws.tree; body = b.tree; funs = gs.tree };
      mid = mid;
      is_spec = x.spec vs.is ws.is b.is;
      are_funs = gs.is;
      alike = record { name = refl; params = vs.alike; shown = ws.alike; body = b.alike; funs = gs.alike };
    }

shown_file : {l r : ℕ} {ts : List Tok} {q : Spec} {ws : List With} → IsFile l r ts q ws → AreFine ts → Shows Anything (spec_text q) (FileIs l r q)
shown_file (x.file d ds ws) h = spec_shows d ds h

reads_as : {bytes : List ℕ} {q : Spec} {ws : List With} → SpecText bytes q ws → ReadsAs (spec_text q) q
reads_as {bytes = bytes} t =
    let f = whole_shown (shown_file t.2 (tokens_fine bytes refl t.1)) in
    (f.2.tree, (f.0, f.1, x.file f.2.is_spec f.2.are_funs x.no_with), f.2.alike)

pub reads_back : ReadsBack
reads_back p t =
    let f = reads_as t.3 in
    (f.0, subst (λ b. SpecText b f.0 []) (sym (no_place_shown p t.1 t.4)) f.1, alike_on t.4 f.2)

pub text_reads_back : (text : List ℕ) (p : Spec) → text ≡ spec_text p → IsOfGrammar p → ReadsAs text p
text_reads_back text p e t = subst (λ b. ReadsAs b p) (sym e) (reads_back p t)
