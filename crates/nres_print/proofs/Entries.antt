-- Printed heads read back: parameters, and what is shown.
use Rattle.std.proofs.Common.{◌≡◌, ℕ, suc, Bool, true, false, List, [], ◌∷◌, ◌++◌, refl, sym, codes, arith}
use Rattle.target_code.specs.Reserved.{reserved_words}
use Rattle.target_code.specs.declared.tree.Rep.TheVariants as rep
use Rattle.nres_core.specs.Front as at_front
use Rattle.nres_core.specs.Front.{front}
use Rattle.nres_core.specs.Texts as x
use Rattle.nres_core.specs.Texts.{IsContainer, IsOne, IsParam, AreMoreParams, AreParams, AreMoreShown, AreShown, param}
use Rattle.nres_core.specs.Vocabulary.{is_free_name}
use Rattle.nres_core.specs.Vocabulary.{Tok, sign, place_of}
use Rattle.nres_core.specs.declared.place.Place.{Place}
use Rattle.nres_core.specs.declared.token.TokenKind.TheVariants as kind
use Rattle.nres_core.specs.declared.tree.Param.{Param}
use Rattle.nres_core.specs.declared.tree.Shown.{Shown}
use Rattle.nres_core.specs.declared.ty.Ty.TheVariants as ty
use Rattle.nres_print.specs.Alike as a
use Rattle.nres_print.specs.Alike.{Each, AlikeParam, AlikeShown}
use Rattle.nres_print.specs.Heads.{param_text, shown_text}
use Rattle.nres_print.specs.Spellings.{bracketed, grouped}
use Rattle.nres_print.proofs.Expressions.{Printed, RepIs, is_rep, rep_printed, as_shows, chosen_shows, open_shows, close_shows}
use Rattle.nres_print.proofs.Fronts.{is_word, word_shows, name_shows}
use Rattle.nres_print.proofs.Lexing.{Anything, Closed, Nothing, nothing, IsTok, here, Seq, seq, One, Shows, also, same_text, wherever, then_, then_any, nothing_shows, token_shows, spaced, line}
use Rattle.nres_print.proofs.Lists.{Members, ends, goes_on, IsListOf, listed_shows, several_shows}
use Rattle.nres_print.proofs.Originals.{AreFine}
use Rattle.nres_print.proofs.Tables.{plain_is, type_is}

colon_shows : {C : List ℕ → Type 0} → Shows C (codes ":") (IsTok kind.Sign (codes ":"))
unfolding front at_front.sign
colon_shows = token_shows kind.Sign (codes ":") (omega arith) (λ z c. refl)

-- ---- types with their representations

container_printed : {b : Bool} {ts rest : List Tok} {s : Shown} → IsContainer b ts rest s → AreFine ts → Printed Closed (shown_text s) (One (IsContainer b) AlikeShown s) rest
unfolding reserved_words
container_printed {b = b} (x.container {ts = us} {w = w} {t = t} {x = y} i d) h =
    let k = type_is w t i in
    let f = rep_printed d h.1.1 in
    record { text = same_text (sym (k.text y)) (also (then_ {D = Closed} (λ z c. refl) (word_shows w k.is_word) (chosen_shows f.text)) read); behind = f.behind }
  where
    read : (vs more : List Tok) → Seq (IsTok kind.Reserved w) (Seq (IsTok kind.Reserved (codes "as")) (RepIs y)) vs more
        → One (IsContainer b) AlikeShown (record { ty = t; rep = y; rep_place = place_of us }) vs more
    read vs more (seq here (seq here (is_rep {ts = ws} e))) = record { tree = record { ty = t; rep = y; rep_place = place_of ws }; is = x.container i e; alike = record { ty = refl; rep = refl } }
container_printed (x.slice {s = s}) h =
    record {
      text = also (then_ {D = Closed} (λ z c. refl) (word_shows (codes "list") refl) (spaced (then_ {D = Closed} (λ z c. refl) as_shows (spaced (word_shows (codes "slice") refl))))) read;
      behind = h.1.1.1;
    }
  where
    read : (vs more : List Tok) → Seq (IsTok kind.Reserved (codes "list")) (Seq (IsTok kind.Reserved (codes "as")) (IsTok kind.Reserved (codes "slice"))) vs more
        → One (IsContainer true) AlikeShown (record { ty = ty.List; rep = rep.Slice; rep_place = s }) vs more
    read vs more (seq here (seq here (here {q = q}))) = record { tree = record { ty = ty.List; rep = rep.Slice; rep_place = q }; is = x.slice; alike = record { ty = refl; rep = refl } }

one_printed : {b : Bool} {ts rest : List Tok} {s : Shown} → IsOne b ts rest s → AreFine ts → Printed Closed (shown_text s) (One (IsOne b) AlikeShown s) rest
one_printed {b = b} (x.plain {p = p} {w = w} {t = t} {x = y} i) h =
    let k = plain_is w t y i in
    record { text = same_text (sym k.text) (also (word_shows w k.is_word) read); behind = h.1 }
  where
    read : (vs more : List Tok) → IsTok kind.Reserved w vs more → One (IsOne b) AlikeShown (record { ty = t; rep = y; rep_place = p }) vs more
    read vs more (here {q = q}) = record { tree = record { ty = t; rep = y; rep_place = q }; is = x.plain i; alike = record { ty = refl; rep = refl } }
one_printed (x.held d) h =
    let f = container_printed d h in
    record { text = also f.text (λ vs more y. record { tree = y.tree; is = x.held y.is; alike = y.alike }); behind = f.behind }

-- ---- parameters

param_printed : {b : Bool} {ts rest : List Tok} {y : Param} → IsParam b ts rest y → AreFine ts → Printed Closed (param_text y) (One (IsParam b) AlikeParam y) rest
unfolding reserved_words
param_printed {b = b} (x.given {p = p} {x = n} {s = s} d) h =
    let f = one_printed d h.1.1 in
    record {
      text = also (then_ {D = Closed} (λ z c. refl) (name_shows n h.0) (then_any colon_shows (spaced (then_ {D = Closed} (λ z c. c) f.text nothing_shows)))) read;
      behind = f.behind;
    }
  where
    read : (vs more : List Tok) → Seq (IsTok kind.Name n) (Seq (IsTok kind.Sign (codes ":")) (Seq (One (IsOne b) AlikeShown s) Nothing)) vs more → One (IsParam b) AlikeParam (param n p s false) vs more
    read vs more (seq (here {q = q}) (seq here (seq y nothing))) = record {
      tree = param n q y.tree false;
      is = x.given y.is;
      alike = record { name = refl; ty = y.alike.ty; rep = y.alike.rep; kept = refl };
    }
param_printed {b = b} (x.kept {p = p} {x = n} {s = s} d) h =
    let f = container_printed d h.1.1 in
    record {
      text = also (then_ {D = Closed} (λ z c. refl) (name_shows n h.0) (then_any colon_shows (spaced (then_ {D = Closed} (λ z c. refl) f.text (spaced (word_shows (codes "kept") refl)))))) read;
      behind = f.behind.1;
    }
  where
    read : (vs more : List Tok) → Seq (IsTok kind.Name n) (Seq (IsTok kind.Sign (codes ":")) (Seq (One (IsContainer b) AlikeShown s) (IsTok kind.Reserved (codes "kept")))) vs more
        → One (IsParam b) AlikeParam (param n p s true) vs more
    read vs more (seq (here {q = q}) (seq here (seq y here))) = record {
      tree = param n q y.tree true;
      is = x.kept y.is;
      alike = record { name = refl; ty = y.alike.ty; rep = y.alike.rep; kept = refl };
    }

params_listed : {b : Bool} → IsListOf (IsParam b) (AreMoreParams b)
params_listed = record { last = λ d. x.last_param d; another = λ d e. x.another_param d e }

params_members : {b : Bool} {ts rest : List Tok} {xs : List Param} → AreMoreParams b ts rest xs → AreFine ts → Members param_text (IsParam b) AlikeParam xs rest
params_members (x.last_param d) h = let f = param_printed d h in record { some = tt; each = goes_on f.text ends; behind = f.behind.1 }
params_members (x.another_param d ds) h =
    let f = param_printed d h in
    let m = params_members ds f.behind.1 in
    record { some = tt; each = goes_on f.text m.each; behind = m.behind }

params_printed : {b : Bool} {r : ℕ} {ts rest : List Tok} {xs : List Param} → AreParams b r ts rest xs → AreFine ts → Printed Anything (bracketed param_text xs) (One (AreParams b r) (Each AlikeParam) xs) rest
params_printed {b = b} (x.no_param {r = r}) h = record { text = also (then_any open_shows close_shows) read; behind = h.1.1 }
  where
    read : (vs more : List Tok) → Seq (IsTok kind.Sign (codes "(")) (IsTok kind.Sign (codes ")")) vs more → One (AreParams b (suc r)) (Each AlikeParam) [] vs more
    read vs more (seq here here) = record { tree = []; is = x.no_param; alike = a.none }
params_printed {b = b} (x.params {r = r} {xs = xs} ds) h =
    let m = params_members ds h.1 in
    record { text = also (then_any open_shows (listed_shows params_listed AlikeParam param_text xs m.some m.each)) read; behind = m.behind }
  where
    read : (vs more : List Tok) → Seq (IsTok kind.Sign (codes "(")) (One (AreMoreParams b) (Each AlikeParam) xs) vs more → One (AreParams b (suc r)) (Each AlikeParam) xs vs more
    read vs more (seq here ys) = record { tree = ys.tree; is = x.params ys.is; alike = ys.alike }

-- ---- what is shown

shown_listed : {b : Bool} → IsListOf (IsOne b) (AreMoreShown b)
shown_listed = record { last = λ d. x.last_shown d; another = λ d e. x.another_shown d e }

shown_members : {b : Bool} {ts rest : List Tok} {xs : List Shown} → AreMoreShown b ts rest xs → AreFine ts → Members shown_text (IsOne b) AlikeShown xs rest
shown_members (x.last_shown d) h = let f = one_printed d h in record { some = tt; each = goes_on f.text ends; behind = f.behind.1 }
shown_members (x.another_shown d ds) h =
    let f = one_printed d h in
    let m = shown_members ds f.behind.1 in
    record { some = tt; each = goes_on f.text m.each; behind = m.behind }

shown_printed : {b : Bool} {r : ℕ} {ts rest : List Tok} {xs : List Shown} → AreShown b r ts rest xs → AreFine ts → Printed Closed (grouped shown_text xs) (One (AreShown b r) (Each AlikeShown) xs) rest
shown_printed (x.one_shown d) h =
    let f = one_printed d h in
    record { text = also f.text (λ vs more y. record { tree = y.tree ∷ []; is = x.one_shown y.is; alike = a.more y.alike a.none }); behind = f.behind }
shown_printed {b = b} (x.several_shown {r = r} {x = y} {xs = ys} d ds) h =
    let f = one_printed d h.1 in
    let m = shown_members ds f.behind.1 in
    record { text = also (wherever (several_shows shown_listed AlikeShown shown_text y ys m.some f.text m.each)) read; behind = m.behind }
  where
    read : (vs more : List Tok) → Seq (IsTok kind.Sign (codes "(")) (Seq (One (IsOne b) AlikeShown y) (Seq (IsTok kind.Sign (codes ",")) (One (AreMoreShown b) (Each AlikeShown) ys))) vs more
        → One (AreShown b (suc r)) (Each AlikeShown) (y ∷ ys) vs more
    read vs more (seq here (seq z (seq here zs))) = record { tree = z.tree ∷ zs.tree; is = x.several_shown z.is zs.is; alike = a.more z.alike zs.alike }

-- ---- heads

abbrev pub HeadIs : Bool → ℕ → List ℕ → List ℕ → List Param → List Shown → List Tok → List Tok → Type 0
HeadIs b r w n xs ys =
    Seq (IsTok kind.Reserved w) (Seq (IsTok kind.Name n) (Seq (One (AreParams b r) (Each AlikeParam) xs) (Seq (IsTok kind.Sign (codes ":")) (One (AreShown b r) (Each AlikeShown) ys))))

-- the first line, from the word that begins it on
pub head_printed : {b : Bool} {r : ℕ} {ts mid rest : List Tok} {xs : List Param} {ys : List Shown} {q : Place} (w n : List ℕ) → is_word w ≡ true → is_free_name n ≡ true
    → AreParams b r ts (sign (codes ":") q ∷ mid) xs → AreShown b r mid rest ys → AreFine ts
    → Printed Anything (w ++ (32 ∷ (n ++ (32 ∷ (bracketed param_text xs ++ (codes " : " ++ (grouped shown_text ys ++ codes "\n"))))))) (HeadIs b r w n xs ys) rest
head_printed w n i j d e h =
    let f = params_printed d h in
    let k = shown_printed e f.behind.1 in
    record {
      text = then_ {D = Anything} (λ z c. refl) (word_shows w i) (spaced (then_ {D = Anything} (λ z c. refl) (name_shows n j) (spaced (then_any f.text (spaced (then_any colon_shows (spaced (line k.text))))))));
      behind = k.behind;
    }
