-- A phrase is read again.
use Rattle.std.proofs.Common.{◌≡◌, ℕ, cond, Bool, true, false, List, [], ◌∷◌, ◌++◌, drop, Option, Some, codes, refl, ap, sym, ◌∙◌, append_assoc}
use Rattle.std.specs.List.{flat_map, AllByRecursion}
use Rattle.target_code.specs.declared.tree.Branch.{Branch}
use Rattle.target_code.specs.declared.tree.Hand.{Hand}
use Rattle.target_lines.specs.declared.line.Keyword.{Keyword}
use Rattle.target_lines.specs.declared.line.Phrase.{Phrase}
use Rattle.target_lines.specs.LineWords.{keyword_text, keyword_of}
use Rattle.target_lines.specs.Texts as t
use Rattle.target_code.specs.Names.{is_name}
use Rattle.target_lines.specs.Fits.{is_word, AreSmall, HandFits, LendsFit, BranchFits}
use Rattle.target_lines.specs.Reading as r
use Rattle.target_lines.proofs.Keywords.{keyword_past, keyword_is_word, keyword_is_no_register}
use Rattle.target_lines.proofs.Pieces.{begins_past, word_past, name_past, name_is_word, registers_past, hands_past, no_comma, register_is_word, behind_first}

abbrev Applied : Type 0
Applied = (List ℕ × List ℕ) × List ℕ

args_past : (args rest : List ℕ) → AreSmall args → r.closed_at r.registers_at 41 (t.registers_text args ++ (41 ∷ rest)) ≡ (args, 41 ∷ rest)
args_past [] rest fits = refl
args_past (a ∷ args) rest fits = registers_past a args (41 ∷ rest) fits refl (no_comma 41 rest refl)

pub use_past : (name args rest : List ℕ) → is_name name ≡ true → AreSmall args → r.use_at (t.use_text name args ++ rest) ≡ ((name, args), rest)
unfolding r.use_at
use_past name args rest h fits =
    let more = t.registers_text args ++ (41 ∷ rest) in
    let regrouped : t.use_text name args ++ rest ≡ name ++ (40 ∷ more) = simp append_assoc in
    let F : List ℕ × List ℕ → Applied = λ w. (let args = r.closed_at r.registers_at 41 (drop 1 w.1) in ((w.0, args.0), drop 1 args.1)) in
    ap (λ bs. F (r.name_at bs)) regrouped
    ∙ ap F (name_past name (40 ∷ more) h refl)
    ∙ ap (λ (args : List ℕ × List ℕ). let x : Applied = ((name, args.0), drop 1 args.1) in x) (args_past args rest fits)

hands_closed : (hs : List Hand) (rest : List ℕ) → AllByRecursion HandFits hs → r.closed_at r.hands_at 93 (t.hands_text hs ++ (93 ∷ rest)) ≡ (hs, 93 ∷ rest)
hands_closed [] rest fits = refl
hands_closed (h ∷ hs) rest fits = hands_past h hs (93 ∷ rest) fits refl (no_comma 93 rest refl)

lends_past : (lends : Bool) (hs : List Hand) (rest : List ℕ) → LendsFit lends hs → r.lends_at lends (t.lends_text lends hs ++ rest) ≡ (hs, rest)
lends_past false hs rest fits = ap (λ (x : List Hand). (x, rest)) (sym fits)
lends_past true hs rest fits =
    let regrouped : t.hands_text hs ++ (93 ∷ []) ++ rest ≡ t.hands_text hs ++ (93 ∷ rest) = append_assoc (t.hands_text hs) (93 ∷ []) rest in
    let F : List Hand × List ℕ → List Hand × List ℕ = λ x. (x.0, drop 1 x.1) in
    ap (λ bs. F (r.closed_at r.hands_at 93 bs)) regrouped ∙ ap F (hands_closed hs rest fits)

targets_past : (to name more : List ℕ) → AreSmall to → is_word name ≡ true → r.targets_at (t.targets_text to ++ (name ++ (40 ∷ more))) ≡ (to, name ++ (40 ∷ more))
unfolding r.targets_at
targets_past [] name more fits h =
    let bs = name ++ (40 ∷ more) in
    ap (λ (w : List ℕ × List ℕ). cond (r.begins 40 w.1) ([], bs) (let to = r.registers_at bs in (to.0, drop 3 to.1))) (word_past name (40 ∷ more) h refl)
targets_past (a ∷ to) name more fits h =
    let after = name ++ (40 ∷ more) in
    let rest = flat_map (λ y. codes ", " ++ t.register_text y) to ++ (codes " = " ++ after) in
    let bs = t.targets_text (a ∷ to) ++ after in
    let F : List ℕ × List ℕ → List ℕ × List ℕ = λ to. (to.0, drop 3 to.1) in
    let regrouped : bs ≡ t.registers_text (a ∷ to) ++ (codes " = " ++ after) = append_assoc (t.registers_text (a ∷ to)) (codes " = ") after in
    let by_first : bs ≡ t.register_text a ++ rest = regrouped ∙ append_assoc (t.register_text a) (flat_map (λ y. codes ", " ++ t.register_text y) to) (codes " = " ++ after) in
    let stops = behind_first to (61 ∷ 32 ∷ after) in
    let no_bracket : r.begins 40 (r.word_at bs).1 ≡ false = ap (λ x. r.begins 40 (r.word_at x).1) by_first ∙ ap (λ (w : List ℕ × List ℕ). r.begins 40 w.1) (word_past (t.register_text a) rest (register_is_word a fits.0) stops.0) ∙ stops.1 in
    ap (λ v. cond v ([], bs) (F (r.registers_at bs))) no_bracket
    ∙ ap (λ x. F (r.registers_at x)) regrouped
    ∙ ap F (registers_past a to (codes " = " ++ after) fits refl refl)

pub branch_past : (lends : Bool) (b : Branch) (rest : List ℕ) → BranchFits lends b → r.branch_at lends (t.branch_text lends b ++ rest) ≡ (b, rest)
unfolding r.branch_at
branch_past lends b rest fits =
    let last = t.lends_text lends b.lends ++ rest in
    let behind = codes " hand [" ++ (t.hands_text b.hands ++ (93 ∷ last)) in
    let more = t.registers_text b.args ++ (41 ∷ behind) in
    let K : List ℕ → List ℕ × List ℕ → List Hand → List Hand × List ℕ → Branch × List ℕ = λ to used hands lent. (record { to = to; proc = used.0; args = used.1; hands = hands; lends = lent.0 }, lent.1) in
    let H : List ℕ → List ℕ × List ℕ → List Hand × List ℕ → Branch × List ℕ = λ to used hands. K to used hands.0 (r.lends_at lends (drop 1 hands.1)) in
    let G : List ℕ → Applied → Branch × List ℕ = λ to used. H to used.0 (r.closed_at r.hands_at 93 (drop 7 used.1)) in
    let F : List ℕ × List ℕ → Branch × List ℕ = λ to. G to.0 (r.use_at to.1) in
    let used : b.proc ++ (40 ∷ more) ≡ t.use_text b.proc b.args ++ behind = simp append_assoc in
    let regrouped : t.branch_text lends b ++ rest ≡ t.targets_text b.to ++ (b.proc ++ (40 ∷ more)) = simp append_assoc in
    ap (λ bs. F (r.targets_at bs)) regrouped
    ∙ ap F (targets_past b.to b.proc more fits.to (name_is_word b.proc fits.proc))
    ∙ ap (λ bs. G b.to (r.use_at bs)) used
    ∙ ap (G b.to) (use_past b.proc b.args behind fits.proc fits.args)
    ∙ ap (H b.to (b.proc, b.args)) (hands_closed b.hands last fits.hands)
    ∙ ap (K b.to (b.proc, b.args) b.hands) (lends_past lends b.lends rest fits.lent)

pub opened_past : (lends : Bool) (k : Keyword) (more : List ℕ) → r.phrase_at lends (keyword_text k ++ (32 ∷ more)) ≡ r.opened_by lends (Some k) more
unfolding r.phrase_at
opened_past lends k more =
    let bs = keyword_text k ++ (32 ∷ more) in
    let F : List ℕ × List ℕ → Option Phrase = λ w. r.opened_by lends (keyword_of w.0) (drop 1 w.1) in
    ap (λ v. cond v (r.targeted_at bs) (F (r.word_at bs))) (keyword_is_no_register k more)
    ∙ ap F (word_past (keyword_text k) (32 ∷ more) (keyword_is_word k) refl)
    ∙ ap (λ o. r.opened_by lends o more) (keyword_past k)

pub targeted_past : (lends : Bool) (a : ℕ) (to : List ℕ) (k : Keyword) (more : List ℕ) → AreSmall (a ∷ to)
    → r.phrase_at lends (t.registers_text (a ∷ to) ++ (codes " = " ++ (keyword_text k ++ (32 ∷ more)))) ≡ r.targeted_by (a ∷ to) (Some k) more
unfolding r.phrase_at r.targeted_at
targeted_past lends a to k more fits =
    let behind = keyword_text k ++ (32 ∷ more) in
    let bs = t.registers_text (a ∷ to) ++ (codes " = " ++ behind) in
    let regrouped : bs ≡ t.register_text a ++ (flat_map (λ y. codes ", " ++ t.register_text y) to ++ (codes " = " ++ behind)) = append_assoc (t.register_text a) (flat_map (λ y. codes ", " ++ t.register_text y) to) (codes " = " ++ behind) in
    let F : List ℕ → List ℕ × List ℕ → Option Phrase = λ to w. r.targeted_by to (keyword_of w.0) (drop 1 w.1) in
    ap (λ v. cond v (r.targeted_at bs) (let w = r.word_at bs in r.opened_by lends (keyword_of w.0) (drop 1 w.1))) (ap r.begins_register regrouped ∙ begins_past a (flat_map (λ y. codes ", " ++ t.register_text y) to ++ (codes " = " ++ behind)) fits.0)
    ∙ ap (λ (x : List ℕ × List ℕ). F x.0 (r.word_at (drop 3 x.1))) (registers_past a to (codes " = " ++ behind) fits refl refl)
    ∙ ap (F (a ∷ to)) (word_past (keyword_text k) (32 ∷ more) (keyword_is_word k) refl)
    ∙ ap (λ o. r.targeted_by (a ∷ to) o more) (keyword_past k)
