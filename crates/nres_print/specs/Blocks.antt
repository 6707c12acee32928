-- The text of blocks, and the canonical text of a specification.
use Rattle.std.specs.Prelude.{ℕ, ◌+◌, List, [], ◌++◌, codes}
use Rattle.std.specs.List.{flat_map}
use Rattle.nres_core.specs.declared.tree.Block.{Block}
use Rattle.nres_core.specs.declared.tree.Body.{Body, out-Body}
use Rattle.nres_core.specs.declared.tree.Body.TheFolds.{fold-Block, fold-Step, fold-Body}
use Rattle.nres_core.specs.declared.tree.Body.TheOpen as Open
use Rattle.nres_core.specs.declared.tree.Fun.{Fun}
use Rattle.nres_core.specs.declared.tree.Spec.{Spec}
use Rattle.nres_core.specs.declared.tree.Step.{Step}
use Rattle.target_code.specs.Texts.{indent}
use Rattle.nres_print.specs.Spellings.{bracketed}
use Rattle.nres_print.specs.Heads.{name_text, pattern_text, head_text}
use Rattle.nres_print.specs.Exprs.{expr_text, whole_text, results_text}

-- a text at an indentation
abbrev pub Text : Type 0
Text = ℕ → List ℕ

-- a block, one level deeper, behind the line that opens it, and the word that ends it
abbrev pub inner_text : {K : Type 0} → (K → Text) → K → ℕ → List ℕ → List ℕ
inner_text text a n word = codes "\n" ++ (text a (n + 1) ++ (indent n ++ word))

-- what gives the results of a bind, up to its first block
abbrev pub opening_at : {B S K : Type 0} → Open.Body-F B S K → List ℕ
opening_at (Open.Value e) = whole_text e
opening_at (Open.Take p w e) = w ++ (codes " " ++ expr_text e 0)
opening_at (Open.Any p a b) = codes "any " ++ (expr_text a 0 ++ (codes " " ++ expr_text b 0))
opening_at (Open.If p e a b) = codes "if " ++ (whole_text e ++ codes " then")
opening_at (Open.While p xs q es e b) = codes "while " ++ (pattern_text xs ++ (codes " from " ++ (results_text es ++ (codes " if " ++ (whole_text e ++ codes " do")))))
opening_at (Open.Par p a b) = codes "par"
opening_at (Open.Split p xs e l a r b) = codes "split " ++ (xs.name ++ (codes " at " ++ (whole_text e ++ (codes " left " ++ l.name))))
opening_at (Open.Either p a b) = codes "either"
opening_at (Open.Foreach p x s xs q es b) = codes "foreach " ++ (x.name ++ (codes " in " ++ (s.name ++ (codes " " ++ (bracketed name_text xs ++ (codes " from " ++ (results_text es ++ codes " do")))))))
opening_at (Open.Call p f es) = codes "call " ++ (f.name ++ bracketed whole_text es)

-- its blocks, by their texts, each with the word behind it
abbrev pub inside_at : {B S K : Type 0} → (K → Text) → Open.Body-F B S K → Text
inside_at text (Open.If p e a b) n = inner_text text a n (codes "else") ++ inner_text text b n (codes "end")
inside_at text (Open.While p xs q es e b) n = inner_text text b n (codes "end")
inside_at text (Open.Par p a b) n = inner_text text a n (codes "and") ++ inner_text text b n (codes "end")
inside_at text (Open.Split p xs e l a r b) n = inner_text text a n (codes "right " ++ r.name) ++ inner_text text b n (codes "end")
inside_at text (Open.Either p a b) n = inner_text text a n (codes "or") ++ inner_text text b n (codes "end")
inside_at text (Open.Foreach p x s xs q es b) n = inner_text text b n (codes "end")
inside_at text _ n = []

abbrev pub body_at : {B S K : Type 0} → (K → Text) → Open.Body-F B S K → Text
body_at text b n = opening_at b ++ inside_at text b n

-- the lines of a step
abbrev pub step_at : {B S K : Type 0} → (B → Text) → Open.Step-F B S K → Text
step_at text (Open.Bind xs p b) n = indent n ++ (pattern_text xs ++ (codes " <- " ++ (text b n ++ codes "\n")))
step_at text (Open.Assert p e) n = indent n ++ (codes "assert " ++ (whole_text e ++ codes "\n"))

-- the lines of a block
abbrev pub steps_at : {S : Type 0} → (S → Text) → List S → Text
steps_at text ss n = flat_map (λ s. text s n) ss

abbrev pub block_at : {B S K : Type 0} → (S → Text) → Open.Block-F B S K → Text
block_at text b n = steps_at text b.steps n ++ (indent n ++ (codes "return " ++ (results_text b.results ++ codes "\n")))

abbrev pub body_step : Open.Body-F Text Text Text → Text
body_step = body_at (λ text. text)

abbrev pub step_step : Open.Step-F Text Text Text → Text
step_step = step_at (λ text. text)

abbrev pub block_step : Open.Block-F Text Text Text → Text
block_step = block_at (λ text. text)

abbrev pub body_text : Body → Text
body_text = fold-Body Text Text Text body_step step_step block_step

abbrev pub step_text : Step → Text
step_text = fold-Step Text Text Text body_step step_step block_step

abbrev pub block_text : Block → Text
block_text = fold-Block Text Text Text body_step step_step block_step

-- the parts of what gives the results of a bind
abbrev pub opening_text : Body → List ℕ
opening_text b = opening_at (out-Body b)

abbrev pub inside_text : Body → Text
inside_text b = inside_at block_text (out-Body b)

-- a procedure
abbrev pub fun_text : Fun → List ℕ
fun_text f = head_text (codes "fun ") f.name f.params f.shown ++ (block_text f.body 1 ++ codes "end\n")

abbrev pub funs_text : List Fun → List ℕ
funs_text fs = flat_map fun_text fs

-- canonical text: the one text that is printed of a specification
abbrev pub spec_text : Spec → List ℕ
spec_text s = head_text (codes "spec ") s.name s.params s.shown ++ (block_text s.body 1 ++ (codes "end\n" ++ funs_text s.funs))
