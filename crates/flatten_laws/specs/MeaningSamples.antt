-- Small trees that are served and that are not.
use Rattle.std.specs.Prelude.{◌≡◌, ℕ, List, [], ◌∷◌, codes}
use Rattle.target_code.specs.declared.tree.Calc.TheVariants as c
use Rattle.nres_core.specs.Samples.{at}
use Rattle.nres_core.specs.Tree as t
use Rattle.nres_core.specs.declared.op.Op.{Op}
use Rattle.nres_core.specs.declared.place.Named.{Named}
use Rattle.flatten_laws.specs.Served.{Numbered, ServedBody}

abbrev pub named : List ℕ → Named
named x = record { name = x; place = at 1 1 }

abbrev pub zero_of : {W : Type 0} → t.Exp W
zero_of = t.Num (at 1 1) 0

abbrev pub one : {W : Type 0} → t.Exp W → t.Exps W
one e = t.Also e t.None_left

abbrev pub two : {W : Type 0} → t.Exps W
two = t.Also zero_of (t.Also zero_of t.None_left)

abbrev pub gives : t.Exps Op → t.Blk Op
gives es = t.Returns t.No_step (at 1 1) es

-- foreach x in s (y) from es do return rs end
abbrev pub each : t.Exps Op → t.Exps Op → t.Bod Op
each es rs = t.Foreach (at 1 1) (named (codes "x")) (named (codes "s")) (named (codes "y") ∷ []) (at 1 1) es (gives rs)

-- a <- 0 + 0, return a
abbrev pub sum : t.Blk Op
sum = t.Returns (t.Bind (named (codes "a") ∷ []) (at 1 1) (t.Value (t.Binary (at 1 1) c.Add zero_of zero_of)) t.No_step) (at 1 1) (one (t.Var (named (codes "a"))))

-- z <- 0, w <- split z at 0 left l return l right r return r end, return w
abbrev pub no_list : t.Blk Op
no_list = t.Returns
    (t.Bind (named (codes "z") ∷ []) (at 1 1) (t.Value zero_of)
    (t.Bind (named (codes "w") ∷ []) (at 1 1)
    (t.Split (at 1 1) (named (codes "z")) zero_of (named (codes "l")) (gives (one (t.Var (named (codes "l"))))) (named (codes "r")) (gives (one (t.Var (named (codes "r"))))))
    t.No_step))
    (at 1 1) (one (t.Var (named (codes "w"))))

pub record Seen : Type 0 where
  pub served : ServedBody (named (codes "a") ∷ []) (each (one zero_of) (one zero_of))
  pub start_too_many : ¬ ServedBody (named (codes "a") ∷ []) (each two (one zero_of))
  pub result_too_many : ¬ ServedBody (named (codes "a") ∷ []) (each (one zero_of) two)
  pub name_too_few : ¬ ServedBody [] (each (one zero_of) (one zero_of))
  pub numbered : (k : ℕ) → Numbered (λ x. 0) [] sum k
  pub numbers_lost : ¬ Numbered (λ x. 0) [] no_list 0
