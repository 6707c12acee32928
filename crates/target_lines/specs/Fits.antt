-- What has a text of its own: numbers in their types' ranges, names of letters, lends only where they are shown.
use Rattle.std.specs.Prelude.{◌≡◌, ℕ, ◌<◌, ◌^◌, ◌&&◌, Bool, true, false, List, [], ◌∷◌, Option, Some, None}
use Rattle.std.specs.List.{AllByRecursion}
use Rattle.target_code.specs.declared.tree.Rep.{Rep}
use Rattle.target_code.specs.declared.tree.Rep.TheVariants as rep
use Rattle.target_code.specs.declared.tree.Hand.{Hand}
use Rattle.target_code.specs.declared.tree.Branch.{Branch}
use Rattle.target_code.specs.declared.tree.Instr.{out-Instr}
use Rattle.target_code.specs.declared.tree.Instr.TheOpen as Open
use Rattle.target_lines.specs.declared.line.Line.{Line}
use Rattle.target_lines.specs.declared.line.Phrase.{Phrase}
use Rattle.target_lines.specs.declared.line.Phrase.TheVariants as phrase
use Rattle.target_code.specs.Names.{is_name}
use Rattle.target_lines.specs.Reading.{is_letter}

abbrev pub is_word : List ℕ → Bool
is_word [] = true
is_word (b ∷ bs) = is_letter b && is_word bs

abbrev pub IsSmall : ℕ → Type 0
IsSmall n = n < 2 ^ 32

abbrev pub AreSmall : List ℕ → Type 0
AreSmall rs = AllByRecursion IsSmall rs

abbrev pub SpanFits : Option (ℕ × ℕ) → Type 0
SpanFits None = Unit {0}
SpanFits (Some s) = IsSmall s.0 × IsSmall s.1

abbrev pub HandFits : Hand → Type 0
HandFits h = IsSmall h.block × SpanFits h.span

abbrev pub LendsFit : Bool → List Hand → Type 0
LendsFit true hs = AllByRecursion HandFits hs
LendsFit false hs = hs ≡ []

pub record BranchFits (lends : Bool) (b : Branch) : Type 0 where
  pub to : AreSmall b.to
  pub proc : is_name b.proc ≡ true
  pub args : AreSmall b.args
  pub hands : AllByRecursion HandFits b.hands
  pub lent : LendsFit lends b.lends

abbrev pub RepFits : Rep → Type 0
RepFits (rep.Bits u) = IsSmall u
RepFits (rep.Amap u) = IsSmall u
RepFits _ = Unit {0}

-- an instruction of one line
abbrev pub PlainFits : {A B : Type 0} → Bool → Open.Instr-F A B → Type 0
PlainFits lends (Open.Const to v) = IsSmall to × (v < 2 ^ 64)
PlainFits lends (Open.Mov to from) = IsSmall to × IsSmall from
PlainFits lends (Open.Calc to c l r) = IsSmall to × IsSmall l × IsSmall r
PlainFits lends (Open.Load to b i) = IsSmall to × IsSmall b × IsSmall i
PlainFits lends (Open.Store b i v) = IsSmall b × IsSmall i × IsSmall v
PlainFits lends (Open.Alloc to len) = IsSmall to × IsSmall len
PlainFits lends (Open.Free b) = IsSmall b
PlainFits lends (Open.If t c d) = ⊥
PlainFits lends (Open.While c t d) = ⊥
PlainFits lends (Open.Call to name args) = AreSmall to × (is_name name ≡ true) × AreSmall args
PlainFits lends (Open.Par l r) = BranchFits lends l × BranchFits lends r

abbrev pub PhraseFits : Bool → Phrase → Type 0
PhraseFits lends (phrase.Sepref l) = Unit {0}
PhraseFits lends (phrase.In p) = (is_name p.name ≡ true) × RepFits p.rep
PhraseFits lends (phrase.Out r) = RepFits r
PhraseFits lends (phrase.Proc name args regs) = (is_name name ≡ true) × IsSmall args × IsSmall regs
PhraseFits lends (phrase.Plain i) = PlainFits lends (out-Instr i)
PhraseFits lends (phrase.If t) = IsSmall t
PhraseFits lends phrase.Else = Unit {0}
PhraseFits lends phrase.While = Unit {0}
PhraseFits lends (phrase.Do t) = IsSmall t
PhraseFits lends (phrase.Ret rs) = AreSmall rs
PhraseFits lends phrase.End = Unit {0}

abbrev pub LineFits : Bool → Line → Type 0
LineFits lends l = PhraseFits lends l.phrase
