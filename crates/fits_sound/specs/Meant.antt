-- What a place of a program means for registers and a piece, and what a row has to do.
use Rattle.std.specs.Prelude.{◌≡◌, ℕ, suc, ◌-◌, ◌^◌, ◌⊎◌, ◌<◌, ◌≤◌, Bool, true, false, List, [], ◌∷◌, ◌++◌, map, length, cond, nat_lt, slice_index, Option, Some, None}
use Rattle.nres_core.specs.Ops.{op_out, calc_out}
use Rattle.nres_core.specs.Runs.{Gives, Fails, Done}
use Rattle.nres_core.specs.declared.flat.Arg.{Arg}
use Rattle.nres_core.specs.declared.flat.Arg.TheVariants as a
use Rattle.nres_core.specs.declared.op.Op.{Op}
use Rattle.nres_core.specs.declared.row.LibName.{LibName}
use Rattle.nres_core.specs.declared.row.RowCode.{RowCode}
use Rattle.nres_core.specs.declared.row.RowCode.TheVariants as c
use Rattle.nres_core.specs.declared.value.Value.{Value}
use Rattle.nres_core.specs.declared.value.Value.TheVariants as v
use Rattle.nres_meaning.specs.FlatMeaning.{Vars, arg_value}
use Rattle.target_code.specs.declared.tree.Proc.{Proc}
use Rattle.target_meaning.specs.Leaf.{Run, begin, find}
use Rattle.target_meaning.specs.Piece.{Piece, none, plus, IsAllWhole, AreDisjoint}
use Rattle.triple_logic.specs.Parts.{AtLeast}
use Rattle.triple_logic.specs.Safe.{at_end}
use Rattle.relations.specs.Represents.{Represents}
use Rattle.row_laws.specs.Rows.{Thing, values_of, words_of, pieces_of, IsBelow, At}
use Rattle.run_laws.specs.RunLaws.{Laws}
use Rattle.rule_check.specs.Context.{Hold, Owned, Kept, Gone, Fact, Def, Shape, is_slice, is_owned}
use Rattle.start_ends.specs.Things.{Wholes}
use Rattle.fits.specs.Places.{Token, Number, Of, Entry, State, old_shape}

-- ---- shares

-- all shares of a piece are at least m
abbrev pub Least : ℕ → Piece → Type 0
Least m p = (b j : ℕ) → AtLeast m (p b j)

-- ---- things

-- the words of a slice are those of the variable that its tag names
abbrev pub Tag : (ℕ → ℕ → ℕ) → Shape → List ℕ → Type 0
Tag W z ws = is_slice z.rep ≡ true → ws ≡ W z.tag 0 ∷ W z.tag 1 ∷ W z.tag 2 ∷ []

-- and that is one from below a bound
abbrev pub Tag_at : (ℕ → ℕ → ℕ) → ℕ → Shape → List ℕ → Type 0
Tag_at W n z ws = Tag W z ws × (old_shape n z ≡ true)

abbrev pub All_rel : List Shape → List Thing → Type 0
All_rel [] [] = Unit {0}
All_rel [] (t ∷ ts) = ⊥
All_rel (z ∷ zs) [] = ⊥
All_rel (z ∷ zs) (t ∷ ts) = Represents z.rep t.value t.words t.piece × All_rel zs ts

abbrev pub Tagged : (ℕ → ℕ → ℕ) → List Shape → List Thing → Type 0
Tagged W [] ts = Unit {0}
Tagged W (z ∷ zs) [] = Unit {0}
Tagged W (z ∷ zs) (t ∷ ts) = Tag W z t.words × Tagged W zs ts

-- what is destroyed is held whole
abbrev pub Destroyed_whole : List Bool → List Thing → Type 0
Destroyed_whole [] ts = Unit {0}
Destroyed_whole (d ∷ ds) [] = Unit {0}
Destroyed_whole (true ∷ ds) (t ∷ ts) = IsAllWhole t.piece × Destroyed_whole ds ts
Destroyed_whole (false ∷ ds) (t ∷ ts) = Destroyed_whole ds ts

-- the pieces of what is destroyed, or of what is kept
abbrev pub some_pieces : Bool → List Bool → List Thing → Piece
some_pieces b [] ts = none
some_pieces b (d ∷ ds) [] = none
some_pieces true (true ∷ ds) (t ∷ ts) = plus t.piece (some_pieces true ds ts)
some_pieces true (false ∷ ds) (t ∷ ts) = some_pieces true ds ts
some_pieces false (true ∷ ds) (t ∷ ts) = some_pieces false ds ts
some_pieces false (false ∷ ds) (t ∷ ts) = plus t.piece (some_pieces false ds ts)

-- ---- rows

-- a row on arguments of these shapes: what becomes of them, what it gives, the numbers that come first, and the argument that must be below a bound
pub record Row : Type 0 where
  pub takes : List Shape
  pub destroys : List Bool
  pub gives : List Shape
  pub first : List ℕ
  pub needs : Option (ℕ × ℕ)

abbrev pub Small : Option (ℕ × ℕ) → List Value → Type 0
Small None vs = Unit {0}
Small (Some f) vs = At f.0 f.1 vs

-- what a row's procedure ends with: results that the operation may give, what is kept, and nothing else
pub record Row_end (op : Op) (row : Row) (things : List Thing) (vs : List ℕ) (q : Piece) : Type 0 where
  pub outs : List Thing
  pub related : All_rel row.gives outs
  pub whole : Wholes outs
  pub gives : Gives (op_out op (values_of things)) (values_of outs)
  pub words : vs ≡ words_of outs
  -- a slice that it gives is one that it took
  pub tags : (W : ℕ → ℕ → ℕ) → Tagged W row.takes things → Tagged W row.gives outs
  pub piece : q ≡ plus (some_pieces false row.destroys things) (pieces_of outs)

-- the procedure of a row does what the row says, in so many steps; what is kept may be held in part
pub record Call_sound (T : List Proc) (L : Laws T) (op : Op) (row : Row) (name : List ℕ) : Type 0 where
  pub proc : Proc
  pub found : find T name ≡ Some proc
  pub steps : ℕ
  pub safe : (n f : ℕ) (things : List Thing) → All_rel row.takes things → Destroyed_whole row.destroys things → Small row.needs (values_of things) → (Fails (op_out op (values_of things)) → ⊥) →
      L.run at_end (Row_end op row things) n steps f (plus (some_pieces true row.destroys things) (some_pieces false row.destroys things)) (Run (begin proc (row.first ++ words_of things)) [])

-- one kept argument, of whose registers one is the number that the operation gives
abbrev pub Register_sound : Op → Row → ℕ → Type 0
Register_sound op row j =
    (t : Thing) (ts : List Thing) → All_rel row.takes (t ∷ ts) → Gives (op_out op (values_of (t ∷ ts))) (v.Nat (slice_index t.words j) ∷ []) × (slice_index t.words j < 2 ^ 64)

abbrev pub Via_sound : (T : List Proc) → Laws T → (LibName → List ℕ) → Op → Row → RowCode → Type 0
Via_sound T L lib_name op row (c.Register j) = Register_sound op row j
Via_sound T L lib_name op row (c.Proc name) = Call_sound T L op row (lib_name name)

-- ---- places

-- by variable: its value, the words that stood for it where it was bound, and its piece. It only grows
pub record Dyn : Type 0 where
  pub value : Vars
  pub words : ℕ → ℕ → ℕ
  pub piece : ℕ → Piece

abbrev pub word : Dyn → Token → ℕ
word D (Number n) = n
word D (Of v j) = D.words v j

abbrev pub at_hold : Hold → Piece → Piece
at_hold Owned p = p
at_hold Kept p = p
at_hold Gone p = none

-- all that is held
abbrev pub live : List Entry → (ℕ → Hold) → (ℕ → Piece) → Piece
live [] hold P = none
live (e ∷ es) hold P = plus (at_hold (hold e.var) (P e.var)) (live es hold P)

abbrev pub Old : ℕ → Token → Type 0
Old n (Number m) = Unit {0}
Old n (Of v j) = v < n

abbrev pub Olds : ℕ → List Token → Type 0
Olds n [] = Unit {0}
Olds n (t ∷ ts) = Old n t × Olds n ts

-- entries with the newest first, all of variables below a bound
abbrev pub Below : ℕ → List Entry → Type 0
Below n [] = Unit {0}
Below n (e ∷ es) = (e.var < n) × Olds (suc e.var) e.words × Below e.var es

abbrev pub Rels : Dyn → List Entry → Type 0
Rels D [] = Unit {0}
Rels D (e ∷ es) = (Represents e.shape.rep (D.value e.var) (map (word D) e.words) (D.piece e.var) × Tag_at D.words (suc e.var) e.shape (map (word D) e.words)) × Rels D es

-- the shares of a variable: whole, or a part of them, apart from the other parts
abbrev pub Apart_if : Bool → Piece → Piece → Type 0
Apart_if true p q = AreDisjoint p q
Apart_if false p q = Unit {0}

abbrev pub Apart_parts : Dyn → Piece → List Entry → Type 0
Apart_parts D p [] = Unit {0}
Apart_parts D p (e ∷ es) = Apart_if e.part p (D.piece e.var) × Apart_parts D p es

abbrev pub Share : ℕ → Dyn → Bool → Piece → List Entry → Type 0
Share f D false p es = IsAllWhole p
Share f D true p es = Least (2 ^ (64 - f)) p × Apart_parts D p es

-- below f forks
abbrev pub Shares : ℕ → Dyn → List Entry → Type 0
Shares f D [] = Unit {0}
Shares f D (e ∷ es) = Share f D e.part (D.piece e.var) es × Shares f D es

-- what is held in part is not owned
abbrev pub Parts_kept : (ℕ → Hold) → List Entry → Type 0
Parts_kept hold [] = Unit {0}
Parts_kept hold (e ∷ es) = (e.part ≡ true → is_owned (hold e.var) ≡ false) × Parts_kept hold es

pub record Agree (n : ℕ) (D D' : Dyn) : Type 0 where
  pub values : (v : ℕ) → v < n → D'.value v ≡ D.value v
  pub words : (v j : ℕ) → v < n → D'.words v j ≡ D.words v j
  pub pieces : (v : ℕ) → v < n → D'.piece v ≡ D.piece v

pub record Known (toks : ℕ → Option Token) (n : ℕ) (D : Dyn) (regs : List ℕ) : Type 0 where
  pub old : (r : ℕ) (t : Token) → toks r ≡ Some t → Old n t
  pub is : (r : ℕ) (t : Token) → toks r ≡ Some t → slice_index regs r ≡ word D t

abbrev pub Among : ℕ → List Entry → Type 0
Among v [] = ⊥
Among v (e ∷ es) = (e.var ≡ v) ⊎ Among v es

-- what is known of variables below a bound, as far as they are in scope
abbrev pub Facts : ℕ → Vars → List Entry → List Fact → Type 0
Facts n V es [] = Unit {0}
Facts n V es (k ∷ ks) = ((k.var < n) × (Among k.var es → IsBelow (V k.var) k.bound)) × Facts n V es ks

abbrev pub Old_arg : ℕ → Arg → Type 0
Old_arg n (a.Var v) = v < n
Old_arg n (a.Num m) = Unit {0}
Old_arg n (a.Truth b) = Unit {0}

-- calculations of variables below a bound came to the values that these have
abbrev pub Defs : ℕ → Vars → List Def → Type 0
Defs n V [] = Unit {0}
Defs n V (d ∷ ds) = ((d.to < n) × Old_arg n d.left × Old_arg n d.right × (calc_out d.word (arg_value V d.left) (arg_value V d.right) ≡ Done (V d.to))) × Defs n V ds

-- entries from before a bound on variables
abbrev pub older : ℕ → List Entry → List Entry
older n [] = []
older n (e ∷ es) = cond (nat_lt e.var n) (e ∷ es) (older n es)

-- the entries mean what they say, below f forks, in a block that began with the entries `base` and the variable `mark`
pub record Ctx (f mark : ℕ) (base : List Entry) (D0 : Dyn) (s : State) (D : Dyn) (p : Piece) : Type 0 where
  pub below : Below s.next s.entries
  pub rels : Rels D s.entries
  pub shares : Shares f D s.entries
  pub kept : Parts_kept s.hold s.entries
  pub facts : Facts s.next D.value s.entries s.facts
  pub defs : Defs s.next D.value s.defs
  pub piece : p ≡ live s.entries s.hold D.piece
  pub marked : mark ≤ s.next
  pub origin : older mark s.entries ≡ base
  pub agree : Agree mark D0 D

-- registers and a piece are as they are known
pub record Inv (R f mark : ℕ) (base : List Entry) (D0 : Dyn) (s : State) (D : Dyn) (regs : List ℕ) (p : Piece) : Type 0 where
  pub known : Known s.toks s.next D regs
  pub count : length regs ≡ R
  pub ctx : Ctx f mark base D0 s D p
