-- The program of a form is right.
use Rattle.std.proofs.Common.{◌≡◌, ℕ, ◌<◌, ◌^◌, true, List, [], ◌∷◌, refl, lit<}
use Rattle.std.specs.Prelude.{Contains, IsTrue}
use Rattle.nres_core.specs.FlatTree.{FlatWhole}
use Rattle.nres_rules.specs.Flatten.{taken}
use Rattle.nres_rules.specs.Identify.{IsFlatOf}
use Rattle.nres_core.specs.Tree as tree
use Rattle.nres_core.specs.declared.place.Place.{Place}
use Rattle.nres_core.specs.declared.tree.Param.{Param}
use Rattle.nres_core.specs.declared.tree.Spec.{Spec}
use Rattle.nres_core.specs.declared.tree.Step.{Step}
use Rattle.nres_core.specs.declared.tree.Expr.TheVariants as expr
use Rattle.target_code.specs.declared.tree.InParam.{InParam}
use Rattle.target_code.specs.declared.tree.Program.{Program}
use Rattle.nres_rules.proofs.OneBlock.{flat_with}
use Rattle.soundness.specs.Nodes as nodes
use Rattle.soundness.specs.Samples.{array_get}
use Rattle.soundness.specs.Shape.{Shape}
use Rattle.target_code.specs.Formed.{Formed}
use Rattle.target_code.specs.Reserved.{is_input_name}
use Rattle.smallest_form.proofs.Flats.{named, number_blk, number_flat, get_ops, element_flat, after_flat}
use Rattle.smallest_form.proofs.Formed.{number_formed, list_number_formed, element_formed, after_formed}
use Rattle.smallest_form.proofs.Safety.{IsRight, number_right, list_number_right, element_right, after_right}
use Rattle.smallest_form.proofs.Shapes.{number_shape, element_shape, after_shape}
use Rattle.smallest_form.specs.Programs.{HasWords, program_of}
use Rattle.smallest_form.specs.Smallest as s
use Rattle.smallest_form.specs.Smallest.{HasForm, Gets, kept_array, var, a_number, ends_with}
use Rattle.smallest_form.specs.declared.form.Form.{Form}
use Rattle.smallest_form.specs.declared.form.Form.TheVariants as form

-- the names of parameters may be those of inputs
abbrev pub AreInputs : List Param → Type 0
AreInputs xs = (x : Param) → Contains xs x → IsTrue (is_input_name x.name)

first_named : (list : List ℕ) (m n : Place) → AreInputs (kept_array list m n ∷ []) → is_input_name list ≡ true
first_named list m n names = names (kept_array list m n) (0, lit< tt, refl)

-- behind a step
module _ (name list bound : List ℕ) (m n o p q : Place) (i : ℕ) where
  abbrev element_spec : Step → Spec
  element_spec t = record { name = name; params = kept_array list m n ∷ []; shown = a_number o; body = ends_with (t ∷ []) p (var bound q); funs = [] }

  abbrev after_spec : ℕ → Step → Spec
  after_spec k t = record { name = name; params = kept_array list m n ∷ []; shown = a_number o; body = ends_with (t ∷ []) p (expr.Num q k); funs = [] }

  abbrev ShapedAs : Spec → Program → Type 0
  ShapedAs t u = (g : FlatWhole) × IsFlatOf t g × Shape (array_get ∷ []) g u

  abbrev ins : List InParam
  ins = taken (kept_array list m n ∷ [])

  element_shaped : (t : Step) → Gets list bound i t → ShapedAs (element_spec t) (program_of ins (form.Element i))
  element_shaped t (s.gets a b c d e) =
      let g : FlatWhole = flat_with name (kept_array list m n ∷ []) (a_number o) (get_ops list bound a b c d e p q i (tree.Var (named bound q))) in
      (g, element_flat list bound a b c d e p q i name m n o, element_shape g ins refl refl refl i (nodes.operation refl nodes.no_bind))

  after_shaped : (k : ℕ) (t : Step) → Gets list bound i t → ShapedAs (after_spec k t) (program_of ins (form.NumberAfter i k))
  after_shaped k t (s.gets a b c d e) =
      let g : FlatWhole = flat_with name (kept_array list m n ∷ []) (a_number o) (get_ops list bound a b c d e p q i (tree.Num q k)) in
      (g, after_flat list bound a b c d e p q i name m n o k, after_shape g ins refl refl refl i k (nodes.operation refl nodes.no_bind))

  element_is : (t : Step) → Gets list bound i t → IsRight (element_spec t) (program_of ins (form.Element i))
  element_is t (s.gets a b c d e) = element_right name list bound m n o a b c d e p q i

  after_is : (k : ℕ) → k < 2 ^ 64 → (t : Step) → Gets list bound i t → IsRight (after_spec k t) (program_of ins (form.NumberAfter i k))
  after_is k word t (s.gets a b c d e) = after_right name list bound m n o a b c d e p q i k word

pub formed : (p : Spec) (f : Form) → HasForm p f → HasWords f → AreInputs p.params → Formed (program_of (taken p.params) f)
formed p f (s.number name ps o q r k s.nothing) word names = number_formed k word
formed p f (s.number name ps o q r k (s.a_list x m n)) word names = list_number_formed k word x (first_named x m n names)
formed p f (s.element name list bound m n o q r i t g) word names = element_formed list (first_named list m n names) i word
formed p f (s.number_after name list bound m n o q r i k t g) word names = after_formed list (first_named list m n names) i word.0 k word.1

pub shaped : (p : Spec) (f : Form) → HasForm p f → (g : FlatWhole) × IsFlatOf p g × Shape (array_get ∷ []) g (program_of (taken p.params) f)
shaped p f (s.number name ps o q r k s.nothing) =
    let g : FlatWhole = flat_with name [] (a_number o) (number_blk q r k) in
    (g, number_flat q r k name [] o s.nothing, number_shape g [] refl refl refl 0 k nodes.no_bind)
shaped p f (s.number name ps o q r k (s.a_list x m n)) =
    let g : FlatWhole = flat_with name (kept_array x m n ∷ []) (a_number o) (number_blk q r k) in
    (g, number_flat q r k name (kept_array x m n ∷ []) o (s.a_list x m n), number_shape g (taken (kept_array x m n ∷ [])) refl refl refl 3 k nodes.no_bind)
shaped p f (s.element name list bound m n o q r i t g) = element_shaped name list bound m n o q r i t g
shaped p f (s.number_after name list bound m n o q r i k t g) = after_shaped name list bound m n o q r i k t g

pub right : (p : Spec) (f : Form) → HasForm p f → HasWords f → IsRight p (program_of (taken p.params) f)
right p f (s.number name ps o q r k s.nothing) word = number_right name o q r k word
right p f (s.number name ps o q r k (s.a_list x m n)) word = list_number_right name o q r k word x m n
right p f (s.element name list bound m n o q r i t g) word = element_is name list bound m n o q r i t g
right p f (s.number_after name list bound m n o q r i k t g) word = after_is name list bound m n o q r i k word.1 t g
