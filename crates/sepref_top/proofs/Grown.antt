-- The shape over one procedure of the library is that over the library.
use Rattle.std.proofs.Common.{◌≡◌, zero, suc, List, [], ◌∷◌, ◌++◌, Contains, refl, subst, arith}
use Rattle.std.proofs.lemmas.List.Elements.{Contains-append_left, Contains-append_right}
use Rattle.nres_core.specs.FlatTree.{FlatWhole}
use Rattle.rule_table.specs.Library.{amap_procs, array_procs, bits_procs, heap_procs, helpers, hmap_procs, hset_procs, library, vec_procs}
use Rattle.soundness.specs.Samples.{array_get}
use Rattle.soundness.specs.Shape.{Shape}
use Rattle.target_code.specs.declared.tree.Proc.{Proc}
use Rattle.target_code.specs.declared.tree.Program.{Program}

in_arrays : Contains array_procs array_get
in_arrays = (1, omega arith, refl)

-- what stands behind them in the library
abbrev behind_arrays : List Proc
behind_arrays = bits_procs ++ (heap_procs ++ (hmap_procs ++ (hset_procs ++ (helpers ++ vec_procs))))

get_in_library : Contains library array_get
unfolding library
get_in_library = Contains-append_right amap_procs (array_procs ++ behind_arrays) array_get (Contains-append_left array_procs behind_arrays array_get in_arrays)

in_library : (q : Proc) → Contains (array_get ∷ []) q → Contains library q
in_library q (zero, l, e) = subst (λ p. Contains library p) e get_in_library
in_library q (suc k, l, e) = absurd (let o : ⊥ = omega (arith, l) in o)

pub grown : (f : FlatWhole) (T : Program) → Shape (array_get ∷ []) f T → Shape library f T
grown f T s = record {
  main = s.main;
  own = s.own;
  branches = s.branches;
  called = s.called;
  ins = s.ins;
  outs = s.outs;
  procs = s.procs;
  main_name = s.main_name;
  own_names = s.own_names;
  branch_names = s.branch_names;
  rising = s.rising;
  no_more = s.no_more;
  trees = s.trees;
  known = s.known;
  word_for_word = λ q at. in_library q (s.word_for_word q at);
}
