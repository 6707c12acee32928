-- What stands for arguments, as the definition of fits has it.
use Rattle.std.specs.Prelude.{ℕ, List, [], ◌∷◌, option_to_list}
use Rattle.target_code.specs.declared.tree.Rep.{Rep}
use Rattle.fit_state.specs.declared.infos.Info.{Info}
use Rattle.fits.specs.Places as f
use Rattle.fits.specs.Places.{only_container}
use Rattle.fit_tokens.specs.Changes.{tokens_of}
use Rattle.fit_tokens.specs.Standing.{Standing}
use Rattle.fit_tokens.specs.declared.token.Token.{Token}
use Rattle.ownership.specs.Entries.{shape_of}
use Rattle.rule_check.specs.Context as d
use Rattle.rule_check.specs.Context.{Spot}
use Rattle.rule_check.specs.Steps.{bare}

abbrev pub info_of : Info → f.Info
info_of i = record { shape = shape_of i.shape; words = tokens_of i.words; vars = option_to_list i.var }

abbrev pub infos_of : List Info → List f.Info
infos_of [] = []
infos_of (i ∷ is) = info_of i ∷ infos_of is

abbrev pub lists_of : List (List Token) → List (List f.Token)
lists_of [] = []
lists_of (ts ∷ tss) = tokens_of ts ∷ lists_of tss

-- a word that stands for itself
abbrev pub literal_info : Rep → ℕ → f.Info
literal_info x n = record { shape = bare x; words = f.Number n ∷ []; vars = [] }

-- an entry with what stands for it
abbrev pub info_at : Spot → Standing → f.Info
info_at s w = record { shape = d.shape_of s; words = w.words; vars = only_container s.rep s.var }
